-- Reading what was written gives the same record: at the end of the walk (Upto at 28) every row is the record's, those without a label
-- because they were blank, `*` because the record is good; and two records that are the same in all rows of a tiling table are the
-- same. Assumes nothing.
use Rattle.std.specs.Option.{is_none}
use mathlib.Core.Path.{◌≡◌, refl, sym, ap, ◌∙◌}
use mathlib.Core.Logic.{◌⊎◌, inl, inr}
use mathlib.Core.Bool.{Bool, true, false, ◌&&◌, ◌||◌, cond}
use mathlib.Core.List.{List, [], ◌∷◌, ◌++◌, append-nil}
use Prim.Native.Nat.{ℕ, zero, suc, ◌+◌, ◌-◌, ◌≤◌, ◌<◌}
use native.Mathlib.Omega.{arith}
use native.Mathlib.Decide.{dec_lt, ℕ_discrete}
use lib.Dec.{leb, eqb}
use lib.ListN.{length, take, drop, get_or, replicate, length-replicate, length-append, length-take}
use lib.Seq.{take_at, get_or_at}
use borrow.Author.Tests.{eqb-true, eqb-false, le-leb, le-ltb, ltb-false, not-false}
use Rattle.text.specs.declared.Class.TheVariants.{Printable, Unbarred}
use Rattle.text.specs.Text.{all_in, blank, part, spaces}
use Rattle.text.proofs.Laws.{and_left, and_right, or_right}
use Rattle.text.proofs.TrimLaws.{blank_is}
use Rattle.layout.specs.Tables.{data_record, star, record_star}
use Rattle.layout.specs.Rules.{keeps, keeps_other, is_whole, fault_by, is_lax, record_fault}
use Rattle.layout.specs.Fields.{function_of}
use Rattle.rules.specs.Walks.{find, first}
use Rattle.rules.proofs.WalkLaws.{find_none, is_none_lem, AllFail, positive, first_zero}
use Rattle.rules.proofs.PlaceLaws.{part_length}
use Rattle.rules.proofs.SoundLaws.{fault_at_lem}
use Rattle.tag_rules.specs.Tags.{label_at, span_at, span_size, form_at, span_of}
use Rattle.tag_rules.specs.Forms.{formed, worded}
use Rattle.tag_rules.specs.Reading.{is_framed, body_of, pairs_of, Draft, all_taken, blank_line, blank_draft, draft_of, read_refusal, text_read}
use Rattle.tag_rules.specs.Writing.{pair_of, pairs_to, tagged_of, is_bare, unformed_at, has_form, write_table, write_refusal, text_written}
use Rattle.tag_rules.specs.Promises.{ReadsBack, OneForm, Writable}
use Rattle.tag_rules.proofs.TagLaws.{span_in}
use Rattle.tag_rules.proofs.TileLaws.{all_same}
use Rattle.tag_rules.proofs.BackLaws.{Upto, upto}

-- ---- the end of the record

-- a record of good form ends in `*`
star_is : (r : List ℕ) → record_fault data_record r ≡ 0 → span_of 31 r ≡ 42 ∷ []
unfolding record_fault fault_by is_whole keeps keeps_other
star_is r e = go (part 511 1 r) (rw (length-take 1 (drop 511 r)) (omega arith)) (fault_at_lem (is_lax (function_of r)) r record_star data_record e)
  where
    go : (f : List ℕ) → length f ≤ 1 → fault_by 512 1 star (is_lax (function_of r)) r f ≡ 0 → f ≡ 42 ∷ []
    go [] h q = absurd (omega arith)
    go (a ∷ []) h q = one (eqb 42 a) refl (all_in Printable (a ∷ [])) q
      where
        one : (b : Bool) → eqb 42 a ≡ b → (w : Bool) → ◌≡◌ {A = ℕ} (cond w (cond ((b || false) && true) 0 512) 512) 0 → a ∷ [] ≡ 42 ∷ []
        one true p w q = ap (λ (x : ℕ). x ∷ []) (sym (eqb-true 42 a p))
        one false p true q = absurd (omega arith)
        one false p false q = absurd (omega arith)
    go (a ∷ b ∷ f) h q = absurd (omega arith)

-- ---- the text

-- the pairs are nothing, or begin with `|`
begins : (r : List ℕ) (k : ℕ) → (pairs_to r k ≡ []) ⊎ ((t : List ℕ) × (pairs_to r k ≡ 124 ∷ t))
unfolding pairs_to pair_of
begins r zero = inl refl
begins r (suc k) = go (pairs_to r k) (begins r k) (blank (span_of k r)) refl
  where
    go : (P : List ℕ) → (P ≡ []) ⊎ ((t : List ℕ) × (P ≡ 124 ∷ t)) → (b : Bool) → blank (span_of k r) ≡ b
        → (P ++ pair_of r k ≡ []) ⊎ ((t : List ℕ) × (P ++ pair_of r k ≡ 124 ∷ t))
    go P (inr (t, q)) b e = inr (t ++ pair_of r k, ap (λ (x : List ℕ). x ++ pair_of r k) q)
    go P (inl q) true e = inl (rw (q, e) refl)
    go P (inl q) false e = inr (label_at k ++ worded (form_at k) (span_of k r), rw (q, e) refl)

-- `DAT`, the pairs and a newline are a text with these pairs
module _ (P : List ℕ) (h : (P ≡ []) ⊎ ((t : List ℕ) × (P ≡ 124 ∷ t))) where
  abbrev text : List ℕ
  text = 68 ∷ 65 ∷ 84 ∷ (P ++ (10 ∷ []))

  long : length text ≡ length P + 4
  long = simp length-append (omega arith)

  pub body_is : body_of text ≡ P
  unfolding body_of
  body_is = let z : length text - 4 ≡ length P = omega (arith, long) in rw z (take_at P (10 ∷ []) (length P) refl)

  pub framed : is_framed text ≡ true
  unfolding is_framed
  framed = go h
    where
      last : get_or text (length text - 1) 0 ≡ 10
      last =
          let z : length text - 1 ≡ length P + 3 = omega (arith, long) in
          rw z (get_or_at (68 ∷ 65 ∷ 84 ∷ P) 10 [] 0 (length P + 3) (omega arith))

      go : (P ≡ []) ⊎ ((t : List ℕ) × (P ≡ 124 ∷ t))
          → leb 4 (length text) && (eqb (get_or text (length text - 1) 0) 10 && (true && (eqb (length text) 4 || eqb (get_or text 3 0) 124)))
          ≡ true
      go (inl q) = rw (q) refl
      go (inr (t, q)) =
          rw (last, le-leb 4 (length text) (omega (arith, long))) (or_right (eqb (length text) 4) (eqb (get_or text 3 0) 124) (rw q refl))

-- ---- the record

module _ (r : List ℕ) (l : length r ≡ 512) (good : record_fault data_record r ≡ 0) (form : has_form r ≡ true) where
  clean : all_in Unbarred r ≡ true
  unfolding has_form
  clean = and_left (all_in Unbarred r) (is_bare r && is_none (find (unformed_at r) 28)) form

  bare : is_bare r ≡ true
  unfolding has_form
  bare =
      let o = find (unformed_at r) 28 in
      and_left (is_bare r) (is_none o) (and_right (all_in Unbarred r) (is_bare r && is_none o) form)

  forms : (k : ℕ) → k < 28 → formed (form_at k) (span_of k r) ≡ true
  unfolding has_form unformed_at
  forms k h =
      let o = find (unformed_at r) 28 in
      let n = and_right (is_bare r) (is_none o) (and_right (all_in Unbarred r) (is_bare r && is_none o) form) in
      not-false (formed (form_at k) (span_of k r)) (find_none (unformed_at r) 28 (is_none_lem o n) k h)

  abbrev walk : Draft
  walk = all_taken (pairs_of (pairs_to r 28)) blank_draft

  ended : Upto r 28 walk
  ended = upto r l clean forms 28 (omega arith)

  -- a row without a label, and `*`
  bare_same : (k : ℕ) → k < 32 → blank (span_of k r) ≡ true → span_of k blank_line ≡ spaces (span_size k) → span_of k blank_line ≡ span_of k r
  bare_same k h b e =
      e ∙ ap spaces (sym (part_length (span_at k) (span_size k) r (omega (arith, span_in k h)))) ∙ sym (blank_is (span_of k r) b)

  last_row : (k : ℕ) → k < 32 → 28 ≤ k → span_of k blank_line ≡ span_of k r
  unfolding is_bare
  last_row k h i = go (ℕ_discrete k 28) (ℕ_discrete k 29) (ℕ_discrete k 30)
    where
      one : blank (span_of 28 r) ≡ true
      one = and_left (blank (span_of 28 r)) (blank (span_of 29 r) && blank (span_of 30 r)) bare

      two : (blank (span_of 29 r) && blank (span_of 30 r)) ≡ true
      two = and_right (blank (span_of 28 r)) (blank (span_of 29 r) && blank (span_of 30 r)) bare

      go : Dec (k ≡ 28) → Dec (k ≡ 29) → Dec (k ≡ 30) → span_of k blank_line ≡ span_of k r
      go (yes e) f g = rw e (bare_same 28 (omega arith) one refl)
      go (no e) (yes f) g = rw f (bare_same 29 (omega arith) (and_left (blank (span_of 29 r)) (blank (span_of 30 r)) two) refl)
      go (no e) (no f) (yes g) = rw g (bare_same 30 (omega arith) (and_right (blank (span_of 29 r)) (blank (span_of 30 r)) two) refl)
      go (no e) (no f) (no g) = let z : k ≡ 31 = omega arith in rw z (sym (star_is r good))

  row_same : (k : ℕ) → k < 32 → span_of k walk.line ≡ span_of k r
  row_same k h = go (dec_lt k 28)
    where
      go : Dec (k < 28) → span_of k walk.line ≡ span_of k r
      go (yes i) = ended.done k i
      go (no i) = ended.rest k (omega arith) h ∙ last_row k h (omega arith)

  pub line_back : walk.line ≡ r
  line_back = all_same walk.line r ended.long l row_same

  -- the walk over the text that is written for it
  walk_is : draft_of (tagged_of r) ≡ walk
  unfolding draft_of tagged_of
  walk_is = ap (λ (x : List ℕ). all_taken (pairs_of x) blank_draft) (body_is (pairs_to r 28) (begins r 28))

  -- is refused by nothing
  pub not_refused : (room : ℕ) → 512 ≤ room → read_refusal (tagged_of r) room ≡ 0
  unfolding read_refusal first tagged_of
  not_refused room h =
      rw (framed (pairs_to r 28) (begins r 28), walk_is, ended.unknown, ended.twice, ended.unfit, line_back, good, le-ltb room 512 h) refl

-- ---- "Reading what we wrote gives the same record."

-- a record that is not refused
pub writable : (r out : List ℕ) → write_refusal r (length out) ≡ 0 → Writable r out
unfolding write_refusal AllFail positive
writable r out e =
    let f = first_zero (write_table r (length out)) refl e in
    let long = eqb (length r) 512 in
    let good = eqb (record_fault data_record r) 0 in
    let both : (long && good) ≡ true = not-false (long && good) f.0 in
    record {
      long = eqb-true (length r) 512 (and_left long good both);
      good = eqb-true (record_fault data_record r) 0 (and_right long good both);
      form = not-false (has_form r) f.1.0;
      room = ltb-false (length out) (length (tagged_of r)) f.1.1.0;
    }

-- the text is what was written, and it is read as the record
text_back : (r out back : List ℕ) → Writable r out → 512 ≤ length back → (s : List ℕ) → s ≡ tagged_of r
    → ((text_read s back).result.refusal ≡ 0) × ((text_read s back).output ≡ r ++ drop 512 back)
unfolding text_read
text_back r out back w h s e =
    rw (e, not_refused r w.long w.good w.form (length back) h) (
      refl,
      ap (λ (x : List ℕ). x ++ drop 512 back)
          (ap (λ (x : Draft). x.line) (walk_is r w.long w.good w.form) ∙ line_back r w.long w.good w.form),
    )

pub reads_back : ReadsBack
unfolding ReadsBack text_written
reads_back r out back e h = go (eqb (write_refusal r (length out)) 0) refl
  where
    go : (b : Bool) → eqb (write_refusal r (length out)) 0 ≡ b
        → ((text_read (take (text_written r out).result.bytes (text_written r out).output) back).result.refusal ≡ 0)
        × ((text_read (take (text_written r out).result.bytes (text_written r out).output) back).output ≡ r ++ drop 512 back)
    go true q =
        let w = writable r out (eqb-true (write_refusal r (length out)) 0 q) in
        rw q (text_back r out back w h _ (take_at (tagged_of r) (drop (length (tagged_of r)) out) (length (tagged_of r)) refl))
    go false q = absurd (eqb-false (write_refusal r (length out)) 0 q (rw q at e))

-- ---- "so each record has one tagged form"

-- two records with the same text are read back from it, into as many zeros
pub one_form : OneForm
unfolding OneForm ReadsBack
one_form r q out e f g =
    let zeros : List ℕ = replicate 512 0 in
    let a = (reads_back r out zeros e (omega (arith, length-replicate {A = ℕ} 512 0))).1 in
    let b = (reads_back q out zeros f (omega (arith, length-replicate {A = ℕ} 512 0))).1 in
    let same : r ++ drop 512 zeros ≡ q ++ drop 512 zeros = sym a ∙ rw g b in
    sym (append-nil r) ∙ same ∙ append-nil q

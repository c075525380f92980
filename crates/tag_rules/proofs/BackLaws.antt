-- The walk over what is written for a record, label by label: nothing is noted, the labels behind are not seen yet, the rows before are
-- the record's and those behind are blank (Upto). A value stands for the bytes it was written for (form_back), and rows lie apart.
-- Assumes nothing.
use mathlib.Core.Path.{◌≡◌, refl, sym, ap, ◌∙◌}
use mathlib.Core.Bool.{Bool, true, false, cond}
use mathlib.Core.List.{List, [], ◌∷◌, ◌++◌, append-nil}
use Prim.Native.Nat.{ℕ, zero, suc, ◌≤◌, ◌<◌}
use native.Mathlib.Decide.{ℕ_discrete}
use native.Mathlib.Omega.{arith}
use lib.Dec.{eqb}
use lib.ListN.{length, get_or, replicate}
use lib.Seq.{drop_at}
use Rattle.text.specs.declared.Class.TheVariants.{Unbarred}
use Rattle.text.specs.Text.{in_class, all_in, blank, trim_of, part, spaces, put_at}
use Rattle.text.proofs.Laws.{and_left, and_right}
use Rattle.text.proofs.DigitLaws.{all_append}
use Rattle.text.proofs.PartLaws.{all_part}
use Rattle.text.proofs.TrimLaws.{blank_is}
use Rattle.calendar.proofs.DayLaws.{every, every_at}
use Rattle.rules.proofs.PlaceLaws.{part_length}
use Rattle.tag_rules.specs.Tags.{ten, calendar_date, postal, label_at, span_at, span_size, form_at, span_of}
use Rattle.tag_rules.specs.Forms.{spread, is_nineteen, century, worded, formed, fits, shaped}
use Rattle.tag_rules.specs.Reading.{pairs_of, value_in, Draft, pair_taken, all_taken, blank_line, blank_draft}
use Rattle.tag_rules.specs.Writing.{pair_of, pairs_to}
use Rattle.tag_rules.proofs.TagLaws.{label_long, label_clean, tag_of_lem, span_in}
use Rattle.tag_rules.proofs.PairLaws.{parted_one, pairs_append, taken_append}
use Rattle.tag_rules.proofs.FormLaws.{row_shape, form_back, form_fits}
use Rattle.tag_rules.proofs.DraftLaws.{seen_other}
use Rattle.tag_rules.proofs.LineLaws.{put_long, put_row, put_other}

-- ---- no `|` in what is written

all_trim : (s : List ℕ) → all_in Unbarred s ≡ true → all_in Unbarred (trim_of s) ≡ true
all_trim [] e = refl
all_trim (b ∷ s) e = go (blank (b ∷ s)) (all_trim s (and_right (in_class Unbarred b) (all_in Unbarred s) e))
  where
    go : (v : Bool) → all_in Unbarred (trim_of s) ≡ true → all_in Unbarred (cond v [] (b ∷ trim_of s)) ≡ true
    go true ih = refl
    go false ih = rw (and_left (in_class Unbarred b) (all_in Unbarred s) e) ih

worded_clean : (form : ℕ) (f : List ℕ) → all_in Unbarred f ≡ true → all_in Unbarred (worded form f) ≡ true
unfolding worded
worded_clean form f e = go (eqb form calendar_date) (eqb form postal) (eqb form ten)
  where
    part_clean : (i n : ℕ) → all_in Unbarred (part i n f) ≡ true
    part_clean i n = all_part Unbarred i n f e

    years : (v : Bool) → all_in Unbarred (cond v (49 ∷ 57 ∷ []) (50 ∷ 48 ∷ [])) ≡ true
    years true = refl
    years false = refl

    four : (v : Bool) → all_in Unbarred (cond v [] (45 ∷ part 5 4 f)) ≡ true
    four true = refl
    four false = part_clean 5 4

    go : (a b c : Bool)
        → all_in Unbarred
        (cond a (century (get_or f 4 0) ++ (part 4 2 f ++ (45 ∷ (part 0 2 f ++ (45 ∷ part 2 2 f)))))
        (cond b (part 0 5 f ++ cond (blank (part 5 4 f)) [] (45 ∷ part 5 4 f)) (cond c f (trim_of f)))) ≡ true
    go true b c =
        all_append Unbarred (century (get_or f 4 0)) _ (years (is_nineteen (get_or f 4 0)))
        (all_append Unbarred (part 4 2 f) _ (part_clean 4 2) (all_append Unbarred (part 0 2 f) _ (part_clean 0 2) (part_clean 2 2)))
    go false true c = all_append Unbarred (part 0 5 f) _ (part_clean 0 5) (four (blank (part 5 4 f)))
    go false false true = e
    go false false false = all_trim f e

-- ---- the walk over the pairs of the first k labels

pub record Upto (r : List ℕ) (k : ℕ) (w : Draft) : Type 0 where
  pub unknown : w.notes.unknown ≡ false
  pub twice : w.notes.twice ≡ false
  pub unfit : w.notes.unfit ≡ false
  pub seen : (j : ℕ) → k ≤ j → get_or w.seen j 0 ≡ 0
  pub long : length w.line ≡ 512
  pub done : (j : ℕ) → j < k → span_of j w.line ≡ span_of j r
  pub rest : (j : ℕ) → k ≤ j → j < 32 → span_of j w.line ≡ span_of j blank_line

-- zeros, and behind them nothing
pub zeros : (n j : ℕ) → get_or {A = ℕ} (replicate n 0) j 0 ≡ 0
zeros zero j = refl
zeros (suc n) zero = refl
zeros (suc n) (suc j) = zeros n j

-- a row of spaces, and of `*`
blank_rows : every (λ k. blank (span_of k blank_line)) 31 ≡ true
blank_rows = refl

module _ (r : List ℕ) (l : length r ≡ 512) (clean : all_in Unbarred r ≡ true)
    (forms : (k : ℕ) → k < 28 → formed (form_at k) (span_of k r) ≡ true) where
  span_long : (k : ℕ) → k < 32 → (s : List ℕ) → length s ≡ 512 → length (span_of k s) ≡ span_size k
  span_long k h s e = part_length (span_at k) (span_size k) s (omega (arith, span_in k h))

  -- a blank row is omitted, and is blank already
  blank_same : (k : ℕ) → k < 28 → blank (span_of k r) ≡ true → span_of k blank_line ≡ span_of k r
  blank_same k h b =
      let t = every_at (λ k. blank (span_of k blank_line)) 31 k blank_rows (omega arith) in
      let m = span_long k (omega arith) r l in
      let n = span_long k (omega arith) blank_line refl in
      blank_is (span_of k blank_line) t ∙ ap spaces (n ∙ sym m) ∙ sym (blank_is (span_of k r) b)

  module _ (k : ℕ) (h : k < 28) (w : Draft) (u : Upto r k w) where
    abbrev bytes : List ℕ
    bytes = span_of k r

    abbrev pair : List ℕ
    pair = label_at k ++ worded (form_at k) bytes

    value_is : value_in pair ≡ worded (form_at k) bytes
    value_is = drop_at (label_at k) (worded (form_at k) bytes) 3 (label_long k h)

    shape : shaped (form_at k) (span_size k) ≡ true
    shape = row_shape k h

    size : length bytes ≡ span_size k
    size = span_long k (omega arith) r l

    -- its pair is taken, and its row is then the record's
    took : blank bytes ≡ false → Upto r (suc k) (pair_taken pair w)
    unfolding pair_taken
    took b =
        let same : spread (form_at k) (span_size k) (worded (form_at k) bytes) ≡ bytes = form_back (form_at k) (span_size k) bytes shape size in
        let fit : fits (form_at k) (span_size k) (worded (form_at k) bytes) ≡ true =
        form_fits (form_at k) (span_size k) bytes shape size b (forms k h) in
        rw (tag_of_lem k h (worded (form_at k) bytes), value_is, same, fit)
        (record {
          unknown = u.unknown;
          twice = rw (u.twice, u.seen k (omega arith)) refl;
          unfit = rw u.unfit refl;
          seen = λ j m. seen_other k j (value_in pair) w (λ e. omega arith) ∙ u.seen j (omega arith);
          long = put_long w.line bytes k u.long (omega arith) size;
          done = λ j m. go j m (ℕ_discrete j k);
          rest = λ j m n. put_other w.line bytes k u.long (omega arith) size j n (λ e. omega arith) ∙ u.rest j (omega arith) n;
        })
      where
        go : (j : ℕ) → j < suc k → Dec (j ≡ k) → span_of j (put_at (span_at k) bytes w.line) ≡ span_of j r
        go j m (yes e) = rw e (put_row w.line bytes k u.long (omega arith) size)
        go j m (no e) = put_other w.line bytes k u.long (omega arith) size j (omega arith) e ∙ u.done j (omega arith)

    -- or it is omitted
    left : blank bytes ≡ true → Upto r (suc k) w
    left b =
        record {
          unknown = u.unknown;
          twice = u.twice;
          unfit = u.unfit;
          seen = λ j m. u.seen j (omega arith);
          long = u.long;
          done = λ j m. go j m (ℕ_discrete j k);
          rest = λ j m n. u.rest j (omega arith) n;
        }
      where
        go : (j : ℕ) → j < suc k → Dec (j ≡ k) → span_of j w.line ≡ span_of j r
        go j m (yes e) = rw e (u.rest k (omega arith) (omega arith) ∙ blank_same k h b)
        go j m (no e) = u.done j (omega arith)

    pair_clean : all_in Unbarred pair ≡ true
    pair_clean =
        all_append Unbarred (label_at k) (worded (form_at k) bytes) (label_clean k h)
        (worded_clean (form_at k) bytes (all_part Unbarred (span_at k) (span_size k) r clean))

  -- after the pairs of the first k labels
  pub upto : (k : ℕ) → k ≤ 28 → Upto r k (all_taken (pairs_of (pairs_to r k)) blank_draft)
  unfolding all_taken pairs_to pair_of
  upto zero h =
      record {
        unknown = refl;
        twice = refl;
        unfit = refl;
        seen = λ j m. zeros 28 j;
        long = refl;
        done = λ j m. absurd (omega arith);
        rest = λ j m n. refl;
      }
  upto (suc k) h = go (blank (span_of k r)) refl (upto k (omega arith))
    where
      go : (b : Bool) → blank (span_of k r) ≡ b → Upto r k (all_taken (pairs_of (pairs_to r k)) blank_draft)
          → Upto r (suc k) (all_taken (pairs_of (pairs_to r k ++ pair_of r k)) blank_draft)
      go true b u = rw (b, append-nil (pairs_to r k)) (left k (omega arith) (all_taken (pairs_of (pairs_to r k)) blank_draft) u b)
      go false b u =
          let p : List ℕ = label_at k ++ worded (form_at k) (span_of k r) in
          let w : Draft = all_taken (pairs_of (pairs_to r k)) blank_draft in
          let one = parted_one p (pair_clean k (omega arith) w u) in
          rw (b, pairs_append (pairs_to r k) p, one, taken_append (pairs_of (pairs_to r k)) (p ∷ []) blank_draft)
          (took k (omega arith) (all_taken (pairs_of (pairs_to r k)) blank_draft) u b)

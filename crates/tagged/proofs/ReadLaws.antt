-- What reading cites: the place of a label, which was blank or was cleared, and a value in it; and the walk over the pairs of a body.
-- Assumes nothing.
use Rattle.std.specs.Prelude.{Option, Some, None}
use mathlib.Core.Path.{◌≡◌, refl, sym, ap, ◌∙◌}
use mathlib.Core.Bool.{Bool, true, false, not}
use mathlib.Core.List.{List, [], ◌∷◌, ◌++◌, map}
use Rattle.std.proofs.Common.{Bor}
use Rattle.std.specs.List.{slice_split, onto_first}
use Rattle.std.proofs.lemmas.List.{map-append}
use Prim.Native.Nat.{ℕ, ◌+◌, ◌-◌, ◌≤◌, ◌<◌}
use native.Mathlib.Decide.{ℕ_discrete}
use native.Mathlib.Omega.{arith}
use lib.Dec.{eqb}
use lib.ListN.{length, take, drop, get_or, set}
use borrow.Author.Tests.{not-false}
use Rattle.text.specs.Text.{blank, part, put_at}
use Rattle.text.proofs.Laws.{part_is, part_short}
use Rattle.rules.specs.Walks.{find}
use Rattle.rules.proofs.WalkLaws.{clash-bool, find_some, find_none}
use Rattle.rules.proofs.SlotLaws.{put_is}
use Rattle.tag_rules.specs.Tags.{span_at, span_size, form_at, span_of}
use Rattle.tag_rules.specs.Forms.{spread, fits, shaped}
use Rattle.tag_rules.specs.Reading.{is_label, tag_of, value_in, Draft, label_noted, unknown_taken, label_taken, pair_taken}
use Rattle.tag_rules.specs.Reading.{all_taken, pairs_of, pushed, parted, none_seen, blank_line}
use Rattle.tag_rules.proofs.PairLaws.{taken_append}
use Rattle.tag_rules.proofs.TagLaws.{span_in}
use Rattle.tag_rules.proofs.FormLaws.{row_shape}
use Rattle.tag_rules.proofs.LineLaws.{put_other}
use Rattle.tag_rules.proofs.DraftLaws.{Tag, unknown, known, tag_is, took_unknown, took_known, spread_length}
use Rattle.tag_rules.proofs.DraftLaws.{Sized, seen_now, seen_other}
use Rattle.tag_rules.proofs.RoomLaws.{span_long}
use Rattle.tagged.specs.declared.form.Form.{Form}
use Rattle.tagged.specs.Rows.{number}
use Rattle.tagged.specs.Walking.{Clear}

-- no row of the record of spaces and `*` is not blank
none_written : find (λ k. not (blank (span_of k blank_line))) 28 ≡ None
unfolding find
none_written = refl

pub blank_clear : Clear none_seen blank_line
unfolding Clear
blank_clear k h u = not-false (blank (span_of k blank_line)) (find_none (λ k. not (blank (span_of k blank_line))) 28 none_written k h)

-- ---- one pair

-- a label that is not taken
pub not_taken : (p : List ℕ) (o : Option ℕ) (w : Draft) → o ≡ tag_of p → o ≡ None → unknown_taken w ≡ pair_taken p w
not_taken p o w e f = sym (took_unknown p w (sym e ∙ f))

pub tag_in : (p : List ℕ) (o : Option ℕ) (k : ℕ) → o ≡ tag_of p → o ≡ Some k → k < 28
unfolding tag_of
tag_in p o k e f = (find_some (is_label p) 28 k (sym e ∙ f)).0

-- the place of label k, as it is lent
module _ (k i n : ℕ) (h : k < 28) (a : i ≡ span_at k) (z : n ≡ span_size k) where
  pub place_in : i + n ≤ 512
  place_in = rw (a, z) (span_in k (omega arith))

  module _ (r : List ℕ) (l : length r ≡ 512) where
    abbrev lent : List ℕ
    lent = take (i + n - i) (drop i r)

    lent_is : lent ≡ span_of k r
    lent_is = rw (a, z) (part_is r (span_at k) (span_size k))

    lent_long : length lent ≡ span_size k
    lent_long = ap length lent_is ∙ span_long r l k h

    pub lent_shaped : (f : Form) → number f ≡ form_at k → shaped (number f) (length lent) ≡ true
    lent_shaped f e = rw (lent_long, e) (row_shape k h)

    pub lent_blank : (seen : List ℕ) → Clear seen r → eqb (get_or seen k 0) 1 ≡ false → blank lent ≡ true
    unfolding Clear
    lent_blank seen c u = ap blank lent_is ∙ c k h u

    -- it comes back with bytes in it
    given_back : (b : List ℕ) → length b ≡ span_size k → take i r ++ (b ++ drop (i + n - i) (drop i r)) ≡ put_at (span_at k) b r
    given_back b e =
        let room : span_at k + span_size k ≤ length r = omega (arith, span_in k (omega (arith, h)), l) in
        let m : i + n - i ≡ n = omega arith in
        ap (λ (m : ℕ). take i r ++ (b ++ drop m (drop i r))) m
        ∙ rw (a, z) (sym (put_is (span_at k) (span_size k) b r e room))

-- a label that is taken
module _ (p : List ℕ) (o : Option ℕ) (k : ℕ) (e : o ≡ tag_of p) (f : o ≡ Some k)
    (i n : ℕ) (a : i ≡ span_at k) (z : n ≡ span_size k)
    (w : Draft) (l : length w.line ≡ 512) (form : Form) (g : number form ≡ form_at k) (v t : List ℕ) (fit : Bool)
    (x : v ≡ part 3 (length p) p) (y : fit ≡ fits (number form) (length (lent k i n (tag_in p o k e f) a z w.line l)) v)
    (u : t ≡ spread (number form) (length (lent k i n (tag_in p o k e f) a z w.line l)) v) where
  value_is : v ≡ value_in p
  value_is = x ∙ part_short p 3 (length p) (omega arith)

  bytes_are : t ≡ spread (form_at k) (span_size k) (value_in p)
  bytes_are = u ∙ rw (lent_long k i n (tag_in p o k e f) a z w.line l, g, value_is) refl

  pub label_taken_lem : record {
    notes = label_noted (eqb (get_or w.seen k 0) 1) fit w.notes;
    seen = set w.seen k 1;
    line = take i w.line ++ (t ++ drop (i + n - i) (drop i w.line));
  } ≡ pair_taken p w
  label_taken_lem =
      let long = ap length bytes_are ∙ spread_length (form_at k) (span_size k) (value_in p) in
      rw (
        took_known p w k (sym e ∙ f),
        given_back k i n (tag_in p o k e f) a z w.line l t long,
        bytes_are,
        y,
        lent_long k i n (tag_in p o k e f) a z w.line l,
        g,
        value_is,
      )
      refl

-- a label is seen from then on, and the other rows are as they were
pub still_clear : (p : List ℕ) (w : Draft) → length w.seen ≡ 28 → length w.line ≡ 512 → Clear w.seen w.line
    → Clear (pair_taken p w).seen (pair_taken p w).line
unfolding Clear
still_clear p w m l r = go (tag_is p)
  where
    sized : Sized w
    sized = record { seen = m; line = l }

    kept : (k : ℕ) → k < 28 → (v : List ℕ) (j : ℕ) → j < 28 → eqb (get_or (label_taken k v w).seen j 0) 1 ≡ false
        → Dec (j ≡ k) → blank (span_of j (label_taken k v w).line) ≡ true
    kept k h v j i u (yes q) = clash-bool (rw q (seen_now k v w sized h)) u
    kept k h v j i u (no q) =
        let long = spread_length (form_at k) (span_size k) v in
        ap blank (put_other w.line (spread (form_at k) (span_size k) v) k l (omega arith) long j (omega arith) q)
        ∙ r j i (rw (seen_other k j v w q) at u)

    go : Tag p → Clear (pair_taken p w).seen (pair_taken p w).line
    go (unknown e) = rw (took_unknown p w e) r
    go (known k h e) = rw (took_known p w k e) (λ j i u. kept k h (value_in p) j i u (ℕ_discrete j k))

-- ---- all pairs

-- what stands before, between and behind the `|` is what the rules say
pub parts_are : (s : List ℕ) → slice_split (λ b. eqb b 124) s ≡ parted s
parts_are [] = refl
parts_are (b ∷ s) = rw (parts_are s, pushed_is b (parted s)) refl
  where
    pushed_is : (b : ℕ) (ps : List (List ℕ)) → onto_first b ps ≡ pushed b ps
    pushed_is b [] = refl
    pushed_is b (p ∷ ps) = refl

pub none_taken : (body : List ℕ) (w : Draft) → length body ≡ 0 → w ≡ all_taken (pairs_of body) w
unfolding all_taken
none_taken [] w e = refl
none_taken (b ∷ s) w e = absurd (omega arith)

-- one more
pub taken_more : (ps : List (Bor (List ℕ))) (p : Bor (List ℕ)) (w : Draft)
    → all_taken (map (λ x. x.now) (ps ++ p ∷ [])) w ≡ pair_taken p.now (all_taken (map (λ x. x.now) ps) w)
unfolding all_taken
taken_more ps p w =
    ap (λ (x : List (List ℕ)). all_taken x w) (map-append (λ x. x.now) ps (p ∷ []))
    ∙ taken_append (map (λ x. x.now) ps) (p.now ∷ []) w

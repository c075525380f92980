-- The code's table of labels is the rules': row by row, computed. So the row with a label is the one that the rules find.
-- Assumes nothing.
use Rattle.std.proofs.Common.{◌≡◌, ℕ, ◌<◌, ◌≤◌, ◌&&◌, Bool, true, List, [], ◌∷◌, Option, Some, None, get_or, length, take, drop, refl, sym, ap, ◌∙◌, eqb, nat_eq, not, eqb-true, arith, length-take, take-append-drop}
use Rattle.std.specs.List.{position, position_or_len}
use Rattle.std.proofs.lemmas.List.Sums.{passes_at_first, fails_before_first}
use native.Mathlib.Decide.{dec_lt}
use borrow.Author.Tests.{not-false, lt-ltb, le-ltb}
use Rattle.text.specs.Text.{same_bytes, part}
use Rattle.text.proofs.Laws.{and_left, and_right, left_at, same_true, same_lengths}
use Rattle.rules.specs.Walks.{find}
use Rattle.rules.proofs.WalkLaws.{find_none, find_nowhere, find_hit, find_same_lem}
use Rattle.tag_rules.specs.Tags.{label_at, span_at, span_size, form_at}
use Rattle.tag_rules.specs.Reading.{is_label, tag_of}
use Rattle.tag_rules.proofs.TagLaws.{label_long, tag_of_lem}
use Rattle.tagged.specs.declared.table.Row.{Row}
use Rattle.tagged.specs.declared.table.TheConstants.{ROWS}
use Rattle.tagged.specs.declared.form.Form.TheVariants.{Plain}
use Rattle.tagged.proofs.WordLaws.{word, same_word, label_low, four_low}
use Rattle.tagged.specs.Rows.{number, IsRow}

abbrev no_row : Row
no_row = record { label = []; at = 0; size = 0; form = Plain }

abbrev row : ℕ → Row
row k = get_or ROWS k no_row

abbrev is_row : ℕ → Row → Bool
is_row k r =
    same_bytes r.label (124 ∷ label_at k)
    && (eqb r.at (span_at k) && (eqb r.size (span_size k) && eqb (number r.form) (form_at k)))

all_rows : find (λ k. not (is_row k (row k))) 28 ≡ None
unfolding find
all_rows = refl

pub row_is : (k : ℕ) → k < 28 → IsRow k (row k)
row_is k h =
    let r = row k in
    let t = not-false (is_row k r) (find_none (λ k. not (is_row k (row k))) 28 all_rows k h) in
    let size_form = eqb r.size (span_size k) && eqb (number r.form) (form_at k) in
    let u = and_right (same_bytes r.label (124 ∷ label_at k)) (eqb r.at (span_at k) && size_form) t in
    let v = and_right (eqb r.at (span_at k)) size_form u in
    record {
      label = same_true r.label (124 ∷ label_at k) (and_left _ _ t);
      at = eqb-true r.at (span_at k) (and_left _ _ u);
      size = eqb-true r.size (span_size k) (and_left _ _ v);
      form = eqb-true (number r.form) (form_at k) (and_right _ _ v);
    }

-- ---- the row of a pair

-- the first item that passes a test is at the lowest place that does
position_find : {X : Type 0} (p : X → Bool) (xs : List X) (d : X) → position p xs ≡ find (λ k. p (get_or xs k d)) (length xs)
position_find {X} p xs d = go (dec_lt i n)
  where
    i : ℕ
    i = position_or_len p xs

    n : ℕ
    n = length xs

    go : Dec (i < n) → position p xs ≡ find (λ k. p (get_or xs k d)) n
    go (yes h) =
        let q : ℕ → Bool = λ k. p (get_or xs k d) in
        rw (lt-ltb i n h) (sym (find_hit q n i (find_nowhere q i (λ j l. fails_before_first p xs j d l)) (passes_at_first p xs d h) h))
    go (no h) =
        let q : ℕ → Bool = λ k. p (get_or xs k d) in
        rw (le-ltb i n (omega arith)) (sym (find_nowhere q n (λ j l. fails_before_first p xs j d (omega arith))))

three_first : (p : List ℕ) → 3 ≤ length p → part 0 3 p ≡ get_or p 0 0 ∷ get_or p 1 0 ∷ get_or p 2 0 ∷ []
three_first p h =
    ap (take 3)
    (left_at p 0 (omega arith)
    ∙ ap (λ (x : List ℕ). get_or p 0 0 ∷ x)
    (left_at p 1 (omega arith) ∙ ap (λ (x : List ℕ). get_or p 1 0 ∷ x) (left_at p 2 (omega arith))))

pub tag_short : (p : List ℕ) → length p < 3 → None ≡ tag_of p
unfolding tag_of
tag_short p h = sym (find_nowhere (is_label p) 28 (λ j l. sym (same_lengths (label_at j) (part 0 3 p) (not_three j l))))
  where
    not_three : (j : ℕ) → j < 28 → length (part 0 3 p) ≡ length (label_at j) → ⊥
    not_three j l e = let m = length-take 3 p in omega (arith, label_long j l)

-- a label is a `|` and the first three bytes of the pair
module _ (p : List ℕ) (l : 3 ≤ length p) (low : (i : ℕ) → get_or p i 0 < 256) where
  abbrev label : List ℕ
  label = 124 ∷ get_or p 0 0 ∷ get_or p 1 0 ∷ get_or p 2 0 ∷ []

  -- so the test of it as a number is the test of the rules
  test_is : (k : ℕ) (r : Row) → k < 28 → IsRow k r → nat_eq (word r.label) (word label) ≡ is_label p k
  test_is k r h e =
      let long : length (124 ∷ label_at k) ≡ 4 = omega (arith, label_long k h) in
      ap (λ (x : List ℕ). nat_eq (word x) (word label)) e.label
      ∙ same_word (124 ∷ label_at k) label long refl (label_low k) (four_low 124 _ _ _ (omega arith) (low 0) (low 1) (low 2))
      ∙ sym (ap (λ (x : List ℕ). same_bytes (label_at k) x) (three_first p l))

  -- row k has it
  pub tag_hit : (k : ℕ) (r : Row) → k < 28 → IsRow k r → nat_eq (word r.label) (word label) ≡ true → Some k ≡ tag_of p
  tag_hit k r h e t =
      let same : same_bytes (label_at k) (take 3 p) ≡ true = sym (test_is k r h e) ∙ t in
      sym (rw (same_true (label_at k) (take 3 p) same, take-append-drop 3 p) at (tag_of_lem k h (drop 3 p)))

  -- or it is sought among all
  pub tag_sought : (o : Option ℕ) → o ≡ position (λ (r : Row). nat_eq (word r.label) (word label)) ROWS → o ≡ tag_of p
  unfolding tag_of
  tag_sought o e =
      e ∙ position_find (λ (r : Row). nat_eq (word r.label) (word label)) ROWS no_row
      ∙ find_same_lem (is_label p) (λ k. nat_eq (word (row k).label) (word label)) 28 (λ k h. test_is k (row k) h (row_is k h))

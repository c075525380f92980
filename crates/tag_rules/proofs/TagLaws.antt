-- The table of labels, by computed tests: each label has three letters, no `|` and is one of its own, so the row of a pair is the one
-- with its letters; each row has bytes of its own. Assumes nothing.
use Rattle.std.specs.Prelude.{Some}
use mathlib.Core.Path.{◌≡◌, refl, ap, ◌∙◌}
use mathlib.Core.Logic.{◌≢◌}
use mathlib.Core.Bool.{Bool, true, false, ◌&&◌, ◌||◌, not}
use mathlib.Core.List.{List, ◌++◌}
use Prim.Native.Nat.{ℕ, ◌+◌, ◌≤◌, ◌<◌}
use native.Mathlib.Omega.{arith}
use lib.Dec.{leb, eqb}
use lib.ListN.{length}
use lib.Seq.{take_at}
use borrow.Author.Tests.{eqb-true, ne_eqb, leb-true, not-true}
use Rattle.text.specs.declared.Class.TheVariants.{Unbarred}
use Rattle.text.specs.Text.{all_in, same_bytes}
use Rattle.text.proofs.Laws.{and_left, and_right, same_refl}
use Rattle.calendar.proofs.DayLaws.{every, every_at}
use Rattle.rules.proofs.WalkLaws.{find_hit, find_nowhere}
use Rattle.tag_rules.specs.Tags.{label_at, span_at, span_size}
use Rattle.tag_rules.specs.Reading.{is_label, tag_of}

-- ---- labels

abbrev apart : ℕ → ℕ → Bool
apart k j = eqb j k || not (same_bytes (label_at j) (label_at k))

abbrev labelled : ℕ → Bool
labelled k = (eqb (length (label_at k)) 3 && all_in Unbarred (label_at k)) && every (apart k) 28

all_labelled : every labelled 28 ≡ true
all_labelled = refl

module _ (k : ℕ) (h : k < 28) where
  test : labelled k ≡ true
  test = every_at labelled 28 k all_labelled h

  pub label_long : length (label_at k) ≡ 3
  label_long =
      let a = eqb (length (label_at k)) 3 in
      let b = all_in Unbarred (label_at k) in
      eqb-true (length (label_at k)) 3 (and_left a b (and_left (a && b) (every (apart k) 28) test))

  pub label_clean : all_in Unbarred (label_at k) ≡ true
  label_clean =
      let a = eqb (length (label_at k)) 3 in
      let b = all_in Unbarred (label_at k) in
      and_right a b (and_left (a && b) (every (apart k) 28) test)

  pub label_other : (j : ℕ) → j < 28 → j ≢ k → same_bytes (label_at j) (label_at k) ≡ false
  label_other j l n =
      let a = eqb (length (label_at k)) 3 in
      let b = all_in Unbarred (label_at k) in
      let t = every_at (apart k) 28 j (and_right (a && b) (every (apart k) 28) test) l in
      not-true (same_bytes (label_at j) (label_at k)) (rw (ne_eqb j k n) at t)

  -- the row of a pair with this label
  pub tag_of_lem : (v : List ℕ) → tag_of (label_at k ++ v) ≡ Some k
  unfolding tag_of
  tag_of_lem v =
      find_hit (is_label (label_at k ++ v)) 28 k
      (find_nowhere (is_label (label_at k ++ v)) k (λ j l. is j (label_other j (omega arith) (λ e. omega arith))))
      (is k (same_refl (label_at k))) h
    where
      is : {b : Bool} (j : ℕ) → same_bytes (label_at j) (label_at k) ≡ b → is_label (label_at k ++ v) j ≡ b
      is j e = ap (same_bytes (label_at j)) (take_at (label_at k) v 3 label_long) ∙ e

-- ---- places

abbrev clear : ℕ → ℕ → Bool
clear k j = eqb j k || (leb (span_at j + span_size j) (span_at k) || leb (span_at k + span_size k) (span_at j))

abbrev alone : ℕ → Bool
alone k = leb (span_at k + span_size k) 512 && every (clear k) 32

all_alone : every alone 32 ≡ true
all_alone = refl

pub span_in : (k : ℕ) → k < 32 → span_at k + span_size k ≤ 512
span_in k h =
    leb-true (span_at k + span_size k) 512
    (and_left (leb (span_at k + span_size k) 512) (every (clear k) 32) (every_at alone 32 k all_alone h))

pub span_clear : (k j : ℕ) → k < 32 → j < 32 → j ≢ k
    → (leb (span_at j + span_size j) (span_at k) || leb (span_at k + span_size k) (span_at j)) ≡ true
span_clear k j h l n =
    let all = and_right (leb (span_at k + span_size k) 512) (every (clear k) 32) (every_at alone 32 k all_alone h) in
    let t = every_at (clear k) 32 j all l in
    rw (ne_eqb j k n) at t

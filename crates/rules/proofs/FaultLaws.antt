-- The fault of a line is the start of a field of its table: the position of refusal 9, at most 512.
-- Assumes nothing.
use mathlib.Core.Path.{◌≡◌, refl}
use mathlib.Core.Logic.{◌≢◌}
use mathlib.Core.Bool.{Bool, true, false, ◌&&◌, ◌||◌, cond}
use mathlib.Core.List.{List, [], ◌∷◌}
use Prim.Native.Nat.{ℕ, ◌≤◌}
use native.Mathlib.Omega.{arith}
use lib.Dec.{leb, ltb, eqb}
use borrow.Author.Tests.{leb-true, eqb-true, eq-eqb}
use Rattle.text.specs.Text.{part, member_of}
use Rattle.text.proofs.Laws.{and_left, and_right, or_right}
use Rattle.layout.specs.Tables.{guide_row, house, low_end, high_end, parity_letter}
use Rattle.layout.specs.Fields.{function_of, house_in, end_in, low_of, high_of, parity_of, allows}
use Rattle.layout.specs.Rules.{keeps, house_fault, end_fault, high_fault, parity_fault, is_whole, fault_by, from_zero, fault_in, is_lax, record_fault, row_fault}
use Rattle.versions.specs.declared.Version.TheVariants.{One, Two}
use Rattle.text.proofs.Laws.{on_some_lem}
use Rattle.rules.specs.declared.Kind.{Kind}
use Rattle.rules.specs.declared.Kind.TheVariants.{Data, Guide}
use Rattle.rules.specs.Takes.{shape_of, line_fault}
use Rattle.rules.specs.Answered.{starts_in}
use Rattle.rules.proofs.WalkLaws.{clash-bool}

-- ---- P is so of a fault, if it is so of 0 and of each field's start

module _ (P : ℕ → Type 0) where
  -- of what is made of a test
  on_test : (b : Bool) (x y : ℕ) → P x → P y → P (cond b x y)
  on_test true x y p q = p
  on_test false x y p q = q

  -- a field's fault is its start, or 0
  fault_by_lem : (at n r : ℕ) (lax : Bool) (s f : List ℕ) → P 0 → P at → P (fault_by at n r lax s f)
  unfolding fault_by house_fault end_fault high_fault parity_fault
  fault_by_lem at n r lax s f z p =
      on_test (is_whole n f) _ at
      (on_test (eqb r house) _ _ (on_some_lem P (house_in f) at (λ n. 0) (λ o. p) (λ n o. z))
      (on_test (eqb r low_end) _ _ (on_some_lem P (end_in f) at (λ n. 0) (λ o. p) (λ n o. z))
      (on_test (eqb r high_end) _ _
      (on_some_lem P (high_of s) at _ (λ o. p) (λ high o.
      on_some_lem P (low_of s) at _ (λ o. p) (λ low o.
      on_test (ltb high low) at 0 p z)))
      (on_test (eqb r parity_letter) _ _
      (on_some_lem P (low_of s) at _ (λ o. p) (λ low o.
      on_some_lem P (high_of s) at _ (λ o. p) (λ high o.
      on_test (allows (parity_of s) low && allows (parity_of s) high) 0 at z p)))
      (on_test (keeps r lax f) 0 at z p)))))
      p

  -- the fault of a line is the start of a field of its table, or 0
  pub fault_in_lem : (lax : Bool) (s t : List ℕ) → P 0 → ((at : ℕ) → member_of at (starts_in t) ≡ true → P at) → P (fault_in lax s t)
  unfolding fault_in
  fault_in_lem lax s (at ∷ n ∷ r ∷ t) z p =
      on_test (eqb (fault_by at n r lax s (part (from_zero at) n s)) 0) _ _
      (fault_in_lem lax s t z (λ a e. p a (or_right (eqb at a) (member_of a (starts_in t)) e)))
      (fault_by_lem at n r lax s (part (from_zero at) n s) z (p at (rw (eq-eqb at at refl))))
  fault_in_lem lax s [] z p = z
  fault_in_lem lax s (x ∷ []) z p = z
  fault_in_lem lax s (x ∷ y ∷ []) z p = z

  -- of a data record, and of a guide row
  pub line_fault_lem : (k : Kind) (s : List ℕ) → P 0 → ((at : ℕ) → member_of at (starts_in (shape_of k).table) ≡ true → P at)
      → P (line_fault k s)
  unfolding record_fault row_fault
  line_fault_lem (Data v) s z p = fault_in_lem (is_lax (function_of s)) s (shape_of (Data v)).table z p
  line_fault_lem Guide s z p = fault_in_lem false s guide_row z p

-- ---- of a line

-- a line that breaks a field rule does so in a field of its table
pub line_fault_starts : (k : Kind) (s : List ℕ) → line_fault k s ≢ 0 → member_of (line_fault k s) (starts_in (shape_of k).table) ≡ true
line_fault_starts k s n =
    line_fault_lem (λ v. v ≢ 0 → member_of v (starts_in (shape_of k).table) ≡ true) k s (λ z. absurd (z refl)) (λ at e z. e) n

-- each number of a list is at most m
abbrev all_up_to : ℕ → List ℕ → Bool
all_up_to m [] = true
all_up_to m (a ∷ l) = leb a m && all_up_to m l

-- so is each of its members
member_le : (m : ℕ) (l : List ℕ) → all_up_to m l ≡ true → (a : ℕ) → member_of a l ≡ true → a ≤ m
member_le m [] h a e = clash-bool e refl
member_le m (b ∷ l) h a e = go (member_le m l (and_right (leb b m) (all_up_to m l) h) a) (eqb b a) refl e
  where
    go : (member_of a l ≡ true → a ≤ m) → (v : Bool) → eqb b a ≡ v → v || member_of a l ≡ true → a ≤ m
    go ih true q e = rw (← eqb-true b a q) (leb-true b m (and_left (leb b m) (all_up_to m l) h))
    go ih false q e = ih e

-- the last field of either table starts at 512 or before
pub line_fault_le : (k : Kind) (s : List ℕ) → line_fault k s ≤ 512
line_fault_le k s = line_fault_lem (λ v. v ≤ 512) k s (omega arith) (member_le 512 (starts_in (shape_of k).table) (all k))
  where
    all : (k : Kind) → all_up_to 512 (starts_in (shape_of k).table) ≡ true
    all (Data One) = refl
    all (Data Two) = refl
    all Guide = refl

-- A list without the spaces at its end: with as many spaces behind it is the list again; what one byte more at the end makes of it.
-- Assumes nothing.
use mathlib.Core.Path.{◌≡◌, refl, sym, ap}
use mathlib.Core.Bool.{Bool, true, false, cond}
use mathlib.Core.List.{List, [], ◌∷◌, ◌++◌}
use Prim.Native.Nat.{ℕ, ◌-◌, ◌≤◌}
use native.Mathlib.Omega.{arith}
use native.Mathlib.Numerals.{unary_clauses}
use lib.Dec.{eqb}
use lib.ListN.{length}
use borrow.Author.Tests.{eqb-true, eq-eqb, ne_eqb}
use Rattle.text.specs.Text.{blank, trim_of, spaces}
use Rattle.text.proofs.Laws.{and_left, and_right, and_false}

-- a blank list is spaces
pub blank_is : (s : List ℕ) → blank s ≡ true → s ≡ spaces (length s)
blank_is [] e = refl
blank_is (b ∷ s) e =
    let q = eqb-true b 32 (and_left (eqb b 32) (blank s) e) in
    let r = blank_is s (and_right (eqb b 32) (blank s) e) in
    rw q (ap (λ (x : List ℕ). 32 ∷ x) r)

-- a list is itself without the spaces at its end, and then those
pub trim_back : (s : List ℕ) → trim_of s ++ spaces (length s - length (trim_of s)) ≡ s
trim_back [] = refl
trim_back (b ∷ s) = go (blank (b ∷ s)) refl (trim_back s)
  where
    go : (v : Bool) → blank (b ∷ s) ≡ v → trim_of s ++ spaces (length s - length (trim_of s)) ≡ s
        → cond v [] (b ∷ trim_of s) ++ spaces (length (b ∷ s) - length (cond v [] (b ∷ trim_of s))) ≡ b ∷ s
    go true e ih = simp unary_clauses (sym (blank_is (b ∷ s) e))
    go false e ih = simp unary_clauses (ap (λ (x : List ℕ). b ∷ x) ih)

pub trim_length : (s : List ℕ) → length (trim_of s) ≤ length s
trim_length [] = omega arith
trim_length (b ∷ s) = go (blank (b ∷ s)) (trim_length s)
  where
    go : (v : Bool) → length (trim_of s) ≤ length s → length (cond v [] (b ∷ trim_of s)) ≤ length (b ∷ s)
    go true ih = omega arith
    go false ih = omega arith

-- a space at its end counts for nothing
blank_space : (s : List ℕ) {b : ℕ} → b ≡ 32 → blank (s ++ b ∷ []) ≡ blank s
blank_space [] {b} e = rw (eq-eqb b 32 e)
blank_space (a ∷ s) e = rw (blank_space s e)

pub trim_space : (s : List ℕ) {b : ℕ} → b ≡ 32 → trim_of (s ++ b ∷ []) ≡ trim_of s
trim_space [] {b} e = rw (eq-eqb b 32 e)
trim_space (a ∷ s) e = rw (blank_space s e, trim_space s e)

-- a list that ends in another byte is left whole
blank_other : (s : List ℕ) {b : ℕ} → (b ≡ 32 → ⊥) → blank (s ++ b ∷ []) ≡ false
blank_other [] {b} n = rw (ne_eqb b 32 n)
blank_other (a ∷ s) n = rw (blank_other s n) (and_false (eqb a 32))

pub trim_other : (s : List ℕ) {b : ℕ} → (b ≡ 32 → ⊥) → trim_of (s ++ b ∷ []) ≡ s ++ b ∷ []
trim_other [] {b} n = rw (ne_eqb b 32 n)
trim_other (a ∷ s) n = rw (blank_other s n, and_false (eqb a 32), trim_other s n)

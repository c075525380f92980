-- Steps of the walk over the fields of a table, three numbers at a time, and what a whole field says.
-- Assumes nothing.
use mathlib.Core.Path.{◌≡◌, ◌∙◌, refl, sym, ap}
use mathlib.Core.Bool.{Bool, true, false}
use mathlib.Core.List.{List, [], ◌∷◌}
use Prim.Native.Nat.{ℕ, ◌+◌, ◌-◌, ◌≤◌, ◌<◌}
use native.Mathlib.Omega.{arith}
use lib.Dec.{eqb}
use lib.ListN.{length, drop, get_or, length-take, length-drop}
use borrow.Author.Tests.{eqb-true, eq-eqb, ne_eqb}
use Rattle.text.specs.declared.Class.TheVariants.{Printable}
use Rattle.text.specs.Text.{all_in, part}
use Rattle.text.proofs.Laws.{left_at, and_left}
use Rattle.text.proofs.PartLaws.{all_part}
use Rattle.layout.specs.Rules.{from_zero, is_whole, fault_by, fault_in, or_else}

two_at : (s : List ℕ) (i : ℕ) → i + 1 < length s → drop i s ≡ get_or s i 0 ∷ get_or s (i + 1) 0 ∷ drop (i + 2) s
two_at s i h =
    let a : i < length s = omega arith in
    let e : i + 1 + 1 ≡ i + 2 = omega arith in
    left_at s i a ∙ ap (λ x. get_or s i 0 ∷ x) (left_at s (i + 1) h ∙ ap (λ k. get_or s (i + 1) 0 ∷ drop k s) e)

three_at : (s : List ℕ) (i : ℕ) → i + 2 < length s
    → drop i s ≡ get_or s i 0 ∷ get_or s (i + 1) 0 ∷ get_or s (i + 2) 0 ∷ drop (i + 3) s
three_at s i h =
    let a : i + 1 < length s = omega arith in
    let e : i + 2 + 1 ≡ i + 3 = omega arith in
    two_at s i a ∙ ap (λ x. get_or s i 0 ∷ get_or s (i + 1) 0 ∷ x) (left_at s (i + 2) h ∙ ap (λ k. get_or s (i + 2) 0 ∷ drop k s) e)

-- ---- fields; f is the fault of the field at i

module _ (lax : Bool) (s t : List ℕ) (i f : ℕ) {v : ℕ} (inv : fault_in lax s (drop i t) ≡ v) (h : i + 2 < length t) (e : f ≡ fault_by (get_or t i 0) (get_or t (i + 1) 0) (get_or t (i + 2) 0) lax s (part (from_zero (get_or t i 0)) (get_or t (i + 1) 0) s)) where
  fault_at_lem : or_else f (fault_in lax s (drop (i + 3) t)) ≡ v
  unfolding fault_in
  fault_at_lem = rw e (sym (ap (fault_in lax s) (three_at t i h)) ∙ inv)

  pub fault_later : f ≡ 0 → fault_in lax s (drop (i + 3) t) ≡ v
  fault_later z = rw (eq-eqb f 0 z) at fault_at_lem

  pub fault_here : (f ≡ 0 → ⊥) → f ≡ v
  fault_here z = rw (ne_eqb f 0 z) at fault_at_lem

-- a field that is known to pass
pub fault_passed : (lax : Bool) (s t : List ℕ) (i : ℕ) {v : ℕ} → fault_in lax s (drop i t) ≡ v → i + 2 < length t
    → fault_by (get_or t i 0) (get_or t (i + 1) 0) (get_or t (i + 2) 0) lax s (part (from_zero (get_or t i 0)) (get_or t (i + 1) 0) s) ≡ 0
    → fault_in lax s (drop (i + 3) t) ≡ v
fault_passed lax s t i inv h z =
    let f = fault_by (get_or t i 0) (get_or t (i + 1) 0) (get_or t (i + 2) 0) lax s (part (from_zero (get_or t i 0)) (get_or t (i + 1) 0) s) in
    fault_later lax s t i f inv h refl z

fault_short : (lax : Bool) (s t : List ℕ) → length t ≤ 2 → fault_in lax s t ≡ 0
unfolding fault_in
fault_short lax s [] h = refl
fault_short lax s (p ∷ []) h = refl
fault_short lax s (p ∷ q ∷ []) h = refl
fault_short lax s (p ∷ q ∷ r ∷ t) h = absurd (omega arith)

pub fault_none : (lax : Bool) (s t : List ℕ) (i : ℕ) {v : ℕ} → fault_in lax s (drop i t) ≡ v → length t ≤ i + 2 → 0 ≡ v
fault_none lax s t i inv h = sym (fault_short lax s (drop i t) (simp length-drop (omega arith))) ∙ inv

-- ---- a field that is whole

pub whole_long : (n : ℕ) (f : List ℕ) → is_whole n f ≡ true → length f ≡ n
unfolding is_whole
whole_long n f h = eqb-true (length f) n (and_left (eqb (length f) n) (all_in Printable f) h)

-- as one is that lies in the line
pub part_long : (s : List ℕ) (i n : ℕ) → i ≤ length s → n ≤ length s - i → length (part i n s) ≡ n
part_long s i n a b = simp (length-take, length-drop) (omega arith)

pub part_whole : (s : List ℕ) (i n : ℕ) → i ≤ length s → n ≤ length s - i → all_in Printable s ≡ true → is_whole n (part i n s) ≡ true
unfolding is_whole
part_whole s i n a b h = rw (part_long s i n a b, eq-eqb n n refl, all_part Printable i n s h)

-- a test that is false is not true
pub never : {A : Type 0} → false ≡ true → A
never e = let z : ◌≡◌ {A = ℕ} 0 1 = cc in absurd (omega arith)

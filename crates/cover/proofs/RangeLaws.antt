-- What decides of ranges before all of it is read: a parity that does not allow the number, and ends that lie apart.
-- Assumes nothing.
use Rattle.text.specs.Text.{on_some}
use Rattle.std.specs.Prelude.{Option, Some, None}
use mathlib.Core.Path.{◌≡◌, refl, ◌∙◌}
use mathlib.Core.Bool.{Bool, true, false}
use mathlib.Core.List.{List}
use Prim.Native.Nat.{ℕ, ◌+◌, ◌%◌, ◌<◌, min, max}
use native.Mathlib.Omega.{arith}
use borrow.Author.Tests.{lt-leb}
use Rattle.layout.specs.Fields.{row_street_of, row_place_of, parity_of, low_of, high_of}
use Rattle.rules.specs.Covers.{meet_from, meets, clash}
use Rattle.rules.proofs.WalkLaws.{clash-bool}
use Rattle.rules.proofs.ClashLaws.{allows_alike, near, clash_yes, hit_of, over_is}

pub no_number : (x : Option ℕ) → false ≡ on_some x false (λ n. false)
no_number (Some n) = refl
no_number None = refl

-- where two rows clash, they share a number, and its remainder is of both parities too
pub clash_parity : (g h : List ℕ) → meet_from (parity_of g) (parity_of h) 1 0 ≡ false → false ≡ clash g h
clash_parity g h e = go (clash g h) refl
  where
    go : (v : Bool) → clash g h ≡ v → false ≡ v
    go true c =
        let m = clash_yes g h c in
        let a = hit_of g m.0 (over_is g (row_street_of g) (row_place_of g) m.0 m.1).hit in
        let b = hit_of h m.0 (over_is h (row_street_of g) (row_place_of g) m.0 m.2).hit in
        let n : ℕ = m.0 in
        let x : n % 2 % 2 ≡ n % 2 = omega arith in
        clash-bool
        (near (parity_of g) (parity_of h) 0 1 (n % 2) (omega arith) (omega arith)
        (allows_alike (parity_of g) (n % 2) n x ∙ a.allowed)
        (allows_alike (parity_of h) (n % 2) n x ∙ b.allowed))
        e
    go false c = refl

meet_none : (p q high n : ℕ) → high < n → false ≡ meet_from p q high n
unfolding meet_from
meet_none p q high n h = rw (lt-leb _ _ h, lt-leb (n + 1) high (omega arith))

-- one ends before the other begins
pub meets_not : (g h : List ℕ) (b c : ℕ) → high_of g ≡ Some b → low_of h ≡ Some c → b < c → false ≡ meets g h
unfolding meets
meets_not g h b c e f l = rw (e, f) (go (low_of g) (high_of h))
  where
    go : (x y : Option ℕ) → false ≡ on_some x false (λ a. on_some y false (λ d. meet_from (parity_of g) (parity_of h) (min b d) (max a c)))
    go (Some a) (Some d) = meet_none (parity_of g) (parity_of h) (min b d) (max a c) (omega arith)
    go (Some a) None = refl
    go None y = refl

-- The cycle and the record count that are written are read back. Assumes nothing.
use Rattle.std.specs.Prelude.{Some}
use mathlib.Core.Path.{◌≡◌, refl, ◌∙◌}
use mathlib.Core.Bool.{Bool, true, false, ◌||◌}
use mathlib.Core.List.{◌++◌, append-nil}
use Prim.Native.Nat.{ℕ, zero, suc, ◌+◌, ◌-◌, ◌≤◌}
use native.Mathlib.Nat.{add-zero}
use native.Mathlib.Omega.{arith}
use lib.Dec.{eqb}
use lib.ListN.{length, length-replicate}
use lib.Seq.{drop_at}
use borrow.Author.Tests.{le-leb, le-ltb}
use Rattle.text.specs.declared.Class.TheVariants.{Space}
use Rattle.text.specs.Text.{run_of, spaces, digits, width, width_in, among_spaces, left_digits, right_digits}
use Rattle.text.proofs.DigitLaws.{blank_spaces, run_append, no_spaces, digits_all, spelled_back, width_some, width_holds, width_fits, width_first}
use Rattle.layout.specs.Counters.{cycle_of, plain_digits, whole_count, count_of}

-- a cycle, left-justified
pub cycle_back : (c : ℕ) → 1 ≤ c → c ≤ 999999 → cycle_of (left_digits c (spaces 6)) ≡ Some (record { 0 = c })
unfolding cycle_of left_digits among_spaces width
cycle_back c a b =
    let w : width_in 9 c ≤ 6 = width_fits 9 c 5 (omega arith) (omega arith) in
    rw (
      le-leb (width_in 9 c) 6 w,
      spelled_back 1 6 (width_in 9 c) c (6 - (0 + width_in 9 c)) (width_some 9 c) w (omega arith) (width_holds 9 c (omega arith)),
      le-ltb c 1 a,
      le-ltb 999999 c b,
    )

-- the digits of a count have no zero before them
plain : (n : ℕ) → n ≤ 999999999 → plain_digits (digits (width_in 9 n) n) ≡ true
plain zero h = refl
plain (suc n) h =
    let d = digits (width_in 9 (suc n)) (suc n) in
    rw (digits_all (width_in 9 (suc n)) (suc n), width_first 9 (suc n) (omega arith) (omega arith)) (go (eqb (length d) 1))
  where
    go : (b : Bool) → b || true ≡ true
    go true = refl
    go false = refl

-- they are read back
whole_back : (n : ℕ) → n ≤ 999999999 → whole_count (digits (width_in 9 n) n) ≡ Some (record { 0 = n })
unfolding whole_count
whole_back n h =
    let w : width_in 9 n ≤ 9 = width_fits 9 n 8 (omega arith) (omega arith) in
    let d = digits (width_in 9 n) n in
    rw (
      plain n h,
      ← append-nil d,
      spelled_back 1 9 (width_in 9 n) n 0 (width_some 9 n) w (omega arith) (width_holds 9 n (omega arith)),
    )

-- a count, right-justified
pub count_back : (n : ℕ) → n ≤ 999999999 → count_of (right_digits n (spaces 9)) ≡ Some (record { 0 = n })
unfolding count_of right_digits among_spaces width
count_back n h =
    let w : width_in 9 n ≤ 9 = width_fits 9 n 8 (omega arith) (omega arith) in
    let d = digits (width_in 9 n) n in
    let a = 9 - width_in 9 n in
    let z : 9 - (a + width_in 9 n) ≡ 0 = omega arith in
    let s : length (spaces a) ≡ a = length-replicate a 32 in
    let e : run_of Space (spaces a ++ d) ≡ a =
    run_append Space (spaces a) d (blank_spaces a) ∙ rw (no_spaces d (digits_all (width_in 9 n) n), s) (add-zero a) in
    rw (le-leb (width_in 9 n) 9 w, z, append-nil d, e, drop_at (spaces a) d a s) (whole_back n h)

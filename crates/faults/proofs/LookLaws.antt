-- The look at a whole line: what a field that is seen to be good says of the fault.
-- Assumes nothing.
use mathlib.Core.Path.{◌≡◌, ◌∙◌, refl, sym, ap}
use mathlib.Core.Bool.{Bool, true, false}
use mathlib.Core.List.{List}
use Prim.Native.Nat.{ℕ, ◌+◌, ◌*◌, ◌≤◌, ◌<◌}
use native.Mathlib.Omega.{arith}
use lib.Dec.{leb}
use lib.ListN.{length, drop, get_or}
use borrow.Author.Tests.{leb-true, le-ltb}
use Rattle.std.specs.Prelude.{Some}
use Rattle.text.specs.declared.Class.TheVariants.{Printable}
use Rattle.text.specs.Text.{all_in, there}
use Rattle.layout.specs.Tables.{guide_row, start_of, size_of, field}
use Rattle.layout.specs.Tables.{low, high, parity, row_community, row_esn}
use Rattle.layout.specs.Fields.{low_of, high_of, parity_of, allows}
use Rattle.layout.specs.Rules.{is_whole, end_fault, high_fault, parity_fault, rule_by, fault_by, fault_in}
use Rattle.faults.specs.Look.{fault_from}
use Rattle.layout.proofs.LineLaws.{part_whole, fault_passed, fault_none}

pub there_le : (s : List ℕ) (i n : ℕ) → there i n s ≡ true → i + n ≤ length s
there_le s i n h = leb-true (i + n) (length s) h

-- ---- from one field of a table to the next

module _ (t : List ℕ) (k : ℕ) (lax : Bool) (s : List ℕ) (b : 3 * k + 2 < length t) where
  pub field_passed : fault_by (get_or t (3 * k) 0) (size_of t k) (get_or t (3 * k + 2) 0) lax s (field t k s) ≡ 0
      → fault_from k lax s t ≡ fault_from (k + 1) lax s t
  unfolding fault_from
  field_passed z =
      let e : 3 * k + 3 ≡ 3 * (k + 1) = omega arith in
      sym (fault_passed lax s t (3 * k) refl b z) ∙ ap (λ j. fault_in lax s (drop j t)) e

  -- f is the fault of the field by its rule alone
  pub field_good : {f : ℕ} → there (start_of t k) (size_of t k) s ≡ true → all_in Printable s ≡ true
      → f ≡ rule_by (get_or t (3 * k) 0) (get_or t (3 * k + 2) 0) lax s (field t k s)
      → f ≡ 0 → fault_from k lax s t ≡ fault_from (k + 1) lax s t
  unfolding fault_by
  field_good h p e z =
      let i = start_of t k in
      let n = size_of t k in
      let l = there_le s i n h in
      field_passed (rw (part_whole s i n (omega (arith, l)) (omega (arith, l)) p) (sym e ∙ z))

-- behind the last field
pub past_end : (k : ℕ) (lax : Bool) (s t : List ℕ) → length t ≤ 3 * k → fault_from k lax s t ≡ 0
unfolding fault_from
past_end k lax s t h = sym (fault_none lax s t (3 * k) refl (omega (arith, h)))

-- ---- the range of a row, whose parity lies behind both ends

module _ (s : List ℕ) (h : there (start_of guide_row parity) 1 s ≡ true) (p : all_in Printable s ≡ true) where
  whole : (k : ℕ) → leb (start_of guide_row k + size_of guide_row k) (start_of guide_row parity + 1) ≡ true
      → is_whole (size_of guide_row k) (field guide_row k s) ≡ true
  whole k e =
      let i = start_of guide_row k in
      let n = size_of guide_row k in
      let a = leb-true (i + n) (start_of guide_row parity + 1) e in
      let b = there_le s (start_of guide_row parity) 1 h in
      part_whole s i n (omega (arith, a, b)) (omega (arith, a, b)) p

  module _ {x y : ℕ} (a : low_of s ≡ Some x) (b : high_of s ≡ Some y) where
    low_good : fault_from low false s guide_row ≡ fault_from high false s guide_row
    unfolding low_of end_fault fault_by
    low_good = field_passed guide_row low false s (omega arith) (rw (whole low refl, a))

    high_good : x ≤ y → fault_from high false s guide_row ≡ fault_from row_community false s guide_row
    unfolding high_fault fault_by
    high_good o = field_passed guide_row high false s (omega arith) (rw (whole high refl, b, a, le-ltb y x o))

    pub ends_good : x ≤ y → fault_from low false s guide_row ≡ fault_from row_community false s guide_row
    ends_good o = low_good ∙ high_good o

    pub parity_good : allows (parity_of s) x ≡ true → allows (parity_of s) y ≡ true
        → fault_from parity false s guide_row ≡ fault_from row_esn false s guide_row
    unfolding parity_fault fault_by
    parity_good u v = field_passed guide_row parity false s (omega arith) (rw (whole parity refl, a, b, u, v))

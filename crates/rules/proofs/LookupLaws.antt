-- How large the numbers are that a lookup answers with.
-- Assumes nothing.
use Rattle.std.specs.Prelude.{Option, Some, None}
use Prim.Native.Nat.{ℕ, ◌/◌, ◌%◌, ◌≤◌}
use mathlib.Core.Path.{◌≡◌, refl}
use mathlib.Core.List.{List}
use mathlib.Core.Bool.{Bool, true, false, ◌&&◌, cond}
use lib.Dec.{leb, eqb}
use native.Mathlib.Omega.{arith}
use borrow.Author.Tests.{leb-true}
use lib.ListN.{length}
use Rattle.text.proofs.Laws.{and_left, and_right}
use Rattle.rules.specs.declared.Seen.{Seen}
use Rattle.text.specs.Text.{same_bytes, on_some}
use Rattle.layout.specs.Fields.{number_of}
use Rattle.rules.specs.Slots.{record_of, slots, slot_at, state_of, slot_size, good_length, is_used}
use Rattle.rules.specs.Records.{has_number, find_number, state_in}
use Rattle.rules.specs.Lookups.{is_number, unseen, seen_in, seen}
use Rattle.rules.proofs.WalkLaws.{find_some, walked_le}

pub record Bounded (s : Seen) : Type 0 where
  pub refusal : s.refusal ≤ 10
  pub state : s.state ≤ 3
  pub slot : s.slot ≤ 4095
  pub looked : s.looked ≤ 4096

-- a register of good length has at most 4096 slots
pub long_few : (R : List ℕ) → good_length slot_size R ≡ true → slots R ≤ 4096
unfolding good_length
long_few R g =
    let n = length R / 520 in
    leb-true n 4096
    (and_right (leb 1 n) (leb n 4096) (and_right (eqb (length R % 520) 0) (leb 1 n && leb n 4096) g))

-- the state and the place of what is found
state_small : (R n : List ℕ) (m : Option ℕ) → find_number n R ≡ m → state_in R m ≤ 3
unfolding find_number has_number
state_small R n None e = omega arith
state_small R n (Some i) e =
    let b = state_of (slot_at R i) in
    let h = (find_some (has_number n R) (slots R) i e).1 in
    leb-true b 3 (and_right (leb 1 b) (leb b 3) (and_left (is_used b) (same_bytes (number_of (record_of (slot_at R i))) n) h))

slot_small : (R n : List ℕ) (m : Option ℕ) → find_number n R ≡ m → slots R ≤ 4096 → on_some m 0 (λ i. i) ≤ 4095
unfolding find_number
slot_small R n None e few = omega arith
slot_small R n (Some i) e few =
    let within = (find_some (has_number n R) (slots R) i e).0 in
    omega arith

-- what is seen in a register of at most 4096 slots
seen_in_bounded : (R n : List ℕ) → slots R ≤ 4096 → Bounded (seen_in R n)
unfolding seen_in
seen_in_bounded R n few =
    let w = walked_le (has_number n R) (slots R) in
    record {
      refusal = omega arith;
      state = state_small R n (find_number n R) refl;
      slot = slot_small R n (find_number n R) refl few;
      looked = omega arith;
    }

unseen_bounded : (k : ℕ) → k ≤ 10 → Bounded (unseen k)
unseen_bounded k small = record { refusal = small; state = omega arith; slot = omega arith; looked = omega arith }

pub seen_bounded : (R n : List ℕ) → Bounded (seen R n)
unfolding seen
seen_bounded R n = go (good_length slot_size R) refl (is_number n)
  where
    go : (g : Bool) → good_length slot_size R ≡ g → (t : Bool)
        → Bounded (cond g (cond t (seen_in R n) (unseen 10)) (unseen 1))
    go true e true = seen_in_bounded R n (long_few R e)
    go true e false = unseen_bounded 10 (omega arith)
    go false e t = unseen_bounded 1 (omega arith)

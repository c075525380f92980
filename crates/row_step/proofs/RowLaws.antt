-- A row that has a code has the bytes of a row.
-- Assumes nothing.
use Rattle.std.specs.Prelude.{Some}
use mathlib.Core.Path.{◌≡◌}
use mathlib.Core.List.{List}
use Prim.Native.Nat.{ℕ}
use native.Mathlib.Omega.{arith}
use lib.ListN.{length, replicate}
use Rattle.std.proofs.lemmas.Bool.Decides.{nat_tests}
use Rattle.rules.specs.declared.RowCode.TheVariants.{Insert}
use Rattle.rules.specs.Slots.{free_row_slot}
use Rattle.rules.specs.Rows.{row_code_of}
use Rattle.rules.proofs.PlaceLaws.{place_back, place_part}
use Rattle.rules.proofs.SlotLaws.{row_written_lem, length_row_slot_at}

pub row_whole : (g : List ℕ) → row_code_of g ≡ (Some Insert) → length g ≡ 200
unfolding row_code_of
row_whole g e = grind (arith, nat_tests)

-- as many zeros as a slot has bytes are the free slot
pub cleared : (s : List ℕ) → length s ≡ 208 → replicate (length s) 0 ≡ free_row_slot
unfolding free_row_slot
cleared s h = rw h

-- what the two writes cite
pub ruleset writing = (place_back, place_part, row_written_lem, length_row_slot_at)

pub ruleset clearing = (place_back, place_part, cleared, length_row_slot_at)

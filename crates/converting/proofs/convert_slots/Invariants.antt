-- The first i slots are converted and the length stays. The turn is the definition's own step: place_back makes the lent part that comes
-- back the slot of with_slot, place_part the part that was lent slot i. At the end i is n.
use Prim.Native.Nat.{◌≤◌}
use mathlib.Core.Path.{◌≡◌}
use lib.ListN.{length}
use Rattle.rules.specs.Converts.{converted_to}
use Rattle.converting.proofs.convert_slots.Given as goal

abbrev pub invariant-loop-i : goal.invariant-loop-i
invariant-loop-i l =
    (l.i ≤ l.n) × (length l.register ≡ length l.initial.register) × (l.register ≡ converted_to l.initial.register l.i)

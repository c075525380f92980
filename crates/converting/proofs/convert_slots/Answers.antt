-- The first i slots are converted and the length stays. The turn is the definition's own step: place_back makes the lent part that comes
-- back the slot of with_slot, place_part the part that was lent slot i. At the end i is n.
use Prim.Native.Nat.{ℕ, ◌+◌, ◌*◌, ◌-◌}
use mathlib.Core.Path.{◌≡◌, refl, ap, ◌∙◌}
use mathlib.Core.List.{List, ◌++◌}
use native.Mathlib.Numerals.{add-one}
use native.Mathlib.Omega.{arith}
use lib.ListN.{take, drop}
use borrow.Author.Rules.{rules}
use Rattle.rules.specs.Slots.{with_slot}
use Rattle.rules.specs.Converts.{converted_slot, converted_to}
use Rattle.rules.proofs.PlaceLaws.{place_back, place_part}
use Rattle.converting.proofs.convert_slots.Goals as goal

-- one turn: the slot that was lent comes back converted
turn : (R S : List ℕ) (i : ℕ) (b : List ℕ) → S ≡ converted_to R i
    → b ≡ converted_slot (take (i * 520 + 520 - i * 520) (drop (i * 520) S))
    → take (i * 520) S ++ (b ++ drop (i * 520 + 520 - i * 520) (drop (i * 520) S)) ≡ converted_to R (i + 1)
unfolding converted_to
turn R S i b e f =
    place_back 520 S i b ∙ rw (add-one, ← e) (ap (with_slot S i) (f ∙ ap converted_slot (place_part 520 S i)))

pub loop-i-init : goal.loop-i-init
unfolding converted_to
loop-i-init c = (omega arith, refl, refl)

pub loop-i-preserved : goal.loop-i-preserved
loop-i-preserved c =
    let register = c.args.register.now in
    (omega arith, search rules, turn register c.loop-i.register c.loop-i.i c.convert_slot.new.slot c.loop-i.invariant.2 c.convert_slot.ensures)

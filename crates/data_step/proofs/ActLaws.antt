-- Where an act writes lies in the register, and what it stores is a whole record.
-- Assumes nothing.
use Rattle.std.specs.Option.{option_or}
use Rattle.std.specs.Prelude.{◌≡◌, ◌<◌, ℕ, List, length, Option, Some, None}
use Rattle.std.proofs.Common.{arith}
use Rattle.calendar.specs.declared.Day.{Day}
use Rattle.std.proofs.lemmas.Bool.Decides.{nat_tests}
use Rattle.rules.specs.declared.Code.{Code}
use Rattle.rules.specs.Slots.{slots}
use Rattle.rules.specs.Records.{find_number, find_free, find_reusable, find_spare, filed_of}
use Rattle.rules.proofs.WalkLaws.{find_some}
use Rattle.rules.proofs.PlaceLaws.{place_back, place_part}
use Rattle.rules.proofs.SlotLaws.{restated_slot, written_slot, length_slot_at}
use Rattle.register.proofs.ShownLaws.{shown_length}

in_either : (o q : Option ℕ) (n i : ℕ) → ((j : ℕ) → o ≡ Some j → j < n) → ((j : ℕ) → q ≡ Some j → j < n)
    → option_or o q ≡ Some i → i < n
in_either (Some j) q n i f g e = f i e
in_either None q n i f g e = g i e

-- the number's own slot, or a spare one
pub slot_within : (n R : List ℕ) (today : Day) (i : ℕ) → option_or (find_number n R) (find_spare today R) ≡ Some i → i < slots R
unfolding find_number find_spare find_free find_reusable
slot_within n R today i =
    in_either (find_number n R) (find_spare today R) (slots R) i (λ j e. (find_some _ _ j e).0)
    (λ j. in_either (find_free R) (find_reusable today R) (slots R) j (λ l e. (find_some _ _ l e).0) (λ l e. (find_some _ _ l e).0))

-- a record with a code has 512 bytes
pub filed_whole : (r : List ℕ) (c : Code) (d : Day) → filed_of r ≡ Some (c, d) → length r ≡ 512
unfolding filed_of
filed_whole r c d e = grind (arith, nat_tests)

-- what the two writes cite
pub ruleset storing = (place_back, place_part, written_slot, shown_length, length_slot_at)

pub ruleset restating = (place_back, place_part, restated_slot, length_slot_at)

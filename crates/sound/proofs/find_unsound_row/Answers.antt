-- By sought_by what seek finds is what the walk of is_row_unsound finds, since the test that it is lent answers as that does; unsound_row_slot asks
-- it of each slot.
use borrow.Author.Rules.{rules}
use Rattle.rules.specs.Slots.{unsound_row_slot, is_row_unsound}
use Rattle.walks.proofs.SeekLaws.{sought_by}
use Rattle.sound.proofs.find_unsound_row.Goals as goal

pub returns : goal.returns
unfolding unsound_row_slot
returns c = sought_by is_row_unsound (λ s b a. search rules) c.seek.ensures

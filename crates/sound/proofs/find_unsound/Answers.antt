-- By sought_by what seek finds is what the walk of is_unsound_by finds, since the test that it is lent answers as that does; unsound_by asks
-- it of each slot.
use borrow.Author.Rules.{rules}
use Rattle.rules.specs.Slots.{unsound_by, is_unsound_by}
use Rattle.walks.proofs.SeekLaws.{sought_by}
use Rattle.sound.proofs.find_unsound.Goals as goal

pub returns : goal.returns
unfolding unsound_by
returns c = sought_by (is_unsound_by c.args.reading) (λ s b a. search rules) c.seek.ensures

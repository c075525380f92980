-- By sought_by what seek finds is what the walk of is_later_entry finds, since the test that it is lent answers as that does; later_at asks it of
-- each slot.
use borrow.Author.Rules.{rules}
use Rattle.rules.specs.Loads.{later_at, is_later_entry}
use Rattle.walks.proofs.SeekLaws.{sought_by}
use Rattle.loading.proofs.find_later.Goals as goal

pub returns : goal.returns
unfolding later_at
returns c = sought_by (is_later_entry c.args.day) (λ s b a. search rules) c.seek.ensures

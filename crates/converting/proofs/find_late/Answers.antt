-- By sought_by what seek finds is what the walk of is_late finds, since the test that it is lent answers as that does; late_at asks it of
-- each slot.
use borrow.Author.Rules.{rules}
use Rattle.rules.specs.Converts.{late_at, is_late}
use Rattle.walks.proofs.SeekLaws.{sought_by}
use Rattle.converting.proofs.find_late.Goals as goal

pub returns : goal.returns
unfolding late_at
returns c = sought_by is_late (λ s b a. search rules) c.seek.ensures

-- By sought_by what seek finds is what the walk of is_vacant finds, since the test that it is lent
-- answers as is_vacant does; vacant_at asks that of each slot.
use borrow.Author.Rules.{rules}
use Rattle.rules.specs.Rows.{vacant_at}
use Rattle.rules.specs.Slots.{is_vacant}
use Rattle.walks.proofs.SeekLaws.{sought_by}
use Rattle.guide.proofs.find_vacant.Goals as goal

pub returns : goal.returns
unfolding vacant_at
returns c = sought_by is_vacant (λ s b a. search rules) c.seek.ensures

-- By sought_by what seek finds is what the walk of is_reusable finds, since the test that it is lent
-- answers as is_reusable does; reusable_at asks that of each slot.
use borrow.Author.Rules.{rules}
use Rattle.rules.specs.Records.{reusable_at, is_reusable}
use Rattle.walks.proofs.SeekLaws.{sought_by}
use Rattle.register.proofs.find_reusable.Goals as goal

pub returns : goal.returns
unfolding reusable_at
returns c = sought_by (is_reusable c.args.today) (λ s b a. search rules) c.seek.ensures

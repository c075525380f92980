-- By sought_by what seek finds is what the walk of is_of finds, since the test that it is lent
-- answers as is_of does; has_number asks that of each slot.
use borrow.Author.Rules.{rules}
use Rattle.rules.specs.Records.{has_number, is_of}
use Rattle.walks.proofs.SeekLaws.{sought_by}
use Rattle.register.proofs.find_number.Goals as goal

pub returns : goal.returns
unfolding has_number
returns c = sought_by (is_of c.args.number.now) (λ s b a. search rules) c.seek.ensures

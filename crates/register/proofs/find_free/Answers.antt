-- By sought_by what seek finds is what the walk of is_free_slot finds, since the test that it is lent
-- answers as is_free_slot does; free_at asks that of each slot.
use borrow.Author.Rules.{rules}
use Rattle.rules.specs.Records.{free_at, is_free_slot}
use Rattle.walks.proofs.SeekLaws.{sought_by}
use Rattle.register.proofs.find_free.Goals as goal

pub returns : goal.returns
unfolding free_at
returns c = sought_by is_free_slot (λ s b a. search rules) c.seek.ensures

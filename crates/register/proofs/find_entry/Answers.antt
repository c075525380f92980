-- By sought_by what seek finds is what the walk of is_entry_under finds, since the test that it is lent
-- answers as is_entry_under does; entry_under asks that of each slot.
use borrow.Author.Rules.{rules}
use Rattle.rules.specs.Rows.{entry_under, is_entry_under}
use Rattle.walks.proofs.SeekLaws.{sought_by}
use Rattle.register.proofs.find_entry.Goals as goal

pub returns : goal.returns
unfolding entry_under
returns c = sought_by (is_entry_under c.args.row.now) (λ s b a. search rules) c.seek.ensures

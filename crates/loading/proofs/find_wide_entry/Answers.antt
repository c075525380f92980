-- By sought_by what seek finds is what the walk of is_wide_entry finds, since the test that it is lent answers as that does; wide_at
-- asks it of each slot.
use borrow.Author.Rules.{rules}
use Rattle.versions.specs.declared.Version.TheVariants.{One}
use Rattle.rules.specs.Loads.{wide_at, is_wide_entry}
use Rattle.walks.proofs.SeekLaws.{sought_by}
use Rattle.loading.proofs.find_wide_entry.Goals as goal

pub returns : goal.returns
unfolding wide_at
returns c = sought_by (is_wide_entry One) (λ s b a. search rules) c.seek.ensures

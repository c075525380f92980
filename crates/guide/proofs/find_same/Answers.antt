-- A row of another street than g's fails the test by same_not, so by sought_on what seek_on finds is what the walk of
-- is_same_by finds, and same_at asks that of each slot.
use borrow.Author.Rules.{rules}
use Rattle.rules.specs.Rows.{same_at, is_same_by}
use Rattle.guide.proofs.StreetLaws.{sought_on, same_not}
use Rattle.guide.proofs.find_same.Goals as goal

pub returns : goal.returns
unfolding same_at
returns c =
    let g = c.args.g.now in
    sought_on c.row_street.result.now (is_same_by g) (λ s b a. search rules)
    (λ s e. same_not g s (rw c.row_street.ensures at e)) c.seek_on.ensures

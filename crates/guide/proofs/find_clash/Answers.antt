-- A row of another street than g's fails the test by clash_not, so by sought_on what seek_on finds is what the walk of
-- clashes_by finds, and clash_at asks that of each slot.
use borrow.Author.Rules.{rules}
use Rattle.rules.specs.Rows.{clash_at, clashes_by}
use Rattle.guide.proofs.StreetLaws.{sought_on, clash_not}
use Rattle.guide.proofs.find_clash.Goals as goal

pub returns : goal.returns
unfolding clash_at
returns c =
    let g = c.args.g.now in
    sought_on c.row_street.result.now (clashes_by g) (λ s b a. search rules)
    (λ s e. clash_not g s (rw c.row_street.ensures at e)) c.seek_on.ensures

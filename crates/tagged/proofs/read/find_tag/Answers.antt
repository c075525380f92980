-- A row that has the pair's three letters is the one row of its label (tag_hit), and the walk over all rows tests the letters of each
-- (tag_sought). A pair of fewer bytes than three has no label (tag_short).
use Rattle.std.proofs.Common.{sym, ◌∙◌, arith}
use Rattle.tagged.proofs.RowLaws.{tag_short, tag_hit, tag_sought}
use Rattle.tagged.proofs.read.find_tag.Goals as goal

pub returns-then-pair-lt-LETTERS : goal.returns-then-pair-lt-LETTERS
returns-then-pair-lt-LETTERS c = tag_short c.args.pair.now c.if-pair-lt-LETTERS.true

pub returns-then-has : goal.returns-then-has
returns-then-has c =
    tag_hit c.args.pair.now c.if-pair-lt-LETTERS.false (λ i. omega (arith, c.type_inv.pair i)) c.args.next c.row_at.result.now
    c.if-next-lt-COUNT.true c.row_at.ensures (sym c.has.ensures ∙ c.if-has.true)

pub returns : goal.returns
returns c =
    tag_sought c.args.pair.now c.if-pair-lt-LETTERS.false (λ i. omega (arith, c.type_inv.pair i)) c.find.result c.find.ensures

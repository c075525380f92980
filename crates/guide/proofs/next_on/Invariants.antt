-- Every row from i to below j is of another street. Where may_be_on says false it promises just that of row j (elsewhere_more), and at
-- either exit the invariant is the promise.
use Rattle.guide.specs.Streets.{Elsewhere}
use Rattle.guide.proofs.next_on.Given as goal

abbrev pub invariant-loop-j : goal.invariant-loop-j
invariant-loop-j l = Elsewhere l.street l.guide l.i l.j

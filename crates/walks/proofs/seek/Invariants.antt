-- No place below i passed. What the test answered of the bytes lent to it is an answer at place i by says_at and place_part: a miss
-- is none_more's, a hit sought_hit's.
use Rattle.std.specs.Fn.{FnReturnsAt}
use Rattle.walks.specs.Seeking.{NonePassed}
use Rattle.walks.proofs.seek.Given as goal

abbrev pub invariant-loop-i : goal.invariant-loop-i
invariant-loop-i g l = NonePassed (FnReturnsAt g.F.Fn l.passes) g.row.SIZE l.store l.i

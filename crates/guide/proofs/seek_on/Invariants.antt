-- No row below i passed or could have, and n - i falls. Rows that next_on skips are of another street, so passed_on moves i over them;
-- what the test says of the others is an answer at row i by says_at and place_part: a miss is none_more's, a hit sought_hit's.
use Prim.Native.Nat.{◌≤◌, ◌-◌}
use Rattle.std.specs.Fn.{FnReturnsAt}
use Rattle.walks.specs.Seeking.{NonePassed}
use Rattle.guide.specs.Streets.{AnswersOn}
use Rattle.guide.proofs.seek_on.Given as goal

abbrev pub invariant-loop-i : goal.invariant-loop-i
invariant-loop-i g l = (l.i ≤ l.n) × NonePassed (AnswersOn l.street (FnReturnsAt g.F.Fn l.passes)) 208 l.guide l.i

abbrev pub decreases-loop-i : goal.decreases-loop-i
decreases-loop-i g l = l.n - l.i

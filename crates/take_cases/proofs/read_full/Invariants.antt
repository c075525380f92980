-- The bytes that came lie within the buffer: a read gives at most as many as the part that it is lent holds. A turn that goes on read
-- at least one byte, so what is left of the buffer falls.
use Rattle.std.proofs.Common.{length, ◌-◌, ◌≤◌}
use Rattle.take_cases.proofs.read_full.Given as goal

abbrev pub invariant-loop-n : goal.invariant-loop-n
invariant-loop-n g l = l.n ≤ length l.input

abbrev pub decreases-loop-n : goal.decreases-loop-n
decreases-loop-n g l = length l.input - l.n

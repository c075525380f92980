-- Each time takes its bytes off the front of what is left: no more is left than at first.
use Rattle.std.proofs.Common.{◌≤◌, length}
use Rattle.take_cases.proofs.read.put_times.Given as goal

abbrev pub invariant-loop : goal.invariant-loop
invariant-loop l = length l.room.now ≤ length l.fn.room.now

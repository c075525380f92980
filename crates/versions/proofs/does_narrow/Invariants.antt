-- all is the test of the first k fields; a turn is all_to's own step, at the bytes that part_of lends. A tail starts within 512 bytes, and
-- a field is no longer in Version 1: so the sum and the difference fit (tail_start, shorter).
use Rattle.std.proofs.Common.{◌≡◌}
use Rattle.versions.specs.Versions.{all_to, tail_blank}
use Rattle.versions.proofs.does_narrow.Given as goal

abbrev pub invariant-loop-k : goal.invariant-loop-k
invariant-loop-k l = l.all ≡ all_to (tail_blank l.rec) l.k

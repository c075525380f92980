-- The records of the first i slots stand one behind the other up to `at`, and the old bytes from there on (Laid). laid_room finds room for
-- the next, as no more entries lie below i + 1 than in all; laid_more is the turn, laid_all the end.
use Rattle.loading.proofs.WriteLaws.{Laid}
use Rattle.loading.proofs.write_lines.Given as goal

abbrev pub invariant-loop-i : goal.invariant-loop-i
invariant-loop-i l = Laid l.version l.register l.initial.out l.i l.at l.out

-- The step's calls at the first i lines answered what stands in the first i answer bytes, and done of them are 0 (Answering).
-- answering_more is one turn more; done <= i keeps the count in 32 bits.
use Rattle.taking.proofs.LoopLaws.{Answering}
use Rattle.taking.proofs.apply.answer_lines.Given as goal

abbrev pub invariant-loop-i : goal.invariant-loop-i
invariant-loop-i g l = Answering (goal.F-step g) l.initial.step l.initial.answers l.n l.i l.step l.answers l.done

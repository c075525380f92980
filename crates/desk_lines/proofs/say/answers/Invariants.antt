-- The first i answers stand at the start, nine bytes each (answers_length), and the rest is as it was. answers_more writes the next line
-- behind them, and answers_room keeps the length, so that it has its place.
use mathlib.Core.Path.{◌≡◌}
use Rattle.desk_rules.specs.Served.{over}
use Rattle.desk_rules.specs.Desk.{answers_said}
use Rattle.desk_lines.proofs.say.answers.Given as goal

abbrev pub invariant-loop-i : goal.invariant-loop-i
invariant-loop-i l = l.out ≡ over (answers_said l.given l.i) l.initial.out

-- What is left at a turn is the line without some of the spaces at its end: without all of them it is what the line is. It grows shorter.
use mathlib.Core.Path.{◌≡◌}
use lib.ListN.{length}
use Rattle.text.specs.Text.{trim_of}
use Rattle.text.proofs.trimmed.Given as goal

abbrev pub invariant-loop-last : goal.invariant-loop-last
invariant-loop-last l = trim_of l.left ≡ trim_of l.f

abbrev pub decreases-loop-last : goal.decreases-loop-last
decreases-loop-last l = length l.left

-- As in all_in, with the comparison of a byte with b for the test: `all` and the rest make all_equal of the whole.
use mathlib.Core.Path.{◌≡◌}
use mathlib.Core.Bool.{◌&&◌}
use lib.ListN.{drop}
use Rattle.text.specs.Text.{all_equal}
use Rattle.text.proofs.all_equal.Given as goal

abbrev pub invariant-loop-c : goal.invariant-loop-c
invariant-loop-c l = (l.all && all_equal l.b (drop l.c-index l.f)) ≡ all_equal l.b l.f

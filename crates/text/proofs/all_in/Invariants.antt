-- `all` is the answer for the bytes that were passed: with all_in of the rest it makes that of the whole, as in_class promises the test of
-- the byte that is taken in; of nothing left all_in is true.
use mathlib.Core.Path.{◌≡◌}
use mathlib.Core.Bool.{◌&&◌}
use lib.ListN.{drop}
use Rattle.text.specs.Text.{all_in}
use Rattle.text.proofs.all_in.Given as goal

abbrev pub invariant-loop-c : goal.invariant-loop-c
invariant-loop-c l = (l.all && all_in l.k (drop l.c-index l.f)) ≡ all_in l.k l.f

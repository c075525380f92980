-- The first k fields are written and the rest is blank. A turn is written_put, at the spans of field k in both versions.
use Rattle.std.proofs.Common.{◌≡◌, ◌-◌}
use mathlib.Core.List.{◌++◌}
use Rattle.text.specs.Text.{spaces}
use Rattle.versions.specs.Versions.{table_of, end_of, move_to}
use Rattle.versions.proofs.moved.Given as goal

abbrev pub invariant-loop-k : goal.invariant-loop-k
invariant-loop-k g l =
    l.out ≡ move_to (table_of l.fn.from) (table_of l.fn.to) l.rec l.k ++ spaces (g.row.N - end_of (table_of l.fn.to) l.k)

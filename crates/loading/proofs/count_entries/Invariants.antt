-- entries is the count of entries among the first i slots, no more than i: slot i, which the lent bytes are by place_part, adds 0 or 1.
use Prim.Native.Nat.{◌≤◌}
use mathlib.Core.Path.{◌≡◌}
use Rattle.rules.specs.Walks.{count}
use Rattle.rules.specs.Loads.{entry_at}
use Rattle.loading.proofs.count_entries.Given as goal

abbrev pub invariant-loop-i : goal.invariant-loop-i
invariant-loop-i l = (l.entries ≡ count (entry_at l.register) l.i) × (l.entries ≤ l.i)

-- n is spelled by the digits that were passed, b-index of them, and below 10 ^ b-index; carried on over the rest it gives the whole value.
use mathlib.Core.Path.{◌≡◌}
use Prim.Native.Nat.{◌^◌, ◌<◌}
use lib.ListN.{drop}
use Rattle.text.specs.Text.{value_from, value_of}
use Rattle.text.proofs.value.Given as goal

abbrev pub invariant-loop-b : goal.invariant-loop-b
invariant-loop-b l = (l.n < 10 ^ l.b-index) × (value_from l.n (drop l.b-index l.f) ≡ value_of l.f)

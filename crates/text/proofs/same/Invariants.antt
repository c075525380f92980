-- The bytes before i agree, and then those before j, so what is left decides; length - i falls by 8.
use mathlib.Core.Path.{◌≡◌}
use Prim.Native.Nat.{◌≤◌, ◌-◌}
use lib.ListN.{length, drop}
use Rattle.text.specs.Text.{same_bytes}
use Rattle.text.proofs.same.Given as goal

abbrev pub invariant-loop-i : goal.invariant-loop-i
invariant-loop-i l =
    (l.i ≤ length l.a) × (length l.b ≡ length l.a) × (same_bytes (drop l.i l.a) (drop l.i l.b) ≡ same_bytes l.a l.b)

abbrev pub decreases-loop-i : goal.decreases-loop-i
decreases-loop-i l = length l.a - l.i

abbrev pub invariant-loop-j : goal.invariant-loop-j
invariant-loop-j l = (length l.b ≡ length l.a) × (same_bytes (drop l.j l.a) (drop l.j l.b) ≡ same_bytes l.a l.b)

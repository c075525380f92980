-- The first i bytes are the line's and the others as they were: front_more adds byte i, which bytes_at reads off the pair. The guard is
-- decoded's own test, so other room stays (decoded_not).
use mathlib.Core.Path.{◌≡◌}
use mathlib.Core.List.{◌++◌}
use lib.ListN.{take, drop}
use Rattle.desk_rules.specs.Hex.{bytes_in}
use Rattle.hexadecimal.proofs.decode.Given as goal

abbrev pub invariant-loop-i : goal.invariant-loop-i
invariant-loop-i l = l.bytes ≡ take l.i (bytes_in l.line) ++ drop l.i l.initial.bytes

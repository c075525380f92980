-- The first 2i characters are those of the frame's line and the others as they were. encode_more sets the two of byte i, encode_all the
-- newline at the end. The guard is encoded's own test.
use mathlib.Core.Path.{◌≡◌}
use mathlib.Core.List.{◌++◌}
use Prim.Native.Nat.{◌*◌}
use lib.ListN.{take, drop}
use Rattle.desk_rules.specs.Hex.{line_of}
use Rattle.hexadecimal.proofs.encode.Given as goal

abbrev pub invariant-loop-i : goal.invariant-loop-i
invariant-loop-i l = l.line ≡ take (2 * l.i) (line_of l.frame) ++ drop (2 * l.i) l.initial.line

-- From i on stand the last digits of n, and m spells those still to come: digits i m before them is the whole, and at 0 none is to come.
use mathlib.Core.Path.{◌≡◌}
use mathlib.Core.List.{◌++◌}
use lib.ListN.{length, drop}
use Rattle.text.specs.Text.{digits}
use Rattle.text.proofs.put_digits.Given as goal

abbrev pub invariant-loop-i : goal.invariant-loop-i
invariant-loop-i l = (length l.s ≡ length l.initial.s) × (digits l.i l.m ++ drop l.i l.s ≡ digits (length l.initial.s) l.n)

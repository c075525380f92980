-- The test is that of look_said. Where no number was given the four bytes are fixed; else a state up to 255 is its own low byte.
use mathlib.Core.Path.{◌≡◌}
use Prim.Native.Nat.{◌%◌}
use native.Mathlib.Omega.{arith}
use borrow.Author.Tests.{eq-eqb, ne_eqb}
use Rattle.desk_rules.specs.Desk.{look_said}
use Rattle.desk_lines.proofs.say.seen.Goals as goal

pub returns-then-s-ne0 : goal.returns-then-s-ne0
unfolding look_said
returns-then-s-ne0 c =
    rw (ne_eqb _ _ c.if-s-ne0.true) c.line.ensures

pub returns : goal.returns
unfolding look_said
returns c =
    let s = c.args.s in
    let e : s.state % 256 ≡ s.state = omega (arith, c.requires.0) in
    rw (eq-eqb _ _ c.if-s-ne0.false) (rw (c.low.ensures, e, c.high.ensures, c.low-2.ensures) at c.line-2.ensures)

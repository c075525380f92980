-- n reaches 10 ^ most and not the power behind it, so it has one digit more (width_is).
use native.Mathlib.Omega.{arith}
use Rattle.text.specs.Text.{width}
use Rattle.text.proofs.DigitLaws.{width_is}
use Rattle.text.proofs.width_of.Goals as goal

pub returns-in-Some : goal.returns-in-Some
unfolding width
returns-in-Some c =
    let e = c.in-Some.ensures in
    (width_is 9 c.args.n c.in-Some.most (omega (arith, e.bound)) e.power_le e.next_power_gt, omega (arith, e.bound))

-- The first i answers stand at the start, nine bytes each (answers_length), and the rest is as it was. answers_more writes the next line
-- behind them, and answers_room keeps the length, so that it has its place.
use mathlib.Core.Path.{◌≡◌, ◌∙◌, refl, sym}
use Prim.Native.Nat.{◌<◌}
use native.Mathlib.Omega.{arith}
use lib.ListN.{length-take, length-drop}
use lib.Seq.{length-take-le}
use Rattle.std.proofs.lemmas.List.{get_or-take}
use Rattle.desk_rules.specs.Desk.{answers_said}
use Rattle.desk_rules.proofs.HexLaws.{encoded_is}
use Rattle.desk_rules.proofs.SayLaws.{answers_length, answers_room, answers_more}
use Rattle.desk_lines.proofs.say.answers.Goals as goal

pub loop-i-init : goal.loop-i-init
unfolding answers_said
loop-i-init c = refl

pub loop-i-preserved : goal.loop-i-preserved
loop-i-preserved c =
    let i = c.loop-i.i in
    let n = c.args.n in
    let given = c.args.given.now in
    let out = c.args.out.now in
    let k = length-take-le n given (omega (arith, c.requires.0)) in
    let below : i < n = omega arith in
    let l = answers_room given out i c.loop-i.invariant (omega (arith, c.requires.1)) in
    let e = c.encode.ensures ∙ encoded_is _ _ (simp (length-take, length-drop) (omega (arith, c.requires.1))) in
    answers_more given out i c.loop-i.invariant _ (rw (c.high.ensures, c.low.ensures, get_or-take n given i 0 below) at e)

pub returns : goal.returns
returns c =
    let n = c.args.n in
    let given = c.args.given.now in
    let k = length-take-le n given (omega (arith, c.requires.0)) in
    let e : c.loop-i.i ≡ n = omega arith in
    (sym (answers_length given n), rw (← e) c.loop-i.invariant)

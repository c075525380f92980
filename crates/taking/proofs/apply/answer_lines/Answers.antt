-- The step's calls at the first i lines answered what stands in the first i answer bytes, and done of them are 0 (Answering).
-- answering_more is one turn more; done <= i keeps the count in 32 bits.
use mathlib.Core.Path.{◌≡◌, ap}
use Prim.Native.Nat.{ℕ, ◌+◌}
use native.Mathlib.Omega.{arith}
use Rattle.taking.proofs.LoopLaws.{answering_none, answering_more}
use Rattle.taking.proofs.apply.answer_lines.Goals as goal

pub loop-i-init : goal.loop-i-init
loop-i-init g c = answering_none (goal.F-step g) c.args.step.now c.args.answers.now c.args.n

pub loop-i-preserved : goal.loop-i-preserved
loop-i-preserved g c =
    answering_more (goal.F-step g) c.args.step.now c.args.answers.now c.args.n c.requires.bounds.1 c.loop-i.i c.loop-i.step _
    c.loop-i.answers c.loop-i.done c.step-answer.result _ c.loop-i.invariant c.loop-i-test.true c.step-answer.ensures
    (ap (λ (x : ℕ). c.loop-i.done + x) c.from-done.ensures)

pub returns : goal.returns
returns g c =
    let inv = c.loop-i.invariant in
    let z : c.loop-i.i ≡ c.args.n = omega (arith, inv.within) in
    (inv.given, (rw z at inv.stepped, (omega (arith, inv.few, inv.within), (inv.counted, rw z at inv.answered))))

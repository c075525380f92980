-- By steps_apply the calls at the first n lines are those of line_applied: the step holds the guide, whose loan keeps its name, and only
-- reads what else it holds. So its answers, and what it leaves, are the definition's.
use mathlib.Core.Path.{◌≡◌, refl, sym, ap}
use borrow.Author.Rules.{rules}
use Rattle.rules.specs.declared.Kind.TheVariants.{Guide}
use Rattle.rules.specs.Takes.{Stores, line_applied}
use Rattle.taking.proofs.LoopLaws.{steps_apply}
use Rattle.taking.specs.contracts.apply.fn.apply_rows.step as closure
use Rattle.taking.proofs.apply.apply_rows.Goals as goal

pub returns : goal.returns
unfolding line_applied
returns c =
    let run = c.answer_lines.ensures in
    let s : Stores = record { register = c.args.register.now; guide = c.args.guide.now } in
    let r = steps_apply _ Guide c.args.h c.args.file.now s
    (λ f. record { register = c.args.register.now; guide = (closure.captures f).guide.now })
    (λ f g.
    let m = closure.captures f in
    let l = closure.captures g in
    (l.guide.ghost_name ≡ m.guide.ghost_name) × (l.register.now ≡ c.args.register.now) × (l.h ≡ c.args.h)
    × (l.file.now ≡ c.args.file.now)) _
    (λ e g i a k q. search rules) (refl, refl, refl, refl) refl _ _ _ run.1.0 in
    let name = sym r.0.0 in
    let last = ap (λ (x : Stores). x.guide) r.1.1 in
    let zeros = run.1.1.1.0 in
    let left = run.1.1.1.1 in
    (run.1.1.0, (rw r.1.0 at zeros, (search rules, rw r.1.0 at left)))

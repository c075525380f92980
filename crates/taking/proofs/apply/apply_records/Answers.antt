-- By steps_apply the calls at the first n lines are those of line_applied: the step holds the register, whose loan keeps its name, and only
-- reads what else it holds. So its answers, and what it leaves, are the definition's.
use mathlib.Core.Path.{◌≡◌, refl, sym, ap}
use borrow.Author.Rules.{rules}
use Rattle.rules.specs.declared.Kind.TheVariants.{Data}
use Rattle.rules.specs.Takes.{Stores, line_applied}
use Rattle.taking.proofs.LoopLaws.{steps_apply}
use Rattle.taking.specs.contracts.apply.fn.apply_records.step as closure
use Rattle.taking.proofs.apply.apply_records.Goals as goal

pub returns : goal.returns
unfolding line_applied
returns c =
    let run = c.answer_lines.ensures in
    let s : Stores = record { register = c.args.register.now; guide = c.args.guide.now } in
    let r = steps_apply _ (Data c.args.version) c.args.h c.args.file.now s
    (λ f. record { register = (closure.captures f).register.now; guide = c.args.guide.now })
    (λ f g.
    let m = closure.captures f in
    let l = closure.captures g in
    (l.register.ghost_name ≡ m.register.ghost_name) × (l.version ≡ c.args.version) × (l.guide.now ≡ c.args.guide.now)
    × (l.h ≡ c.args.h) × (l.kind ≡ Data c.args.version) × (l.file.now ≡ c.args.file.now)) _
    (λ e g i a k q. search rules) (refl, refl, refl, refl, refl, refl) refl _ _ _ run.1.0 in
    let name = sym r.0.0 in
    let last = ap (λ (x : Stores). x.register) r.1.1 in
    let zeros = run.1.1.1.0 in
    let left = run.1.1.1.1 in
    (run.1.1.0, (rw r.1.0 at zeros, (search rules, rw r.1.0 at left)))

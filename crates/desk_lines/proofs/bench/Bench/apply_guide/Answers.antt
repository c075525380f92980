-- taking::apply_guide gets the collected bytes and 325 answers of 0, as guide_take has them; guide_laid lays that take out, the other
-- store as it was. taken_fits bounds refusal and records, as say::taken asks.
use Rattle.std.proofs.Common.{rules, take}
use Rattle.rules.specs.declared.Kind.TheVariants.{Guide}
use Rattle.desk_rules.proofs.DeskLaws.{guide_laid}
use Rattle.desk_rules.proofs.TakenLaws.{taken_fits}
use Rattle.desk_lines.proofs.bench.Bench.apply_guide.Goals as goal

pub taken-requires : goal.taken-requires
taken-requires c =
    let b = c.args.self.now in
    let h = taken_fits Guide (record { register = b.register.now; guide = b.guide.now })
    (take b.marks.collected b.collection.now) b.marks.guide c.apply_guide-taken.ensures.0 c.apply_guide-taken.auto.answers in
    (h.0, (h.1, search rules))

pub returns-clause-acts : goal.returns-clause-acts
returns-clause-acts c =
    let b = c.args.self.now in
    λ l ready. rw c.emptied-self.ensures
    (guide_laid b.marks b.register.now b.guide.now b.collection.now l b.out.now ready _ _ _ _ c.taken.ensures _ c.apply_guide-taken.ensures)

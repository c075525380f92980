-- taking::apply_data gets the collected bytes and 325 answers of 0, as data_take has them; data_laid lays that take out, the other
-- store as it was. taken_fits bounds refusal and records, as say::taken asks.
use Rattle.std.proofs.Common.{rules, take}
use Rattle.versions.specs.declared.Version.TheVariants.{Two}
use Rattle.rules.specs.declared.Kind.TheVariants.{Data}
use Rattle.desk_rules.proofs.DeskLaws.{data_laid}
use Rattle.desk_rules.proofs.TakenLaws.{taken_fits}
use Rattle.desk_lines.proofs.bench.Bench.apply_data.Goals as goal

pub taken-requires : goal.taken-requires
taken-requires c =
    let b = c.args.self.now in
    let h = taken_fits (Data Two) (record { register = b.register.now; guide = b.guide.now })
    (take b.marks.collected b.collection.now) b.marks.register c.apply_data-taken.ensures.0 c.apply_data-taken.auto.answers in
    (h.0, (h.1, search rules))

pub returns-clause-acts : goal.returns-clause-acts
returns-clause-acts c =
    let b = c.args.self.now in
    λ l ready. rw c.emptied-self.ensures
    (data_laid b.marks b.register.now b.guide.now b.collection.now l b.out.now ready _ _ _ _ c.taken.ensures _ c.apply_data-taken.ensures)

-- The desk stays as it is, and say::unread promises the line with its number: said_laid, whatever the line is.
use Rattle.desk_rules.specs.Served.{desk_of}
use Rattle.desk_rules.specs.Desk.{unread_said}
use Rattle.desk_rules.proofs.DeskLaws.{said_laid}
use Rattle.desk_lines.proofs.bench.Bench.unread.Goals as goal

pub returns-clause-acts : goal.returns-clause-acts
unfolding desk_of
returns-clause-acts c =
    let b = c.args.self.now in
    λ l ready. said_laid b.marks b.register.now b.guide.now b.collection.now l b.out.now ready
    (unread_said b.marks.lines) _ _ c.unread.ensures

-- Where all fits within 65424, put writes the bytes behind those collected (collect_laid); where not, the definition too does what unread
-- does (collect_not).
use Rattle.desk_rules.proofs.DeskLaws.{collect_laid, collect_not}
use Rattle.desk_lines.proofs.bench.Bench.collect.Goals as goal

pub returns-then-collected-le-MOST_COLLECTED-clause-acts : goal.returns-then-collected-le-MOST_COLLECTED-clause-acts
returns-then-collected-le-MOST_COLLECTED-clause-acts c =
    let b = c.args.self.now in
    λ l ready. collect_laid b.marks b.register.now b.guide.now b.collection.now l b.out.now ready c.args.bytes.now _
    c.if-collected-le-MOST_COLLECTED.true c.put.ensures

pub returns-clause-acts : goal.returns-clause-acts
returns-clause-acts c =
    let b = c.args.self.now in
    λ l ready. rw (collect_not b.marks b.register.now b.guide.now b.collection.now l b.out.now ready c.args.bytes.now
    c.if-collected-le-MOST_COLLECTED.false) (c.unread.ensures.acts l ready)

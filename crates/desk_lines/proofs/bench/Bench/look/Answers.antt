-- The lookup promises seen of the register, whose state fits a byte (seen_bounded); the desk stays, and say::seen wrote the line
-- (said_laid).
use Rattle.std.proofs.Common.{arith, rules}
use Rattle.rules.specs.Lookups.{seen}
use Rattle.rules.proofs.LookupLaws.{seen_bounded}
use Rattle.desk_rules.specs.Served.{desk_of}
use Rattle.desk_rules.specs.Desk.{look_said, looking}
use Rattle.desk_rules.proofs.DeskLaws.{said_laid}
use Rattle.desk_lines.proofs.bench.Bench.look.Goals as goal

pub seen-requires : goal.seen-requires
seen-requires c =
    let b = seen_bounded c.args.self.now.register.now c.args.number.now in
    rw c.look-seen.ensures (omega (arith, b.state), search rules)

pub returns-clause-acts : goal.returns-clause-acts
unfolding looking desk_of
returns-clause-acts c =
    let b = c.args.self.now in
    let R = b.register.now in
    λ l ready. said_laid b.marks R b.guide.now b.collection.now l b.out.now ready (look_said (seen R c.args.number.now)) _ _
    (rw c.look-seen.ensures at c.seen.ensures)

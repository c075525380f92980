-- The row says which bytes are asked for (formed_at); a label without a form ends the walk by passed_hit.
use Rattle.std.specs.Option.{is_none}
use mathlib.Core.Path.{ap}
use mathlib.Core.Bool.{Bool, true, false}
use Rattle.rules.specs.declared.Sought.{Sought}
use Rattle.rules.proofs.WalkLaws.{passed_none, passed_more, passed_hit}
use Rattle.tag_rules.specs.Writing.{unformed_at}
use Rattle.tagged.proofs.TextLaws.{formed_at}
use Rattle.tagged.proofs.write.are_formed.Goals as goal

abbrev none : Sought → Bool
none s = is_none s.found

pub loop-k-init : goal.loop-k-init
loop-k-init c = passed_none _ 28

pub loop-k-preserved : goal.loop-k-preserved
loop-k-preserved c =
    let rec = c.args.rec.now in
    passed_more (unformed_at rec) 28 c.loop-k.k c.loop-k.invariant c.loop-k-test.true
    (formed_at c.loop-k.k c.row_at-row.result.now c.row_at-row.ensures rec c.field.result.now c.field.ensures c.is_formed.result true
    c.is_formed.ensures c.if-not-is_formed.false)

pub returns-then-not-is_formed : goal.returns-then-not-is_formed
returns-then-not-is_formed c =
    let rec = c.args.rec.now in
    ap none
    (passed_hit (unformed_at rec) 28 c.loop-k.k c.loop-k.invariant c.loop-k-test.true
    (formed_at c.loop-k.k c.row_at-row.result.now c.row_at-row.ensures rec c.field.result.now c.field.ensures c.is_formed.result false
    c.is_formed.ensures c.if-not-is_formed.true))

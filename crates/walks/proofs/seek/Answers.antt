-- No place below i passed. What the test answered of the bytes lent to it is an answer at place i by says_at and place_part: a miss
-- is none_more's, a hit sought_hit's.
use mathlib.Core.Path.{subst}
use mathlib.Core.Bool.{true, false}
use Rattle.std.specs.Fn.{FnReturnsAt}
use Rattle.std.proofs.lemmas.Fn.{says_at}
use Rattle.rules.proofs.PlaceLaws.{place_part}
use Rattle.walks.proofs.SeekLaws.{none_more, sought_hit}
use Rattle.walks.proofs.seek.Goals as goal

pub returns-then-passes : goal.returns-then-passes
returns-then-passes g c =
    sought_hit _ _ _ c.loop-i.i c.loop-i.invariant c.loop-i-test.true
    (subst (λ s. FnReturnsAt g.F.Fn c.args.passes s true) (place_part g.row.SIZE c.args.store.now c.loop-i.i)
    (says_at g.F.Fn c.passes.ensures c.if-passes.true))

pub loop-i-preserved : goal.loop-i-preserved
loop-i-preserved g c =
    none_more (FnReturnsAt g.F.Fn c.args.passes) g.row.SIZE c.args.store.now c.loop-i.i c.loop-i.invariant
    (subst (λ s. FnReturnsAt g.F.Fn c.args.passes s false) (place_part g.row.SIZE c.args.store.now c.loop-i.i)
    (says_at g.F.Fn c.passes.ensures c.if-passes.false))

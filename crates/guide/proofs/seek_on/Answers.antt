-- No row below i passed or could have, and n - i falls. Rows that next_on skips are of another street, so passed_on moves i over them;
-- what the test says of the others is an answer at row i by says_at and place_part: a miss is none_more's, a hit sought_hit's.
use mathlib.Core.Path.{subst}
use mathlib.Core.Logic.{inl}
use mathlib.Core.Bool.{true, false}
use Prim.Native.Nat.{◌+◌}
use borrow.Author.Count.{below_none}
use Rattle.std.specs.Fn.{FnReturnsAt}
use Rattle.std.proofs.lemmas.Fn.{says_at}
use Rattle.rules.proofs.PlaceLaws.{place_part}
use Rattle.walks.proofs.SeekLaws.{none_more, sought_hit}
use Rattle.guide.specs.Streets.{AnswersOn}
use Rattle.guide.proofs.StreetLaws.{passed_on}
use Rattle.guide.proofs.seek_on.Goals as goal

pub loop-i-init : goal.loop-i-init
loop-i-init g c =
    let e = c.next_on-i.ensures in
    (e.1, passed_on c.args.street.now (FnReturnsAt g.F.Fn c.args.passes) c.args.guide.now 0 c.next_on-i.result (below_none _) e.2)

pub returns-then-passes : goal.returns-then-passes
returns-then-passes g c =
    sought_hit _ 208 c.args.guide.now c.loop-i.i c.loop-i.invariant.1 c.loop-i-test.true
    (inl (subst (λ s. FnReturnsAt g.F.Fn c.args.passes s true) (place_part 208 c.args.guide.now c.loop-i.i)
    (says_at g.F.Fn c.passes.ensures c.if-passes.true)))

pub loop-i-preserved : goal.loop-i-preserved
loop-i-preserved g c =
    let says = FnReturnsAt g.F.Fn c.args.passes in
    let e = c.next_on-i-in-loop-i.ensures in (
      e.1,
      passed_on c.args.street.now says c.args.guide.now (c.loop-i.i + 1) c.next_on-i-in-loop-i.result
          (none_more (AnswersOn c.args.street.now says) 208 c.args.guide.now c.loop-i.i c.loop-i.invariant.1
          (inl (subst (λ s. FnReturnsAt g.F.Fn c.args.passes s false) (place_part 208 c.args.guide.now c.loop-i.i)
          (says_at g.F.Fn c.passes.ensures c.if-passes.false))))
          e.2,
    )

-- The room of a label and of those before it is within that of all (pairs_next), pairs_more is the turn, text_made the end.
use native.Mathlib.Omega.{arith}
use mathlib.Core.Path.{◌≡◌}
use Rattle.tag_rules.specs.Writing.{pairs_to}
use Rattle.tagged.proofs.TextLaws.{pairs_next, pairs_more, newline_fits, text_made}
use Rattle.tagged.proofs.write.write_text.Goals as goal

pub loop-k-init : goal.loop-k-init
unfolding pairs_to
loop-k-init c = rw c.requires.empty at c.append.ensures

pub write_pair-requires-clause-room : goal.write_pair-requires-clause-room
write_pair-requires-clause-room c =
    pairs_next c.args.rec.now c.requires.long c.loop-k.k c.loop-k.line c.loop-k.invariant c.loop-k-test.true

pub loop-k-preserved : goal.loop-k-preserved
loop-k-preserved c =
    pairs_more c.args.rec.now c.requires.long c.loop-k.k c.loop-k.line c.loop-k.invariant c.write_pair.new.line c.write_pair.ensures

pub append-requires-2 : goal.append-requires-2
append-requires-2 c =
    let e : c.loop-k.k ≡ 28 = omega (arith, c.loop-k-test.false, c.loop-k.auto.k-end) in
    (omega arith, newline_fits c.args.rec.now c.requires.long c.loop-k.line (rw e at c.loop-k.invariant))

pub returns : goal.returns
returns c =
    let e : c.loop-k.k ≡ 28 = omega (arith, c.loop-k-test.false, c.loop-k.auto.k-end) in
    text_made c.args.rec.now c.requires.long c.loop-k.line (rw e at c.loop-k.invariant) c.append-2.new.self c.append-2.ensures

-- stands_more puts feed's promise of a byte to what stands on the rest, and of nothing left stands_all.
use Rattle.desk_rules.specs.Served.{bench_of}
use Rattle.desk.proofs.Stands.{stands_more, stands_all}
use Rattle.desk.proofs.Desk.feed_all.Goals as goal

pub loop-byte-preserved : goal.loop-byte-preserved
loop-byte-preserved g c =
    let a = c.loop-byte.self in
    stands_more a.marks (bench_of a.register a.guide a.collection a.line a.out) c.args.input.now c.loop-byte.byte-index
    c.loop-byte.invariant c.feed-fed.result _ c.loop-byte-test.true c.feed-fed.ensures

pub returns : goal.returns
returns g c =
    let a = c.loop-byte.self in
    stands_all a.marks (bench_of a.register a.guide a.collection a.line a.out) c.args.input.now c.loop-byte.byte-index
    c.loop-byte.invariant c.loop-byte-test.false

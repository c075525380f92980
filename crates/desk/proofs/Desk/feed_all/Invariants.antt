-- Standing on what is left is standing on the whole input. Of what is written nothing is kept: each byte is fed all the same.
use Rattle.std.proofs.Common.{drop, ◌≡◌}
use Rattle.desk_rules.specs.Served.{bench_of}
use Rattle.desk.specs.Standing.{standing}
use Rattle.desk.proofs.Desk.feed_all.Given as goal

abbrev pub invariant-loop-byte : goal.invariant-loop-byte
invariant-loop-byte g l =
    let a = l.self in
    let b = l.initial.self in
    standing a.marks (bench_of a.register a.guide a.collection a.line a.out) (drop l.byte-index l.input)
    ≡ standing b.marks (bench_of b.register b.guide b.collection b.line b.out) l.input

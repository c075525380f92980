-- The first k fields are written and the rest is blank. A turn is written_put, at the spans of field k in both versions.
use Rattle.std.proofs.Common.{◌≡◌, ◌-◌}
use mathlib.Core.Path.{refl, sym}
use mathlib.Core.List.{append-nil}
use native.Mathlib.Omega.{arith}
use native.Mathlib.Numerals.{add-one}
use Rattle.versions.specs.Versions.{fields, table_of, end_of}
use Rattle.versions.proofs.TableLaws.{written_put, moved_written}
use Rattle.versions.proofs.moved.Goals as goal

pub loop-k-preserved : goal.loop-k-preserved
loop-k-preserved g c =
    let k = c.loop-k.k in
    let w = moved_written c.args.from c.args.to c.args.rec.now in
    let from = c.span_of-source.ensures in
    let to = c.span_of-target.ensures in
    rw (add-one k, c.put.ensures, c.part_of-field.ensures, c.min.ensures, from.0, from.1, to.0, to.1)
    (written_put w k g.row.N c.loop-k-test.true (sym c.requires) c.loop-k.invariant)

pub returns : goal.returns
returns g c =
    let e : c.loop-k.k ≡ fields = omega (arith, c.loop-k-test.false, c.loop-k.auto.k-end) in
    let n : g.row.N - end_of (table_of c.args.to) fields ≡ 0 = omega (arith, c.requires) in
    rw (c.loop-k.invariant, e, n, append-nil) refl

-- all is the test of the first k fields; a turn is all_to's own step, at the bytes that part_of lends. A tail starts within 512 bytes, and
-- a field is no longer in Version 1: so the sum and the difference fit (tail_start, shorter).
use Rattle.std.proofs.Common.{◌≡◌}
use mathlib.Core.Path.{refl, ap, ◌∙◌}
use native.Mathlib.Omega.{arith}
use native.Mathlib.Numerals.{add-one}
use Rattle.versions.specs.Versions.{fields, all_to, tail_blank, narrows}
use Rattle.versions.proofs.does_narrow.Goals as goal

pub loop-k-preserved : goal.loop-k-preserved
unfolding tail_blank
loop-k-preserved c =
    let wide = c.span_of-wide.ensures in
    let narrow = c.span_of-narrow.ensures in
    rw (add-one c.loop-k.k, c.loop-k.invariant, c.is_blank-all.ensures, c.part_of-tail.ensures, wide.0, wide.1, narrow.1) refl

pub returns : goal.returns
unfolding narrows
returns c =
    let e : c.loop-k.k ≡ fields = omega (arith, c.loop-k-test.false, c.loop-k.auto.k-end) in
    c.loop-k.invariant ∙ ap (all_to (tail_blank c.args.rec.now)) e

-- A length other than 6 is no date. Of six bytes two_part makes each part of day_of the two that two_digits read; the first pair that spells
-- nothing decides, and else day_from promises the day and that it is at most 36524.
use mathlib.Core.Path.{refl}
use native.Mathlib.Omega.{arith}
use borrow.Author.Tests.{eq-eqb, ne_eqb}
use Rattle.text.proofs.PartLaws.{two_part}
use Rattle.calendar.specs.Calendar.{day_of}
use Rattle.calendar.proofs.day_in.Goals as goal

pub returns-then-f-ne-DATE_SIZE : goal.returns-then-f-ne-DATE_SIZE
unfolding day_of
returns-then-f-ne-DATE_SIZE c = (rw (ne_eqb _ _ c.if-f-ne-DATE_SIZE.true), refl)

pub returns-in_err-m : goal.returns-in_err-m
unfolding day_of
returns-in_err-m c =
    let l = c.if-f-ne-DATE_SIZE.false in
    let f = c.args.f.now in
    rw c.from_residual.ensures (rw (eq-eqb _ _ l, two_part f 0 (omega (arith, l)), ← c.in_err-m.ensures), refl)

pub returns-in_err-d : goal.returns-in_err-d
unfolding day_of
returns-in_err-d c =
    let l = c.if-f-ne-DATE_SIZE.false in
    let f = c.args.f.now in
    rw c.from_residual-in_err-d.ensures (
      rw (
        eq-eqb _ _ l,
        two_part f 0 (omega (arith, l)),
        ← c.in_ok-m.ensures,
        two_part f 2 (omega (arith, l)),
        ← c.in_err-d.ensures,
      ),
      refl,
    )

pub returns-in_err-y : goal.returns-in_err-y
unfolding day_of
returns-in_err-y c =
    let l = c.if-f-ne-DATE_SIZE.false in
    let f = c.args.f.now in
    rw c.from_residual-in_err-y.ensures (
      rw (
        eq-eqb _ _ l,
        two_part f 0 (omega (arith, l)),
        ← c.in_ok-m.ensures,
        two_part f 2 (omega (arith, l)),
        ← c.in_ok-d.ensures,
        two_part f 4 (omega (arith, l)),
        ← c.in_err-y.ensures,
      ),
      refl,
    )

pub returns : goal.returns
unfolding day_of
returns c =
    let l = c.if-f-ne-DATE_SIZE.false in
    let f = c.args.f.now in (
      rw (
        eq-eqb _ _ l,
        two_part f 0 (omega (arith, l)),
        ← c.in_ok-m.ensures,
        two_part f 2 (omega (arith, l)),
        ← c.in_ok-d.ensures,
        two_part f 4 (omega (arith, l)),
        ← c.in_ok-y.ensures,
      ) c.day_from.ensures.0,
      c.day_from.ensures.1,
    )

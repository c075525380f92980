-- day_in tells the present day, or none. None stays none in either reading (by_none); the present day is itself, and the former one has the
-- number that former_number makes of it (by_former). Both are no later than 36524, by day_in's and former_number's own bounds.
use mathlib.Core.Path.{refl}
use borrow.Author.Tests.{le-leb}
use Rattle.calendar.proofs.DateLaws.{by_none, by_former}
use Rattle.calendar.proofs.day_by.Goals as goal

pub returns-in_err-day : goal.returns-in_err-day
returns-in_err-day c =
    rw c.from_residual.ensures (by_none c.args.f.now c.args.reading c.in_err-day.ensures.0, refl)

pub returns-in-Former : goal.returns-in-Former
returns-in-Former c = (
  by_former c.args.f.now c.args.reading _ _ c.in-Former.is c.in_ok-day.ensures.0 c.former_number.ensures.0,
  le-leb _ 36524 c.former_number.ensures.1,
)

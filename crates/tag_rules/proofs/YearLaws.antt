-- The year that is written is the year that the calendar reads, whatever the month and the day: computed for each of the hundred years.
-- Reading compares with what would be written, so a wrong century would be wrong both ways, and no round trip would see it. Assumes
-- nothing.
use mathlib.Core.Path.{◌≡◌, refl}
use mathlib.Core.Bool.{true}
use mathlib.Core.List.{◌++◌}
use Prim.Native.Nat.{ℕ, ◌+◌}
use lib.Dec.{eqb}
use borrow.Author.Tests.{eqb-true}
use Rattle.text.specs.Text.{value_of, part, digits}
use Rattle.calendar.specs.Calendar.{years_of}
use Rattle.calendar.proofs.DayLaws.{every, every_at}
use Rattle.tag_rules.specs.Tags.{calendar_date}
use Rattle.tag_rules.specs.Forms.{worded}
use Rattle.tag_rules.specs.Promises.{SameYear}

-- the year written for YY
abbrev year_by : ℕ → ℕ → ℕ → ℕ
year_by m d y = value_of (part 0 4 (worded calendar_date (digits 2 m ++ (digits 2 d ++ digits 2 y))))

all_same : (m d : ℕ) → every (λ y. eqb (year_by m d y) (1970 + years_of y)) 100 ≡ true
unfolding worded
all_same m d = refl

pub same_year : SameYear
unfolding SameYear
same_year m d y h =
    eqb-true (year_by m d y) (1970 + years_of y) (every_at (λ y. eqb (year_by m d y) (1970 + years_of y)) 100 y (all_same m d) h)

-- 01, "Dates", with the years as 2026-02 reads them: the day that six bytes name, and the four bytes of a slot's day.
-- Assumes nothing.
use Rattle.std.specs.Prelude.{ℕ, ◌+◌, ◌*◌, ◌-◌, ◌/◌, ◌%◌, List, [], ◌∷◌, Bool, true, ◌&&◌, cond, leb, ltb, eqb, length, get_or, Option, Some, None}
use Rattle.text.specs.Text.{spelled, part, on_some}
use Rattle.calendar.specs.declared.Day.{Day}

-- "the lengths of the twelve months stand in a constant table": since 2026-04 here alone; the code works them out, DayLaws `month_is`
abbrev pub months : List ℕ
months = 31 ∷ 28 ∷ 31 ∷ 30 ∷ 31 ∷ 30 ∷ 31 ∷ 31 ∷ 30 ∷ 31 ∷ 30 ∷ 31 ∷ []

-- of the years 1970 to 2069, every fourth is a leap year, 2000 among them: those whose two digits 4 divides
abbrev pub leap : ℕ → Bool
leap y = eqb (y % 4) 0

abbrev pub month_days : ℕ → ℕ → ℕ
month_days m y = cond (eqb m 2 && leap y) 29 (get_or months (m - 1) 0)

-- 2026-04, "Work out the days before a month by arithmetic": 367 over the twelve months as if February had 30, of which it is one or two
-- short; month 13 is the end of the year
abbrev pub days_before : ℕ → ℕ → ℕ
days_before m y = (367 * m - 362) / 12 - cond (leb m 2) 0 (cond (leap y) 1 2)

-- "real calendar days": month, day, and the year's last two digits
abbrev pub is_day : ℕ → ℕ → ℕ → Bool
is_day m d y = leb y 99 && (leb 1 m && (leb m 12 && (leb 1 d && leb d (month_days m y))))

-- "YY 70 to 99 means 19YY and 00 to 69 means 20YY": the years since 1970
abbrev pub years_of : ℕ → ℕ
years_of y = cond (leb 70 y) (y - 70) (y + 30)

-- "day 0 is 010170", "by a plain formula of the three numbers": the days of the years before, of the months before, and of the month
abbrev pub day_number : ℕ → ℕ → ℕ → ℕ
day_number m d y =
    365 * years_of y + (years_of y + 1) / 4 + (367 * m - 362) / 12 - cond (leb m 2) 0 (cond (leap y) 1 2) + d - 1

abbrev pub day_from : ℕ → ℕ → ℕ → Option Day
day_from m d y = cond (is_day m d y) (Some (record { 0 = day_number m d y })) None

-- "Dates are MMDDYY": what is made of the three numbers
abbrev pub dated : (ℕ → ℕ → ℕ → Option Day) → List ℕ → Option Day
dated from f =
    cond (eqb (length f) 6)
    (on_some (spelled 2 2 (part 0 2 f)) None (λ m.
    on_some (spelled 2 2 (part 2 2 f)) None (λ d.
    on_some (spelled 2 2 (part 4 2 f)) None (λ y.
    from m d y))))
    None

unfoldable pub day_of : List ℕ → Option Day
day_of f = dated day_from f

-- a slot's day is "at most 36524"
abbrev pub on_calendar : Day → Bool
on_calendar d = leb d.0 36524

-- a day that six bytes name is so by itself
abbrev pub no_later : Option Day → Bool
no_later (Some d) = on_calendar d
no_later None = true

-- "1-4 day number, high byte first"
abbrev pub stored_day : ℕ → ℕ → ℕ → ℕ → Day
stored_day a b c d = record { 0 = a * 16777216 + b * 65536 + c * 256 + d }

abbrev pub day_bytes : Day → List ℕ
day_bytes d = (d.0 / 16777216 % 256) ∷ (d.0 / 65536 % 256) ∷ (d.0 / 256 % 256) ∷ (d.0 % 256) ∷ []

abbrev pub is_before : Day → Day → Bool
is_before d e = ltb d.0 e.0

-- so many days have passed since d on day e
abbrev pub is_past : Day → ℕ → Day → Bool
is_past d n e = leb (d.0 + n) e.0

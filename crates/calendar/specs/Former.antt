-- 2026-02, "the old reading": the day that six bytes named before, and what becomes of a stored day. "Registers written before are
-- converted once, by adding 10957 to each used slot's day; a stored day above 25567 has no reading now".
-- Assumes nothing.
use Rattle.std.specs.Prelude.{ℕ, ◌+◌, ◌*◌, ◌-◌, ◌/◌, List, cond, leb, Option, Some, None}
use Rattle.calendar.specs.declared.Day.{Day}
use Rattle.calendar.specs.declared.Reading.{Reading}
use Rattle.calendar.specs.declared.Reading.TheVariants.{Present, Former}
use Rattle.calendar.specs.Calendar.{leap, is_day, dated, day_of}

-- 01 as it was: "year 20YY. The day number counts from 010100 as 0, by a plain formula of the three numbers"
abbrev pub former_number : ℕ → ℕ → ℕ → ℕ
former_number m d y =
    365 * y + (y + 3) / 4 + (367 * m - 362) / 12 - cond (leb m 2) 0 (cond (leap y) 1 2) + d - 1

abbrev pub former_from : ℕ → ℕ → ℕ → Option Day
former_from m d y = cond (is_day m d y) (Some (record { 0 = former_number m d y })) None

unfoldable pub former_of : List ℕ → Option Day
former_of f = dated former_from f

-- the day that six bytes name, by either reading
abbrev pub day_by : Reading → List ℕ → Option Day
day_by Present f = day_of f
day_by Former f = former_of f

-- the number that the day had before whose number is n now: 010100 is 10957 now and was 0, 010170 is 0 now and was 25568
abbrev pub formerly : ℕ → ℕ
formerly n = cond (leb 10957 n) (n - 10957) (n + 25568)

-- "adding 10957"; "a stored day above 25567 has no reading now"
abbrev pub anew : Day → Option Day
anew d = cond (leb d.0 25567) (Some (record { 0 = d.0 + 10957 })) None

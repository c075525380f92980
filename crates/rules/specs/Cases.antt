-- P1 to P10 of the description, P1, P2 and P4 as 2026-02 has them, and its first and last day, as a single table: each is computed.
-- Assumes nothing.
use Rattle.std.specs.Prelude.{ℕ, ◌≡◌, refl, List, [], ◌∷◌, ◌++◌, Bool, true, false, ◌&&◌, not, eqb}
use Rattle.text.specs.Text.{runs_of, spelled, spaces, digits, width, among_spaces, left_digits, on_some}
use Rattle.calendar.specs.declared.Day.{Day}
use Rattle.calendar.specs.Calendar.{day_of}
use Rattle.layout.specs.Counters.{given_cycle, is_next_of}
use Rattle.layout.specs.Fields.{low_of, high_of, parity_of, allows, row_street_of, row_place_of}
use Rattle.rules.specs.Slots.{state_of, slot_day, slot_of}
use Rattle.rules.specs.Covers.{hits, same_street, meet_from, meets, clash}
use Rattle.rules.specs.Records.{is_reusable}

-- six bytes MMDDYY
abbrev pub mmddyy : ℕ → ℕ → ℕ → List ℕ
mmddyy m d y = digits 2 m ++ (digits 2 d ++ digits 2 y)

abbrev pub is_day_number : ℕ → List ℕ → Bool
is_day_number n f = on_some (day_of f) false (λ d. eqb d.0 n)

abbrev pub is_no_date : List ℕ → Bool
is_no_date f = on_some (day_of f) true (λ d. false)

-- a row with this parity and these ends, of one street in one place
abbrev pub row_with : ℕ → ℕ → ℕ → List ℕ
row_with p low high = spaces 68 ++ (left_digits low (spaces 10) ++ (left_digits high (spaces 10) ++ (spaces 34 ++ (p ∷ []))))

-- both rows have house number n
abbrev pub both_hit : List ℕ → List ℕ → ℕ → Bool
both_hit g h n = hits g n && hits h n

-- a slot that rests since a day, and another day
abbrev pub resting_since : ℕ → List ℕ
resting_since n = slot_of 3 (record { 0 = n }) []

abbrev pub on_day_number : ℕ → Day
on_day_number n = record { 0 = n }

pub table : List Bool
unfolding day_of spelled runs_of left_digits among_spaces width clash hits same_street meets meet_from low_of high_of parity_of allows row_street_of row_place_of is_reusable state_of slot_day slot_of
table =
    is_day_number 10957 (mmddyy 1 1 0)  -- P1: 010100 is day 10957
    ∷ is_day_number 11016 (mmddyy 2 29 0)  -- P2: 022900 is 11016
    ∷ is_no_date (mmddyy 2 29 1)  -- P3: 022901 is no date
    ∷ is_day_number 10956 (mmddyy 12 31 99)  -- P4: 123199 is 10956
    ∷ is_day_number 0 (mmddyy 1 1 70)  -- "day 0 is 010170"
    ∷ is_day_number 36524 (mmddyy 12 31 69)  -- "the last day, 123169, is 36524"
    ∷ not (clash (row_with 66 300 300) (row_with 79 201 399))  -- P5: B 300-300 and O 201-399 don't clash
    ∷ (clash (row_with 66 100 200) (row_with 79 51 101) && both_hit (row_with 66 100 200) (row_with 79 51 101) 101)
    -- P6: B 100-200 and O 51-101 clash (101)
    ∷ not (clash (row_with 69 100 198) (row_with 79 101 199))  -- P7: E 100-198 and O 101-199 don't
    ∷ is_reusable (on_day_number 190) (resting_since 100)  -- P8: a number resting since day 100: reusable on day 190
    ∷ not (is_reusable (on_day_number 189) (resting_since 100))  -- P9: not on 189
    ∷ is_next_of (given_cycle 999999) (given_cycle 1)  -- P10: cycle 1 follows 999999
    ∷ []

abbrev pub all_true : List Bool → Bool
all_true [] = true
all_true (b ∷ l) = b && all_true l

pub table_holds : all_true table ≡ true
unfolding table
table_holds = refl

-- 01, "Data record": its answer, and what 0 does.
-- Assumes nothing.
use Rattle.std.specs.Option.{is_none, option_or}
use Rattle.std.specs.Prelude.{ℕ, List, [], ◌∷◌, Bool, true, false, ◌&&◌, not, cond, eqb, length, Option, Some, None}
use Rattle.text.specs.Text.{same_bytes, on_some}
use Rattle.calendar.specs.declared.Day.{Day}
use Rattle.calendar.specs.Calendar.{is_before, is_past}
use Rattle.layout.specs.declared.frame.Header.{Header}
use Rattle.layout.specs.Fields.{function_of, number_of, esn_of, has_esn, same_esn, date_of, company_of, row_esn_of, with_esn}
use Rattle.rules.specs.declared.Code.{Code}
use Rattle.rules.specs.declared.Code.TheVariants.{Insert, Change, Delete, Unlock, Migrate}
use Rattle.rules.specs.Walks.{find, first}
use Rattle.rules.specs.Slots.{slots, slot_at, with_slot, state_of, slot_day, record_of, slot_of, is_free, is_held, is_open, is_resting, is_used, is_live, row_slots, row_slot_at, is_present, row_of}
use Rattle.rules.specs.Covers.{covers}

-- ---- codes

-- the code that a byte names
abbrev pub coded_of : ℕ → Day → Option (Code × Day)
coded_of b d =
    cond (eqb b 73) (Some (Insert, d))
    (cond (eqb b 67) (Some (Change, d))
    (cond (eqb b 68) (Some (Delete, d))
    (cond (eqb b 85) (Some (Unlock, d))
    (cond (eqb b 77) (Some (Migrate, d))
    None))))

-- the code and the date of a record of 512 bytes; one of good form has both
unfoldable pub filed_of : List ℕ → Option (Code × Day)
filed_of r = cond (eqb (length r) 512) (on_some (date_of r) None (λ d. coded_of (function_of r) d)) None

abbrev pub is_insert : Code → Bool
is_insert Insert = true
is_insert Change = false
is_insert Delete = false
is_insert Unlock = false
is_insert Migrate = false

abbrev pub is_migrate : Code → Bool
is_migrate Insert = false
is_migrate Change = false
is_migrate Delete = false
is_migrate Unlock = false
is_migrate Migrate = true

-- "I, C, M store the record"
abbrev pub stores : Code → Bool
stores Insert = true
stores Change = true
stores Delete = false
stores Unlock = false
stores Migrate = true

-- C, D, U are the holder's own
abbrev pub is_own : Code → Bool
is_own Insert = false
is_own Change = true
is_own Delete = true
is_own Unlock = true
is_own Migrate = false

-- "I, C, M .. state 1 .. U and D .. set state 2 or 3"
abbrev pub state_after : Code → ℕ
state_after Insert = 1
state_after Change = 1
state_after Delete = 3
state_after Unlock = 2
state_after Migrate = 1

-- ---- what is looked for

-- "Find the lowest slot not free with this number"
abbrev pub is_of : List ℕ → List ℕ → Bool
is_of n s = is_used (state_of s) && same_bytes (number_of (record_of s)) n

unfoldable pub has_number : List ℕ → List ℕ → ℕ → Bool
has_number n R k = is_of n (slot_at R k)

unfoldable pub find_number : List ℕ → List ℕ → Option ℕ
find_number n R = find (has_number n R) (slots R)

-- "the lowest covering row"
abbrev pub covers_by : List ℕ → List ℕ → Bool
covers_by r s = is_present s && covers (row_of s) r

unfoldable pub is_over : List ℕ → List ℕ → ℕ → Bool
is_over r G k = covers_by r (row_slot_at G k)

unfoldable pub find_row : List ℕ → List ℕ → Option ℕ
find_row r G = find (is_over r G) (row_slots G)

-- "the lowest free slot, else the lowest such resting slot": "at least 90 days before the header's date"
abbrev pub is_free_slot : List ℕ → Bool
is_free_slot s = is_free (state_of s)

unfoldable pub free_at : List ℕ → ℕ → Bool
free_at R k = is_free_slot (slot_at R k)

unfoldable pub is_reusable : Day → List ℕ → Bool
is_reusable today s = is_resting (state_of s) && is_past (slot_day s) 90 today

unfoldable pub reusable_at : Day → List ℕ → ℕ → Bool
reusable_at today R k = is_reusable today (slot_at R k)

unfoldable pub find_free : List ℕ → Option ℕ
find_free R = find (free_at R) (slots R)

unfoldable pub find_reusable : Day → List ℕ → Option ℕ
find_reusable today R = find (reusable_at today R) (slots R)

unfoldable pub find_spare : Day → List ℕ → Option ℕ
find_spare today R = option_or (find_free R) (find_reusable today R)

-- ---- the tests of the table, on the slot m of the number, the row k and the spare slot p

-- absent counts as state 0
abbrev pub state_in : List ℕ → Option ℕ → ℕ
state_in R m = on_some m 0 (λ i. state_of (slot_at R i))

abbrev pub other_company : List ℕ → Option ℕ → List ℕ → Bool
other_company R m r = on_some m false (λ i. not (same_bytes (company_of (record_of (slot_at R i))) (company_of r)))

-- "date before the slot's day; for I on a resting number, same day or before"
abbrev pub too_early : List ℕ → Option ℕ → Code → Day → Bool
too_early R m c d =
    on_some m false (λ i.
    cond (is_insert c) (not (is_before (slot_day (slot_at R i)) d)) (is_before d (slot_day (slot_at R i))))

-- "ESN not blank and differs from that of the lowest covering row"
abbrev pub other_esn : List ℕ → Option ℕ → List ℕ → Bool
other_esn G k r = on_some k false (λ j. has_esn r && not (same_esn (esn_of r) (row_esn_of (row_of (row_slot_at G j)))))

-- "First hit decides:" a test and its answer, row by row
abbrev pub table : List ℕ → List ℕ → Header → List ℕ → Code → Day → Option ℕ → Option ℕ → Option ℕ → List (Bool × ℕ)
table R G h r c d m k p =
    (is_before h.day d, 11)  -- "record date after the header's date"
    ∷ (is_insert c && is_live (state_in R m), 12)  -- "I, number held or open"
    ∷ (not (is_insert c) && not (is_live (state_in R m)), 13)  -- "C, D, U, M, number absent or resting"
    ∷ (is_migrate c && is_held (state_in R m), 14)  -- "M, held"
    ∷ (is_own c && is_open (state_in R m), 15)  -- "C, D, U, open"
    ∷ (is_own c && (is_held (state_in R m) && other_company R m r), 16)  -- "C, D, U, held, Company ID differs from the slot's"
    ∷ (too_early R m c d, 17)  -- "date before the slot's day; for I on a resting number, same day or before"
    ∷ (stores c && is_none k, 18)  -- "I, C, M: no guide row covers the address"
    ∷ (stores c && other_esn G k r, 19)  -- "I, C, M: ESN not blank and differs from that of the lowest covering row"
    ∷ (is_insert c && (is_none m && is_none p), 20)  -- "I, absent: no free slot, and no resting slot at least 90 days before .."
    ∷ []  -- 0: "otherwise"

unfoldable pub answer_of : List ℕ → List ℕ → Header → List ℕ → Code → Day → ℕ
answer_of R G h r c d =
    first (table R G h r c d (find_number (number_of r) R) (find_row r G) (find_spare h.day R))

-- ---- what 0 does

-- what an entry shows: the record, "a blank ESN filled from the lowest covering row"
unfoldable pub shown : List ℕ → List ℕ → List ℕ
shown given row = cond (has_esn given) given (with_esn (row_esn_of row) given)

abbrev pub shown_under : List ℕ → Option ℕ → List ℕ → List ℕ
shown_under G k r = on_some k r (λ j. shown r (row_of (row_slot_at G j)))

-- "I, C, M store the record .. U and D keep the record": the slot written
abbrev pub slot_after : List ℕ → Code → Day → List ℕ → List ℕ
slot_after old c d r = cond (stores c) (slot_of (state_after c) d r) (slot_of (state_after c) d (record_of old))

-- "I on an absent number takes the lowest free slot, else the lowest such resting slot; on a resting number, its own"
unfoldable pub register_after : List ℕ → List ℕ → Header → List ℕ → Code → Day → List ℕ
register_after R G h r c d =
    on_some (option_or (find_number (number_of r) R) (find_spare h.day R)) R (λ i.
    with_slot R i (slot_after (slot_at R i) c d (shown_under G (find_row r G) r)))

-- ---- the step

pub record Step : Type 0 where
  pub answer : ℕ
  pub register : List ℕ

-- a record without code or date is answered as one of a day after the header's: no checked file has one
unfoldable pub step : List ℕ → List ℕ → Header → List ℕ → Option (Code × Day) → Step
step R G h r None = record { answer = 11; register = R }
step R G h r (Some (c, d)) =
    cond (eqb (answer_of R G h r c d) 0)
    (record { answer = 0; register = register_after R G h r c d })
    (record { answer = answer_of R G h r c d; register = R })

unfoldable pub applied : List ℕ → List ℕ → Header → List ℕ → Step
applied R G h r = step R G h r (filed_of r)

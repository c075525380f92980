-- 01, "Register slot" and "Guide slot": the stores, their slots, and when a slot is sound.
-- Assumes nothing.
use Rattle.std.specs.Option.{is_none}
use Rattle.std.specs.Prelude.{ℕ, ◌*◌, ◌/◌, ◌%◌, List, [], ◌∷◌, ◌++◌, Bool, false, ◌&&◌, ◌||◌, not, cond, leb, eqb, length, take, drop, get_or, replicate}
use Rattle.text.specs.Text.{part, all_equal, put_at, on_some}
use Rattle.calendar.specs.declared.Day.{Day}
use Rattle.calendar.specs.declared.Reading.{Reading}
use Rattle.calendar.specs.declared.Reading.TheVariants.{Present}
use Rattle.calendar.specs.Calendar.{stored_day, day_bytes, is_before, on_calendar}
use Rattle.layout.specs.Tables.{data_record, guide_row}
use Rattle.layout.specs.Fields.{function_of, has_esn, date_by, row_function_of}
use Rattle.layout.specs.Rules.{record_fault, row_fault}
use Rattle.rules.specs.Walks.{find}

-- ---- a store of places of w bytes, one after the other

-- place k
unfoldable pub place : ℕ → List ℕ → ℕ → List ℕ
place w s k = part (k * w) w s

-- the store with the bytes b in place k
unfoldable pub with_place : ℕ → List ℕ → ℕ → List ℕ → List ℕ
with_place w s k b = take (k * w) s ++ (b ++ drop w (drop (k * w) s))

-- "Register and guide have 1 to 4096 slots each"
unfoldable pub good_length : ℕ → List ℕ → Bool
good_length w s = eqb (length s % w) 0 && (leb 1 (length s / w) && leb (length s / w) 4096)

-- ---- "Register slot, 520 bytes, from byte 0"

abbrev pub slot_size : ℕ
slot_size = 520

abbrev pub slots : List ℕ → ℕ
slots R = length R / slot_size

abbrev pub slot_at : List ℕ → ℕ → List ℕ
slot_at R k = place slot_size R k

abbrev pub with_slot : List ℕ → ℕ → List ℕ → List ℕ
with_slot R k s = with_place slot_size R k s

-- "Byte 0 state (0 free, 1 held, 2 open, 3 resting)"
unfoldable pub state_of : List ℕ → ℕ
state_of s = get_or s 0 0

abbrev pub is_free : ℕ → Bool
is_free b = eqb b 0

abbrev pub is_held : ℕ → Bool
is_held b = eqb b 1

abbrev pub is_open : ℕ → Bool
is_open b = eqb b 2

abbrev pub is_resting : ℕ → Bool
is_resting b = eqb b 3

-- held, open or resting; a state above 3 is neither free nor used
abbrev pub is_used : ℕ → Bool
is_used b = leb 1 b && leb b 3

-- held or open: an entry
abbrev pub is_live : ℕ → Bool
is_live b = is_held b || is_open b

-- "1-4 day number, high byte first"
unfoldable pub slot_day : List ℕ → Day
slot_day s = stored_day (get_or s 1 0) (get_or s 2 0) (get_or s 3 0) (get_or s 4 0)

-- "8-519 the record"
unfoldable pub record_of : List ℕ → List ℕ
record_of s = part 8 512 s

-- state, day and "5-7 zero"
abbrev pub slot_head : ℕ → Day → List ℕ
slot_head b d = b ∷ (day_bytes d ++ (0 ∷ 0 ∷ 0 ∷ []))

-- a slot with this state, day and record
unfoldable pub slot_of : ℕ → Day → List ℕ → List ℕ
slot_of b d r = slot_head b d ++ r

-- the slot with another state and day, and with another record too
unfoldable pub restated : ℕ → Day → List ℕ → List ℕ
restated b d s = put_at 0 (slot_head b d) s

unfoldable pub written : ℕ → Day → List ℕ → List ℕ → List ℕ
written b d r s = put_at 8 r (restated b d s)

-- "A free slot is all zero"
unfoldable pub is_zero : List ℕ → Bool
is_zero s = all_equal 0 s

-- "code I, C or M"
abbrev pub is_entry_code : ℕ → Bool
is_entry_code b = (eqb b 73 || eqb b 67) || eqb b 77

-- "a record of good form with code I, C or M, ESN not blank"
unfoldable pub fits_slot : List ℕ → Bool
fits_slot r = eqb (record_fault data_record r) 0 && (is_entry_code (function_of r) && has_esn r)

-- "its day equals the record's date if held and is no earlier if open or resting, at most 36524"
unfoldable pub day_fits : ℕ → Day → Day → Bool
day_fits b day date =
    not (is_before day date)
    && ((not (is_held b) || not (is_before date day))
    && on_calendar day)

-- "A sound used slot", by either reading of its record's date
abbrev pub used_sound_by : Reading → List ℕ → Bool
used_sound_by reading s =
    is_used (state_of s)
    && (is_zero (part 5 3 s)
    && (fits_slot (record_of s)
    && on_some (date_by reading (record_of s)) false (λ date. day_fits (state_of s) (slot_day s) date)))

-- and as dates are read now
unfoldable pub used_sound : List ℕ → Bool
used_sound s = used_sound_by Present s

unfoldable pub slot_sound : List ℕ → Bool
slot_sound s = cond (is_free (state_of s)) (is_zero s) (used_sound s)

-- refusal 1 is for "register length or a slot unsound"
abbrev pub is_unsound : List ℕ → Bool
is_unsound s = not (slot_sound s)

unfoldable pub unsound_slot : List ℕ → ℕ → Bool
unsound_slot R k = is_unsound (slot_at R k)

unfoldable pub register_sound : List ℕ → Bool
register_sound R = good_length slot_size R && is_none (find (unsound_slot R) (slots R))

-- 2026-02, refusal "1 by the old reading": the same, by either reading
abbrev pub slot_sound_by : Reading → List ℕ → Bool
slot_sound_by reading s = cond (is_free (state_of s)) (is_zero s) (used_sound_by reading s)

abbrev pub is_unsound_by : Reading → List ℕ → Bool
is_unsound_by reading s = not (slot_sound_by reading s)

unfoldable pub unsound_by : Reading → List ℕ → ℕ → Bool
unsound_by reading R k = is_unsound_by reading (slot_at R k)

unfoldable pub register_sound_by : Reading → List ℕ → Bool
register_sound_by reading R = good_length slot_size R && is_none (find (unsound_by reading R) (slots R))

-- ---- "Guide slot, 208 bytes"

abbrev pub row_slot_size : ℕ
row_slot_size = 208

abbrev pub row_slots : List ℕ → ℕ
row_slots G = length G / row_slot_size

abbrev pub row_slot_at : List ℕ → ℕ → List ℕ
row_slot_at G k = place row_slot_size G k

abbrev pub with_row_slot : List ℕ → ℕ → List ℕ → List ℕ
with_row_slot G k s = with_place row_slot_size G k s

-- "Byte 0 is 0 or 1"
unfoldable pub is_present : List ℕ → Bool
is_present s = eqb (get_or s 0 0) 1

unfoldable pub is_vacant : List ℕ → Bool
is_vacant s = eqb (get_or s 0 0) 0

-- "8-207 the row"
unfoldable pub row_of : List ℕ → List ℕ
row_of s = part 8 200 s

-- "1-7 zero"
abbrev pub row_head : List ℕ
row_head = 1 ∷ 0 ∷ 0 ∷ 0 ∷ 0 ∷ 0 ∷ 0 ∷ 0 ∷ []

-- a guide slot with this row, and a free one
unfoldable pub row_slot_of : List ℕ → List ℕ
row_slot_of g = row_head ++ g

unfoldable pub free_row_slot : List ℕ
free_row_slot = replicate row_slot_size 0

-- the slot with another row
unfoldable pub row_written : List ℕ → List ℕ → List ℕ
row_written g s = put_at 8 g (put_at 0 row_head s)

-- "the row, of good form with code I. A free one is all zero"
unfoldable pub present_sound : List ℕ → Bool
present_sound s =
    is_present s
    && (is_zero (part 1 7 s)
    && (eqb (row_fault guide_row (row_of s)) 0
    && eqb (row_function_of (row_of s)) 73))

unfoldable pub row_slot_sound : List ℕ → Bool
row_slot_sound s = cond (is_vacant s) (is_zero s) (present_sound s)

-- refusal 2 is for "guide length or a slot unsound"
abbrev pub is_row_unsound : List ℕ → Bool
is_row_unsound s = not (row_slot_sound s)

unfoldable pub unsound_row_slot : List ℕ → ℕ → Bool
unsound_row_slot G k = is_row_unsound (row_slot_at G k)

unfoldable pub guide_sound : List ℕ → Bool
guide_sound G = good_length row_slot_size G && is_none (find (unsound_row_slot G) (row_slots G))

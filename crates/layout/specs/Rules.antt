-- 01, "Field rules": what each rule asks of a field, and the first fault of a line by its table.
-- Assumes nothing.
use Rattle.std.specs.Option.{is_some}
use Rattle.std.specs.Prelude.{ℕ, ◌-◌, List, [], ◌∷◌, Bool, true, false, ◌&&◌, ◌||◌, cond, ltb, eqb, length, get_or}
use Rattle.text.specs.declared.Class.TheVariants.{Printable, Space, Digit, Capital, CapitalOrDigit}
use Rattle.text.specs.Text.{all_in, all_of, blank, run_of, runs_of, same_bytes, part, on_some}
use Rattle.calendar.specs.Calendar.{day_of}
use Rattle.layout.specs.Tables.{free, left_text, named, code, digits, house, direction, one_digit, zero_to_five, capitals}
use Rattle.layout.specs.Tables.{space_or_c, zone, company_letters, mmddyy, star, row_zone, row_code, opening, closing, turn, tally}
use Rattle.layout.specs.Tables.{low_end, high_end, parity_letter, first_code}
use Rattle.layout.specs.Counters.{cycle_of, count_of}
use Rattle.layout.specs.Fields.{function_of, house_in, end_in, low_of, high_of, parity_of, allows}

-- "A field is left-justified: if not blank, its first byte is no space"
abbrev pub left_justified : List ℕ → Bool
left_justified f = eqb (run_of Space f) 0 || blank f

-- the same, and blank only where it may be
abbrev pub needed_in : Bool → List ℕ → Bool
needed_in lax f = eqb (run_of Space f) 0 || (lax && blank f)

-- blank, where it may be
abbrev pub spared : Bool → List ℕ → Bool
spared lax f = lax && blank f

-- the bytes a and b are one of the pairs
abbrev pub pair_in : ℕ → ℕ → List ℕ → Bool
pair_in a b [] = false
pair_in a b (p ∷ []) = false
pair_in a b (p ∷ q ∷ s) = (eqb p a && eqb q b) || pair_in a b s

-- "Directionals are blank or N S E W NE NW SE SW"
unfoldable pub is_direction : List ℕ → Bool
is_direction f =
    pair_in (get_or f 0 0) (get_or f 1 0)
    (32 ∷ 32 ∷ 78 ∷ 32 ∷ 83 ∷ 32 ∷ 69 ∷ 32 ∷ 87 ∷ 32 ∷ 78 ∷ 69 ∷ 78 ∷ 87 ∷ 83 ∷ 69 ∷ 83 ∷ 87 ∷ [])

-- "Dates are MMDDYY, real calendar days"
unfoldable pub is_date : List ℕ → Bool
is_date f = is_some (day_of f)

unfoldable pub is_cycle : List ℕ → Bool
is_cycle f = is_some (cycle_of f)

unfoldable pub is_tally : List ℕ → Bool
is_tally f = is_some (count_of f)

-- header and trailer: "`UHL` and two spaces", "`UTL` and two spaces", the cycle, the record count; a rule without a name is
-- kept by nothing
unfoldable pub keeps_frame : ℕ → List ℕ → Bool
keeps_frame r f =
    cond (eqb r opening) (same_bytes f (85 ∷ 72 ∷ 76 ∷ 32 ∷ 32 ∷ []))
    (cond (eqb r closing) (same_bytes f (85 ∷ 84 ∷ 76 ∷ 32 ∷ 32 ∷ []))
    (cond (eqb r turn) (is_cycle f)
    (cond (eqb r tally) (is_tally f)
    false)))

-- "Source a space or `C`; ESN blank or 1 to 5 digits; Company ID not blank, capitals and digits"; dates; `*`; in a guide row the
-- ESN is never blank and Function is `I` or `D`
unfoldable pub keeps_other : ℕ → List ℕ → Bool
keeps_other r f =
    cond (eqb r space_or_c) (all_of (32 ∷ 67 ∷ []) f)
    (cond (eqb r zone) (runs_of Digit 0 5 f)
    (cond (eqb r company_letters) (runs_of CapitalOrDigit 1 5 f)
    (cond (eqb r mmddyy) (is_date f)
    (cond (eqb r star) (all_of (42 ∷ []) f)
    (cond (eqb r row_zone) (runs_of Digit 1 5 f)
    (cond (eqb r row_code) (all_of (73 ∷ 68 ∷ []) f)
    (cond (eqb r first_code) (all_of (67 ∷ 68 ∷ 73 ∷ []) f)
    (keeps_frame r f))))))))

-- "(General Use, Reserved, free parts and the record count excepted). Function is C, D, I, U or M. NPA and Calling Number are all
-- digits. .. Class is a digit; Type 0 to 5; State two capitals; .. Street Name, Community, State, Class and Type may be blank only
-- in D and U. In a guide row Street, Community, State .. are never blank .. The company name is not blank."
unfoldable pub keeps : ℕ → Bool → List ℕ → Bool
keeps r lax f =
    cond (eqb r free) true
    (cond (eqb r left_text) (left_justified f)
    (cond (eqb r named) (needed_in lax f)
    (cond (eqb r code) (all_of (67 ∷ 68 ∷ 73 ∷ 85 ∷ 77 ∷ []) f)
    (cond (eqb r digits) (all_in Digit f)
    (cond (eqb r direction) (is_direction f)
    (cond (eqb r one_digit) (spared lax f || all_in Digit f)
    (cond (eqb r zero_to_five) (spared lax f || all_of (48 ∷ 49 ∷ 50 ∷ 51 ∷ 52 ∷ 53 ∷ []) f)
    (cond (eqb r capitals) (spared lax f || all_in Capital f)
    (keeps_other r f)))))))))

-- ---- numbers: taken, or the field's start is the fault

-- "House Number is blank or 1 to 8 digits"
unfoldable pub house_fault : ℕ → List ℕ → ℕ
house_fault at f = on_some (house_in f) at (λ n. 0)

-- "Low and High are 1 to 8 digits"
unfoldable pub end_fault : ℕ → List ℕ → ℕ
end_fault at f = on_some (end_in f) at (λ n. 0)

-- "Low at most High (fault at 79)"
unfoldable pub high_fault : ℕ → List ℕ → ℕ
high_fault at row =
    on_some (high_of row) at (λ high.
    on_some (low_of row) at (λ low.
    cond (ltb high low) at 0))

-- "for `O` both ends are odd, for `E` both even (fault at 123)"; the letter is `O`, `E` or `B`
unfoldable pub parity_fault : ℕ → List ℕ → ℕ
parity_fault at row =
    on_some (low_of row) at (λ low.
    on_some (high_of row) at (λ high.
    cond (allows (parity_of row) low && allows (parity_of row) high) 0 at))

-- ---- the first fault of a line

-- "Every byte is 20 to 7E hex"; and all n of them are there
unfoldable pub is_whole : ℕ → List ℕ → Bool
is_whole n f = eqb (length f) n && all_in Printable f

-- the fault of field f of a line, which starts at position `at`, by its rule alone: `at`, or 0 where it keeps it
abbrev pub rule_by : ℕ → ℕ → Bool → List ℕ → List ℕ → ℕ
rule_by at r lax s f =
    cond (eqb r house) (house_fault at f)
    (cond (eqb r low_end) (end_fault at f)
    (cond (eqb r high_end) (high_fault at s)
    (cond (eqb r parity_letter) (parity_fault at s)
    (cond (keeps r lax f) 0 at))))

-- the same of a field that has n bytes, all of them there and 20 to 7E hex
unfoldable pub fault_by : ℕ → ℕ → ℕ → Bool → List ℕ → List ℕ → ℕ
fault_by at n r lax s f = cond (is_whole n f) (rule_by at r lax s f) at

abbrev pub from_zero : ℕ → ℕ
from_zero at = at - 1

abbrev pub or_else : ℕ → ℕ → ℕ
or_else a b = cond (eqb a 0) b a

-- "first byte of its first bad field", 0 where there is none
unfoldable pub fault_in : Bool → List ℕ → List ℕ → ℕ
fault_in lax s (at ∷ n ∷ r ∷ t) = or_else (fault_by at n r lax s (part (from_zero at) n s)) (fault_in lax s t)
fault_in lax s [] = 0
fault_in lax s (x ∷ []) = 0
fault_in lax s (x ∷ y ∷ []) = 0

-- "may be blank only in D and U"
abbrev pub is_lax : ℕ → Bool
is_lax b = eqb b 68 || eqb b 85

-- a data record and a guide row, by their tables
unfoldable pub record_fault : List ℕ → List ℕ → ℕ
record_fault t r = fault_in (is_lax (function_of r)) r t

unfoldable pub row_fault : List ℕ → List ℕ → ℕ
row_fault t g = fault_in false g t

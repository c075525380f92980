-- 01, "Header" and "Trailer", read to what taking needs. Each table says how long its line is.
-- Assumes nothing.
use Rattle.std.specs.Prelude.{ℕ, List, [], ◌∷◌, ◌≡◌, refl, Bool, true, false, ◌&&◌, cond, eqb, Option, Some, None}
use Rattle.text.specs.Text.{same_bytes, put_at, spaces, left_digits, right_digits, on_some}
use Rattle.calendar.specs.Calendar.{day_of}
use Rattle.layout.specs.Tables.{header_table, header, trailer, start_of, size_of, field, opener, frame_date, name, cycle, count, frame_star}
use Rattle.layout.specs.Counters.{cycle_of, count_of}
use Rattle.layout.specs.Rules.{fault_in}
use Rattle.layout.specs.declared.counter.Count.{Count}
use Rattle.layout.specs.declared.frame.Header.{Header}

-- where a frame's letters, date, company name, counter and `*` start, and how many bytes each but the counter has
abbrev pub common_places : List ℕ → ℕ → List ℕ
common_places t counter =
    start_of t opener ∷ size_of t opener
    ∷ start_of t frame_date ∷ size_of t frame_date
    ∷ start_of t name ∷ size_of t name
    ∷ start_of t counter
    ∷ start_of t frame_star ∷ size_of t frame_star
    ∷ []

-- letters, date, company name, the counter's start and `*` stand at the same places in both tables
pub same_frame_lem : same_bytes (common_places header cycle) (common_places trailer count) ≡ true
same_frame_lem = refl

unfoldable pub date_of : List ℕ → List ℕ
date_of s = field header frame_date s

unfoldable pub name_of : List ℕ → List ℕ
name_of s = field header name s

-- a header by table t: each field keeps its rule; its day and its cycle
unfoldable pub header_of : List ℕ → List ℕ → Option Header
header_of t s =
    cond (eqb (fault_in false s t) 0)
    (on_some (day_of (date_of s)) None (λ d.
    on_some (cycle_of (field header cycle s)) None (λ c.
    Some (record { day = d; cycle = c }))))
    None

-- "its date or name differs from the header's"
unfoldable pub same_frame : List ℕ → List ℕ → Bool
same_frame h s = same_bytes (date_of h) (date_of s) && same_bytes (name_of h) (name_of s)

-- a trailer by table t, beside its header h: its record count
unfoldable pub trailer_of : List ℕ → List ℕ → List ℕ → Option Count
trailer_of t h s =
    cond (eqb (fault_in false s t) 0)
    (cond (same_frame h s) (on_some (count_of (field trailer count s)) None Some) None)
    None

-- ---- writing

-- the letters that a header and a trailer begin with: "`UHL` and two spaces", "`UTL` and two spaces"
abbrev pub header_letters : List ℕ
header_letters = 85 ∷ 72 ∷ 76 ∷ 32 ∷ 32 ∷ []

abbrev pub trailer_letters : List ℕ
trailer_letters = 85 ∷ 84 ∷ 76 ∷ 32 ∷ 32 ∷ []

-- m bytes, "free parts are spaces": the letters, date, company name and counter of a header or a trailer, and `*`
unfoldable pub frame_with : List ℕ → List ℕ → List ℕ → List ℕ → ℕ → List ℕ
frame_with letters date company counter m =
    put_at (start_of header opener) letters
    (put_at (start_of header frame_date) date
    (put_at (start_of header name) company
    (put_at (start_of header cycle) counter
    (put_at (start_of (header_table m) frame_star) (42 ∷ [])
    (spaces m)))))

-- a header; "the cycle has no leading zero"
unfoldable pub header_with : List ℕ → List ℕ → ℕ → ℕ → List ℕ
header_with date company c m =
    frame_with header_letters date company (left_digits c (spaces (size_of header cycle))) m

-- a trailer of n records
unfoldable pub trailer_with : List ℕ → List ℕ → ℕ → ℕ → List ℕ
trailer_with date company n m =
    frame_with trailer_letters date company (right_digits n (spaces (size_of trailer count))) m

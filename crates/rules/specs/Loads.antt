-- 01, "Load file": when it is refused, its bytes, and what is returned; 2026-01, in either version.
-- Assumes nothing.
use Rattle.layout.specs.declared.frame.Header.{Header}
use Rattle.text.specs.Text.{on_some}
use Rattle.std.specs.Prelude.{ℕ, zero, suc, ◌+◌, ◌*◌, ◌≡◌, List, [], ◌++◌, Bool, ◌&&◌, not, cond, leb, eqb, length, drop, Option, None}
use Rattle.calendar.specs.declared.Day.{Day}
use Rattle.calendar.specs.Calendar.{is_before}
use Rattle.layout.specs.Tables.{header, header_table, size_of, frame_date, name}
use Rattle.layout.specs.Fields.{for_load}
use Rattle.layout.specs.Frames.{header_of, header_with, trailer_with}
use Rattle.versions.specs.declared.Version.{Version}
use Rattle.versions.specs.Versions.{narrow_of, fits_in}
use Rattle.rules.specs.declared.Kind.TheVariants.{Data}
use Rattle.rules.specs.declared.Loaded.{Loaded}
use Rattle.rules.specs.Walks.{find, count}
use Rattle.rules.specs.Slots.{slots, slot_at, state_of, slot_day, record_of, is_live, register_sound}
use Rattle.rules.specs.Takes.{shape_of, edges}

-- ---- its bytes

-- an entry is held or open
abbrev pub is_entry : List ℕ → Bool
is_entry s = is_live (state_of s)

unfoldable pub entry_at : List ℕ → ℕ → Bool
entry_at R i = is_entry (slot_at R i)

unfoldable pub entries_in : List ℕ → ℕ
entries_in R = count (entry_at R) (slots R)

-- "each held and open record in slot order with Function `I` and Source `C`": those of the first i slots
unfoldable pub lines_to : Version → List ℕ → ℕ → List ℕ
lines_to v R zero = []
lines_to v R (suc i) = lines_to v R i ++ cond (entry_at R i) (narrow_of v (for_load (record_of (slot_at R i)))) []

unfoldable pub header_for : Version → List ℕ → List ℕ → ℕ → List ℕ
header_for v date company c = header_with date company c (shape_of (Data v)).frame

unfoldable pub trailer_for : Version → List ℕ → List ℕ → ℕ → List ℕ
trailer_for v date company n = trailer_with date company n (shape_of (Data v)).frame

-- "header, then each held and open record .., then trailer"
unfoldable pub load_file : Version → List ℕ → List ℕ → List ℕ → ℕ → List ℕ
load_file v R date company c =
    header_for v date company c ++ (lines_to v R (slots R) ++ trailer_for v date company (entries_in R))

unfoldable pub load_size : Version → List ℕ → ℕ
load_size v R = edges (Data v) + entries_in R * (shape_of (Data v)).line

-- ---- "Refused in this order"

-- the header to be written, if "date, name or cycle" keep "the header's rules (lengths 6 and 50 included)"
unfoldable pub load_header : Version → List ℕ → List ℕ → ℕ → Option Header
load_header v date company c =
    cond (eqb (length date) (size_of header frame_date) && eqb (length company) (size_of header name))
    (header_of (header_table (shape_of (Data v)).frame) (header_for v date company c))
    None

-- "the date is before an entry's day"
abbrev pub is_later_entry : Day → List ℕ → Bool
is_later_entry day s = is_live (state_of s) && is_before day (slot_day s)

unfoldable pub later_at : Day → List ℕ → ℕ → Bool
later_at day R i = is_later_entry day (slot_at R i)

-- 27 | 2026-01: "if a Version 2 field or the tail of a longer field isn't blank", of an entry
abbrev pub is_wide_entry : Version → List ℕ → Bool
is_wide_entry v s = is_entry s && not (fits_in v (record_of s))

unfoldable pub wide_at : Version → List ℕ → ℕ → Bool
wide_at v R i = is_wide_entry v (slot_at R i)

-- "27 after 26 and before 25"
-- 25 | "the output is too short"
unfoldable pub narrow_refusal : Version → List ℕ → ℕ → ℕ
narrow_refusal v R room = on_some (find (wide_at v R) (slots R)) (cond (leb (load_size v R) room) 0 25) (λ i. 27)

-- 26 | "date, name or cycle breaks the header's rules (lengths 6 and 50 included) or the date is before an entry's day"
-- and then 27 and 25
unfoldable pub header_refusal : Version → List ℕ → List ℕ → List ℕ → ℕ → ℕ → ℕ
header_refusal v R date company c room =
    on_some (load_header v date company c) 26 (λ h.
    on_some (find (later_at h.day R) (slots R)) (narrow_refusal v R room) (λ i. 26))

-- 1 | "register length or a slot unsound"
-- and then the others
unfoldable pub load_refusal : Version → List ℕ → List ℕ → List ℕ → ℕ → ℕ → ℕ
load_refusal v R date company c room = cond (register_sound R) (header_refusal v R date company c room) 1

-- "with the lowest such entry's slot"; 0 but in 27
unfoldable pub wide_slot : Version → List ℕ → ℕ → ℕ
wide_slot v R refusal = cond (eqb refusal 27) (on_some (find (wide_at v R) (slots R)) 0 (λ i. i)) 0

-- ---- what is returned, and the output afterwards

pub record Load : Type 0 where
  pub result : Loaded
  pub output : List ℕ

-- "A refusal returns its number with 0 bytes and 0 entries and writes nothing"
abbrev pub refused_load : Version → List ℕ → ℕ → List ℕ → Load
refused_load v R refusal out =
    record { result = record { refusal = refusal; bytes = 0; entries = 0; slot = wide_slot v R refusal }; output = out }

-- "Otherwise the bytes and entries written are returned, and bytes past the end stay"
abbrev pub written_load : Version → List ℕ → List ℕ → List ℕ → ℕ → List ℕ → Load
written_load v R date company c out =
    record {
      result = record { refusal = 0; bytes = load_size v R; entries = entries_in R; slot = 0 };
      output = load_file v R date company c ++ drop (load_size v R) out;
    }

unfoldable pub loaded : Version → List ℕ → List ℕ → List ℕ → ℕ → List ℕ → Load
loaded v R date company c out =
    cond (eqb (load_refusal v R date company c (length out)) 0)
    (written_load v R date company c out)
    (refused_load v R (load_refusal v R date company c (length out)) out)

-- what writing a load file promises: the result, and the output at exit
abbrev pub WritesLoad : Version → List ℕ → List ℕ → List ℕ → ℕ → List ℕ → Loaded → List ℕ → Type 0
WritesLoad v R date company c out result output =
    (result ≡ (loaded v R date company c out).result) × (output ≡ (loaded v R date company c out).output)

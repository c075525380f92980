-- 01, "Taking a file": the refusals 1 to 9, what is applied, and what is returned, for each kind of file: guide files, and data files of
-- either version (2026-01).
-- Assumes nothing.
use Rattle.std.specs.Prelude.{ℕ, zero, suc, ◌+◌, ◌*◌, ◌-◌, ◌/◌, ◌%◌, ◌≡◌, List, [], ◌∷◌, ◌++◌, Bool, ◌&&◌, not, cond, leb, eqb, length, drop, Result, Ok, Err}
use Rattle.text.specs.Text.{part, on_some}
use Rattle.layout.specs.declared.frame.Header.{Header}
use Rattle.layout.specs.declared.counter.Cycle.{Cycle}
use Rattle.layout.specs.Tables.{data_record, narrow_record, guide_row, header_table, trailer_table}
use Rattle.layout.specs.Counters.{given_cycle, is_next_of, is_count}
use Rattle.layout.specs.Rules.{record_fault, row_fault}
use Rattle.layout.specs.Frames.{header_of, trailer_of}
use Rattle.versions.specs.declared.Version.{Version}
use Rattle.versions.specs.declared.Version.TheVariants.{One, Two}
use Rattle.versions.specs.Versions.{widened}
use Rattle.rules.specs.declared.Kind.{Kind}
use Rattle.rules.specs.declared.Kind.TheVariants.{Data, Guide}
use Rattle.rules.specs.declared.Refusal.{Refusal}
use Rattle.rules.specs.declared.Taken.{Taken}
use Rattle.rules.specs.Walks.{find}
use Rattle.rules.specs.Slots.{register_sound, guide_sound}
use Rattle.rules.specs.Records.{applied}
use Rattle.rules.specs.Rows.{row_applied}

-- ---- the lines of a file

-- a file's shape: how many bytes header and trailer have, how many a record or a row has, its table, and the record that is applied
pub record Shape : Type 0 where
  pub frame : ℕ
  pub line : ℕ
  pub table : List ℕ
  pub wide : List ℕ → List ℕ

-- "The caller says which version"; 2026-01: "the 240-byte record of document 003, Exhibit 1, with 160-byte header and trailer", taken "by
-- widening each record to Version 2"
abbrev pub shape_of : Kind → Shape
shape_of (Data Two) = record { frame = 200; line = 512; table = data_record; wide = λ r. r }
shape_of (Data One) = record { frame = 160; line = 240; table = narrow_record; wide = widened }
shape_of Guide = record { frame = 200; line = 200; table = guide_row; wide = λ g. g }

-- header and trailer
abbrev pub edges : Kind → ℕ
edges k = (shape_of k).frame + (shape_of k).frame

-- the first fault of a record or a row
abbrev pub line_fault : Kind → List ℕ → ℕ
line_fault (Data v) r = record_fault (shape_of (Data v)).table r
line_fault Guide g = row_fault (shape_of Guide).table g

-- n, of a file of "400 + 512n (guide: 400 + 200n)" bytes; 2026-01: "3 uses 240 and 320 for a Version 1 file"
unfoldable pub lines_in : Kind → List ℕ → ℕ
lines_in k f = (length f - edges k) / (shape_of k).line

unfoldable pub good_file : Kind → List ℕ → Bool
good_file k f = leb (edges k) (length f) && (eqb ((length f - edges k) % (shape_of k).line) 0 && leb (lines_in k f) 9999)

unfoldable pub header_line : Kind → List ℕ → List ℕ
header_line k f = part 0 (shape_of k).frame f

unfoldable pub trailer_line : Kind → List ℕ → List ℕ
trailer_line k f = part (length f - (shape_of k).frame) (shape_of k).frame f

-- "Records follow one another with nothing between"
unfoldable pub line_at : Kind → List ℕ → ℕ → List ℕ
line_at k f i = part ((shape_of k).frame + i * (shape_of k).line) (shape_of k).line f

-- ---- the refusals, "tried in this order, and the first decides"

pub record Stores : Type 0 where
  pub register : List ℕ
  pub guide : List ℕ

-- "number, record place and position (both 0 except in 9 ..)"
abbrev pub refuse : ℕ → Result Header Refusal
refuse n = Err (record { number = n; place = 0; position = 0 })

unfoldable pub bad_line : Kind → List ℕ → ℕ → Bool
bad_line k f i = not (eqb (line_fault k (line_at k f i)) 0)

-- 9 | "a record breaks a field rule": "first bad record from 1, first byte of its first bad field"
unfoldable pub lines_checked : Kind → List ℕ → Header → Result Header Refusal
lines_checked k f h =
    on_some (find (bad_line k f) (lines_in k f)) (Ok h) (λ i.
    Err (record { number = 9; place = i + 1; position = line_fault k (line_at k f i) }))

-- 7 | "trailer wrong, or its date or name differs from the header's"
-- 8 | "trailer count isn't n"
-- and then the lines
unfoldable pub trailer_checked : Kind → List ℕ → Header → Result Header Refusal
trailer_checked k f h =
    on_some (trailer_of (trailer_table (shape_of k).frame) (header_line k f) (trailer_line k f)) (refuse 7) (λ c.
    cond (is_count c (lines_in k f)) (lines_checked k f h) (refuse 8))

-- 5 | "header wrong"
-- 6 | "cycle isn't the next: last + 1, after 999999 is 1; last is 0 if none yet; last above 999999"
-- and then the trailer
unfoldable pub frame_checked : Kind → List ℕ → Cycle → Result Header Refusal
frame_checked k f last =
    on_some (header_of (header_table (shape_of k).frame) (header_line k f)) (refuse 5) (λ h.
    cond (is_next_of last h.cycle) (trailer_checked k f h) (refuse 6))

-- 1 | "register length or a slot unsound"
-- 2 | "guide length or a slot unsound"
-- 3 | "file length isn't 400 + 512n (guide: 400 + 200n), n at most 9999"
-- 4 | "answers buffer shorter than n": room is its length
-- and then header, trailer and lines
unfoldable pub checked : Kind → Stores → List ℕ → ℕ → Cycle → Result Header Refusal
checked k s f room last =
    cond (register_sound s.register)
    (cond (guide_sound s.guide)
    (cond (good_file k f)
    (cond (leb (lines_in k f) room) (frame_checked k f last)
    (refuse 4))
    (refuse 3))
    (refuse 2))
    (refuse 1)

-- ---- "Otherwise each record is applied in turn to what the earlier ones left"

pub record Answered : Type 0 where
  pub answer : ℕ
  pub stores : Stores

-- a data record writes the register, a guide row the guide
unfoldable pub line_applied : Kind → Header → List ℕ → Stores → Answered
line_applied (Data v) h r s =
    record {
      answer = (applied s.register s.guide h ((shape_of (Data v)).wide r)).answer;
      stores = record { register = (applied s.register s.guide h ((shape_of (Data v)).wide r)).register; guide = s.guide };
    }
line_applied Guide h g s =
    record {
      answer = (row_applied s.register s.guide h g).answer;
      stores = record { register = s.register; guide = (row_applied s.register s.guide h g).guide };
    }

-- the stores after the first i lines
unfoldable pub after : Kind → Header → List ℕ → Stores → ℕ → Stores
after k h f s zero = s
after k h f s (suc i) = (line_applied k h (line_at k f i) (after k h f s i)).stores

-- the answer to line i
unfoldable pub answer_at : Kind → Header → List ℕ → Stores → ℕ → ℕ
answer_at k h f s i = (line_applied k h (line_at k f i) (after k h f s i)).answer

-- the first i answers
unfoldable pub answers_to : Kind → Header → List ℕ → Stores → ℕ → List ℕ
answers_to k h f s zero = []
answers_to k h f s (suc i) = answers_to k h f s i ++ (answer_at k h f s i ∷ [])

-- ---- what a take returns and leaves

pub record Outcome : Type 0 where
  pub result : Taken
  pub stores : Stores
  pub answers : List ℕ

-- how many of a list are 0, and how many not
unfoldable pub zeros_in : List ℕ → ℕ
zeros_in [] = 0
zeros_in (a ∷ l) = cond (eqb a 0) 1 0 + zeros_in l

unfoldable pub others_in : List ℕ → ℕ
others_in [] = 0
others_in (a ∷ l) = cond (eqb a 0) 0 1 + others_in l

-- "A refusal returns number, record place and position .., counts of 0 and the last cycle as given, and changes nothing lent"
unfoldable pub refused_file : Refusal → Stores → List ℕ → ℕ → Outcome
refused_file r s answers last =
    record {
      result = record {
        refusal = r.number;
        place = r.place;
        position = r.position;
        records = 0;
        done = 0;
        undone = 0;
        last = last;
      };
      stores = s;
      answers = answers;
    }

-- "answer byte i is written, bytes past n stay. Returned: n, how many answers are 0, how many not, the new last cycle"
unfoldable pub applied_file : Kind → Header → Stores → List ℕ → List ℕ → Outcome
applied_file k h s f answers =
    record {
      result = record {
        refusal = 0;
        place = 0;
        position = 0;
        records = lines_in k f;
        done = zeros_in (answers_to k h f s (lines_in k f));
        undone = others_in (answers_to k h f s (lines_in k f));
        last = h.cycle.0;
      };
      stores = after k h f s (lines_in k f);
      answers = answers_to k h f s (lines_in k f) ++ drop (lines_in k f) answers;
    }

abbrev pub on_checked : {A : Type 0} → Result Header Refusal → (Header → A) → (Refusal → A) → A
on_checked (Ok h) good refused = good h
on_checked (Err r) good refused = refused r

unfoldable pub taken : Kind → Stores → List ℕ → List ℕ → ℕ → Outcome
taken k s f answers last =
    on_checked (checked k s f (length answers) (given_cycle last))
    (λ h. applied_file k h s f answers)
    (λ r. refused_file r s answers last)

-- what taking a data file, and a guide file, promises: the result, and each lent buffer at exit
abbrev pub TakesData : Version → List ℕ → List ℕ → List ℕ → List ℕ → ℕ → Taken → List ℕ → List ℕ → Type 0
TakesData v R G f answers last result register answered =
    (result ≡ (taken (Data v) (record { register = R; guide = G }) f answers last).result)
    × ((register ≡ (taken (Data v) (record { register = R; guide = G }) f answers last).stores.register)
    × (answered ≡ (taken (Data v) (record { register = R; guide = G }) f answers last).answers))

abbrev pub TakesGuide : List ℕ → List ℕ → List ℕ → List ℕ → ℕ → Taken → List ℕ → List ℕ → Type 0
TakesGuide R G f answers last result guide answered =
    (result ≡ (taken Guide (record { register = R; guide = G }) f answers last).result)
    × ((guide ≡ (taken Guide (record { register = R; guide = G }) f answers last).stores.guide)
    × (answered ≡ (taken Guide (record { register = R; guide = G }) f answers last).answers))

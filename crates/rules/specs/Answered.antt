-- The brief's first demand, as statements: "Every file, register and guide handed over, however damaged, is answered. In taking and
-- writing, a bad one is refused by a number from the description, and a refused file changes no byte lent to us. A refused record
-- changes only its own answer byte." Proved in `proofs/Answers`, for all inputs: take_answered, check_answered, line_answered,
-- load_answered, full_answered, lookup_answered; and one outcome for each of the five promises: one_data, one_guide, one_check,
-- one_load, one_lookup. What a check of the evening is worth in the morning is proved in `proofs/Overnight`.
-- Assumes nothing.
use Rattle.std.specs.Prelude.{ℕ, ◌+◌, ◌*◌, ◌/◌, ◌%◌, ◌≤◌, ◌<◌, ◌≡◌, ◌≢◌, List, [], ◌∷◌, true, false, length, drop, get_or, Some, None}
use Rattle.text.specs.Text.{member_of}
use Rattle.calendar.specs.declared.Day.{Day}
use Rattle.layout.specs.declared.counter.Cycle.{Cycle}
use Rattle.layout.specs.declared.counter.Count.{Count}
use Rattle.layout.specs.declared.frame.Header.{Header}
use Rattle.layout.specs.Tables.{header_table, trailer_table}
use Rattle.layout.specs.Counters.{given_cycle, is_next_of, is_count}
use Rattle.layout.specs.Fields.{number_of}
use Rattle.layout.specs.Frames.{header_of, trailer_of}
use Rattle.versions.specs.declared.Version.{Version}
use Rattle.versions.specs.declared.Version.TheVariants.{One, Two}
use Rattle.rules.specs.declared.Code.{Code}
use Rattle.rules.specs.declared.Code.TheVariants.{Insert}
use Rattle.rules.specs.declared.Kind.{Kind}
use Rattle.rules.specs.declared.Kind.TheVariants.{Data, Guide}
use Rattle.rules.specs.declared.Taken.{Taken}
use Rattle.rules.specs.declared.Loaded.{Loaded}
use Rattle.rules.specs.Walks.{find}
use Rattle.rules.specs.Slots.{slots, slot_at, state_of, is_free, register_sound, guide_sound}
use Rattle.rules.specs.Records.{find_number, is_reusable, answer_of}
use Rattle.rules.specs.Takes.{Stores, Outcome, Answered, shape_of, edges, line_fault, lines_in, good_file, header_line, trailer_line, line_at, line_applied, answer_at, taken, TakesData, TakesGuide}
use Rattle.rules.specs.Checks.{foretold, Checks}
use Rattle.rules.specs.Lookups.{seen, packed, LooksUp}
use Rattle.rules.specs.Loads.{Load, wide_at, loaded, WritesLoad}
use Rattle.rules.specs.Demands.{File, Office, run}

-- ---- the numbers

abbrev pub take_numbers : List ℕ
take_numbers = 0 ∷ 1 ∷ 2 ∷ 3 ∷ 4 ∷ 5 ∷ 6 ∷ 7 ∷ 8 ∷ 9 ∷ []

abbrev pub record_numbers : List ℕ
record_numbers = 0 ∷ 11 ∷ 12 ∷ 13 ∷ 14 ∷ 15 ∷ 16 ∷ 17 ∷ 18 ∷ 19 ∷ 20 ∷ []

abbrev pub answer_numbers : Kind → List ℕ
answer_numbers (Data v) = record_numbers
answer_numbers Guide = 0 ∷ 21 ∷ 22 ∷ 23 ∷ 24 ∷ []

abbrev pub load_numbers : Version → List ℕ
load_numbers One = 0 ∷ 1 ∷ 25 ∷ 26 ∷ 27 ∷ []
load_numbers Two = 0 ∷ 1 ∷ 25 ∷ 26 ∷ []

abbrev pub lookup_numbers : List ℕ
lookup_numbers = 0 ∷ 1 ∷ 10 ∷ []

-- the first bytes of a table's fields
abbrev pub starts_in : List ℕ → List ℕ
starts_in (at ∷ n ∷ r ∷ t) = at ∷ starts_in t
starts_in [] = []
starts_in (x ∷ []) = []
starts_in (x ∷ y ∷ []) = []

-- ---- a take

-- "A refusal returns .. counts of 0 and the last cycle as given, and changes nothing lent"
pub record TakeRefused (s : Stores) (before : List ℕ) (given : ℕ) (o : Outcome) : Type 0 where
  pub stores : o.stores ≡ s
  pub answers : o.answers ≡ before
  pub records : o.result.records ≡ 0
  pub done : o.result.done ≡ 0
  pub undone : o.result.undone ≡ 0
  pub last : o.result.last ≡ given

-- none of the nine tests hits: the stores, the file's length, the room for answers, header, cycle, trailer, count and lines
pub record NoneHits (k : Kind) (s : Stores) (f : List ℕ) (room : ℕ) (last : Cycle) (h : Header) : Type 0 where
  pub register : register_sound s.register ≡ true
  pub guide : guide_sound s.guide ≡ true
  pub long : good_file k f ≡ true
  pub fits : lines_in k f ≤ room
  pub head : header_of (header_table (shape_of k).frame) (header_line k f) ≡ Some h
  pub next : is_next_of last h.cycle ≡ true
  pub count : Count
  pub tail : trailer_of (trailer_table (shape_of k).frame) (header_line k f) (trailer_line k f) ≡ Some count
  pub counted : is_count count (lines_in k f) ≡ true
  pub lines : (i : ℕ) → i < lines_in k f → line_fault k (line_at k f i) ≡ 0

-- "answer byte i is written, bytes past n stay. Returned: n, how many answers are 0, how many not, the new last cycle": under the
-- header h, where none of the nine hits
pub record TakeDone (k : Kind) (s : Stores) (f answers : List ℕ) (given : ℕ) (o : Outcome) (h : Header) : Type 0 where
  pub passed : NoneHits k s f (length answers) (given_cycle given) h
  pub records : o.result.records ≡ lines_in k f
  pub counts : o.result.done + o.result.undone ≡ lines_in k f
  pub last : o.result.last ≡ h.cycle.0
  pub each : (i : ℕ) → i < lines_in k f → get_or o.answers i 0 ≡ answer_at k h f s i
  pub number : (i : ℕ) → i < lines_in k f → member_of (get_or o.answers i 0) (answer_numbers k) ≡ true
  pub rest : drop (lines_in k f) o.answers ≡ drop (lines_in k f) answers

-- "(both 0 except in 9: first bad record from 1, first byte of its first bad field)"
pub record Placed (k : Kind) (f : List ℕ) (t : Taken) : Type 0 where
  pub from : 1 ≤ t.place
  pub to : t.place ≤ lines_in k f
  pub field : member_of t.position (starts_in (shape_of k).table) ≡ true

-- a take is refused by a number of the table, or done; it is done exactly where none of the nine tests hits
pub record TakeAnswered (k : Kind) (s : Stores) (f answers : List ℕ) (last : ℕ) (o : Outcome) : Type 0 where
  pub number : member_of o.result.refusal take_numbers ≡ true
  pub refused : o.result.refusal ≢ 0 → TakeRefused s answers last o
  pub done : o.result.refusal ≡ 0 → (h : Header) × TakeDone k s f answers last o h
  pub taken : (h : Header) → NoneHits k s f (length answers) (given_cycle last) h → o.result.refusal ≡ 0
  pub placed : o.result.refusal ≡ 9 → Placed k f o.result
  pub unplaced : o.result.refusal ≢ 9 → (o.result.place ≡ 0) × (o.result.position ≡ 0)

unfoldable pub TakesAnswer : Type 0
TakesAnswer =
    (k : Kind) (s : Stores) (f answers : List ℕ) (last : ℕ) → TakeAnswered k s f answers last (taken k s f answers last)

-- ---- a check (2026-03)

-- a check is refused by a number of the table, with a count of 0, or "returns n"; it is good exactly where none of the nine tests hits;
-- done and undone are 0 and the last cycle is as given in either case
pub record CheckAnswered (k : Kind) (s : Stores) (f answers : List ℕ) (given : ℕ) (c : Taken) : Type 0 where
  pub number : member_of c.refusal take_numbers ≡ true
  pub refused : c.refusal ≢ 0 → c.records ≡ 0
  pub good : c.refusal ≡ 0 → c.records ≡ lines_in k f
  pub passed : c.refusal ≡ 0 → (h : Header) × NoneHits k s f (length answers) (given_cycle given) h
  pub passes : (h : Header) → NoneHits k s f (length answers) (given_cycle given) h → c.refusal ≡ 0
  pub placed : c.refusal ≡ 9 → Placed k f c
  pub unplaced : c.refusal ≢ 9 → (c.place ≡ 0) × (c.position ≡ 0)
  pub done : c.done ≡ 0
  pub undone : c.undone ≡ 0
  pub last : c.last ≡ given

unfoldable pub ChecksAnswer : Type 0
ChecksAnswer =
    (k : Kind) (s : Stores) (f answers : List ℕ) (last : ℕ) → CheckAnswered k s f answers last (foretold k s f answers last)

-- "a file checked the evening before and applied after breakfast": m are the stores of the morning. Whatever the last cycle is by then,
-- the file is refused by 6 or not at all: not with the one that it was checked with, and by 6 with the one that another file has left,
-- of whatever version, taken after the same last cycle.
pub record Morning (k : Kind) (m : Stores) (f answers : List ℕ) (last : ℕ) : Type 0 where
  pub only : (now : ℕ) → member_of (taken k m f answers now).result.refusal (0 ∷ 6 ∷ []) ≡ true
  pub applied : (taken k m f answers last).result.refusal ≡ 0
  pub overtaken : (j : Kind) (s : Stores) (g a : List ℕ) → (taken j s g a last).result.refusal ≡ 0
      → (taken k m f answers (taken j s g a last).result.last).result.refusal ≡ 6

-- a file that was checked good, whatever files of any kind were taken or refused overnight
unfoldable pub Overnight : Type 0
Overnight =
    (k : Kind) (o : Office) (files : List File) (f answers : List ℕ) (last : ℕ)
    → (foretold k o.stores f answers last).refusal ≡ 0 → Morning k (run files o).stores f answers last

-- ---- a record

-- "A refused record changes only its own answer byte": it leaves both stores as they were
pub record LineAnswered (k : Kind) (s : Stores) (a : Answered) : Type 0 where
  pub number : member_of a.answer (answer_numbers k) ≡ true
  pub refused : a.answer ≢ 0 → a.stores ≡ s

unfoldable pub LinesAnswer : Type 0
LinesAnswer = (k : Kind) (h : Header) (r : List ℕ) (s : Stores) → LineAnswered k s (line_applied k h r s)

-- 20 | "I, absent: no free slot, and no resting slot at least 90 days before the header's date"
pub record Full (R : List ℕ) (h : Header) (r : List ℕ) (c : Code) : Type 0 where
  pub insert : c ≡ Insert
  pub absent : find_number (number_of r) R ≡ None
  pub free : (i : ℕ) → i < slots R → is_free (state_of (slot_at R i)) ≡ false
  pub reusable : (i : ℕ) → i < slots R → is_reusable h.day (slot_at R i) ≡ false

-- an answer of 20 means just that; and then the answer is 20, or one of 11 to 19 that stand before it
pub record FullAnswered (R G : List ℕ) (h : Header) (r : List ℕ) (c : Code) (d : Day) : Type 0 where
  pub means : answer_of R G h r c d ≡ 20 → Full R h r c
  pub then : Full R h r c → member_of (answer_of R G h r c d) (drop 1 record_numbers) ≡ true

unfoldable pub FullsAnswer : Type 0
FullsAnswer = (R G : List ℕ) (h : Header) (r : List ℕ) (c : Code) (d : Day) → FullAnswered R G h r c d

-- ---- the load file

-- 2026-01: 27 comes "with the lowest such entry's slot", which is 0 otherwise
pub record LoadAnswered (v : Version) (R out : List ℕ) (l : Load) : Type 0 where
  pub number : member_of l.result.refusal (load_numbers v) ≡ true
  pub refused : l.result.refusal ≢ 0 → (l.result.bytes ≡ 0) × ((l.result.entries ≡ 0) × (l.output ≡ out))
  pub sized : l.result.refusal ≡ 0 → l.result.bytes ≡ edges (Data v) + l.result.entries * (shape_of (Data v)).line
  pub rest : drop l.result.bytes l.output ≡ drop l.result.bytes out
  pub wide : l.result.refusal ≡ 27 → find (wide_at v R) (slots R) ≡ Some l.result.slot
  pub none : l.result.refusal ≢ 27 → l.result.slot ≡ 0

unfoldable pub LoadsAnswer : Type 0
LoadsAnswer =
    (v : Version) (R date company : List ℕ) (c : ℕ) (out : List ℕ) → LoadAnswered v R out (loaded v R date company c out)

-- ---- lookup

-- what is unpacked of the number, bits 0 to 15, 16 to 31, 32 to 35 and 36 to 39, is what was seen; nothing stands above them
pub record LookupAnswered (R n : List ℕ) (a : ℕ) : Type 0 where
  pub number : member_of (seen R n).refusal lookup_numbers ≡ true
  pub refused : (seen R n).refusal ≢ 0 → a ≡ (seen R n).refusal * 68719476736
  pub looked : a % 65536 ≡ (seen R n).looked
  pub slot : a / 65536 % 65536 ≡ (seen R n).slot
  pub state : a / 4294967296 % 16 ≡ (seen R n).state
  pub refusal : a / 68719476736 ≡ (seen R n).refusal

unfoldable pub LookupsAnswer : Type 0
LookupsAnswer = (R n : List ℕ) → LookupAnswered R n (packed (seen R n))

-- ---- "Show that the promise admits one outcome"

unfoldable pub OneData : Type 0
OneData =
    (v : Version) (R G f answers : List ℕ) (last : ℕ) (t u : Taken) (S T a b : List ℕ)
    → TakesData v R G f answers last t S a → TakesData v R G f answers last u T b → (t ≡ u) × ((S ≡ T) × (a ≡ b))

unfoldable pub OneGuide : Type 0
OneGuide =
    (R G f answers : List ℕ) (last : ℕ) (t u : Taken) (S T a b : List ℕ)
    → TakesGuide R G f answers last t S a → TakesGuide R G f answers last u T b → (t ≡ u) × ((S ≡ T) × (a ≡ b))

unfoldable pub OneCheck : Type 0
OneCheck =
    (k : Kind) (R G f answers : List ℕ) (last : ℕ) (t u : Taken)
    → Checks k R G f answers last t → Checks k R G f answers last u → t ≡ u

unfoldable pub OneLoad : Type 0
OneLoad =
    (v : Version) (R date company : List ℕ) (c : ℕ) (out : List ℕ) (l m : Loaded) (a b : List ℕ)
    → WritesLoad v R date company c out l a → WritesLoad v R date company c out m b → (l ≡ m) × (a ≡ b)

unfoldable pub OneLookup : Type 0
OneLookup = (R n : List ℕ) (a b : ℕ) → LooksUp R n a → LooksUp R n b → a ≡ b

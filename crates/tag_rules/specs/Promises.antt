-- What is proved of reading and writing, as statements, for every text and every record: in `proofs/ReadsBack` reads_back and one_form,
-- in `proofs/YearLaws` same_year, in `proofs/Orders` any_order, in `proofs/RecordRead` reads_good, in_file and reads_writable, in
-- `proofs/TextAnswers` reads_answer, writes_answer, one_read and one_write, in `proofs/Naming` names_pair.
-- Assumes nothing.
use Rattle.std.specs.Prelude.{ℕ, ◌+◌, ◌≤◌, ◌<◌, ◌≡◌, ◌≢◌, List, [], ◌∷◌, ◌++◌, true, false, length, take, drop, Ok}
use Rattle.text.specs.declared.Class.TheVariants.{Unbarred}
use Rattle.text.specs.Text.{value_of, all_in, member_of, part, digits}
use Rattle.calendar.specs.Calendar.{years_of}
use Rattle.layout.specs.declared.frame.Header.{Header}
use Rattle.layout.specs.Tables.{data_record}
use Rattle.layout.specs.Rules.{record_fault}
use Rattle.versions.specs.declared.Version.TheVariants.{Two}
use Rattle.rules.specs.declared.Kind.TheVariants.{Data}
use Rattle.rules.specs.Answered.{starts_in}
use Rattle.rules.specs.Takes.{lines_in, line_at, lines_checked}
use Rattle.tag_rules.specs.declared.Tagged.{Tagged}
use Rattle.tag_rules.specs.Tags.{calendar_date}
use Rattle.tag_rules.specs.Forms.{worded}
use Rattle.tag_rules.specs.Reading.{is_framed, draft_of, TextOutcome, text_read, ReadsText}
use Rattle.tag_rules.specs.Writing.{tagged_of, has_form, text_most, text_written, WritesText}

-- ---- "Reading what we wrote gives the same record."

unfoldable pub ReadsBack : Type 0
ReadsBack =
    (r out back : List ℕ) → (text_written r out).result.refusal ≡ 0 → 512 ≤ length back
    → let s = take (text_written r out).result.bytes (text_written r out).output in
    ((text_read s back).result.refusal ≡ 0) × ((text_read s back).output ≡ r ++ drop 512 back)

-- "so each record has one tagged form": no two records have the same
unfoldable pub OneForm : Type 0
OneForm =
    (r q out : List ℕ) → (text_written r out).result.refusal ≡ 0 → (text_written q out).result.refusal ≡ 0
    → text_written r out ≡ text_written q out → r ≡ q

-- ---- "CPD as Date, MMDDYY, only where the year is 1970 to 2069": the year that is written is the one that the calendar reads

unfoldable pub SameYear : Type 0
SameYear =
    (m d y : ℕ) → y < 100 → value_of (part 0 4 (worded calendar_date (digits 2 m ++ (digits 2 d ++ digits 2 y)))) ≡ 1970 + years_of y

-- ---- "reading accepts any order": of two neighbouring pairs, and so of all

-- the text with these pairs
abbrev pub joined : List (List ℕ) → List ℕ
joined [] = 10 ∷ []
joined (p ∷ ps) = 124 ∷ (p ++ joined ps)

abbrev pub text_of : List (List ℕ) → List ℕ
text_of ps = 68 ∷ 65 ∷ 84 ∷ joined ps

unfoldable pub AnyOrder : Type 0
AnyOrder =
    (ps qs : List (List ℕ)) (p q out : List ℕ) → all_in Unbarred p ≡ true → all_in Unbarred q ≡ true
    → text_read (text_of (ps ++ (p ∷ q ∷ qs))) out ≡ text_read (text_of (ps ++ (q ∷ p ∷ qs))) out

-- ---- "Demands 2 and 3 hold over the record so read": it keeps every field rule

-- r was read from some text
pub record WasRead (r : List ℕ) : Type 0 where
  pub text : List ℕ
  pub out : List ℕ
  pub done : (text_read text out).result.refusal ≡ 0
  pub is : r ≡ take 512 (text_read text out).output

unfoldable pub ReadsGood : Type 0
ReadsGood = (r : List ℕ) → WasRead r → (length r ≡ 512) × (record_fault data_record r ≡ 0)

-- and a file whose records were read so is not refused by 9
unfoldable pub InFile : Type 0
InFile =
    (f : List ℕ) (h : Header) → ((i : ℕ) → i < lines_in (Data Two) f → WasRead (line_at (Data Two) f i))
    → lines_checked (Data Two) f h ≡ Ok h

-- what is read can be written, and so has its one tagged form
unfoldable pub ReadsWritable : Type 0
ReadsWritable = (r text : List ℕ) → WasRead r → text_most ≤ length text → (text_written r text).result.refusal ≡ 0

-- ---- the first demand: every text and every record is answered

-- "A refusal writes nothing"; the position is that of a field, and told in 9 only
pub record TextAnswered (numbers positions : List ℕ) (out : List ℕ) (o : TextOutcome) : Type 0 where
  pub number : member_of o.result.refusal numbers ≡ true
  pub refused : o.result.refusal ≢ 0 → (o.result.bytes ≡ 0) × (o.output ≡ out)
  pub unplaced : o.result.refusal ≢ 9 → o.result.position ≡ 0
  pub placed : o.result.refusal ≡ 9 → member_of o.result.position positions ≡ true
  pub within : o.result.bytes ≤ length out
  pub rest : drop o.result.bytes o.output ≡ drop o.result.bytes out

-- reading: 0 exactly where the text is one, nothing was noted, the record is good and there is room
pub record NoneNoted (s out : List ℕ) : Type 0 where
  pub framed : is_framed s ≡ true
  pub known : (draft_of s).notes.unknown ≡ false
  pub once : (draft_of s).notes.twice ≡ false
  pub fit : (draft_of s).notes.unfit ≡ false
  pub good : record_fault data_record (draft_of s).line ≡ 0
  pub room : 512 ≤ length out

unfoldable pub ReadsAnswer : Type 0
ReadsAnswer =
    (s out : List ℕ)
    → TextAnswered (0 ∷ 9 ∷ 25 ∷ 33 ∷ 34 ∷ 35 ∷ 36 ∷ []) (starts_in data_record) out (text_read s out)
    × (((text_read s out).result.refusal ≡ 0 → NoneNoted s out) × (NoneNoted s out → (text_read s out).result.refusal ≡ 0))

-- writing: 0 exactly where the record is good and has a tagged form, and there is room; a record that has not 512 bytes has position 0
pub record Writable (r out : List ℕ) : Type 0 where
  pub long : length r ≡ 512
  pub good : record_fault data_record r ≡ 0
  pub form : has_form r ≡ true
  pub room : length (tagged_of r) ≤ length out

unfoldable pub WritesAnswer : Type 0
WritesAnswer =
    (r out : List ℕ)
    → TextAnswered (0 ∷ 9 ∷ 25 ∷ 37 ∷ []) (0 ∷ starts_in data_record) out (text_written r out)
    × (((text_written r out).result.refusal ≡ 0 → Writable r out) × (Writable r out → (text_written r out).result.refusal ≡ 0))

-- ---- which pair a text is refused for, by 34 or 36, is seen by reading each pair alone: there is one that is refused by the same number

-- none of the pairs has a `|`
abbrev pub AllUnbarred : List (List ℕ) → Type 0
AllUnbarred [] = Unit {0}
AllUnbarred (p ∷ ps) = (all_in Unbarred p ≡ true) × AllUnbarred ps

-- one of them that, read alone, is refused by n
pub record Named (ps : List (List ℕ)) (n : ℕ) (out : List ℕ) : Type 0 where
  pub pair : List ℕ
  pub before : List (List ℕ)
  pub behind : List (List ℕ)
  pub among : ps ≡ before ++ (pair ∷ behind)
  pub alone : (text_read (text_of (pair ∷ [])) out).result.refusal ≡ n

unfoldable pub NamesPair : Type 0
NamesPair =
    (ps : List (List ℕ)) (n : ℕ) (out : List ℕ) → AllUnbarred ps → member_of n (34 ∷ 36 ∷ []) ≡ true
    → (text_read (text_of ps) out).result.refusal ≡ n → Named ps n out

-- ---- "Show that the promise admits one outcome"

unfoldable pub OneRead : Type 0
OneRead = (s out : List ℕ) (a b : Tagged) (c d : List ℕ) → ReadsText s out a c → ReadsText s out b d → (a ≡ b) × (c ≡ d)

unfoldable pub OneWrite : Type 0
OneWrite = (r out : List ℕ) (a b : Tagged) (c d : List ℕ) → WritesText r out a c → WritesText r out b d → (a ≡ b) × (c ≡ d)

-- The tagged record is not empty: a text with every label, in the exhibit's order, is read as the record with those fields, and that
-- record is written as the text. It alone tells the letters of each label and their order. What `reads_back`, `one_form`, `any_order`,
-- `reads_good`, `in_file`, `reads_writable` and `names_pair` ask for is met. All is computed. Assumes nothing.
use Rattle.std.specs.Prelude.{Ok}
use mathlib.Core.Path.{◌≡◌, refl, sym, ap, ◌∙◌}
use mathlib.Core.List.{List, [], ◌∷◌, ◌++◌}
use Prim.Native.Nat.{ℕ, ◌-◌}
use native.Mathlib.Omega.{arith}
use lib.ListN.{length, take, drop, replicate}
use Rattle.text.specs.Text.{spaces, put_at, spelled, runs_of}
use Rattle.calendar.specs.Calendar.{day_of}
use Rattle.layout.specs.declared.frame.Header.{Header}
use Rattle.layout.specs.Tables.{data_record}
use Rattle.layout.specs.Fields.{function_of}
use Rattle.layout.specs.Rules.{record_fault, fault_in, fault_by, is_whole, keeps, keeps_other, house_fault, is_direction, is_date}
use Rattle.versions.specs.declared.Version.TheVariants.{Two}
use Rattle.rules.specs.declared.Kind.TheVariants.{Data}
use Rattle.rules.specs.Walks.{first, find}
use Rattle.rules.specs.Takes.{lines_in, line_at, lines_checked}
use Rattle.tag_rules.specs.Forms.{spread, worded, filled, formed, fits}
use Rattle.tag_rules.specs.Reading.{is_framed, body_of, tag_of, pair_taken, all_taken, draft_of, read_refusal, TextOutcome, text_read}
use Rattle.tag_rules.specs.Writing.{pair_of, pairs_to, tagged_of, is_bare, unformed_at, has_form, write_refusal, text_written}
use Rattle.tag_rules.specs.Promises.{ReadsBack, text_of, AnyOrder, WasRead, ReadsGood, InFile, ReadsWritable, Named, NamesPair}
use Rattle.tag_rules.proofs.ReadsBack.{reads_back}
use Rattle.tag_rules.proofs.Orders.{any_order}
use Rattle.tag_rules.proofs.RecordRead.{reads_good, in_file, reads_writable}
use Rattle.tag_rules.proofs.Naming.{names_pair}

-- every label, with a value
abbrev pairs : List (List ℕ)
pairs =
    (70 ∷ 79 ∷ 67 ∷ 73 ∷ []) ∷  -- FOCI
    (67 ∷ 80 ∷ 78 ∷ 53 ∷ 48 ∷ 51 ∷ 53 ∷ 53 ∷ 53 ∷ 48 ∷ 49 ∷ 48 ∷ 48 ∷ []) ∷  -- CPN5035550100
    (72 ∷ 78 ∷ 79 ∷ 49 ∷ 50 ∷ 51 ∷ 52 ∷ 53 ∷ 54 ∷ 55 ∷ 56 ∷ []) ∷  -- HNO12345678
    (72 ∷ 78 ∷ 83 ∷ 49 ∷ 47 ∷ 50 ∷ []) ∷  -- HNS1/2
    (80 ∷ 82 ∷ 68 ∷ 78 ∷ 87 ∷ []) ∷  -- PRDNW
    (83 ∷ 84 ∷ 78 ∷ 77 ∷ 65 ∷ 73 ∷ 78 ∷ []) ∷  -- STNMAIN
    (83 ∷ 84 ∷ 83 ∷ 83 ∷ 84 ∷ []) ∷  -- STSST
    (80 ∷ 79 ∷ 68 ∷ 83 ∷ 69 ∷ []) ∷  -- PODSE
    (77 ∷ 67 ∷ 78 ∷ 83 ∷ 65 ∷ 76 ∷ 69 ∷ 77 ∷ []) ∷  -- MCNSALEM
    (83 ∷ 84 ∷ 65 ∷ 79 ∷ 82 ∷ []) ∷  -- STAOR
    (76 ∷ 79 ∷ 67 ∷ 65 ∷ 80 ∷ 84 ∷ 32 ∷ 55 ∷ 49 ∷ 56 ∷ []) ∷  -- LOCAPT 718
    (78 ∷ 65 ∷ 77 ∷ 68 ∷ 79 ∷ 69 ∷ 44 ∷ 32 ∷ 74 ∷ 79 ∷ 72 ∷ 78 ∷ []) ∷  -- NAMDOE, JOHN
    (67 ∷ 76 ∷ 83 ∷ 49 ∷ []) ∷  -- CLS1
    (84 ∷ 89 ∷ 83 ∷ 48 ∷ []) ∷  -- TYS0
    (69 ∷ 88 ∷ 67 ∷ 83 ∷ 65 ∷ 76 ∷ 77 ∷ []) ∷  -- EXCSALM
    (69 ∷ 83 ∷ 78 ∷ 48 ∷ 56 ∷ 51 ∷ []) ∷  -- ESN083
    (77 ∷ 84 ∷ 78 ∷ 53 ∷ 48 ∷ 51 ∷ 53 ∷ 53 ∷ 53 ∷ 48 ∷ 49 ∷ 57 ∷ 57 ∷ []) ∷  -- MTN5035550199
    (79 ∷ 82 ∷ 68 ∷ 65 ∷ 49 ∷ []) ∷  -- ORDA1
    (67 ∷ 80 ∷ 68 ∷ 49 ∷ 57 ∷ 57 ∷ 57 ∷ 45 ∷ 49 ∷ 50 ∷ 45 ∷ 51 ∷ 49 ∷ []) ∷  -- CPD1999-12-31
    (67 ∷ 79 ∷ 73 ∷ 48 ∷ 52 ∷ 55 ∷ []) ∷  -- COI047
    (67 ∷ 80 ∷ 70 ∷ 65 ∷ 66 ∷ 67 ∷ []) ∷  -- CPFABC
    (90 ∷ 73 ∷ 80 ∷ 57 ∷ 55 ∷ 51 ∷ 48 ∷ 49 ∷ 45 ∷ 49 ∷ 50 ∷ 51 ∷ 52 ∷ []) ∷  -- ZIP97301-1234
    (67 ∷ 85 ∷ 83 ∷ 65 ∷ 66 ∷ 67 ∷ []) ∷  -- CUSABC
    (67 ∷ 77 ∷ 84 ∷ 103 ∷ 97 ∷ 116 ∷ 101 ∷ 32 ∷ 52 ∷ []) ∷  -- CMTgate 4
    (84 ∷ 65 ∷ 82 ∷ 84 ∷ 49 ∷ []) ∷  -- TART1
    (71 ∷ 85 ∷ 49 ∷ 32 ∷ 32 ∷ 120 ∷ []) ∷  -- GU1  x
    (67 ∷ 69 ∷ 76 ∷ 55 ∷ 55 ∷ []) ∷  -- CEL77
    (83 ∷ 69 ∷ 67 ∷ 50 ∷ []) ∷  -- SEC2
    []

-- each field of the record: its length, and its bytes
abbrev fields : List (ℕ × List ℕ)
fields =
    (1, 73 ∷ []) ∷  -- Function: I
    (3, 53 ∷ 48 ∷ 51 ∷ []) ∷  -- NPA: 503
    (7, 53 ∷ 53 ∷ 53 ∷ 48 ∷ 49 ∷ 48 ∷ 48 ∷ []) ∷  -- Calling Number: 5550100
    (10, 49 ∷ 50 ∷ 51 ∷ 52 ∷ 53 ∷ 54 ∷ 55 ∷ 56 ∷ []) ∷  -- House Number: 12345678
    (4, 49 ∷ 47 ∷ 50 ∷ []) ∷  -- House Suffix: 1/2
    (2, 78 ∷ 87 ∷ []) ∷  -- Prefix Directional: NW
    (60, 77 ∷ 65 ∷ 73 ∷ 78 ∷ []) ∷  -- Street Name: MAIN
    (4, 83 ∷ 84 ∷ []) ∷  -- Street Suffix: ST
    (2, 83 ∷ 69 ∷ []) ∷  -- Post Directional: SE
    (32, 83 ∷ 65 ∷ 76 ∷ 69 ∷ 77 ∷ []) ∷  -- Community: SALEM
    (2, 79 ∷ 82 ∷ []) ∷  -- State: OR
    (60, 65 ∷ 80 ∷ 84 ∷ 32 ∷ 55 ∷ 49 ∷ 56 ∷ []) ∷  -- Location: APT 718
    (32, 68 ∷ 79 ∷ 69 ∷ 44 ∷ 32 ∷ 74 ∷ 79 ∷ 72 ∷ 78 ∷ []) ∷  -- Customer Name: DOE, JOHN
    (1, 49 ∷ []) ∷  -- Class: 1
    (1, 48 ∷ []) ∷  -- Type: 0
    (4, 83 ∷ 65 ∷ 76 ∷ 77 ∷ []) ∷  -- Exchange: SALM
    (5, 48 ∷ 56 ∷ 51 ∷ []) ∷  -- ESN: 083
    (3, 53 ∷ 48 ∷ 51 ∷ []) ∷  -- Main NPA: 503
    (7, 53 ∷ 53 ∷ 53 ∷ 48 ∷ 49 ∷ 57 ∷ 57 ∷ []) ∷  -- Main Number: 5550199
    (10, 65 ∷ 49 ∷ []) ∷  -- Order: A1
    (6, 49 ∷ 50 ∷ 51 ∷ 49 ∷ 57 ∷ 57 ∷ []) ∷  -- Date: 123199
    (4, 48 ∷ 52 ∷ 55 ∷ []) ∷  -- County: 047
    (5, 65 ∷ 66 ∷ 67 ∷ []) ∷  -- Company ID: ABC
    (1, []) ∷  -- Source
    (5, 57 ∷ 55 ∷ 51 ∷ 48 ∷ 49 ∷ []) ∷  -- Zip: 97301
    (4, 49 ∷ 50 ∷ 51 ∷ 52 ∷ []) ∷  -- Zip+4: 1234
    (11, 32 ∷ 32 ∷ 120 ∷ []) ∷  -- General Use:   x
    (3, 65 ∷ 66 ∷ 67 ∷ []) ∷  -- Customer Code: ABC
    (30, 103 ∷ 97 ∷ 116 ∷ 101 ∷ 32 ∷ 52 ∷ []) ∷  -- Comments: gate 4
    (9, []) ∷  -- X
    (9, []) ∷  -- Y
    (5, []) ∷  -- Z
    (6, 55 ∷ 55 ∷ []) ∷  -- Cell: 77
    (1, 50 ∷ []) ∷  -- Sector: 2
    (6, 84 ∷ 49 ∷ []) ∷  -- TAR: T1
    (156, []) ∷  -- Reserved
    (1, 42 ∷ []) ∷  -- `*`: *
    []

abbrev laid : List (ℕ × List ℕ) → List ℕ
laid [] = []
laid (f ∷ fs) = (f.1 ++ spaces (f.0 - length f.1)) ++ laid fs

abbrev full : List ℕ
full = laid fields

abbrev zeros : ℕ → List ℕ
zeros n = replicate n 0

pub read : text_read (text_of pairs) (zeros 512) ≡ record { result = record { refusal = 0; position = 0; bytes = 512 }; output = full }
unfolding put_at spread worded filled formed fits is_framed body_of tag_of pair_taken all_taken draft_of read_refusal text_read
    first find record_fault fault_in fault_by is_whole keeps keeps_other house_fault spelled runs_of is_direction function_of is_date day_of
read = refl

pub written : text_written full (zeros 235) ≡ record { result = record { refusal = 0; position = 0; bytes = 235 }; output = text_of pairs }
unfolding worded filled formed pair_of pairs_to tagged_of is_bare unformed_at has_form write_refusal text_written
    first find record_fault fault_in fault_by is_whole keeps keeps_other house_fault spelled runs_of is_direction function_of is_date day_of
written = refl

-- ---- what the theorems ask for

pub back : (text_read (text_of pairs) (zeros 512)).output ≡ full ++ []
unfolding ReadsBack
back = rw written at (reads_back full (zeros 235) (zeros 512) (ap (λ (o : TextOutcome). o.result.refusal) written) (omega arith)).1

pub was_read : WasRead full
was_read =
    record {
      text = text_of pairs;
      out = zeros 512;
      done = ap (λ (o : TextOutcome). o.result.refusal) read;
      is = sym (ap (λ (o : TextOutcome). take 512 o.output) read);
    }

pub good : record_fault data_record full ≡ 0
unfolding ReadsGood
good = (reads_good full was_read).1

pub writable : (text_written full (zeros 452)).result.refusal ≡ 0
unfolding ReadsWritable
writable = reads_writable full (zeros 452) was_read (omega arith)

-- the record between header and trailer, whatever they are
pub filed : (h : Header) → lines_checked (Data Two) (zeros 200 ++ (full ++ zeros 200)) h ≡ Ok h
unfolding InFile lines_in line_at
filed h = in_file (zeros 200 ++ (full ++ zeros 200)) h (λ i l. let z : i ≡ 0 = omega arith in rw z was_read)

-- the first two pairs in the other order
abbrev foc : List ℕ
foc = 70 ∷ 79 ∷ 67 ∷ 73 ∷ []

abbrev cpn : List ℕ
cpn = 67 ∷ 80 ∷ 78 ∷ 53 ∷ 48 ∷ 51 ∷ 53 ∷ 53 ∷ 53 ∷ 48 ∷ 49 ∷ 48 ∷ 48 ∷ []

pub other_order : (text_read (text_of (cpn ∷ foc ∷ drop 2 pairs)) (zeros 512)).output ≡ full
unfolding AnyOrder
other_order = ap (λ (o : TextOutcome). o.output) (any_order [] (drop 2 pairs) cpn foc (zeros 512) refl refl ∙ read)

-- a label that is not taken, CPS, behind one that is
pub named : Named (foc ∷ (67 ∷ 80 ∷ 83 ∷ []) ∷ []) 34 []
unfolding NamesPair first find is_framed body_of tag_of pair_taken all_taken draft_of read_refusal text_read
named = names_pair (foc ∷ (67 ∷ 80 ∷ 83 ∷ []) ∷ []) 34 [] (refl, (refl, tt)) refl refl

-- The demands are not empty: a guide row and five records are taken into one slot of each kind. A number passes from one company to
-- another by U and M, and a change of the old company is turned away. All is computed. Assumes nothing.
use mathlib.Core.Path.{◌≡◌, refl}
use mathlib.Core.List.{List, [], ◌∷◌, ◌++◌}
use Prim.Native.Nat.{ℕ}
use lib.ListN.{length, take, replicate}
use Rattle.text.specs.Text.{spaces, spelled, runs_of, put_at, width, among_spaces, left_digits, right_digits}
use Rattle.calendar.specs.Calendar.{day_of}
use Rattle.layout.specs.Counters.{cycle_of, whole_count, count_of}
use Rattle.layout.specs.Fields.{function_of, number_of, house_of, street_of, place_of, esn_of, has_esn, date_of, company_of, row_street_of, row_place_of, low_of, high_of, parity_of, allows, row_esn_of, row_function_of, with_esn, for_load}
use Rattle.layout.specs.Frames.{date_of as frame_date_of, name_of, header_of, same_frame, trailer_of, frame_with, header_with, trailer_with}
use Rattle.layout.specs.Rules.{is_direction, is_date, is_cycle, is_tally, keeps_frame, keeps_other, keeps, house_fault, end_fault, high_fault, parity_fault, is_whole, fault_by, fault_in, record_fault, row_fault}
use Rattle.versions.specs.declared.Version.TheVariants.{Two}
use Rattle.rules.specs.declared.Kind.TheVariants.{Data, Guide}
use Rattle.rules.specs.declared.Taken.{Taken}
use Rattle.rules.specs.Walks.{find, walked, count, first}
use Rattle.rules.specs.Slots.{slot_at, place, with_place, good_length, state_of, slot_day, record_of, slot_of, is_zero, fits_slot, day_fits, used_sound, slot_sound, unsound_slot, register_sound, is_present, is_vacant, row_of, row_slot_of, free_row_slot, present_sound, row_slot_sound, unsound_row_slot, guide_sound}
use Rattle.rules.specs.Covers.{hits, covers, same_street, meet_from, meets, clash, same_row}
use Rattle.rules.specs.Records.{filed_of, has_number, find_number, is_over, find_row, free_at, is_reusable, reusable_at, find_free, find_reusable, find_spare, answer_of, shown, register_after, step, applied}
use Rattle.rules.specs.Rows.{row_code_of, clash_at, find_clash, vacant_at, find_vacant, same_at, find_same, entry_under, find_entry, row_applied}
use Rattle.rules.specs.Takes.{lines_in, good_file, header_line, trailer_line, line_at, bad_line, lines_checked, trailer_checked, frame_checked, checked, line_applied, after, answer_at, answers_to, zeros_in, others_in, Outcome, refused_file, applied_file, taken}
use Rattle.rules.specs.Checks.{foretold}
use Rattle.rules.specs.Lookups.{is_number, seen_in, seen as lookup, packed}
use Rattle.rules.specs.Loads.{entry_at, entries_in, lines_to, header_for, trailer_for, load_file, load_size, load_header, later_at, wide_at, narrow_refusal, header_refusal, load_refusal, wide_slot, Load, loaded}
use Rattle.rules.specs.History.{history_to, history_after}
use Rattle.rules.specs.Demands.{File, start, taking, run}

-- 010100
abbrev pub day : List ℕ
day = 48 ∷ 49 ∷ 48 ∷ 49 ∷ 48 ∷ 48 ∷ []

-- a header of cycle 1
abbrev pub opening : List ℕ
opening = 85 ∷ 72 ∷ 76 ∷ 32 ∷ 32 ∷ (day ++ (78 ∷ (spaces 49 ++ (49 ∷ (spaces 137 ++ (42 ∷ []))))))

-- a trailer; n is the digit of its record count
abbrev pub closing : ℕ → List ℕ
closing n = 85 ∷ 84 ∷ 76 ∷ 32 ∷ 32 ∷ (day ++ (78 ∷ (spaces 57 ++ (n ∷ (spaces 129 ++ (42 ∷ []))))))

-- a row B 1-9 of street A in C, TX, with ESN 83
abbrev pub row_line : List ℕ
row_line =
    spaces 2 ++ (65 ∷ (spaces 65 ++ (49 ∷ (spaces 9 ++ (57 ∷ (spaces 9 ++ (67 ∷ (spaces 31 ++ (84 ∷ 88 ∷ 66 ∷ 56 ∷ 51 ∷
    (spaces 73 ++ (73 ∷ 42 ∷ [])))))))))))

-- a company name
abbrev pub company : List ℕ
company = 78 ∷ spaces 49

-- a record of number 1111111111 at 1 A, C, TX, with a blank ESN, of the company whose letter is x
abbrev pub line : ℕ → ℕ → List ℕ
line c x =
    c ∷ (replicate 10 49 ++ (49 ∷ (spaces 15 ++ (65 ∷ (spaces 65 ++ (67 ∷ (spaces 31 ++ (84 ∷ 88 ∷ (spaces 92 ++ (49 ∷ 48 ∷
    (spaces 29 ++ (day ++ (spaces 4 ++ (x ∷ (spaces 250 ++ (42 ∷ []))))))))))))))))

-- the row, in a file
abbrev pub guide_file : List ℕ
guide_file = opening ++ (row_line ++ closing 49)

-- I and U of A, M of B, then C of A and C of B
abbrev pub data_file : List ℕ
data_file = opening ++ (line 73 65 ++ (line 85 65 ++ (line 77 66 ++ (line 67 65 ++ (line 67 66 ++ closing 53)))))

-- both files
abbrev pub files : List File
files =
    record { kind = Guide; bytes = guide_file; answers = 1 ∷ []; last = 0 }
    ∷ record { kind = Data Two; bytes = data_file; answers = 1 ∷ 1 ∷ 1 ∷ 1 ∷ 1 ∷ []; last = 0 }
    ∷ []

-- a file of one record with a bad code, and one of D of B
abbrev bad_file : List ℕ
bad_file = opening ++ (line 65 65 ++ closing 49)

abbrev pub delete_file : List ℕ
delete_file = opening ++ (line 68 66 ++ closing 49)

-- the numbers of a check, and of a take
abbrev pub numbers : Taken → List ℕ
numbers t = t.refusal ∷ t.place ∷ t.position ∷ t.records ∷ t.done ∷ t.undone ∷ t.last ∷ []

abbrev returned : Outcome → List ℕ
returned o = numbers o.result

-- and those of writing a load file
abbrev written : Load → List ℕ
written l =
    let t = l.result in
    t.refusal ∷ t.bytes ∷ t.entries ∷ []

-- the guide file and the data file, what lookup shows then, the D, the load file before and after it, an empty file and a bad one; the
-- data file checked before it is taken and afterwards, and the bad one checked
unfoldable pub seen : List (List ℕ)
unfolding spelled runs_of put_at day_of cycle_of whole_count count_of function_of number_of house_of street_of place_of esn_of has_esn date_of company_of row_street_of row_place_of low_of high_of parity_of allows row_esn_of row_function_of with_esn frame_date_of name_of header_of same_frame trailer_of is_direction is_date is_cycle is_tally keeps_frame keeps_other keeps house_fault end_fault high_fault parity_fault is_whole fault_by fault_in record_fault row_fault find first place with_place good_length state_of slot_day record_of slot_of is_zero fits_slot day_fits used_sound slot_sound unsound_slot register_sound is_present is_vacant row_of row_slot_of free_row_slot present_sound row_slot_sound unsound_row_slot guide_sound hits covers same_street meet_from meets clash same_row filed_of has_number find_number is_over find_row free_at is_reusable reusable_at find_free find_reusable find_spare answer_of shown register_after step applied row_code_of clash_at find_clash vacant_at find_vacant same_at find_same entry_under find_entry row_applied lines_in good_file header_line trailer_line line_at bad_line lines_checked trailer_checked frame_checked checked line_applied after answer_at answers_to zeros_in others_in refused_file applied_file taken foretold history_to history_after start taking run walked count is_number seen_in lookup packed for_load width among_spaces left_digits right_digits frame_with header_with trailer_with entry_at entries_in lines_to header_for trailer_for load_file load_size load_header later_at wide_at narrow_refusal header_refusal load_refusal wide_slot loaded
seen =
    let o = run (record { kind = Guide; bytes = guide_file; answers = 1 ∷ []; last = 0 } ∷ []) (start 1 1) in
    let t = taken (Data Two) o.stores data_file (1 ∷ 1 ∷ 1 ∷ 1 ∷ 1 ∷ []) 0 in
    let e = run files (start 1 1) in
    let R = e.stores.register in
    let s = slot_at R 0 in
    let l = lookup R (replicate 10 49) in
    let d = taken (Data Two) e.stores delete_file (1 ∷ []) 0 in
    t.answers
    ∷ returned t
    ∷ (length e.history ∷ [])
    ∷ (state_of s ∷ (esn_of (record_of s) ++ take 1 (company_of (record_of s))))
    ∷ (l.refusal ∷ l.state ∷ l.slot ∷ l.looked ∷ packed l ∷ [])
    ∷ ((lookup R []).refusal ∷ [])
    ∷ returned d
    ∷ written (loaded Two R day company 1 (spaces 912))
    ∷ written (loaded Two d.stores.register day company 1 (spaces 912))
    ∷ written (loaded Two R day company 1 (spaces 911))
    ∷ returned (taken (Data Two) e.stores [] [] 1)
    ∷ returned (taken (Data Two) e.stores bad_file (1 ∷ []) 0)
    ∷ numbers (foretold (Data Two) o.stores data_file (1 ∷ 1 ∷ 1 ∷ 1 ∷ 1 ∷ []) 0)
    ∷ numbers (foretold (Data Two) e.stores data_file (1 ∷ 1 ∷ 1 ∷ 1 ∷ 1 ∷ []) 1)
    ∷ numbers (foretold (Data Two) e.stores bad_file (1 ∷ []) 0)
    ∷ []

pub witness : seen
    ≡ (0 ∷ 0 ∷ 0 ∷ 16 ∷ 0 ∷ [])  -- I, U and M are taken, the late C of A is answered 16, the C of B is taken
    ∷ (0 ∷ 0 ∷ 0 ∷ 5 ∷ 4 ∷ 1 ∷ 1 ∷ [])  -- 5 records, 4 done and 1 not, last cycle 1
    ∷ (5 ∷ [])  -- the history has the row and four records
    ∷ (1 ∷ 56 ∷ 51 ∷ 32 ∷ 32 ∷ 32 ∷ 66 ∷ [])  -- the number is held by B under ESN 83
    ∷ (0 ∷ 1 ∷ 0 ∷ 1 ∷ 4294967297 ∷ [])  -- lookup shows it held in slot 0, after 1 slot looked at
    ∷ (10 ∷ [])  -- lookup of no number
    ∷ (0 ∷ 0 ∷ 0 ∷ 1 ∷ 1 ∷ 0 ∷ 1 ∷ [])  -- the D is taken
    ∷ (0 ∷ 912 ∷ 1 ∷ [])  -- the load file has one entry,
    ∷ (0 ∷ 400 ∷ 0 ∷ [])  -- none after the D,
    ∷ (25 ∷ 0 ∷ 0 ∷ [])  -- and is refused where it does not fit
    ∷ (3 ∷ 0 ∷ 0 ∷ 0 ∷ 0 ∷ 0 ∷ 1 ∷ [])  -- the empty file is refused by 3, the last cycle stays
    ∷ (9 ∷ 1 ∷ 1 ∷ 0 ∷ 0 ∷ 0 ∷ 0 ∷ [])  -- the bad one by 9 at its first record and byte
    ∷ (0 ∷ 0 ∷ 0 ∷ 5 ∷ 0 ∷ 0 ∷ 0 ∷ [])  -- the check before says 5 records, nothing done, the last cycle as given
    ∷ (6 ∷ 0 ∷ 0 ∷ 0 ∷ 0 ∷ 0 ∷ 1 ∷ [])  -- and afterwards 6, for its cycle has been
    ∷ (9 ∷ 1 ∷ 1 ∷ 0 ∷ 0 ∷ 0 ∷ 0 ∷ [])  -- the bad one is checked as it is refused
    ∷ []
unfolding seen
witness = refl

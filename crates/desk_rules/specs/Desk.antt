-- 01, "The desk program": what a byte of input does, and the end of input.
-- Assumes nothing.
use Rattle.std.specs.Prelude.{ℕ, zero, suc, ◌+◌, ◌*◌, List, [], ◌∷◌, ◌++◌, Bool, ◌&&◌, cond, leb, eqb, length, drop, get_or, replicate}
use Rattle.versions.specs.declared.Version.TheVariants.{Two}
use Rattle.rules.specs.declared.Kind.TheVariants.{Data, Guide}
use Rattle.rules.specs.declared.Seen.{Seen}
use Rattle.rules.specs.declared.Taken.{Taken}
use Rattle.rules.specs.Slots.{slot_size, row_slot_size}
use Rattle.rules.specs.Takes.{Stores, Outcome, taken}
use Rattle.rules.specs.Lookups.{seen}
use Rattle.desk_rules.specs.Hex.{is_hex, bytes_in, line_of, two}

-- ---- the desk

-- the stores, the last cycles, the bytes collected, the characters of the line so far, and how many lines have ended
pub record Desk : Type 0 where
  pub stores : Stores
  pub guide_last : ℕ
  pub data_last : ℕ
  pub collection : List ℕ
  pub line : List ℕ
  pub lines : ℕ

-- "on 64 empty slots of each kind, both last cycles 0"
unfoldable pub empty_desk : Desk
empty_desk =
    record {
      stores = record { register = replicate (64 * slot_size) 0; guide = replicate (64 * row_slot_size) 0 };
      guide_last = 0;
      data_last = 0;
      collection = [];
      line = [];
      lines = 0;
    }

-- "The collection (at most 65424 bytes)"; "over 2050 characters before the newline"; 65535 lines
abbrev pub most_collected : ℕ
most_collected = 65424

abbrev pub most_typed : ℕ
most_typed = 2050

abbrev pub most_lines : ℕ
most_lines = 65535

-- so many guide rows, and fewer data records, are in a file of at most 65424 bytes
abbrev pub most_answers : ℕ
most_answers = 325

-- ---- what is said

-- the desk afterwards, and the bytes written
pub record Reply : Type 0 where
  pub desk : Desk
  pub said : List ℕ

abbrev pub silent : Desk → Reply
silent d = record { desk = d; said = [] }

-- "`a4` line number(2), from 1, for a line it can't read .. or collect; such a line does nothing else"
abbrev pub unread_said : ℕ → List ℕ
unread_said n = line_of (164 ∷ two n)

abbrev pub unread : Desk → Reply
unread d = record { desk = d; said = unread_said d.lines }

-- "`a0` place(2 bytes) answer(1) per record": for the first i records
unfoldable pub answers_said : List ℕ → ℕ → List ℕ
answers_said answers zero = []
answers_said answers (suc i) = answers_said answers i ++ line_of (160 ∷ (two (i + 1) ++ (get_or answers i 0 ∷ [])))

-- "then `a1` done(2) not done(2)"
abbrev pub counts_said : Taken → List ℕ
counts_said t = line_of (161 ∷ (two t.done ++ two t.undone))

-- "`a2` refusal(1) place(2) position(2)"
abbrev pub refusal_said : Taken → List ℕ
refusal_said t = line_of (162 ∷ t.refusal ∷ (two t.place ++ two t.position))

unfoldable pub take_said : Taken → List ℕ → List ℕ
take_said t answers = cond (eqb t.refusal 0) (answers_said answers t.records ++ counts_said t) (refusal_said t)

-- "`a3` state(1) looked(2), with state `ff` and looked 0 for refusal 10"
unfoldable pub look_said : Seen → List ℕ
look_said s = cond (eqb s.refusal 0) (line_of (163 ∷ s.state ∷ two s.looked)) (line_of (163 ∷ 255 ∷ two 0))

-- ---- the frames

-- "`01` + bytes to collect", if the collection has room for them
unfoldable pub collecting : Desk → List ℕ → Reply
collecting d bytes =
    cond (leb (length d.collection + length bytes) most_collected)
    (silent
    (record {
      stores = d.stores;
      guide_last = d.guide_last;
      data_last = d.data_last;
      collection = d.collection ++ bytes;
      line = d.line;
      lines = d.lines;
    }))
    (unread d)

-- what taking the collection gives
abbrev pub guide_take : Desk → Outcome
guide_take d = taken Guide d.stores d.collection (replicate most_answers 0) d.guide_last

abbrev pub data_take : Desk → Outcome
data_take d = taken (Data Two) d.stores d.collection (replicate most_answers 0) d.data_last

-- "`02` take as guide file; `03` take as data file"; "A take empties the collection"
unfoldable pub taking_guide : Desk → Reply
taking_guide d =
    record {
      desk = record {
        stores = (guide_take d).stores;
        guide_last = (guide_take d).result.last;
        data_last = d.data_last;
        collection = [];
        line = d.line;
        lines = d.lines;
      };
      said = take_said (guide_take d).result (guide_take d).answers;
    }

unfoldable pub taking_data : Desk → Reply
taking_data d =
    record {
      desk = record {
        stores = (data_take d).stores;
        guide_last = d.guide_last;
        data_last = (data_take d).result.last;
        collection = [];
        line = d.line;
        lines = d.lines;
      };
      said = take_said (data_take d).result (data_take d).answers;
    }

-- "`04` + number"
unfoldable pub looking : Desk → List ℕ → Reply
looking d number = record { desk = d; said = look_said (seen d.stores.register number) }

-- a frame: its code and the bytes behind; "another code, bytes after `02` or `03`" can't be read
unfoldable pub framed : Desk → ℕ → List ℕ → Reply
framed d code bytes =
    cond (eqb code 1) (collecting d bytes)
    (cond (eqb code 2) (cond (eqb (length bytes) 0) (taking_guide d) (unread d))
    (cond (eqb code 3) (cond (eqb (length bytes) 0) (taking_data d) (unread d))
    (cond (eqb code 4) (looking d bytes)
    (unread d))))

-- ---- lines

-- "(empty, not whole bytes in hexadecimal, .., over 2050 characters before the newline)" can't be read
abbrev pub is_readable : List ℕ → Bool
is_readable l = (leb 1 (length l) && leb (length l) most_typed) && is_hex l

unfoldable pub line_read : Desk → List ℕ → Reply
line_read d l = cond (is_readable l) (framed d (get_or (bytes_in l) 0 0) (drop 1 (bytes_in l))) (unread d)

-- the line is counted, and the next one begins
unfoldable pub next_line : Desk → Desk
next_line d =
    record {
      stores = d.stores;
      guide_last = d.guide_last;
      data_last = d.data_last;
      collection = d.collection;
      line = [];
      lines = d.lines + 1;
    }

unfoldable pub line_ended : Desk → Reply
line_ended d = line_read (next_line d) d.line

-- one more character; of a line that is too long, those behind the 2051st are not kept
unfoldable pub typed : Desk → ℕ → Desk
typed d b =
    record {
      stores = d.stores;
      guide_last = d.guide_last;
      data_last = d.data_last;
      collection = d.collection;
      line = cond (leb (length d.line) most_typed) (d.line ++ (b ∷ [])) d.line;
      lines = d.lines;
    }

-- ---- input

-- "It stops after 65535 lines"
abbrev pub stops_after : ℕ → Bool
stops_after lines = leb most_lines lines

abbrev pub has_stopped : Desk → Bool
has_stopped d = stops_after d.lines

-- a byte of input
unfoldable pub fed : Desk → ℕ → Reply
fed d b = cond (has_stopped d) (silent d) (cond (eqb b 10) (line_ended d) (silent (typed d b)))

-- the end of input: "the last line may lack its newline"
unfoldable pub ended : Desk → Reply
ended d = cond (has_stopped d) (silent d) (cond (eqb (length d.line) 0) (silent d) (line_ended d))

-- any number of bytes
unfoldable pub fed_all : Desk → List ℕ → Reply
fed_all d [] = silent d
fed_all d (b ∷ s) = record { desk = (fed_all (fed d b).desk s).desk; said = (fed d b).said ++ (fed_all (fed d b).desk s).said }

-- all that the program writes for an input
unfoldable pub written : List ℕ → List ℕ
written input = (fed_all empty_desk input).said ++ (ended (fed_all empty_desk input).desk).said

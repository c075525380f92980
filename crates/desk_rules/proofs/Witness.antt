-- The description's example, and a line that can't be read, on a desk of one slot of each kind: all is computed. And the theorems about
-- the program are not empty: what it lends is room enough. Assumes nothing.
use mathlib.Core.Path.{◌≡◌, refl}
use mathlib.Core.Bool.{true}
use mathlib.Core.List.{List, [], ◌∷◌, ◌++◌}
use Prim.Native.Nat.{ℕ, ◌+◌, ◌≤◌}
use native.Mathlib.Omega.{arith}
use lib.ListN.{length, replicate, length-replicate}
use Rattle.layout.specs.Fields.{number_of}
use Rattle.rules.specs.Walks.{find, walked}
use Rattle.rules.specs.Slots.{place, good_length, state_of, slot_day, record_of, is_zero, slot_sound, unsound_slot, register_sound, is_present, is_vacant, row_of, free_row_slot, row_slot_sound, unsound_row_slot, guide_sound}
use Rattle.rules.specs.Records.{has_number, find_number}
use Rattle.rules.specs.Takes.{lines_in, good_file, checked, refused_file, taken}
use Rattle.rules.specs.Lookups.{is_number, seen_in, seen}
use Rattle.desk_rules.specs.Hex.{line_of}
use Rattle.desk_rules.specs.Desk.{Desk, empty_desk, most_collected, most_typed, take_said, look_said, collecting, taking_guide, taking_data, looking, framed, line_read, next_line, line_ended, typed, fed, ended, fed_all, written}
use Rattle.desk_rules.specs.Served.{Bench, bench_of, most_said, is_ready, marks_of}
use Rattle.desk_rules.specs.Kept.{all_wrote}
use Rattle.desk_rules.proofs.Programs.{empty_ready, program_writes}

-- so many lines have ended, and this much of the next is typed
abbrev pub one_slot : ℕ → List ℕ → Desk
one_slot lines line =
    record {
      stores = record { register = replicate 520 0; guide = replicate 208 0 };
      guide_last = 0;
      data_last = 0;
      collection = [];
      line = line;
      lines = lines;
    }

-- 02 and a newline; then 0435303335353530313030 and the end of input; then 0 and a newline
pub said : List ℕ
unfolding fed_all ended fed line_ended line_read next_line typed framed collecting taking_guide taking_data looking take_said look_said line_of taken checked register_sound guide_sound good_file lines_in refused_file find unsound_slot slot_sound place good_length state_of slot_day record_of is_zero unsound_row_slot row_slot_sound is_present is_vacant row_of free_row_slot seen seen_in is_number find_number has_number walked number_of
said =
    (fed_all (one_slot 0 []) (48 ∷ 50 ∷ 10 ∷ [])).said
    ++ ((ended (one_slot 1 (48 ∷ 52 ∷ 51 ∷ 53 ∷ 51 ∷ 48 ∷ 51 ∷ 51 ∷ 51 ∷ 53 ∷ 51 ∷ 53 ∷ 51 ∷ 53 ∷ 51 ∷ 48 ∷ 51 ∷ 49 ∷ 51 ∷ 48 ∷ 51 ∷ 48 ∷ []))).said
    ++ (fed_all (one_slot 2 []) (48 ∷ 10 ∷ [])).said)

-- a20300000000; a3000001, for one slot was looked at; a40003
pub example : said ≡ (97 ∷ 50 ∷ 48 ∷ 51 ∷ 48 ∷ 48 ∷ 48 ∷ 48 ∷ 48 ∷ 48 ∷ 48 ∷ 48 ∷ 10 ∷ []) ++ ((97 ∷ 51 ∷ 48 ∷ 48 ∷ 48 ∷ 48 ∷ 48 ∷ 49 ∷ 10 ∷ []) ++ (97 ∷ 52 ∷ 48 ∷ 48 ∷ 48 ∷ 51 ∷ 10 ∷ []))
unfolding said
example = refl

-- "both last cycles 0": and no line has ended, nothing is typed and nothing collected
pub begins : marks_of empty_desk ≡ record { lines = 0; typed = 0; collected = 0; guide = 0; register = 0 }
unfolding marks_of empty_desk
begins = refl

-- ---- what the program lends

abbrev collection : List ℕ
collection = replicate most_collected 0

abbrev line : List ℕ
line = replicate (most_typed + 1) 0

abbrev out : List ℕ
out = replicate most_said 0

abbrev lent : Bench
lent = bench_of empty_desk.stores.register empty_desk.stores.guide collection line out

-- is room enough:
enough : (n : ℕ) → n ≤ length {A = ℕ} (replicate n 0)
enough n = rw length-replicate (omega arith)

-- the empty desk is ready,
pub ready : is_ready (marks_of empty_desk) lent ≡ true
ready =
    empty_ready (length collection) (length line) (length out) (enough most_collected) (enough (most_typed + 1)) (enough most_said)

-- and what is written is what the definition says of the input
pub writes : (input : List ℕ) → all_wrote (marks_of empty_desk) lent input ≡ written input
writes input = program_writes collection line out input (enough most_collected) (enough (most_typed + 1)) (enough most_said)

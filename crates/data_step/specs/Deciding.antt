-- The lines of a data record's table that the code runs through together, and what is done where none hits.
-- Assumes nothing.
use Rattle.std.specs.Option.{is_none, option_or}
use Rattle.std.specs.Prelude.{◌≡◌, ℕ, List, [], ◌∷◌, drop, Bool, true, false, ◌&&◌, not, Option, Some}
use Rattle.text.specs.Text.{same_bytes}
use Rattle.calendar.specs.declared.Day.{Day}
use Rattle.calendar.specs.Calendar.{is_before}
use Rattle.layout.specs.declared.frame.Header.{Header}
use Rattle.layout.specs.Fields.{company_of}
use Rattle.rules.specs.declared.Code.{Code}
use Rattle.rules.specs.Walks.{first}
use Rattle.rules.specs.Slots.{state_of, slot_day, record_of, is_held, is_open, is_live}
use Rattle.rules.specs.Records.{is_migrate, stores, is_own, find_row, find_spare, other_esn, table}
use Rattle.data_step.specs.declared.Act.{Act}
use Rattle.data_step.specs.declared.Act.TheVariants.{Store, Restate}

-- 12 and 17, of an I whose number has the slot s
abbrev pub resting_table : List ℕ → Day → List (Bool × ℕ)
resting_table s d = (is_live (state_of s), 12) ∷ (not (is_before (slot_day s) d), 17) ∷ []

-- C, D or U of a company that does not hold the number, whose slot is s
abbrev pub foreign : List ℕ → List ℕ → Code → Bool
foreign s r c = is_own c && (is_held (state_of s) && not (same_bytes (company_of (record_of s)) (company_of r)))

-- 13 to 17, of a C, D, U or M whose number has the slot s
abbrev pub entry_table : List ℕ → List ℕ → Code → Day → List (Bool × ℕ)
entry_table s r c d =
    (not (is_live (state_of s)), 13)
    ∷ (is_migrate c && is_held (state_of s), 14)
    ∷ (is_own c && is_open (state_of s), 15)
    ∷ (foreign s r c, 16)
    ∷ (is_before d (slot_day s), 17)
    ∷ []

-- 18 and 19, of a record that is to be stored
abbrev pub under : List ℕ → List ℕ → Option ℕ → List (Bool × ℕ)
under G r k = (is_none k, 18) ∷ (other_esn G k r, 19) ∷ []

-- 12 to 20, the table behind its first line, of a record whose number has the slot m
abbrev pub late_answer : List ℕ → List ℕ → Header → List ℕ → Code → Day → Option ℕ → ℕ
late_answer R G h r c d m = first (drop 1 (table R G h r c d m (find_row r G) (find_spare h.day R)))

-- the act is what the rules do: in the number's slot m or else in a spare one, and under its row where the record is stored
abbrev pub Does : List ℕ → List ℕ → Header → List ℕ → Code → Option ℕ → Act → Type 0
Does R G h r c m (Store i k) = (stores c ≡ true) × (option_or m (find_spare h.day R) ≡ Some i) × (find_row r G ≡ Some k)
Does R G h r c m (Restate i) = (stores c ≡ false) × (option_or m (find_spare h.day R) ≡ Some i)

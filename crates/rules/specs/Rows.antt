-- 01, "Guide row": its answer, and what 0 does.
-- Assumes nothing.
use Rattle.std.specs.Option.{is_none}
use Rattle.text.specs.Text.{on_some}
use Rattle.std.specs.Prelude.{ℕ, List, [], ◌∷◌, Bool, false, ◌&&◌, not, cond, eqb, length, Option, Some, None}
use Rattle.layout.specs.declared.frame.Header.{Header}
use Rattle.layout.specs.Fields.{row_function_of}
use Rattle.rules.specs.declared.RowCode.{RowCode}
use Rattle.rules.specs.declared.RowCode.TheVariants.{Insert, Delete}
use Rattle.rules.specs.Walks.{find, first}
use Rattle.rules.specs.Slots.{slots, slot_at, state_of, record_of, is_live, row_slots, row_slot_at, with_row_slot, is_present, is_vacant, row_of, row_slot_of, free_row_slot}
use Rattle.rules.specs.Covers.{covers, clash, same_row}

-- the code of a row of 200 bytes; one of good form has it
unfoldable pub row_code_of : List ℕ → Option RowCode
row_code_of g =
    cond (eqb (length g) 200) (cond (eqb (row_function_of g) 73) (Some Insert) (cond (eqb (row_function_of g) 68) (Some Delete) None)) None

-- ---- what is looked for

-- "a present row" that clashes with it
abbrev pub clashes_by : List ℕ → List ℕ → Bool
clashes_by g s = is_present s && clash (row_of s) g

unfoldable pub clash_at : List ℕ → List ℕ → ℕ → Bool
clash_at g G k = clashes_by g (row_slot_at G k)

unfoldable pub find_clash : List ℕ → List ℕ → Option ℕ
find_clash g G = find (clash_at g G) (row_slots G)

unfoldable pub vacant_at : List ℕ → ℕ → Bool
vacant_at G k = is_vacant (row_slot_at G k)

unfoldable pub find_vacant : List ℕ → Option ℕ
find_vacant G = find (vacant_at G) (row_slots G)

-- a row that "has the same street fields, Low and High as numbers, parity and ESN bytes"
abbrev pub is_same_by : List ℕ → List ℕ → Bool
is_same_by g s = is_present s && same_row (row_of s) g

unfoldable pub same_at : List ℕ → List ℕ → ℕ → Bool
same_at g G k = is_same_by g (row_slot_at G k)

unfoldable pub find_same : List ℕ → List ℕ → Option ℕ
find_same g G = find (same_at g G) (row_slots G)

-- "a held or open entry is covered" by a row
abbrev pub is_entry_under : List ℕ → List ℕ → Bool
is_entry_under g s = is_live (state_of s) && covers g (record_of s)

unfoldable pub entry_under : List ℕ → List ℕ → ℕ → Bool
entry_under g R i = is_entry_under g (slot_at R i)

unfoldable pub find_entry : List ℕ → List ℕ → Option ℕ
find_entry g R = find (entry_under g R) (slots R)

abbrev pub has_entry : List ℕ → List ℕ → Option ℕ → Bool
has_entry R G m = on_some m false (λ k. not (is_none (find_entry (row_of (row_slot_at G k)) R)))

-- ---- the two tables

-- I, on the row c that clashes with it and the free slot p
abbrev pub insert_table : Option ℕ → Option ℕ → List (Bool × ℕ)
insert_table c p =
    (not (is_none c), 21)  -- "21 if some house number is covered by it and by a present row of the same street fields"
    ∷ (is_none p, 22)  -- "22 if no free slot"
    ∷ []

-- D, on the row m that is the same
abbrev pub delete_table : List ℕ → List ℕ → Option ℕ → List (Bool × ℕ)
delete_table R G m =
    (is_none m, 23)  -- "23 if no row has the same street fields, Low and High as numbers, parity and ESN bytes"
    ∷ (has_entry R G m, 24)  -- "24 if a held or open entry is covered by the lowest such row"
    ∷ []

abbrev pub row_answer_of : List ℕ → List ℕ → List ℕ → Option RowCode → ℕ
row_answer_of R G g (Some Insert) = first (insert_table (find_clash g G) (find_vacant G))
row_answer_of R G g (Some Delete) = first (delete_table R G (find_same g G))
row_answer_of R G g None = 23

-- "stored in the lowest"; "that slot becomes all zero"
abbrev pub guide_after : List ℕ → List ℕ → Option RowCode → List ℕ
guide_after G g (Some Insert) = on_some (find_vacant G) G (λ k. with_row_slot G k (row_slot_of g))
guide_after G g (Some Delete) = on_some (find_same g G) G (λ k. with_row_slot G k free_row_slot)
guide_after G g None = G

-- ---- the step; a row leaves the register as it is

pub record RowStep : Type 0 where
  pub answer : ℕ
  pub guide : List ℕ

unfoldable pub row_applied : List ℕ → List ℕ → Header → List ℕ → RowStep
row_applied R G h g =
    cond (eqb (row_answer_of R G g (row_code_of g)) 0)
    (record { answer = 0; guide = guide_after G g (row_code_of g) })
    (record { answer = row_answer_of R G g (row_code_of g); guide = G })

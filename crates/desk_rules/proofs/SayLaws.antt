-- The answers of a take, written one behind the other, and the counts behind them.
-- Assumes nothing.
use mathlib.Core.Path.{◌≡◌, ◌∙◌, refl, ap}
use mathlib.Core.List.{List, [], ◌∷◌, ◌++◌}
use Prim.Native.Nat.{ℕ, zero, suc, ◌+◌, ◌*◌, ◌-◌, ◌≤◌}
use native.Mathlib.Numerals.{add-one}
use native.Mathlib.Omega.{arith}
use lib.ListN.{length, take, drop, get_or, length-append}
use Rattle.rules.specs.declared.Taken.{Taken}
use Rattle.desk_rules.specs.Hex.{line_of, two}
use Rattle.desk_rules.specs.Desk.{answers_said, counts_said}
use Rattle.desk_rules.specs.Served.{over}
use Rattle.desk_rules.proofs.HexLaws.{line_length}
use Rattle.desk_rules.proofs.OverLaws.{over_length, over_next}

-- nine bytes each
pub answers_length : (given : List ℕ) (i : ℕ) → length (answers_said given i) ≡ 9 * i
unfolding answers_said
answers_length given zero = refl
answers_length given (suc i) = rw (length-append, answers_length given i, line_length) (omega arith)

pub counts_length : (t : Taken) → length (counts_said t) ≡ 11
counts_length t = line_length (161 ∷ (two t.done ++ two t.undone))

-- the first i answers are written
module _ (given old : List ℕ) {out : List ℕ} (i : ℕ) (inv : out ≡ over (answers_said given i) old) where
  pub answers_room : 9 * i ≤ length old → length out ≡ length old
  answers_room h = ap length inv ∙ over_length (answers_said given i) old (rw (answers_length given i) h)

  pub answers_more : (l : List ℕ) → l ≡ line_of (160 ∷ (two (i + 1) ++ (get_or given i 0 ∷ [])))
      → take (9 * i) out ++ (l ++ drop (9 * i + 9 - 9 * i) (drop (9 * i) out)) ≡ over (answers_said given (i + 1)) old
  unfolding answers_said
  answers_more l e =
      rw (add-one i, ← e)
      (over_next (answers_said given i) l old (9 * i) 9 inv (answers_length given i) (ap length e ∙ line_length (160 ∷ (two (i + 1) ++ (get_or given i 0 ∷ [])))))

-- 01, "Header" and "Trailer": the cycle and the record count.
-- Assumes nothing.
use Rattle.std.specs.Prelude.{ℕ, ◌+◌, List, Bool, false, ◌&&◌, ◌||◌, not, cond, ltb, eqb, length, get_or, drop, Option, Some, None}
use Rattle.text.specs.declared.Class.TheVariants.{Space, Digit}
use Rattle.text.specs.Text.{all_in, run_of, spelled, on_some}
use Rattle.layout.specs.declared.counter.Cycle.{Cycle}
use Rattle.layout.specs.declared.counter.Count.{Count}

-- ---- the cycle

-- "1 to 6 digits, left-justified, value 1 to 999999"
unfoldable pub cycle_of : List ℕ → Option Cycle
cycle_of f =
    on_some (spelled 1 6 f) None (λ n.
    cond (ltb n 1) None
    (cond (ltb 999999 n) None (Some (record { 0 = n }))))

-- the last cycle that a caller hands in; "last is 0 if none yet"
abbrev pub given_cycle : ℕ → Cycle
given_cycle n = record { 0 = n }

-- "last + 1, after 999999 is 1"; a last above 999999 has no next
abbrev pub next_of : Cycle → Option Cycle
next_of c =
    cond (ltb c.0 999999) (Some (record { 0 = c.0 + 1 }))
    (cond (eqb c.0 999999) (Some (record { 0 = 1 })) None)

-- the header's cycle is the next after the last one
abbrev pub is_next_of : Cycle → Cycle → Bool
is_next_of last given = on_some (next_of last) false (λ next. eqb next.0 given.0)

-- ---- the record count

-- "no leading zero, zero is one `0`"
abbrev pub plain_digits : List ℕ → Bool
plain_digits d = all_in Digit d && (eqb (length d) 1 || not (eqb (get_or d 0 0) 48))

unfoldable pub whole_count : List ℕ → Option Count
whole_count d = cond (plain_digits d) (on_some (spelled 1 9 d) None (λ n. Some (record { 0 = n }))) None

-- "right-justified, leading spaces"
unfoldable pub count_of : List ℕ → Option Count
count_of f = whole_count (drop (run_of Space f) f)

abbrev pub is_count : Count → ℕ → Bool
is_count c n = eqb c.0 n

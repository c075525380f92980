-- The one walk: the lowest place that passes a test, and how many places it looked at; a count; and a table whose first hit decides.
-- Assumes nothing.
use Rattle.std.specs.Option.{option_or}
use Rattle.std.specs.Prelude.{ℕ, zero, suc, ◌+◌, List, [], ◌∷◌, Bool, cond, Option, Some, None}
use Rattle.rules.specs.declared.Sought.{Sought}

-- the lowest place below n that passes the test
unfoldable pub find : (ℕ → Bool) → ℕ → Option ℕ
find p zero = None
find p (suc n) = option_or (find p n) (cond (p n) (Some n) None)

-- "the slots looked at: slot number + 1 if found, all slots if not"
abbrev pub looked_at : ℕ → Option ℕ → ℕ
looked_at n (Some i) = i + 1
looked_at n None = n

unfoldable pub walked : (ℕ → Bool) → ℕ → ℕ
walked p n = looked_at n (find p n)

abbrev pub sought : (ℕ → Bool) → ℕ → Sought
sought p n = record { found = find p n; looked = walked p n }

-- how many places below n pass the test
unfoldable pub count : (ℕ → Bool) → ℕ → ℕ
count p zero = 0
count p (suc n) = count p n + cond (p n) 1 0

-- "First hit decides": of tests and their numbers; 0 otherwise
unfoldable pub first : List (Bool × ℕ) → ℕ
first [] = 0
first (h ∷ t) = cond h.0 h.1 (first t)

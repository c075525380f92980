-- What a look at some fields of a line speaks of.
-- Assumes nothing.
use Rattle.std.specs.Prelude.{ℕ, ◌*◌, List, Bool, drop}
use Rattle.layout.specs.Rules.{fault_in}

-- the first fault from field k of the table on
unfoldable pub fault_from : ℕ → Bool → List ℕ → List ℕ → ℕ
fault_from k lax s t = fault_in lax s (drop (3 * k) t)

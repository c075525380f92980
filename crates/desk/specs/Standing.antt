-- The bytes of an input, fed one after the other, each to what the call before it left. `proofs/Stands` has stands_fed: where there
-- is room, that is the definition's desk. Assumes nothing.
use Rattle.std.specs.Prelude.{◌≡◌, List, [], ◌∷◌, ℕ}
use Rattle.desk_rules.specs.declared.Marks.{Marks}
use Rattle.desk_rules.specs.Desk.{fed}
use Rattle.desk_rules.specs.Served.{Bench, served}

-- the marks and the lent bytes
pub record Standing : Type 0 where
  pub marks : Marks
  pub bench : Bench

unfoldable pub standing : Marks → Bench → List ℕ → Standing
standing m b [] = record { marks = m; bench = b }
standing m b (x ∷ s) = standing (served (λ d. fed d x) m b).result.marks (served (λ d. fed d x) m b).bench s

-- what feeding all bytes promises
abbrev pub Stands : Marks → Bench → List ℕ → Marks → Bench → Type 0
Stands m b input marks after = record { marks = marks; bench = after } ≡ standing m b input

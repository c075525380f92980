-- What a walk over a store's places finds, of a test that is known by the answers that it may give.
-- Assumes nothing.
use Rattle.text.specs.Text.{on_some}
use Rattle.std.specs.Prelude.{ℕ, ◌<◌, ◌≡◌, ◌/◌, List, Bool, true, false, length, Some}
use Rattle.rules.specs.declared.Sought.{Sought}
use Rattle.rules.specs.Walks.{looked_at}
use Rattle.rules.specs.Slots.{place}

-- of a store of places of w bytes, and of a test whose answer at the bytes s may be b where `answers s b`
module _ (answers : List ℕ → Bool → Type 0) (w : ℕ) (store : List ℕ) where
  -- no place below n passed the test
  abbrev pub NonePassed : ℕ → Type 0
  NonePassed n = (k : ℕ) → k < n → answers (place w store k) false

  -- the place that was found passed and none below it, or of all places none, and "the slots looked at: slot number + 1 if found, all
  -- slots if not"
  pub record IsSought (r : Sought) : Type 0 where
    pub passed : (i : ℕ) → r.found ≡ Some i → (i < length store / w) × answers (place w store i) true
    pub none : NonePassed (on_some r.found (length store / w) (λ i. i))
    pub looked : r.looked ≡ looked_at (length store / w) r.found

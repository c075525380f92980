-- What a walk over the guide may pass at a glance: rows of other streets.
-- Assumes nothing.
use Rattle.std.specs.Prelude.{ℕ, ◌≤◌, ◌<◌, ◌≡◌, ◌⊎◌, List, Bool, false}
use Rattle.text.specs.Text.{same_bytes}
use Rattle.layout.specs.Fields.{row_street_of}
use Rattle.rules.specs.Slots.{row_slot_at, row_of}

-- the row in a guide slot is of this street
abbrev pub is_on : List ℕ → List ℕ → Bool
is_on street s = same_bytes (row_street_of (row_of s)) street

-- no row from i to below j is
abbrev pub Elsewhere : List ℕ → List ℕ → ℕ → ℕ → Type 0
Elsewhere street G i j = (k : ℕ) → i ≤ k → k < j → is_on street (row_slot_at G k) ≡ false

-- what a walk that asks for one street may take for a test's answer at a slot: that answer, or no of a row of another street
abbrev pub AnswersOn : List ℕ → (List ℕ → Bool → Type 0) → List ℕ → Bool → Type 0
AnswersOn street answers s b = answers s b ⊎ ((b ≡ false) × (is_on street s ≡ false))

-- The walk over a text, beside what its definition says.
-- Assumes nothing.
use Rattle.std.specs.Prelude.{ℕ, ◌<◌, ◌≡◌, List, true, false, eqb, get_or}
use Rattle.text.specs.Text.{blank}
use Rattle.tag_rules.specs.Tags.{tag_count, span_of}

-- where a label was not seen yet, its place is blank
unfoldable pub Clear : List ℕ → List ℕ → Type 0
Clear seen line = (k : ℕ) → k < tag_count → eqb (get_or seen k 0) 1 ≡ false → blank (span_of k line) ≡ true

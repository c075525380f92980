-- What a take adds to the history: one ordered list of the accepted records and rows, the newest first. A record of Version 1 is in it as
-- it is applied, widened.
-- Assumes nothing.
use Rattle.std.specs.Prelude.{ℕ, zero, suc, List, ◌∷◌, cond, eqb}
use Rattle.layout.specs.declared.frame.Header.{Header}
use Rattle.layout.specs.Counters.{given_cycle}
use Rattle.rules.specs.declared.Kind.{Kind}
use Rattle.rules.specs.declared.Kind.TheVariants.{Data, Guide}
use Rattle.rules.specs.Takes.{Stores, shape_of, line_at, lines_in, answer_at, checked, on_checked}

pub data Item : Type 0 where
  entry : List ℕ → Item
  row : List ℕ → Item

abbrev pub item_of : Kind → List ℕ → Item
item_of (Data v) r = entry ((shape_of (Data v)).wide r)
item_of Guide g = row g

-- the history after the first i lines of a file: line i is in it exactly where answer i is 0
unfoldable pub history_to : Kind → Header → List ℕ → Stores → List Item → ℕ → List Item
history_to k h f s past zero = past
history_to k h f s past (suc i) =
    cond (eqb (answer_at k h f s i) 0)
    (item_of k (line_at k f i) ∷ history_to k h f s past i)
    (history_to k h f s past i)

-- the history after a take; a refused file adds nothing
unfoldable pub history_after : Kind → Stores → List ℕ → ℕ → ℕ → List Item → List Item
history_after k s f room last past =
    on_checked (checked k s f room (given_cycle last))
    (λ h. history_to k h f s past (lines_in k f))
    (λ r. past)

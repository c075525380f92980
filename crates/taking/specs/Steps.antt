-- Calls of a step, one at each line in turn.
-- Assumes nothing.
use Rattle.std.specs.Prelude.{ℕ, zero, suc, ◌≡◌, List, [], ◌∷◌, ◌++◌}

-- the calls at the first i lines answered `given`, one after the other, and left g of f; step e i a g says that the call at line i may
-- answer a and leave g of e
abbrev pub Stepped : {F : Type 0} → (F → ℕ → ℕ → F → Type 0) → F → ℕ → List ℕ → F → Type 0
Stepped step f zero given g = (given ≡ []) × (g ≡ f)
Stepped {F} step f (suc i) given g =
    (e : F) × (before : List ℕ) × (a : ℕ) × (Stepped step f i before e × (step e i a g × (given ≡ before ++ (a ∷ []))))

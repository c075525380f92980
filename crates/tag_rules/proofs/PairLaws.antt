-- The pairs of a text: one turn of the walk, and the pairs of two texts one behind the other. Assumes nothing.
use mathlib.Core.Path.{◌≡◌, refl, ap, ◌∙◌}
use mathlib.Core.Bool.{Bool, true, false, not, cond}
use mathlib.Core.List.{List, [], ◌∷◌, ◌++◌}
use Prim.Native.Nat.{ℕ, suc}
use lib.Dec.{eqb}
use lib.ListN.{length, take, drop}
use lib.Seq.{take-length, drop-length}
use borrow.Author.Tests.{eqb-true}
use Rattle.text.specs.declared.Class.TheVariants.{Unbarred}
use Rattle.text.specs.Text.{all_in, run_of}
use Rattle.text.proofs.Laws.{run_whole}
use Rattle.tag_rules.specs.Reading.{pushed, parted, pairs_of, Draft, all_taken}

-- the first part ends at the first `|`
pub parted_turn : (s : List ℕ) → parted s ≡ take (run_of Unbarred s) s ∷ pairs_of (drop (run_of Unbarred s) s)
parted_turn [] = refl
parted_turn (b ∷ s) = go (eqb b 124) refl (parted_turn s)
  where
    go : (v : Bool) → eqb b 124 ≡ v → parted s ≡ take (run_of Unbarred s) s ∷ pairs_of (drop (run_of Unbarred s) s)
        → cond v ([] ∷ parted s) (pushed b (parted s))
        ≡ take (cond (not v) (suc (run_of Unbarred s)) 0) (b ∷ s) ∷ pairs_of (drop (cond (not v) (suc (run_of Unbarred s)) 0) (b ∷ s))
    go true e ih = refl
    go false e ih = ap (pushed b) ih

-- what stands behind a `|` has parts of its own
pub parted_append : (a s : List ℕ) → parted (a ++ (124 ∷ s)) ≡ parted a ++ parted s
parted_append [] s = refl
parted_append (b ∷ a) s = go (eqb b 124) (parted_append a s)
  where
    go : (v : Bool) → parted (a ++ (124 ∷ s)) ≡ parted a ++ parted s
        → cond v ([] ∷ parted (a ++ (124 ∷ s))) (pushed b (parted (a ++ (124 ∷ s))))
        ≡ cond v ([] ∷ parted a) (pushed b (parted a)) ++ parted s
    go true ih = ap (λ (x : List (List ℕ)). [] ∷ x) ih
    go false ih = rw (ih, parted_turn a) refl

pub pairs_append : (a s : List ℕ) → pairs_of (a ++ (124 ∷ s)) ≡ pairs_of a ++ parted s
pairs_append [] s = refl
pairs_append (b ∷ a) s = parted_append a s

-- a part without `|` is one
pub parted_one : (p : List ℕ) → all_in Unbarred p ≡ true → parted p ≡ p ∷ []
parted_one p e =
    let n : run_of Unbarred p ≡ length p = eqb-true (run_of Unbarred p) (length p) (run_whole Unbarred p ∙ e) in
    parted_turn p ∙ rw (n, take-length p, drop-length p) refl

-- the walk over the pairs of both
pub taken_append : (ps qs : List (List ℕ)) (w : Draft) → all_taken (ps ++ qs) w ≡ all_taken qs (all_taken ps w)
unfolding all_taken
taken_append [] qs w = refl
taken_append (p ∷ ps) qs w = taken_append ps qs _

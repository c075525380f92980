-- The turns of the loop over an input, and that they leave the definition's desk.
-- Assumes nothing.
use mathlib.Core.Path.{◌≡◌, refl}
use mathlib.Core.Bool.{true}
use mathlib.Core.List.{List, [], ◌∷◌}
use Prim.Native.Nat.{ℕ, ◌+◌, ◌≤◌, ◌<◌}
use lib.ListN.{length, drop, get_or}
use Rattle.text.proofs.Laws.{turn, ended}
use Rattle.desk_rules.specs.declared.Marks.{Marks}
use Rattle.desk_rules.specs.declared.Fed.{Fed}
use Rattle.desk_rules.specs.Desk.{fed, fed_all}
use Rattle.desk_rules.specs.Served.{Bench, is_ready, desk_of, served, Serves}
use Rattle.desk_rules.proofs.Programs.{fed_stays, one_served}
use Rattle.desk.specs.Standing.{Standing, standing}

-- one byte more
step : (m : Marks) (b : Bench) (x : ℕ) (s : List ℕ) {v : Standing} (r : Fed) (after : Bench) → Serves (λ d. fed d x) m b r after
    → standing m b (x ∷ s) ≡ v → standing r.marks after s ≡ v
unfolding standing
step m b x s r after h inv =
    let e = one_served (λ d. fed d x) m b r (served (λ d. fed d x) m b).result after (served (λ d. fed d x) m b).bench
    h (refl, (refl, (refl, (refl, (refl, refl))))) in
    rw (e.0, e.1) inv

module _ (m : Marks) (b : Bench) (input : List ℕ) (i : ℕ) {v : Standing} (inv : standing m b (drop i input) ≡ v) where
  pub stands_more : (r : Fed) (after : Bench) → i < length input → Serves (λ d. fed d (get_or input i 0)) m b r after
      → standing r.marks after (drop (i + 1) input) ≡ v
  stands_more r after h s = step m b (get_or input i 0) (drop (i + 1) input) r after s (turn (standing m b) input i h inv)

  pub stands_all : length input ≤ i → record { marks = m; bench = b } ≡ v
  unfolding standing
  stands_all h = ended (standing m b) input i h inv

-- where there is room, the bytes hold the desk that the definition has after this input
pub stands_fed : (m : Marks) (b : Bench) (s : List ℕ) → is_ready m b ≡ true
    → desk_of (standing m b s).marks (standing m b s).bench ≡ (fed_all (desk_of m b) s).desk
unfolding standing fed_all
stands_fed m b [] ready = refl
stands_fed m b (x ∷ s) ready =
    let c = fed_stays m b x ready in
    rw c.1.0 at (stands_fed (served (λ d. fed d x) m b).result.marks (served (λ d. fed d x) m b).bench s c.0)

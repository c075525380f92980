-- A date, byte by byte.
-- Assumes nothing.
use mathlib.Core.Path.{◌≡◌, refl}
use mathlib.Core.Bool.{Bool, true, false, cond}
use mathlib.Core.List.{List, [], ◌∷◌, ◌++◌}
use Prim.Native.Nat.{ℕ}
use native.Mathlib.Omega.{arith}
use lib.ListN.{length, get_or}
use Rattle.text.proofs.PartLaws.{two_part}
use Rattle.tag_rules.specs.Tags.{calendar_date}
use Rattle.tag_rules.specs.Forms.{is_nineteen, century, worded}

pub date_worded : (f y : List ℕ) → length f ≡ 6 → y ≡ century (get_or f 4 0)
    → get_or y 0 0 ∷ get_or y 1 0 ∷ get_or f 4 0 ∷ get_or f 5 0 ∷ 45
    ∷ get_or f 0 0 ∷ get_or f 1 0 ∷ 45 ∷ get_or f 2 0 ∷ get_or f 3 0 ∷ []
    ≡ worded calendar_date f
unfolding worded
date_worded f y h e =
    rw (e, two_part f 4 (omega arith), two_part f 0 (omega arith), two_part f 2 (omega arith)) (go (is_nineteen (get_or f 4 0)))
  where
    go : (v : Bool) {s : List ℕ}
        → let c : List ℕ = cond v (49 ∷ 57 ∷ []) (50 ∷ 48 ∷ []) in
        get_or c 0 0 ∷ get_or c 1 0 ∷ s ≡ c ++ s
    go true = refl
    go false = refl

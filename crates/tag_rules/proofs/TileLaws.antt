-- Two records that are the same in each row of a table that tiles them are the same, from any row on to the end; so are two that are
-- the same in each of the 32 rows. Assumes nothing.
use mathlib.Core.Path.{◌≡◌, refl, sym, ◌∙◌}
use mathlib.Core.Bool.{Bool, true, ◌&&◌}
use mathlib.Core.List.{List, [], ◌∷◌}
use Prim.Native.Nat.{ℕ, suc, ◌+◌, ◌-◌, ◌<◌}
use native.Mathlib.Omega.{arith}
use lib.Dec.{leb, ltb, eqb}
use lib.ListN.{length, drop, take-append-drop, drop_of_length-le}
use lib.Seq.{drop-drop}
use borrow.Author.Tests.{eqb-true, ltb-true}
use Rattle.text.specs.Text.{part}
use Rattle.text.proofs.Laws.{and_left, and_right}
use Rattle.layout.specs.Tables.{tiles}
use Rattle.tag_rules.specs.Tags.{span_at, span_of, by_place, placed, tags_tile}

-- the same bytes in each row
abbrev pub SameRows : List ℕ → List ℕ → List ℕ → Type 0
SameRows a b (at ∷ n ∷ r ∷ t) = (part (at - 1) n a ≡ part (at - 1) n b) × SameRows a b t
SameRows a b [] = Unit {0}
SameRows a b (x ∷ []) = Unit {0}
SameRows a b (x ∷ y ∷ []) = Unit {0}

pub same_from : (a b : List ℕ) (m : ℕ) → length a ≡ m → length b ≡ m → (p : ℕ) (t : List ℕ) → tiles (suc p) m t ≡ true
    → SameRows a b t → drop p a ≡ drop p b
same_from a b m la lb p (at ∷ n ∷ r ∷ t) e (h, s) =
    let x = eqb at (suc p) in
    let y = leb 1 n in
    let z = tiles (suc p + n) m t in
    let q : at ≡ suc p = eqb-true at (suc p) (and_left x y (and_left (x && y) z e)) in
    let k : at - 1 ≡ p = omega arith in
    let g : part p n a ≡ part p n b = rw k at h in
    let v : suc p + n ≡ suc (p + n) = omega arith in
    let rest : drop (p + n) a ≡ drop (p + n) b = same_from a b m la lb (p + n) t (rw v at (and_right (x && y) z e)) s in
    sym (take-append-drop n (drop p a))
    ∙ (rw (g, drop-drop n p a, rest, ← drop-drop n p b) (take-append-drop n (drop p b)))
same_from a b m la lb p [] e s =
    let q : suc p ≡ m + 1 = eqb-true (suc p) (m + 1) e in
    drop_of_length-le a {i = p} (omega arith) ∙ sym (drop_of_length-le b {i = p} (omega arith))
same_from a b m la lb p (x ∷ []) e s = absurd (let z : ◌≡◌ {A = ℕ} 0 1 = cc in omega arith)
same_from a b m la lb p (x ∷ y ∷ []) e s = absurd (let z : ◌≡◌ {A = ℕ} 0 1 = cc in omega arith)

-- ---- the rows of the labels, and of what has none

abbrev below : List ℕ → Bool
below [] = true
below (k ∷ l) = ltb k 32 && below l

rows_same : (a b : List ℕ) → ((k : ℕ) → k < 32 → span_of k a ≡ span_of k b) → (l : List ℕ) → below l ≡ true → SameRows a b (placed l)
rows_same a b f [] e = tt
rows_same a b f (k ∷ l) e =
    let z : span_at k + 1 - 1 ≡ span_at k = omega arith in
    (rw z (f k (ltb-true k 32 (and_left (ltb k 32) (below l) e))), rows_same a b f l (and_right (ltb k 32) (below l) e))

-- the same in every row
pub all_same : (a b : List ℕ) → length a ≡ 512 → length b ≡ 512 → ((k : ℕ) → k < 32 → span_of k a ≡ span_of k b) → a ≡ b
all_same a b la lb f = same_from a b 512 la lb 0 (placed by_place) tags_tile (rows_same a b f by_place refl)

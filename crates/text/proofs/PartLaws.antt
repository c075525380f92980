-- A class along the parts of a list, and what two bytes spell.
-- Assumes nothing.
use mathlib.Core.Path.{◌≡◌, refl, ◌∙◌, ap}
use mathlib.Core.Bool.{Bool, true, false, ◌&&◌, and_assoc}
use mathlib.Core.List.{List, [], ◌∷◌}
use Prim.Native.Nat.{ℕ, zero, suc, ◌+◌, ◌≤◌, ◌<◌}
use native.Mathlib.Omega.{arith}
use native.Mathlib.Nat.{zero-add, suc-add}
use lib.ListN.{length, take, drop, get_or}
use lib.Seq.{take-nil}
use Rattle.text.specs.declared.Class.{Class}
use Rattle.text.specs.Text.{in_class, all_in, part}
use Rattle.text.proofs.Laws.{and_left, and_right, and_false, left_at}

-- what holds of all bytes holds of the first n, and of those behind them
pub all_take : (k : Class) (n : ℕ) (s : List ℕ) → all_in k s ≡ true → all_in k (take n s) ≡ true
all_take k zero s h = refl
all_take k (suc n) [] h = refl
all_take k (suc n) (b ∷ s) h =
    rw (and_left (in_class k b) (all_in k s) h) (all_take k n s (and_right (in_class k b) (all_in k s) h))

pub all_drop : (k : Class) (n : ℕ) (s : List ℕ) → all_in k s ≡ true → all_in k (drop n s) ≡ true
all_drop k zero s h = h
all_drop k (suc n) [] h = refl
all_drop k (suc n) (b ∷ s) h = all_drop k n s (and_right (in_class k b) (all_in k s) h)

pub all_part : (k : Class) (i n : ℕ) (s : List ℕ) → all_in k s ≡ true → all_in k (part i n s) ≡ true
all_part k i n s h = all_take k n (drop i s) (all_drop k i s h)

-- the first a bytes and those from b on are all of them, where they meet or overlap
pub all_meet : (k : Class) (a b : ℕ) (s : List ℕ) → b ≤ a → (all_in k (take a s) && all_in k (drop b s)) ≡ all_in k s
all_meet k a zero s h = go (all_in k s) refl
  where
    go : (v : Bool) → all_in k s ≡ v → (all_in k (take a s) && all_in k s) ≡ all_in k s
    go true e = rw (all_take k a s e, e)
    go false e = rw e (and_false (all_in k (take a s)))
all_meet k zero (suc b) s h = absurd (omega arith)
all_meet k (suc a) (suc b) [] h = refl
all_meet k (suc a) (suc b) (x ∷ s) h =
    and_assoc (in_class k x) (all_in k (take a s)) (all_in k (drop b s)) ∙ ap (λ v. in_class k x && v) (all_meet k a b s (omega arith))

-- the first n of those behind a, as those behind a of the first
pub take_drop : (n a : ℕ) (l : List ℕ) → take n (drop a l) ≡ drop a (take (a + n) l)
take_drop n zero l = rw zero-add refl
take_drop n (suc a) [] = rw suc-add (take-nil n)
take_drop n (suc a) (x ∷ xs) = rw suc-add (take_drop n a xs)

-- ---- two bytes

-- a part of two bytes
pub two_part : (s : List ℕ) (i : ℕ) → i + 2 ≤ length s → part i 2 s ≡ get_or s i 0 ∷ get_or s (i + 1) 0 ∷ []
two_part s i h =
    let a : i < length s = omega arith in
    let b : i + 1 < length s = omega arith in
    ap (take 2) (left_at s i a ∙ ap (λ x. get_or s i 0 ∷ x) (left_at s (i + 1) b))

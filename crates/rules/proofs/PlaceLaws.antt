-- Places of a store: what is written is read back, the other places stay, the length stays.
-- Assumes nothing.
use mathlib.Core.Path.{◌≡◌, sym, ap, ◌∙◌, subst}
use mathlib.Core.Logic.{◌≢◌}
use mathlib.Core.Bool.{Bool}
use mathlib.Core.List.{List, ◌++◌}
use Prim.Native.Nat.{ℕ, suc, ◌+◌, ◌*◌, ◌-◌, ◌≤◌, ◌<◌}
use native.Mathlib.Nat.{mul-le-mul_right, add-sub_cancel_left}
use native.Mathlib.Decide.{dec_lt}
use native.Mathlib.Omega.{arith}
use lib.ListN.{length, take, drop, length-take, length-drop, length-append}
use lib.Seq.{take_at, drop_at, take-take, drop-drop, length-take-le}
use Rattle.text.specs.Text.{part}
use Rattle.text.proofs.PartLaws.{take_drop}
use Rattle.rules.specs.Slots.{place, with_place}

pub part_length : (a n : ℕ) (l : List ℕ) → a + n ≤ length l → length (part a n l) ≡ n
part_length a n l h = length-take-le n (drop a l) (rw length-drop (omega arith))

-- ---- d with s in the place of the m bytes from b on, as a lent part comes back

module _ (d s : List ℕ) (b m : ℕ) (hb : b + m ≤ length d) (hs : length s ≡ m) where
  front : take b (take b d ++ (s ++ drop m (drop b d))) ≡ take b d
  front = take_at (take b d) (s ++ drop m (drop b d)) b (length-take-le b d (omega arith))

  rest : drop b (take b d ++ (s ++ drop m (drop b d))) ≡ s ++ drop m (drop b d)
  rest = drop_at (take b d) (s ++ drop m (drop b d)) b (length-take-le b d (omega arith))

  back : drop (b + m) (take b d ++ (s ++ drop m (drop b d))) ≡ drop (b + m) d
  back =
      sym (drop-drop m b (take b d ++ (s ++ drop m (drop b d))))
      ∙ ap (drop m) rest
      ∙ drop_at s (drop m (drop b d)) m hs
      ∙ drop-drop m b d

  pub mid_length : length (take b d ++ (s ++ drop m (drop b d))) ≡ length d
  mid_length = simp (length-append, length-take, length-drop) (omega arith)

  -- the part itself
  pub mid_same : part b m (take b d ++ (s ++ drop m (drop b d))) ≡ s
  mid_same = ap (take m) rest ∙ take_at s (drop m (drop b d)) m hs

  -- a part before it
  pub mid_before : (a n : ℕ) → a + n ≤ b → part a n (take b d ++ (s ++ drop m (drop b d))) ≡ part a n d
  mid_before a n h =
      take_drop n a (take b d ++ (s ++ drop m (drop b d)))
      ∙ ap (drop a)
      (sym (take-take (a + n) b (take b d ++ (s ++ drop m (drop b d))) h)
      ∙ ap (take (a + n)) front
      ∙ take-take (a + n) b d h)
      ∙ sym (take_drop n a d)

  -- a part after it
  pub mid_after : (a n : ℕ) → b + m ≤ a → part a n (take b d ++ (s ++ drop m (drop b d))) ≡ part a n d
  mid_after a n h =
      let k : ℕ = a - (b + m) in
      let e : b + m + k ≡ a = omega arith in
      ap (take n)
      (subst (λ (x : ℕ). drop x (take b d ++ (s ++ drop m (drop b d))) ≡ drop x d) e
      (sym (drop-drop k (b + m) (take b d ++ (s ++ drop m (drop b d))))
      ∙ ap (drop k) back
      ∙ drop-drop k (b + m) d))

-- ---- places of w bytes

module _ (w : ℕ) (l : List ℕ) (i : ℕ) (s : List ℕ) (h : i * w + w ≤ length l) (e : length s ≡ w) where
  pub place_same : place w (with_place w l i s) i ≡ s
  unfolding place with_place
  place_same = mid_same l s (i * w) w h e

  pub place_other : (j : ℕ) → j ≢ i → place w (with_place w l i s) j ≡ place w l j
  unfolding place with_place
  place_other j n = go (dec_lt j i)
    where
      go : Dec (j < i) → part (j * w) w (take (i * w) l ++ (s ++ drop w (drop (i * w) l))) ≡ part (j * w) w l
      go (yes b) = mid_before l s (i * w) w h e (j * w) w (omega (arith, mul-le-mul_right w b))
      go (no b) =
          let c : suc i ≤ j = omega arith in
          mid_after l s (i * w) w h e (j * w) w (omega (arith, mul-le-mul_right w c))

  pub place_length : length (with_place w l i s) ≡ length l
  unfolding with_place
  place_length = mid_length l s (i * w) w h e

-- a place as the code lends it, and as it comes back
pub place_part : (w : ℕ) (l : List ℕ) (i : ℕ) → take (i * w + w - i * w) (drop (i * w) l) ≡ place w l i
unfolding place
place_part w l i = rw add-sub_cancel_left

pub place_back : (w : ℕ) (l : List ℕ) (i : ℕ) (s : List ℕ)
    → take (i * w) l ++ (s ++ drop (i * w + w - i * w) (drop (i * w) l)) ≡ with_place w l i s
unfolding with_place
place_back w l i s = rw add-sub_cancel_left

-- what a test says of the part that the code lends, it says of the place
pub place_test : (w : ℕ) (p : List ℕ → Bool) (l : List ℕ) (i : ℕ) {r v : Bool}
    → r ≡ p (take (i * w + w - i * w) (drop (i * w) l)) → r ≡ v → p (place w l i) ≡ v
place_test w p l i e t = ap p (sym (place_part w l i)) ∙ sym e ∙ t

-- A record put into a slot, and an ESN filled in where it was put: the slot is as if the record had come with that ESN.
-- Assumes nothing.
use mathlib.Core.Path.{◌≡◌, refl, sym, ap, ◌∙◌}
use mathlib.Core.Bool.{Bool, true, false, cond}
use mathlib.Core.List.{List, ◌++◌}
use Prim.Native.Nat.{ℕ, ◌+◌, ◌-◌, ◌≤◌}
use native.Mathlib.Nat.{add-sub_cancel_left}
use native.Mathlib.Omega.{arith}
use lib.ListN.{length, take, drop}
use lib.Seq.{take_at, drop_at, length-take-le}
use borrow.Author.Tests.{leb-true, leb-false}
use Rattle.text.specs.Text.{put_at, there}
use Rattle.text.proofs.Laws.{put_not}
use Rattle.calendar.specs.declared.Day.{Day}
use Rattle.layout.specs.Fields.{has_esn, row_esn_of, with_esn}
use Rattle.rules.specs.Slots.{restated, written}
use Rattle.rules.specs.Records.{shown}
use Rattle.rules.proofs.SlotLaws.{put_is}
use Rattle.rules.proofs.LoadLength.{put_length}

-- another ESN leaves the length
esn_length : (e r : List ℕ) → length (with_esn e r) ≡ length r
unfolding with_esn
esn_length e r = simp put_length

-- and so does what an entry shows
pub shown_length : (r g : List ℕ) → length (shown r g) ≡ length r
unfolding shown
shown_length r g = go (has_esn r)
  where
    go : (v : Bool) → length (cond v r (with_esn (row_esn_of g) r)) ≡ length r
    go true = refl
    go false = esn_length (row_esn_of g) r

-- r was put over the bytes of s from i on, where it fits: W
module _ (i : ℕ) (r s W : List ℕ) (w : W ≡ put_at i r s) (h : i + length r ≤ length W) where
  room : i + length r ≤ length s
  room = omega (arith, ap length w, put_length i r s)

  whole : W ≡ take i s ++ (r ++ drop (length r) (drop i s))
  whole = w ∙ put_is i (length r) r s refl room

  front : take i W ≡ take i s
  front = ap (take i) whole ∙ take_at (take i s) (r ++ drop (length r) (drop i s)) i (length-take-le i s (omega (arith, room)))

  rest : drop i W ≡ r ++ drop (length r) (drop i s)
  rest = ap (drop i) whole ∙ drop_at (take i s) (r ++ drop (length r) (drop i s)) i (length-take-le i s (omega (arith, room)))

  -- its part of W is r
  put_part : take (i + length r - i) (drop i W) ≡ r
  put_part = rw (add-sub_cancel_left, rest) (take_at r (drop (length r) (drop i s)) (length r) refl)

  -- x of the same length in its place is x put over s
  put_over : (x : List ℕ) → length x ≡ length r → take i W ++ (x ++ drop (i + length r - i) (drop i W)) ≡ put_at i x s
  put_over x k =
      rw (add-sub_cancel_left, front, rest, drop_at r (drop (length r) (drop i s)) (length r) refl)
      (sym (put_is i (length r) x s k room))

-- the record r was written into the slot s: W
module _ (b : ℕ) (d : Day) (r e s W : List ℕ) (w : W ≡ written b d r s) where
  -- it fitted, and its part came back with the ESN e: F
  pub filled_in : (F : List ℕ) → there 8 (length r) W ≡ true → F ≡ with_esn e (take (8 + length r - 8) (drop 8 W))
      → take 8 W ++ (F ++ drop (8 + length r - 8) (drop 8 W)) ≡ written b d (with_esn e r) s
  unfolding written
  filled_in F t f =
      let h : 8 + length r ≤ length W = leb-true _ _ t in
      let x : F ≡ with_esn e r = f ∙ ap (with_esn e) (put_part 8 r (restated b d s) W w h) in
      rw x (put_over 8 r (restated b d s) W w h (with_esn e r) (esn_length e r))

  -- it did not fit, and neither does one with another ESN
  pub not_filled : there 8 (length r) W ≡ false → W ≡ written b d (with_esn e r) s
  unfolding written
  not_filled t =
      let h = leb-false (8 + length r) (length W) t in
      let k = ap length w ∙ put_length 8 r (restated b d s) in
      let l = esn_length e r in
      w ∙ sym (put_not 8 r (restated b d s) (omega arith)) ∙ put_not 8 (with_esn e r) (restated b d s) (omega arith)

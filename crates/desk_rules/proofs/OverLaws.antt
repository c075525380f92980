-- Bytes written over others: one after the other from the front, and a list at the start of another.
-- Assumes nothing.
use mathlib.Core.Path.{◌≡◌, ◌∙◌, sym, ap}
use mathlib.Core.List.{List, [], ◌∷◌, ◌++◌, append-nil, append_assoc}
use Prim.Native.Nat.{ℕ, ◌+◌, ◌-◌, ◌≤◌, ◌<◌}
use native.Mathlib.Omega.{arith}
use native.Mathlib.Numerals.{add-one}
use native.Mathlib.Nat.{add-sub_cancel_left}
use lib.ListN.{length, take, drop, get_or, set, length-append, length-drop, drop_of_length-le, get_or-append}
use lib.Seq.{length-take-le, take_all, take-suc, set_at, drop-drop, drop-append_seam, take-append_seam, take_at, drop-append-le}
use Rattle.text.proofs.Laws.{left_at, rest_is}
use Rattle.desk_rules.specs.Served.{over}

-- ---- the first i bytes are those of `full`, the others those of `old`

module _ (full old : List ℕ) (i : ℕ) {s : List ℕ} (inv : s ≡ take i full ++ drop i old) where
  pub front_more : (v : ℕ) → i < length full → i < length old → v ≡ get_or full i 0 → set s i v ≡ take (i + 1) full ++ drop (i + 1) old
  front_more v h k e =
      let f : take i full ++ (v ∷ []) ≡ take (i + 1) full = rw (add-one i, e) (sym (take-suc full i 0 h)) in
      ap (λ x. set x i v) (inv ∙ ap (λ x. take i full ++ x) (left_at old i k))
      ∙ set_at (take i full) (get_or old i 0) (drop (i + 1) old) v i (length-take-le i full (omega arith))
      ∙ sym (append_assoc (take i full) (v ∷ []) (drop (i + 1) old))
      ∙ ap (λ x. x ++ drop (i + 1) old) f

  pub front_all : length full ≤ i → length old ≤ i → s ≡ full
  front_all h k =
      inv
      ∙ ap (λ x. x ++ drop i old) (take_all i full h)
      ∙ ap (λ x. full ++ x) (drop_of_length-le old k)
      ∙ append-nil full

-- ---- a list at the start of another

pub over_length : (said out : List ℕ) → length said ≤ length out → length (over said out) ≡ length out
over_length said out h = simp (length-append, length-drop) (omega arith)

-- one list behind another: l, of n bytes, is written where the first ends
module _ (said l old : List ℕ) {out : List ℕ} (a n : ℕ) (inv : out ≡ over said old) (e : length said ≡ a) (f : length l ≡ n) where
  over_more : take a out ++ (l ++ drop n (drop a out)) ≡ over (said ++ l) old
  over_more =
      rw (inv, ← e, ← f, take-append_seam, drop-append_seam, drop-drop, length-append)
      (sym (append_assoc said l (drop (length said + length l) old)))

  -- in a part of n bytes
  pub over_next : take a out ++ (l ++ drop (a + n - a) (drop a out)) ≡ over (said ++ l) old
  over_next = rw add-sub_cancel_left over_more

  -- in a part to the end
  pub over_last : take a out ++ (over l (take (length out - a) (drop a out)) ++ drop (length out - a) (drop a out)) ≡ over (said ++ l) old
  over_last =
      let g : drop (length out - a) (drop a out) ≡ [] = drop_of_length-le (drop a out) {i = length out - a} (simp length-drop (omega arith)) in
      rw (rest_is, g, append-nil, f) over_more

-- ---- the first byte of a list, and those behind it, in room that is longer

module _ (b rest : List ℕ) (k : ℕ) (e : length b ≡ k) (h : 1 ≤ k) where
  pub first_of : get_or (b ++ rest) 0 0 ≡ get_or b 0 0
  first_of = get_or-append b rest 0 0 (omega arith)

  pub behind_first : take (k - 1) (drop 1 (b ++ rest)) ≡ drop 1 b
  behind_first =
      let n : length (drop 1 b) ≡ k - 1 = simp length-drop (omega arith) in
      rw (drop-append-le 1 b rest (omega arith)) (take_at (drop 1 b) rest (k - 1) n)

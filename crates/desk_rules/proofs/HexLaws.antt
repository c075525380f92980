-- Hexadecimal: where each byte of a line stands, and each character of the line of a frame.
-- Assumes nothing.
use mathlib.Core.Path.{◌≡◌, ◌∙◌, refl, sym}
use mathlib.Core.Logic.{◌≢◌}
use mathlib.Core.Bool.{Bool, true, ◌&&◌}
use mathlib.Core.List.{List, [], ◌∷◌, ◌++◌}
use Prim.Native.Nat.{ℕ, zero, suc, ◌+◌, ◌*◌, ◌/◌, ◌%◌, ◌≤◌, ◌<◌}
use native.Mathlib.Omega.{arith}
use lib.Dec.{leb}
use lib.ListN.{length, take, drop, get_or, set}
use borrow.Author.Tests.{leb-true, eq-eqb, ne_eqb}
use Rattle.text.specs.Text.{in_range}
use Rattle.text.proofs.Laws.{and_left, and_right}
use Rattle.desk_rules.specs.Desk.{most_typed, is_readable}
use Rattle.desk_rules.proofs.OverLaws.{front_more, front_all}
use Rattle.desk_rules.specs.Hex.{hex_value, is_hex, bytes_in, hex_digit, line_of, decoded, encoded}

-- ---- a digit

pub range_in : (low b high : ℕ) → in_range low b high ≡ true → (low ≤ b) × (b ≤ high)
range_in low b high t =
    (leb-true low b (and_left (leb low b) (leb b high) t), leb-true b high (and_right (leb low b) (leb b high) t))

-- a line that is whole bytes, and not empty, has two characters
pub hex_two : (s : List ℕ) → is_hex s ≡ true → 1 ≤ length s → 2 ≤ length s
hex_two [] e h = absurd (omega arith)
hex_two (a ∷ []) e h = let z : ◌≡◌ {A = ℕ} 0 1 = cc in absurd (omega arith)
hex_two (a ∷ b ∷ s) e h = omega arith

pub readable_two : (s : List ℕ) → is_readable s ≡ true → (2 ≤ length s) × (length s ≤ most_typed)
readable_two s e =
    let a : Bool = leb 1 (length s) in
    let b : Bool = leb (length s) most_typed in
    let f = and_left (a && b) (is_hex s) e in
    (hex_two s (and_right (a && b) (is_hex s) e) (leb-true 1 (length s) (and_left a b f)), leb-true (length s) most_typed (and_right a b f))

-- ---- the bytes of a line

pub bytes_length : (s : List ℕ) → length (bytes_in s) ≡ length s / 2
bytes_length [] = refl
bytes_length (a ∷ []) = refl
bytes_length (a ∷ b ∷ s) = omega (arith, bytes_length s)

pub bytes_at : (s : List ℕ) (i : ℕ) → 2 * i + 1 < length s
    → get_or (bytes_in s) i 0 ≡ hex_value (get_or s (2 * i) 0) * 16 + hex_value (get_or s (2 * i + 1) 0)
bytes_at [] i h = absurd (omega arith)
bytes_at (a ∷ []) i h = absurd (omega arith)
bytes_at (a ∷ b ∷ s) zero h = refl
bytes_at (a ∷ b ∷ s) (suc i) h =
    let e : 2 * suc i ≡ suc (suc (2 * i)) = omega arith in
    let f : 2 * suc i + 1 ≡ suc (suc (2 * i + 1)) = omega arith in
    rw (f, e) (bytes_at s i (omega arith))

-- ---- the line of a frame

pub line_length : (s : List ℕ) → length (line_of s) ≡ 2 * length s + 1
unfolding line_of
line_length [] = refl
line_length (b ∷ s) = omega (arith, line_length s)

pub line_high : (s : List ℕ) (i : ℕ) → i < length s → get_or (line_of s) (2 * i) 0 ≡ hex_digit (get_or s i 0 / 16)
unfolding line_of
line_high [] i h = absurd (omega arith)
line_high (b ∷ s) zero h = refl
line_high (b ∷ s) (suc i) h =
    let e : 2 * suc i ≡ suc (suc (2 * i)) = omega arith in
    rw e (line_high s i (omega arith))

pub line_low : (s : List ℕ) (i : ℕ) → i < length s → get_or (line_of s) (2 * i + 1) 0 ≡ hex_digit (get_or s i 0 % 16)
unfolding line_of
line_low [] i h = absurd (omega arith)
line_low (b ∷ s) zero h = refl
line_low (b ∷ s) (suc i) h =
    let e : 2 * suc i + 1 ≡ suc (suc (2 * i + 1)) = omega arith in
    rw e (line_low s i (omega arith))

pub line_last : (s : List ℕ) → get_or (line_of s) (2 * length s) 0 ≡ 10
unfolding line_of
line_last [] = refl
line_last (b ∷ s) =
    let e : 2 * suc (length s) ≡ suc (suc (2 * length s)) = omega arith in
    rw e (line_last s)

-- s has the first i bytes of the frame, in the room for its line
module _ (frame old : List ℕ) (room : length old ≡ 2 * length frame + 1) (i : ℕ) {s : List ℕ}
    (inv : s ≡ take (2 * i) (line_of frame) ++ drop (2 * i) old) (within : i ≤ length frame) where
  pub encode_more : (a b : ℕ) → i < length frame → a ≡ hex_digit (get_or frame i 0 / 16) → b ≡ hex_digit (get_or frame i 0 % 16)
      → set (set s (2 * i) a) (2 * i + 1) b ≡ take (2 * (i + 1)) (line_of frame) ++ drop (2 * (i + 1)) old
  encode_more a b h p q =
      let l = line_length frame in
      let e : 2 * (i + 1) ≡ 2 * i + 1 + 1 = omega arith in
      rw e
      (front_more (line_of frame) old (2 * i + 1)
      (front_more (line_of frame) old (2 * i) inv a (omega arith) (omega arith) (p ∙ sym (line_high frame i h)))
      b (omega arith) (omega arith) (q ∙ sym (line_low frame i h)))

  pub encode_all : length frame ≤ i → set s (2 * length frame) 10 ≡ line_of frame
  encode_all h =
      let l = line_length frame in
      let e : 2 * length frame ≡ 2 * i = omega arith in
      front_all (line_of frame) old (2 * i + 1)
      (rw e
      (front_more (line_of frame) old (2 * i) inv 10 (omega arith) (omega arith) (rw (← e) (sym (line_last frame)))))
      (omega arith) (omega arith)

-- ---- room of the right length, and of another

module _ (line bytes : List ℕ) where
  pub decoded_is : length bytes ≡ length line / 2 → decoded line bytes ≡ bytes_in line
  unfolding decoded
  decoded_is e = rw (eq-eqb (length bytes) (length line / 2) e)

  pub decoded_not : length bytes ≢ length line / 2 → decoded line bytes ≡ bytes
  unfolding decoded
  decoded_not n = rw (ne_eqb (length bytes) (length line / 2) n)

module _ (frame line : List ℕ) where
  pub encoded_is : length line ≡ 2 * length frame + 1 → encoded frame line ≡ line_of frame
  unfolding encoded
  encoded_is e = rw (eq-eqb (length line) (2 * length frame + 1) e)

  pub encoded_not : length line ≢ 2 * length frame + 1 → encoded frame line ≡ line
  unfolding encoded
  encoded_not n = rw (ne_eqb (length line) (2 * length frame + 1) n)

-- Whole bytes in hexadecimal are an even number of digits. By pairs, as is_hex reads a line.
-- Assumes nothing.
use Rattle.std.proofs.Common.{◌≡◌, ◌≢◌, ◌%◌, List, [], ◌∷◌, ℕ, length, false, refl, arith}
use Rattle.std.proofs.Math.Bool.{and_assoc, and-false, or_assoc}
use Rattle.std.specs.Char.{is_ascii_hexdigit}
use Rattle.std.specs.Int.{is_in_range}
use Rattle.std.specs.List.{list_all}
use Rattle.desk_rules.specs.Hex.{is_hex_digit, is_hex}

digit_is : (b : ℕ) → is_ascii_hexdigit b ≡ is_hex_digit b
digit_is b = or_assoc (is_in_range 48 57 b) (is_in_range 65 70 b) (is_in_range 97 102 b)

pub even_digits : (s : List ℕ) → length s % 2 ≡ 0 → list_all is_ascii_hexdigit s ≡ is_hex s
even_digits [] e = refl
even_digits (a ∷ []) e = absurd (omega arith)
even_digits (a ∷ b ∷ s) e = rw (digit_is a, digit_is b, ← even_digits s (omega arith), and_assoc) refl

pub odd_length : (s : List ℕ) → length s % 2 ≢ 0 → is_hex s ≡ false
odd_length [] n = absurd (omega arith)
odd_length (a ∷ []) n = refl
odd_length (a ∷ b ∷ s) n = rw (odd_length s (omega arith), and-false) refl

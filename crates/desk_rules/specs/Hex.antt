-- 01, "The desk program": "lines of hexadecimal".
-- Assumes nothing.
use Rattle.std.specs.Prelude.{ℕ, ◌+◌, ◌*◌, ◌-◌, ◌/◌, ◌%◌, List, [], ◌∷◌, ◌++◌, Bool, true, false, ◌&&◌, ◌||◌, cond, ltb, eqb, length}
use Rattle.text.specs.Text.{in_range}

-- "Hexadecimal letters are read in either case"
abbrev pub is_hex_digit : ℕ → Bool
is_hex_digit b = in_range 48 b 57 || (in_range 65 b 70 || in_range 97 b 102)

abbrev pub hex_value : ℕ → ℕ
hex_value b = cond (in_range 48 b 57) (b - 48) (cond (in_range 65 b 70) (b - 55) (cond (in_range 97 b 102) (b - 87) 0))

-- "whole bytes in hexadecimal"
abbrev pub is_hex : List ℕ → Bool
is_hex [] = true
is_hex (a ∷ []) = false
is_hex (a ∷ b ∷ s) = (is_hex_digit a && is_hex_digit b) && is_hex s

-- the bytes that a line of hexadecimal has
abbrev pub bytes_in : List ℕ → List ℕ
bytes_in [] = []
bytes_in (a ∷ []) = []
bytes_in (a ∷ b ∷ s) = (hex_value a * 16 + hex_value b) ∷ bytes_in s

-- "and written small"
abbrev pub hex_digit : ℕ → ℕ
hex_digit n = cond (ltb n 10) (48 + n) (87 + n)

abbrev pub hex_of : List ℕ → List ℕ
hex_of [] = []
hex_of (b ∷ s) = hex_digit (b / 16) ∷ hex_digit (b % 16) ∷ hex_of s

-- one frame a line
unfoldable pub line_of : List ℕ → List ℕ
line_of frame = hex_of frame ++ (10 ∷ [])

-- what reading a line leaves in room for its bytes, and writing a frame in room for its line; room of another length stays as it was
unfoldable pub decoded : List ℕ → List ℕ → List ℕ
decoded line bytes = cond (eqb (length bytes) (length line / 2)) (bytes_in line) bytes

unfoldable pub encoded : List ℕ → List ℕ → List ℕ
encoded frame line = cond (eqb (length line) (2 * length frame + 1)) (line_of frame) line

-- a number as two bytes, the high one first
abbrev pub two : ℕ → List ℕ
two n = (n / 256 % 256) ∷ (n % 256) ∷ []

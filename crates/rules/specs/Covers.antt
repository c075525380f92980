-- 01, "A row covers an address", and when two rows clash or are the same.
-- Assumes nothing.
use Rattle.std.specs.Prelude.{ℕ, ◌+◌, min, max, ◌≡◌, List, Bool, true, false, ◌&&◌, ◌||◌, leb, eqb, Option}
use Rattle.text.specs.Text.{same_bytes, on_some}
use Rattle.layout.specs.Fields.{house_of, street_of, place_of, row_street_of, row_place_of, low_of, high_of, parity_of, allows, row_esn_of, same_esn}

-- "the house number lies in Low to High, and parity allows it"
unfoldable pub hits : List ℕ → ℕ → Bool
hits g n =
    on_some (low_of g) false (λ low.
    on_some (high_of g) false (λ high.
    leb low n && (leb n high && allows (parity_of g) n)))

-- the row stands over house number n of a street in a place
unfoldable pub over : List ℕ → List ℕ → List ℕ → ℕ → Bool
over g street town n = same_bytes (row_street_of g) street && (same_bytes (row_place_of g) town && hits g n)

-- "A row covers an address when the street fields (directionals, street, suffix, community and state) are equal byte for byte, the
-- house number lies in Low to High, and parity allows it"
unfoldable pub covers : List ℕ → List ℕ → Bool
covers g r =
    same_bytes (row_street_of g) (street_of r)
    && (same_bytes (row_place_of g) (place_of r)
    && on_some (house_of r) false (λ n. hits g n))

-- two rows of the same street fields
unfoldable pub same_street : List ℕ → List ℕ → Bool
same_street g h = same_bytes (row_street_of g) (row_street_of h) && same_bytes (row_place_of g) (row_place_of h)

abbrev pub both_allow : ℕ → ℕ → ℕ → Bool
both_allow p q n = allows p n && allows q n

-- n or the next number is at most high and of both parities: if neither is, no number from n to high is
unfoldable pub meet_from : ℕ → ℕ → ℕ → ℕ → Bool
meet_from p q high n = (leb n high && both_allow p q n) || (leb (n + 1) high && both_allow p q (n + 1))

-- "some house number is covered by it and by a present row of the same street fields": one that both ranges have
unfoldable pub meets : List ℕ → List ℕ → Bool
meets g h =
    on_some (low_of g) false (λ a.
    on_some (high_of g) false (λ b.
    on_some (low_of h) false (λ c.
    on_some (high_of h) false (λ d.
    meet_from (parity_of g) (parity_of h) (min b d) (max a c)))))

unfoldable pub clash : List ℕ → List ℕ → Bool
clash g h = same_street g h && meets g h

-- a house number of a street in a place that both rows stand over
pub record Shared (g h : List ℕ) : Type 0 where
  pub street : List ℕ
  pub town : List ℕ
  pub number : ℕ
  pub first : over g street town number ≡ true
  pub second : over h street town number ≡ true

-- two rows clash exactly if there is one. Proved in `proofs/ClashLaws`: clash_exactly
unfoldable pub ClashExactly : Type 0
ClashExactly = (g h : List ℕ) → (clash g h ≡ true → Shared g h) × (Shared g h → clash g h ≡ true)

-- two fields of digits, "as numbers"
abbrev pub equal_numbers : Option ℕ → Option ℕ → Bool
equal_numbers a b = on_some a false (λ m. on_some b false (λ n. eqb m n))

-- "the same street fields, Low and High as numbers, parity and ESN bytes"
unfoldable pub same_row : List ℕ → List ℕ → Bool
same_row g h =
    same_street g h
    && (equal_numbers (low_of g) (low_of h)
    && (equal_numbers (high_of g) (high_of h)
    && (eqb (parity_of g) (parity_of h)
    && same_esn (row_esn_of g) (row_esn_of h))))

-- two rows that stand over the same house numbers, and have the same ESN
pub record Alike (g h : List ℕ) : Type 0 where
  pub numbers : (street town : List ℕ) (n : ℕ) → over g street town n ≡ over h street town n
  pub zone : row_esn_of g ≡ row_esn_of h

-- the same row is one of them: a D takes away just the house numbers that it names, with just its zone. Proved in
-- `proofs/ClashLaws`: same_alike
unfoldable pub SameAlike : Type 0
SameAlike = (g h : List ℕ) → same_row g h ≡ true → Alike g h

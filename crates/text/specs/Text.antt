-- Classes of bytes, what is read off a part of a line, and what is written into one.
-- Assumes nothing.
use Rattle.std.specs.Prelude.{ℕ, zero, suc, ◌+◌, ◌*◌, ◌-◌, ◌/◌, ◌%◌, List, [], ◌∷◌, ◌++◌, Bool, true, false, ◌&&◌, ◌||◌, not, cond, leb, ltb, eqb, length, take, drop, replicate, Option, Some, None}
use Rattle.text.specs.declared.Class.{Class}
use Rattle.text.specs.declared.Class.TheVariants.{Printable, Space, Digit, Capital, CapitalOrDigit, Unbarred}

-- ---- classes

abbrev pub in_range : ℕ → ℕ → ℕ → Bool
in_range low b high = leb low b && leb b high

-- "Every byte is 20 to 7E hex"; a space is 20 hex
abbrev pub in_class : Class → ℕ → Bool
in_class Printable b = in_range 32 b 126
in_class Space b = eqb b 32
in_class Digit b = in_range 48 b 57
in_class Capital b = in_range 65 b 90
in_class CapitalOrDigit b = in_range 48 b 57 || in_range 65 b 90
in_class Unbarred b = not (eqb b 124)

-- every byte is of the class
abbrev pub all_in : Class → List ℕ → Bool
all_in k [] = true
all_in k (b ∷ s) = in_class k b && all_in k s

-- every byte is b
abbrev pub all_equal : ℕ → List ℕ → Bool
all_equal b [] = true
all_equal b (a ∷ s) = eqb a b && all_equal b s

-- blank: every byte is a space
abbrev pub blank : List ℕ → Bool
blank s = all_in Space s

-- how many bytes of the class it begins with
abbrev pub run_of : Class → List ℕ → ℕ
run_of k [] = 0
run_of k (b ∷ s) = cond (in_class k b) (suc (run_of k s)) 0

-- from low to high bytes of the class, and then only spaces
unfoldable pub runs_of : Class → ℕ → ℕ → List ℕ → Bool
runs_of k low high s = leb low (run_of k s) && (leb (run_of k s) high && blank (drop (run_of k s) s))

-- ---- numbers

abbrev pub digit_of : ℕ → ℕ
digit_of b = cond (in_class Digit b) (b - 48) 0

-- the number that digits spell, the highest first
abbrev pub value_from : ℕ → List ℕ → ℕ
value_from n [] = n
value_from n (b ∷ s) = value_from (n * 10 + digit_of b) s

abbrev pub value_of : List ℕ → ℕ
value_of s = value_from 0 s

-- the number that from low to high digits spell, at most nine, with only spaces behind them
unfoldable pub spelled : ℕ → ℕ → List ℕ → Option ℕ
spelled low high s =
    cond (leb high 9 && runs_of Digit low high s) (Some (value_of (take (run_of Digit s) s))) None

-- what is made of the value, or what stands where there is none
abbrev pub on_some : {A B : Type 0} → Option A → B → (A → B) → B
on_some (Some x) other k = k x
on_some None other k = other

-- ---- two parts

-- the same bytes, one after the other
abbrev pub same_bytes : List ℕ → List ℕ → Bool
same_bytes [] [] = true
same_bytes [] (b ∷ t) = false
same_bytes (a ∷ s) [] = false
same_bytes (a ∷ s) (b ∷ t) = eqb a b && same_bytes s t

abbrev pub member_of : ℕ → List ℕ → Bool
member_of b [] = false
member_of b (a ∷ s) = eqb a b || member_of b s

-- every byte is one of the set
abbrev pub all_of : List ℕ → List ℕ → Bool
all_of set [] = true
all_of set (b ∷ s) = member_of b set && all_of set s

-- the n bytes from i, or as many of them as there are
abbrev pub part : ℕ → ℕ → List ℕ → List ℕ
part i n s = take n (drop i s)

-- all of them are there
abbrev pub there : ℕ → ℕ → List ℕ → Bool
there i n s = leb (i + n) (length s)

-- the eight bytes from i on are there, and the same in both
unfoldable pub eight_same : ℕ → List ℕ → List ℕ → Bool
eight_same i a b = (there i 8 a && there i 8 b) && same_bytes (part i 8 a) (part i 8 b)

-- without the spaces at its end
abbrev pub trim_of : List ℕ → List ℕ
trim_of [] = []
trim_of (b ∷ s) = cond (blank (b ∷ s)) [] (b ∷ trim_of s)

-- ---- writing

abbrev pub spaces : ℕ → List ℕ
spaces n = replicate n 32

-- the bytes of b over those of s from i on, where they fit
unfoldable pub put_at : ℕ → List ℕ → List ℕ → List ℕ
put_at i b s = cond (leb (i + length b) (length s)) (take i s ++ (b ++ drop (i + length b) s)) s

-- the last w digits of n, the highest first
abbrev pub digits : ℕ → ℕ → List ℕ
digits zero n = []
digits (suc w) n = digits w (n / 10) ++ ((48 + n % 10) ∷ [])

-- how many digits n has without a leading zero, if they are at most k + 1; zero has one
abbrev pub width_in : ℕ → ℕ → ℕ
width_in zero n = 1
width_in (suc k) n = cond (ltb n 10) 1 (suc (width_in k (n / 10)))

-- the numbers that are written have at most ten
unfoldable pub width : ℕ → ℕ
width n = width_in 9 n

-- m bytes: spaces, but for the last w digits of n from a on
unfoldable pub among_spaces : ℕ → ℕ → ℕ → ℕ → List ℕ
among_spaces a w n m = spaces a ++ (digits w n ++ spaces (m - (a + w)))

-- n in decimal with no leading zero, left-justified or right-justified in as many bytes as s has, where it fits
unfoldable pub left_digits : ℕ → List ℕ → List ℕ
left_digits n s = cond (leb (width n) (length s)) (among_spaces 0 (width n) n (length s)) s

unfoldable pub right_digits : ℕ → List ℕ → List ℕ
right_digits n s =
    cond (leb (width n) (length s)) (among_spaces (length s - width n) (width n) n (length s)) s

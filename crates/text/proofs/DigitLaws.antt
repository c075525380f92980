-- Numbers in decimal, read back: what digits spell, how many a number has, that the first of them is no zero, and that what is written
-- fills its field.
-- Assumes nothing.
use Rattle.std.specs.Prelude.{Some}
use mathlib.Core.Path.{◌≡◌, refl, sym, ap, ◌∙◌}
use mathlib.Core.Bool.{Bool, true, false, cond}
use mathlib.Core.List.{List, [], ◌∷◌, ◌++◌}
use Prim.Native.Nat.{ℕ, zero, suc, ◌+◌, ◌*◌, ◌-◌, ◌/◌, ◌%◌, ◌^◌, ◌≤◌, ◌<◌}
use native.Mathlib.Nat.{pow-suc, add-zero, add-sub_cancel_left, zero-add, suc-add}
use native.Mathlib.Omega.{arith}
use lib.Dec.{leb, ltb, eqb}
use lib.ListN.{length, get_or, length-append, length-replicate, get_or-append}
use lib.Seq.{take_at, drop_at}
use borrow.Author.Tests.{leb-true, ltb-true, ltb-false, le-leb, le-ltb, lt-ltb, ne_eqb}
use Rattle.text.specs.declared.Class.{Class}
use Rattle.text.specs.declared.Class.TheVariants.{Space, Digit}
use Rattle.text.specs.Text.{in_class, all_in, blank, run_of, runs_of, digit_of, value_from, value_of, spelled, spaces, digits, width_in, width, among_spaces, left_digits, right_digits}
use Rattle.text.proofs.Laws.{and_left, and_right, small_power}

-- ---- a class along a list

-- two lists of a class are so together
pub all_append : (k : Class) (s t : List ℕ) → all_in k s ≡ true → all_in k t ≡ true → all_in k (s ++ t) ≡ true
all_append k [] t p q = q
all_append k (b ∷ s) t p q =
    rw (and_left (in_class k b) (all_in k s) p) (all_append k s t (and_right (in_class k b) (all_in k s) p) q)

-- spaces are blank
pub blank_spaces : (m : ℕ) → blank (spaces m) ≡ true
blank_spaces zero = refl
blank_spaces (suc m) = blank_spaces m

-- a run goes on behind bytes of its class
pub run_append : (k : Class) (s t : List ℕ) → all_in k s ≡ true → run_of k (s ++ t) ≡ length s + run_of k t
run_append k [] t p = sym (zero-add (run_of k t))
run_append k (b ∷ s) t p =
    rw (and_left (in_class k b) (all_in k s) p, suc-add)
    (ap suc (run_append k s t (and_right (in_class k b) (all_in k s) p)))

-- a run of digits does not begin at a space
pub no_digits : (m : ℕ) → run_of Digit (spaces m) ≡ 0
no_digits zero = refl
no_digits (suc m) = refl

-- and one of spaces not at a digit
pub no_spaces : (s : List ℕ) → all_in Digit s ≡ true → run_of Space s ≡ 0
no_spaces [] p = refl
no_spaces (b ∷ s) p =
    let d = and_left (in_class Digit b) (all_in Digit s) p in
    let h = leb-true 48 b (and_left (leb 48 b) (leb b 57) d) in
    rw (ne_eqb b 32 (omega arith))

-- ---- the last w digits of n

-- a digit, and what it stands for
is_digit : (n : ℕ) → in_class Digit (48 + n % 10) ≡ true
is_digit n = rw (le-leb 48 (48 + n % 10) (omega arith), le-leb (48 + n % 10) 57 (omega arith))

digit_back : (n : ℕ) → digit_of (48 + n % 10) ≡ n % 10
digit_back n = rw (is_digit n, add-sub_cancel_left)

-- they are w
pub digits_length : (w n : ℕ) → length (digits w n) ≡ w
digits_length zero n = refl
digits_length (suc w) n = rw (length-append, digits_length w (n / 10)) (omega arith)

-- all of them are digits
pub digits_all : (w n : ℕ) → all_in Digit (digits w n) ≡ true
digits_all zero n = refl
digits_all (suc w) n =
    all_append Digit (digits w (n / 10)) ((48 + n % 10) ∷ []) (digits_all w (n / 10)) (rw (is_digit n))

-- the value of two lists
value_append : (a : ℕ) (s t : List ℕ) → value_from a (s ++ t) ≡ value_from (value_from a s) t
value_append a [] t = refl
value_append a (b ∷ s) t = value_append (a * 10 + digit_of b) s t

-- a tenth has a digit less
tenth : (n w : ℕ) → n < 10 ^ suc w → n / 10 < 10 ^ w
tenth n w h = let e : n < 10 ^ w * 10 = rw pow-suc at h in omega arith

-- they spell n, if it has no more
pub digits_value : (w n : ℕ) → n < 10 ^ w → value_of (digits w n) ≡ n
digits_value zero n h = omega arith
digits_value (suc w) n h =
    value_append 0 (digits w (n / 10)) ((48 + n % 10) ∷ [])
    ∙ rw (digits_value w (n / 10) (tenth n w h), digit_back n) (omega arith)

-- and are read back before spaces
pub spelled_back : (low high w n m : ℕ) → low ≤ w → w ≤ high → high ≤ 9 → n < 10 ^ w
    → spelled low high (digits w n ++ spaces m) ≡ Some n
unfolding spelled runs_of
spelled_back low high w n m a b c h =
    let l = digits_length w n in
    let e : run_of Digit (digits w n ++ spaces m) ≡ w =
    run_append Digit (digits w n) (spaces m) (digits_all w n) ∙ rw (no_digits m, l) (add-zero w) in
    rw (
      e,
      le-leb high 9 c,
      le-leb low w a,
      le-leb w high b,
      drop_at (digits w n) (spaces m) w l,
      blank_spaces m,
      take_at (digits w n) (spaces m) w l,
      digits_value w n h,
    )

-- ---- how many digits n has

pub width_some : (k n : ℕ) → 1 ≤ width_in k n
width_some zero n = omega arith
width_some (suc k) n = go (ltb n 10)
  where
    go : (b : Bool) → 1 ≤ cond b 1 (suc (width_in k (n / 10)))
    go true = omega arith
    go false = omega arith

-- as many as it needs
pub width_holds : (k n : ℕ) → n < 10 ^ suc k → n < 10 ^ width_in k n
width_holds zero n h = h
width_holds (suc k) n h = go (width_holds k (n / 10) (tenth n (suc k) h)) (ltb n 10) refl
  where
    go : n / 10 < 10 ^ width_in k (n / 10) → (b : Bool) → ltb n 10 ≡ b → n < 10 ^ cond b 1 (suc (width_in k (n / 10)))
    go ih true e = ltb-true n 10 e
    go ih false e = rw pow-suc (omega arith)

-- and no more
pub width_fits : (k n w : ℕ) → w ≤ k → n < 10 ^ suc w → width_in k n ≤ suc w
width_fits zero n w a h = omega arith
width_fits (suc k) n zero a h = rw (lt-ltb n 10 h) (omega arith)
width_fits (suc k) n (suc w) a h = go (width_fits k (n / 10) w (omega arith) (tenth n (suc w) h)) (ltb n 10)
  where
    go : width_in k (n / 10) ≤ suc w → (b : Bool) → cond b 1 (suc (width_in k (n / 10))) ≤ suc (suc w)
    go ih true = omega arith
    go ih false = omega arith

-- one more than the power of ten that it reaches
pub width_is : (k n w : ℕ) → w ≤ k → 10 ^ w ≤ n → n < 10 * 10 ^ w → w + 1 ≡ width_in k n
width_is zero n w a l h = omega arith
width_is (suc k) n zero a l h = rw (lt-ltb n 10 h)
width_is (suc k) n (suc w) a l h =
    let e : 10 ^ suc w ≡ 10 ^ w * 10 = pow-suc 10 w in
    let p : 1 ≤ 10 ^ w = small_power 0 w (omega arith) in
    rw (le-ltb n 10 (omega arith), suc-add) (ap suc (width_is k (n / 10) w (omega arith) (omega arith) (omega arith)))

-- the first of them is no zero
pub width_first : (k n : ℕ) → 1 ≤ n → n < 10 ^ suc k → eqb (get_or (digits (width_in k n) n) 0 0) 48 ≡ false
width_first zero n a h = ne_eqb (48 + n % 10) 48 (omega arith)
width_first (suc k) n a h = go (λ b. width_first k (n / 10) b (tenth n (suc k) h)) (ltb n 10) refl
  where
    go : (1 ≤ n / 10 → eqb (get_or (digits (width_in k (n / 10)) (n / 10)) 0 0) 48 ≡ false) → (b : Bool) → ltb n 10 ≡ b
        → eqb (get_or (digits (cond b 1 (suc (width_in k (n / 10)))) n) 0 0) 48 ≡ false
    go ih true e = let l = ltb-true n 10 e in ne_eqb (48 + n % 10) 48 (omega arith)
    go ih false e =
        let l = ltb-false n 10 e in
        let d = digits (width_in k (n / 10)) (n / 10) in
        let s : 0 < length d = rw (digits_length (width_in k (n / 10)) (n / 10)) (width_some k (n / 10)) in
        ap (λ x. eqb x 48) (get_or-append d ((48 + n % 10) ∷ []) 0 0 s) ∙ ih (omega arith)

-- ---- what is written fills its field

among_length : (a w n m : ℕ) → a + w ≤ m → length (among_spaces a w n m) ≡ m
unfolding among_spaces
among_length a w n m h = simp (length-append, length-replicate, digits_length) (omega arith)

pub left_length : (n : ℕ) (s : List ℕ) → length (left_digits n s) ≡ length s
unfolding left_digits
left_length n s = go (leb (width n) (length s)) refl
  where
    go : (b : Bool) → leb (width n) (length s) ≡ b → length (cond b (among_spaces 0 (width n) n (length s)) s) ≡ length s
    go true e = among_length 0 (width n) n (length s) (omega (arith, leb-true (width n) (length s) e))
    go false e = refl

pub right_length : (n : ℕ) (s : List ℕ) → length (right_digits n s) ≡ length s
unfolding right_digits
right_length n s = go (leb (width n) (length s)) refl
  where
    go : (b : Bool) → leb (width n) (length s) ≡ b
        → length (cond b (among_spaces (length s - width n) (width n) n (length s)) s) ≡ length s
    go true e = among_length (length s - width n) (width n) n (length s) (omega (arith, leb-true (width n) (length s) e))
    go false e = refl

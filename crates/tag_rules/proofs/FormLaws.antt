-- What is written for the bytes of a record stands for them, form by form (form_back), and fits (form_fits): a plain value with the
-- spaces it was written without, a date and a postal code byte by byte. Assumes nothing.
use mathlib.Core.Path.{◌≡◌, refl, sym, ap, ◌∙◌}
use mathlib.Core.Logic.{◌⊎◌, inl, inr}
use mathlib.Core.Bool.{Bool, true, false, ◌&&◌, ◌||◌, cond}
use mathlib.Core.List.{List, [], ◌∷◌, ◌++◌, append-nil}
use Prim.Native.Nat.{ℕ, zero, suc, ◌-◌, ◌≤◌, ◌<◌}
use native.Mathlib.Omega.{arith}
use native.Mathlib.Numerals.{unary_clauses}
use lib.Dec.{eqb}
use lib.ListN.{length, drop, get_or, length-replicate}
use borrow.Author.Tests.{eqb-true, le-leb}
use Rattle.text.specs.Text.{blank, trim_of, part, spaces, put_at}
use Rattle.text.proofs.Laws.{and_left, and_right, same_refl}
use Rattle.text.proofs.TrimLaws.{blank_is, trim_back, trim_length}
use Rattle.calendar.proofs.DayLaws.{every, every_at}
use Rattle.rules.proofs.SlotLaws.{put_is}
use Rattle.tag_rules.specs.Tags.{plain, ten, calendar_date, postal, span_size, form_at}
use Rattle.tag_rules.specs.Forms.{shaped, turned, is_nineteen, spread, worded, filled, formed, fits}

-- the spaces behind n bytes of m
drop_spaces : (n m : ℕ) → drop n (spaces m) ≡ spaces (m - n)
drop_spaces zero m = simp unary_clauses refl
drop_spaces (suc n) zero = let z : 0 - suc n ≡ 0 = omega arith in rw z refl
drop_spaces (suc n) (suc m) = let z : suc m - suc n ≡ m - n = omega arith in rw z (drop_spaces n m)

-- bytes over as many spaces or more
pub put_spaces : (b : List ℕ) (m : ℕ) → length b ≤ m → put_at 0 b (spaces m) ≡ b ++ spaces (m - length b)
put_spaces b m h =
    let l : length (spaces m) ≡ m = length-replicate {A = ℕ} m 32 in
    put_is 0 (length b) b (spaces m) refl (omega arith) ∙ ap (λ (x : List ℕ). b ++ x) (drop_spaces (length b) m)

-- a plain value
pub plain_back : (f : List ℕ) → spread plain (length f) (worded plain f) ≡ f
unfolding spread worded
plain_back f = put_spaces (trim_of f) (length f) (trim_length f) ∙ trim_back f

pub plain_fits : (f : List ℕ) → fits plain (length f) (worded plain f) ≡ true
unfolding fits worded
plain_fits f = le-leb (length (trim_of f)) (length f) (trim_length f)

-- any other: it fits, if it stands for the bytes it was written for
pub fits_back : (form n : ℕ) (f : List ℕ) → eqb form plain ≡ false → spread form n (worded form f) ≡ f → blank f ≡ false
    → formed form f ≡ true → fits form n (worded form f) ≡ true
unfolding fits formed
fits_back form n f p e b g =
    let h : filled form f ≡ true = rw (p, b) at g in
    rw (p, e, h) (same_refl (worded form f))

-- a list of n bytes, byte by byte
abbrev listed : ℕ → List ℕ → List ℕ
listed zero s = []
listed (suc n) s = get_or s 0 0 ∷ listed n (drop 1 s)

list_is : (n : ℕ) (s : List ℕ) → length s ≡ n → s ≡ listed n s
list_is zero [] h = refl
list_is zero (b ∷ s) h = absurd (omega arith)
list_is (suc n) [] h = absurd (omega arith)
list_is (suc n) (b ∷ s) h = ap (λ (x : List ℕ). b ∷ x) (list_is n s (omega arith))

-- a date, whatever its two bytes of century are
date_list : (g : List ℕ) → spread calendar_date 6 (worded calendar_date (listed 6 g)) ≡ listed 6 g
unfolding spread worded put_at
date_list g = go (is_nineteen (get_or (listed 6 g) 4 0))
  where
    go : (v : Bool)
        → put_at 0
        (turned
        (cond v (49 ∷ 57 ∷ []) (50 ∷ 48 ∷ [])
        ++ (part 4 2 (listed 6 g) ++ (45 ∷ (part 0 2 (listed 6 g) ++ (45 ∷ part 2 2 (listed 6 g)))))))
        (spaces 6)
        ≡ listed 6 g
    go true = refl
    go false = refl

pub date_back : (f : List ℕ) → length f ≡ 6 → spread calendar_date 6 (worded calendar_date f) ≡ f
date_back f h = let e = list_is 6 f h in ap (λ (x : List ℕ). spread calendar_date 6 (worded calendar_date x)) e ∙ date_list f ∙ sym e

-- ten bytes, or as many as there are
pub ten_back : (f : List ℕ) → spread ten (length f) (worded ten f) ≡ f
unfolding spread worded
ten_back f =
    let z : length f - length f ≡ 0 = omega arith in
    put_spaces f (length f) (omega arith) ∙ rw z (append-nil f)

-- nine bytes: five, and four or none
postal_list : (g : List ℕ) → spread postal 9 (worded postal (listed 9 g)) ≡ listed 9 g
unfolding spread worded put_at
postal_list g = go (blank (part 5 4 (listed 9 g))) refl
  where
    go : (v : Bool) → blank (part 5 4 (listed 9 g)) ≡ v
        → let w = part 0 5 (listed 9 g) ++ cond v [] (45 ∷ part 5 4 (listed 9 g)) in
        put_at 5 (part 6 4 w) (put_at 0 (part 0 5 w) (spaces 9)) ≡ listed 9 g
    go true q = sym (ap (λ (x : List ℕ). part 0 5 (listed 9 g) ++ x) (blank_is (part 5 4 (listed 9 g)) q))
    go false q = refl

pub postal_back : (f : List ℕ) → length f ≡ 9 → spread postal 9 (worded postal f) ≡ f
postal_back f h = let e = list_is 9 f h in ap (λ (x : List ℕ). spread postal 9 (worded postal x)) e ∙ postal_list f ∙ sym e

-- ---- every form

-- a row of the table has one of four forms, each for as many bytes
pub data Shape (form n : ℕ) : Type 0 where
  is_plain : form ≡ plain → Shape form n
  is_ten : form ≡ ten → n ≡ 10 → Shape form n
  is_date_lem : form ≡ calendar_date → n ≡ 6 → Shape form n
  is_postal : form ≡ postal → n ≡ 9 → Shape form n

either : (a b : Bool) → a || b ≡ true → (a ≡ true) ⊎ (b ≡ true)
either true b e = inl refl
either false b e = inr e

module _ (form n : ℕ) where
  abbrev ten_fits : Bool
  ten_fits = eqb form ten && eqb n 10

  abbrev is_date : Bool
  is_date = eqb form calendar_date && eqb n 6

  abbrev postal_fits : Bool
  postal_fits = eqb form postal && eqb n 9

  three : (is_date ≡ true) ⊎ (postal_fits ≡ true) → Shape form n
  three (inl e) =
      is_date_lem (eqb-true form calendar_date (and_left (eqb form calendar_date) (eqb n 6) e))
      (eqb-true n 6 (and_right (eqb form calendar_date) (eqb n 6) e))
  three (inr e) =
      is_postal (eqb-true form postal (and_left (eqb form postal) (eqb n 9) e)) (eqb-true n 9 (and_right (eqb form postal) (eqb n 9) e))

  two : (ten_fits ≡ true) ⊎ ((is_date || postal_fits) ≡ true) → Shape form n
  two (inl e) = is_ten (eqb-true form ten (and_left (eqb form ten) (eqb n 10) e)) (eqb-true n 10 (and_right (eqb form ten) (eqb n 10) e))
  two (inr e) = three (either is_date postal_fits e)

  one : (eqb form plain ≡ true) ⊎ ((ten_fits || (is_date || postal_fits)) ≡ true) → Shape form n
  one (inl e) = is_plain (eqb-true form plain e)
  one (inr e) = two (either ten_fits (is_date || postal_fits) e)

  pub shape_of : shaped form n ≡ true → Shape form n
  shape_of s = one (either (eqb form plain) (ten_fits || (is_date || postal_fits)) s)

-- each row of the table has its shape
pub all_shaped : every (λ k. shaped (form_at k) (span_size k)) 28 ≡ true
all_shaped = refl

pub row_shape : (k : ℕ) → k < 28 → shaped (form_at k) (span_size k) ≡ true
row_shape k h = every_at (λ k. shaped (form_at k) (span_size k)) 28 k all_shaped h

-- what is written stands for the bytes
pub form_back : (form n : ℕ) (f : List ℕ) → shaped form n ≡ true → length f ≡ n → spread form n (worded form f) ≡ f
form_back form n f s l = go (shape_of form n s)
  where
    go : Shape form n → spread form n (worded form f) ≡ f
    go (is_plain e) = rw (e, ← l) (plain_back f)
    go (is_ten e m) = rw (e, ← l) (ten_back f)
    go (is_date_lem e m) = rw (e, m) (date_back f (l ∙ m))
    go (is_postal e m) = rw (e, m) (postal_back f (l ∙ m))

-- and fits
pub form_fits : (form n : ℕ) (f : List ℕ) → shaped form n ≡ true → length f ≡ n → blank f ≡ false → formed form f ≡ true
    → fits form n (worded form f) ≡ true
form_fits form n f s l b g = go (eqb form plain) refl
  where
    go : (a : Bool) → eqb form plain ≡ a → fits form n (worded form f) ≡ true
    go true p = rw (eqb-true form plain p, ← l) (plain_fits f)
    go false p = fits_back form n f p (form_back form n f s l) b g

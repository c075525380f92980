-- The days before a month and the table of month lengths agree in every month of the years 00 to 99, by one computed test (month_is), and
-- so does the formula (number_by, next_month, next_year); a month has 28 to 31 days; days passed, counted by a sum or by a difference; the
-- four bytes of a day read back as that day. Assumes nothing.
use mathlib.Core.Path.{◌≡◌, refl, ◌∙◌, sym, ap}
use mathlib.Core.Bool.{Bool, true, false, ◌&&◌, cond}
use Prim.Native.Nat.{ℕ, zero, suc, ◌+◌, ◌*◌, ◌-◌, ◌/◌, ◌%◌, ◌≤◌, ◌<◌}
use native.Mathlib.Nat.{div-div-eq-div-mul, div-add-mod', mod-eq_of_lt}
use native.Mathlib.Omega.{arith}
use lib.Dec.{leb, eqb}
use lib.ListN.{get_or}
use borrow.Author.Tests.{eqb-true, eqb-false, ne_eqb, leb-true, leb-false, le-leb, lt-leb}
use Rattle.text.proofs.Laws.{and_left, and_right}
use Rattle.calendar.specs.Calendar.{months, leap, month_days, days_before, years_of, day_number, stored_day}

-- a test holds at every number below n
abbrev pub every : (ℕ → Bool) → ℕ → Bool
every p zero = true
every p (suc n) = p n && every p n

every_more : (p : ℕ → Bool) (n k : ℕ) (b : Bool) → eqb k n ≡ b → p n ≡ true → (k < n → p k ≡ true) → k < suc n → p k ≡ true
every_more p n k true t e r h = ap p (eqb-true k n t) ∙ e
every_more p n k false t e r h = r (omega (arith, eqb-false k n t))

pub every_at : (p : ℕ → Bool) (n k : ℕ) → every p n ≡ true → k < n → p k ≡ true
every_at p zero k e h = absurd (omega arith)
every_at p (suc n) k e h =
    every_more p n k (eqb k n) refl (and_left (p n) (every p n) e) (every_at p n k (and_right (p n) (every p n) e)) h

-- ---- the arithmetic and the table

-- from the first of month k + 1 to the first of the next, or to the end of the year
abbrev has_length : ℕ → ℕ → Bool
has_length y k = eqb (days_before (k + 2) y) (days_before (k + 1) y + month_days (k + 1) y)

abbrev has_lengths : ℕ → Bool
has_lengths y = every (has_length y) 12

lengths : every has_lengths 100 ≡ true
lengths = refl

-- 2026-04, "No answer differs": a month ends so many days after its first as the table says that it has
pub month_is : (m y : ℕ) → 1 ≤ m → m ≤ 12 → y ≤ 99 → days_before (m + 1) y ≡ days_before m y + month_days m y
month_is m y a b c =
    let h : m - 1 < 12 = omega arith in
    let k : y < 100 = omega arith in
    let e : m - 1 + 1 ≡ m = omega arith in
    let f : m - 1 + 2 ≡ m + 1 = omega arith in
    rw (e, f) at
    (eqb-true (days_before (m - 1 + 2) y) (days_before (m - 1 + 1) y + month_days (m - 1 + 1) y)
    (every_at (has_length y) 12 (m - 1) (every_at has_lengths 100 y lengths k) h))

-- ---- the formula and the table

-- what the formulas need of the three numbers; day_number asks for the same
abbrev pub OfMonth : ℕ → ℕ → ℕ → Type 0
OfMonth m d y = (1 ≤ m) × (m ≤ 12) × (1 ≤ d) × (d ≤ 31) × (y ≤ 99)

-- the formula takes its correction off the sum of years and months: as well off the months alone
pub number_by : (m d y : ℕ) → OfMonth m d y → 365 * years_of y + (years_of y + 1) / 4 + days_before m y + d - 1 ≡ day_number m d y
number_by m d y o = go (365 * years_of y + (years_of y + 1) / 4) (leb m 2) refl (leap y)
  where
    go : (n : ℕ) (p : Bool) → leb m 2 ≡ p → (q : Bool)
        → n + ((367 * m - 362) / 12 - cond p 0 (cond q 1 2)) + d - 1 ≡ n + (367 * m - 362) / 12 - cond p 0 (cond q 1 2) + d - 1
    go n true e q = omega arith
    go n false e true = let l = leb-false m 2 e in omega arith
    go n false e false = let l = leb-false m 2 e in omega arith

-- the first of the next month is so many days later as the table says that this month has
pub next_month : (m y : ℕ) → 1 ≤ m → m ≤ 11 → y ≤ 99 → day_number (m + 1) 1 y ≡ day_number m 1 y + month_days m y
next_month m y a b c =
    rw (
      ← number_by (m + 1) 1 y (omega arith, omega arith, omega arith, omega arith, c),
      ← number_by m 1 y (a, omega arith, omega arith, omega arith, c),
      month_is m y a (omega arith) c,
    )
    (go (365 * years_of y + (years_of y + 1) / 4) (days_before m y) (month_days m y))
  where
    go : (n b l : ℕ) → n + (b + l) + 1 - 1 ≡ n + b + 1 - 1 + l
    go n b l = omega arith

-- and the first of January so many days after the first of December; the year after 99 is 00, and behind the last, 69, day 36525 would come
abbrev follows_year : ℕ → Bool
follows_year y = eqb (cond (eqb y 69) 36525 (day_number 1 1 ((y + 1) % 100))) (day_number 12 1 y + month_days 12 y)

years : every follows_year 100 ≡ true
years = refl

pub next_year : (y : ℕ) → y ≤ 99 → (y ≡ 69 → ⊥) → day_number 1 1 ((y + 1) % 100) ≡ day_number 12 1 y + month_days 12 y
next_year y c n =
    let e = every_at follows_year 100 y years (omega arith) in
    eqb-true (day_number 1 1 ((y + 1) % 100)) (day_number 12 1 y + month_days 12 y) (rw (ne_eqb y 69 n) at e)

-- ---- the shortest and the longest month

abbrev is_month_long : ℕ → Bool
is_month_long n = leb 28 n && leb n 31

pub month_size : (m y : ℕ) → 1 ≤ m → m ≤ 12 → (28 ≤ month_days m y) × (month_days m y ≤ 31)
month_size m y a b =
    let all = every_at (λ k. is_month_long (get_or months k 0)) 12 (m - 1) refl (omega arith) in
    go (get_or months (m - 1) 0) all (eqb m 2 && leap y)
  where
    go : (n : ℕ) → is_month_long n ≡ true → (b : Bool) → (28 ≤ cond b 29 n) × (cond b 29 n ≤ 31)
    go n e true = (omega arith, omega arith)
    go n e false = (leb-true 28 n (and_left (leb 28 n) (leb n 31) e), leb-true n 31 (and_right (leb 28 n) (leb n 31) e))

-- so a day that a month has is at most its 31st
pub day_most : (m d y : ℕ) → 1 ≤ m → m ≤ 12 → leb d (month_days m y) ≡ true → d ≤ 31
day_most m d y a b e = let k = leb-true d (month_days m y) e in omega (arith, (month_size m y a b).1)

-- ---- days passed

pub past_early : (d n t : ℕ) → t < n → false ≡ leb (d + n) t
past_early d n t h = sym (lt-leb (d + n) t (omega arith))

pub past_late : (d n t : ℕ) → n ≤ t → leb d (t - n) ≡ leb (d + n) t
past_late d n t h = go (leb d (t - n)) refl
  where
    go : (b : Bool) → leb d (t - n) ≡ b → leb d (t - n) ≡ leb (d + n) t
    go true e = let k = leb-true d (t - n) e in e ∙ sym (le-leb (d + n) t (omega arith))
    go false e = let k = leb-false d (t - n) e in e ∙ sym (lt-leb (d + n) t (omega arith))

-- ---- the four bytes

digits_of : (n p q r : ℕ) → n / 256 ≡ p → p / 256 ≡ q → q / 256 ≡ r → r < 256
    → r % 256 * 16777216 + q % 256 * 65536 + p % 256 * 256 + n % 256 ≡ n
digits_of n p q r a b c h =
    let x : p * 256 + n % 256 ≡ n = rw a at (div-add-mod' n 256) in
    let y : q * 256 + p % 256 ≡ p = rw b at (div-add-mod' p 256) in
    let z : r * 256 + q % 256 ≡ q = rw c at (div-add-mod' q 256) in
    let t : r % 256 ≡ r = mod-eq_of_lt h in
    omega arith

-- what is written is read back
pub bytes_back : (n : ℕ) → n < 4294967296
    → stored_day (n / 16777216 % 256) (n / 65536 % 256) (n / 256 % 256) (n % 256) ≡ record { 0 = n }
bytes_back n h =
    ap (λ (x : ℕ). record { 0 = x })
    (digits_of n (n / 256) (n / 65536) (n / 16777216) refl (div-div-eq-div-mul n 256 256) (div-div-eq-div-mul n 65536 256) (omega arith))

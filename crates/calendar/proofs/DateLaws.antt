-- What six bytes name by the two readings. A day that they name is one that a slot can have (date_fits); the former reading is told from
-- the present one (former_is), and a former day that has a reading is that day now (anew_is). The two formulas are compared by the cases
-- that they split on, the century, January and February, and the leap year; within a case they are linear. Assumes nothing.
use Rattle.std.specs.Prelude.{Option, Some, None}
use mathlib.Core.Path.{◌≡◌, refl, ap}
use mathlib.Core.Logic.{◌≢◌}
use mathlib.Core.List.{List}
use mathlib.Core.Bool.{Bool, true, false, ◌&&◌, cond}
use Prim.Native.Nat.{ℕ, ◌+◌, ◌*◌, ◌-◌, ◌/◌, ◌%◌, ◌≤◌}
use native.Mathlib.Omega.{arith}
use lib.Dec.{leb, eqb}
use lib.ListN.{length}
use borrow.Author.Tests.{eqb-true, eqb-false, leb-true, leb-false, le-leb, lt-leb}
use Rattle.text.specs.Text.{spelled, part, on_some}
use Rattle.text.proofs.Laws.{and_left, and_right}
use Rattle.calendar.specs.declared.Day.{Day}
use Rattle.calendar.specs.declared.Reading.{Reading}
use Rattle.calendar.specs.declared.Reading.TheVariants.{Present, Former}
use Rattle.calendar.specs.Calendar.{leap, month_days, is_day, day_number, day_from, dated, day_of, no_later}
use Rattle.calendar.specs.Former.{former_number, former_from, former_of, day_by, formerly}
use Rattle.calendar.proofs.DayLaws.{OfMonth, day_most}

-- ---- a day of the calendar

-- the three numbers of a day are as the formulas need them
of_month : (m d y : ℕ) → is_day m d y ≡ true → OfMonth m d y
of_month m d y e =
    let ty = leb y 99 in
    let tm = leb 1 m in
    let tn = leb m 12 in
    let td = leb 1 d in
    let te = leb d (month_days m y) in
    let v = and_right ty (tm && (tn && (td && te))) e in
    let w = and_right tm (tn && (td && te)) v in
    let x = and_right tn (td && te) w in
    let a = leb-true 1 m (and_left tm (tn && (td && te)) v) in
    let b = leb-true m 12 (and_left tn (td && te) w) in (
      a,
      b,
      leb-true 1 d (and_left td te x),
      day_most m d y a b (and_right td te x),
      leb-true y 99 (and_left ty (tm && (tn && (td && te))) e),
    )

-- what is so of two readings of any three numbers is so of them for six bytes
module _ (P : Option Day → Option Day → Type 0) (f g : ℕ → ℕ → ℕ → Option Day) (none : P None None) (each : (m d y : ℕ) → P (f m d y) (g m d y)) where
  dated_both : (s : List ℕ) → P (dated f s) (dated g s)
  dated_both s = go (eqb (length s) 6) (spelled 2 2 (part 0 2 s)) (spelled 2 2 (part 2 2 s)) (spelled 2 2 (part 4 2 s))
    where
      go : (b : Bool) (m d y : Option ℕ)
          → P (cond b (on_some m None (λ m. on_some d None (λ d. on_some y None (λ y. f m d y)))) None)
          (cond b (on_some m None (λ m. on_some d None (λ d. on_some y None (λ y. g m d y)))) None)
      go false m d y = none
      go true None d y = none
      go true (Some m) None y = none
      go true (Some m) (Some d) None = none
      go true (Some m) (Some d) (Some y) = each m d y

-- ---- the last day is 36524

pub number_most : (m d y : ℕ) → OfMonth m d y → day_number m d y ≤ 36524
number_most m d y o = go (leb 70 y) refl (leb m 2) refl (leap y) refl
  where
    go : (w : Bool) → leb 70 y ≡ w → (p : Bool) → leb m 2 ≡ p → (q : Bool) → leap y ≡ q
        → 365 * cond w (y - 70) (y + 30) + (cond w (y - 70) (y + 30) + 1) / 4 + (367 * m - 362) / 12 - cond p 0 (cond q 1 2) + d - 1
        ≤ 36524
    go true k true h q g = let l = leb-true m 2 h in omega arith
    go true k false h true g = let l = leb-false m 2 h in omega arith
    go true k false h false g = let l = leb-false m 2 h in omega arith
    go false k true h q g = let l = leb-true m 2 h in let i = leb-false 70 y k in omega arith
    go false k false h true g = let l = eqb-true (y % 4) 0 g in let j = leb-false m 2 h in let i = leb-false 70 y k in omega arith
    go false k false h false g = let l = eqb-false (y % 4) 0 g in let j = leb-false m 2 h in let i = leb-false 70 y k in omega arith

-- for the code: the formula's number with its bound
pub most_is : (m d y r : ℕ) → OfMonth m d y → r ≡ day_number m d y → (r ≡ day_number m d y) × (r ≤ 36524)
most_is m d y r o e = (e, rw e (number_most m d y o))

-- a day that six bytes name is one that a slot can have
pub date_fits : (f : List ℕ) → no_later (day_of f) ≡ true
unfolding day_of
date_fits f = dated_both (λ a b. no_later a ≡ true) day_from day_from refl each f
  where
    each : (m d y : ℕ) → no_later (day_from m d y) ≡ true
    each m d y = go (is_day m d y) refl
      where
        go : (b : Bool) → is_day m d y ≡ b → no_later (cond b (Some (record { 0 = day_number m d y })) None) ≡ true
        go false e = refl
        go true e = le-leb (day_number m d y) 36524 (number_most m d y (of_month m d y e))

-- ---- what a day was before

-- the former number of a day before 010100, which is 10957 now, and of one from there on
formerly_early : (n f : ℕ) → n ≤ 10956 → f ≡ n + 25568 → f ≡ formerly n
formerly_early n f h e = rw (lt-leb 10957 n (omega arith)) e

formerly_late : (n f : ℕ) → 10957 ≤ n → f + 10957 ≡ n → f ≡ formerly n
formerly_late n f h e = rw (le-leb 10957 n h) (omega arith)

-- the former formula: a day of 19YY is early, a day of 20YY is not
former_number_lem : (m d y : ℕ) → OfMonth m d y → former_number m d y ≡ formerly (day_number m d y)
former_number_lem m d y o = go (leb 70 y) refl (leb m 2) refl (leap y) refl (day_number m d y) refl
  where
    go : (w : Bool) → leb 70 y ≡ w → (p : Bool) → leb m 2 ≡ p → (q : Bool) → leap y ≡ q → (n : ℕ)
        → 365 * cond w (y - 70) (y + 30) + (cond w (y - 70) (y + 30) + 1) / 4 + (367 * m - 362) / 12 - cond p 0 (cond q 1 2) + d - 1 ≡ n
        → 365 * y + (y + 3) / 4 + (367 * m - 362) / 12 - cond p 0 (cond q 1 2) + d - 1 ≡ formerly n
    go true k true h q g n e =
        let i = leb-true 70 y k in
        let l = leb-true m 2 h in
        formerly_early n _ (omega arith) (omega arith)
    go true k false h true g n e =
        let i = leb-true 70 y k in
        let l = leb-false m 2 h in
        let j = eqb-true (y % 4) 0 g in
        formerly_early n _ (omega arith) (omega arith)
    go true k false h false g n e =
        let i = leb-true 70 y k in
        let l = leb-false m 2 h in
        formerly_early n _ (omega arith) (omega arith)
    go false k true h q g n e = let i = leb-false 70 y k in formerly_late n _ (omega arith) (omega arith)
    go false k false h true g n e =
        let i = leb-false 70 y k in
        let l = leb-false m 2 h in
        formerly_late n _ (omega arith) (omega arith)
    go false k false h false g n e =
        let i = leb-false 70 y k in
        let l = leb-false m 2 h in
        formerly_late n _ (omega arith) (omega arith)

-- the former day of a date, told from the present one
abbrev as_before : Option Day → Option Day
as_before x = on_some x None (λ d. Some (record { 0 = formerly d.0 }))

pub former_is : (f : List ℕ) → former_of f ≡ on_some (day_of f) None (λ d. Some (record { 0 = formerly d.0 }))
unfolding former_of day_of
former_is f = dated_both (λ a b. a ≡ as_before b) former_from day_from refl each f
  where
    each : (m d y : ℕ) → former_from m d y ≡ as_before (day_from m d y)
    each m d y = go (is_day m d y) refl
      where
        go : (b : Bool) → is_day m d y ≡ b
            → cond b (Some (record { 0 = former_number m d y })) None
            ≡ as_before (cond b (Some (record { 0 = day_number m d y })) None)
        go false e = refl
        go true e = ap (λ (n : ℕ). Some (record { 0 = n })) (former_number_lem m d y (of_month m d y e))

-- no day has the number that it had before
pub formerly_other : (n : ℕ) → formerly n ≢ n
formerly_other n e = go (leb 10957 n) refl e
  where
    go : (b : Bool) → leb 10957 n ≡ b → cond b (n - 10957) (n + 25568) ≡ n → ⊥
    go true k e = let l = leb-true 10957 n k in omega arith
    go false k e = omega arith

-- a former number up to 25567 is that of a day from 010100 on
formerly_back : (n f : ℕ) → formerly n ≡ f → f ≤ 25567 → n ≡ f + 10957
formerly_back n f e h = go (leb 10957 n) refl e
  where
    go : (b : Bool) → leb 10957 n ≡ b → cond b (n - 10957) (n + 25568) ≡ f → n ≡ f + 10957
    go true k e = let l = leb-true 10957 n k in omega arith
    go false k e = absurd (omega arith)

-- so a date whose former day has a reading has that reading now
pub anew_is : (f : List ℕ) (d : Day) → former_of f ≡ Some d → d.0 ≤ 25567 → day_of f ≡ Some (record { 0 = d.0 + 10957 })
anew_is f d e h = go (day_of f) (rw (former_is f) at e)
  where
    go : (x : Option Day) → as_before x ≡ Some d → x ≡ Some (record { 0 = d.0 + 10957 })
    go None q = absurd (let z : ◌≡◌ {A = ℕ} 0 1 = cc in omega arith)
    go (Some x) q =
        ap (λ (n : ℕ). Some (record { 0 = n })) (formerly_back x.0 d.0 (ap (λ (y : Option Day). on_some y 0 (λ d. d.0)) q) h)

-- ---- for the code: the day by either reading, told from the present one

module _ (f : List ℕ) (x : Reading) where
  pub by_none : None ≡ day_of f → None ≡ day_by x f
  by_none e = go x
    where
      go : (x : Reading) → None ≡ day_by x f
      go Present = e
      go Former = rw (former_is f, ← e) refl

  pub by_present : (d : Day) → x ≡ Present → Some d ≡ day_of f → Some d ≡ day_by x f
  by_present d p e = rw p e

  pub by_former : (d : Day) (n : ℕ) → x ≡ Former → Some d ≡ day_of f → n ≡ formerly d.0 → Some (record { 0 = n }) ≡ day_by x f
  by_former d n p e q = rw (p, former_is f, ← e, q) refl

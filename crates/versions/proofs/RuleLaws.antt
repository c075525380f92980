-- One field in the two versions: with blanks behind it keeps its rule as before. A rule that looks at its own field alone has one test
-- (`passes`), whose fault is 0 or the field's position (fault_alone); and that test says the same of the field of Version 1 and of the
-- same field of Version 2 (passes_wide): they are the same bytes, or the rule is one that blanks behind do not break.
-- Assumes nothing.
use Rattle.std.specs.Prelude.{Option, Some, None}
use mathlib.Core.Path.{◌≡◌, refl, sym, ap, ◌∙◌}
use mathlib.Core.Bool.{Bool, true, false, ◌&&◌, ◌||◌, not, cond}
use mathlib.Core.List.{List, [], ◌∷◌, ◌++◌}
use Prim.Native.Nat.{ℕ, zero, suc, ◌-◌, ◌≤◌}
use native.Mathlib.Omega.{arith}
use lib.Dec.{leb, ltb, eqb}
use lib.ListN.{length}
use borrow.Author.Tests.{eqb-true, leb-true, ltb-true, eq-eqb, ne_eqb, not-true}
use Rattle.text.specs.declared.Class.{Class}
use Rattle.text.specs.declared.Class.TheVariants.{Printable, Space}
use Rattle.text.specs.Text.{in_class, all_in, all_of, blank, run_of, spaces, on_some}
use Rattle.text.proofs.Laws.{and_left, and_right, and_false, or_right}
use Rattle.text.proofs.DigitLaws.{blank_spaces}
use Rattle.layout.specs.Tables.{free, left_text, named, code, house, low_end, high_end, parity_letter, first_code}
use Rattle.layout.specs.Fields.{house_in, end_in}
use Rattle.layout.specs.Rules.{left_justified, needed_in, keeps, keeps_other, is_whole, house_fault, end_fault, fault_by}
use Rattle.layout.proofs.LineLaws.{never, whole_long}
use Rattle.versions.specs.Versions.{trails, alone, shares_rule, filled}
use Rattle.versions.proofs.TableLaws.{filled_length, filled_whole}

-- ---- the test of a rule that looks at its own field alone

abbrev is_number : Option ℕ → Bool
is_number x = on_some x false (λ n. true)

abbrev keeps_alone : ℕ → Bool → List ℕ → Bool
keeps_alone r lax f = cond (eqb r house) (is_number (house_in f)) (cond (eqb r low_end) (is_number (end_in f)) (keeps r lax f))

unfoldable pub passes : ℕ → ℕ → Bool → List ℕ → Bool
passes n r lax f = is_whole n f && keeps_alone r lax f

-- a field that passes is there
pub passes_long : (n r : ℕ) (lax : Bool) (f : List ℕ) → passes n r lax f ≡ true → length f ≡ n
unfolding passes
passes_long n r lax f h = whole_long n f (and_left (is_whole n f) (keeps_alone r lax f) h)

-- the fault is 0 where it passes, and the field's position where not: it does not matter in which line
pub fault_alone : (at n r : ℕ) (lax : Bool) (s f : List ℕ) → alone r ≡ true → fault_by at n r lax s f ≡ cond (passes n r lax f) 0 at
unfolding passes fault_by house_fault end_fault
fault_alone at n r lax s f a =
    let h = not-true (eqb r high_end) (and_left (not (eqb r high_end)) (not (eqb r parity_letter)) a) in
    let p = not-true (eqb r parity_letter) (and_right (not (eqb r high_end)) (not (eqb r parity_letter)) a) in
    rw (h, p) (go (is_whole n f) (eqb r house) (eqb r low_end))
  where
    number : (x : Option ℕ) → on_some x at (λ n. 0) ≡ cond (is_number x) 0 at
    number (Some n) = refl
    number None = refl

    go : (w x y : Bool) → cond w (cond x (house_fault at f) (cond y (end_fault at f) (cond (keeps r lax f) 0 at))) at
        ≡ cond (w && cond x (is_number (house_in f)) (cond y (is_number (end_in f)) (keeps r lax f))) 0 at
    go false x y = refl
    go true true y = number (house_in f)
    go true false true = number (end_in f)
    go true false false = refl

-- ---- blanks behind

-- all bytes are of a class that has the space, as before
all_behind : (k : Class) (f : List ℕ) (x : ℕ) → in_class k 32 ≡ true → all_in k (f ++ spaces x) ≡ all_in k f
all_behind k [] zero s = refl
all_behind k [] (suc x) s = rw s (all_behind k [] x s)
all_behind k (b ∷ f) x s = ap (λ v. in_class k b && v) (all_behind k f x s)

-- a field that is not empty begins with a space as before
begins_behind : (b : ℕ) (f : List ℕ) (x : ℕ) → eqb (run_of Space ((b ∷ f) ++ spaces x)) 0 ≡ eqb (run_of Space (b ∷ f)) 0
begins_behind b f x = go (eqb b 32)
  where
    go : (v : Bool) → eqb (cond v (suc (run_of Space (f ++ spaces x))) 0) 0 ≡ eqb (cond v (suc (run_of Space f)) 0) 0
    go true = ne_eqb (suc (run_of Space (f ++ spaces x))) 0 (omega arith) ∙ sym (ne_eqb (suc (run_of Space f)) 0 (omega arith))
    go false = refl

-- so it is blank, or begins with no space, as before
needed_behind : (lax : Bool) (f : List ℕ) (x : ℕ) → 1 ≤ length f → needed_in lax (f ++ spaces x) ≡ needed_in lax f
needed_behind lax [] x h = absurd (omega arith)
needed_behind lax (b ∷ f) x h = rw (begins_behind b f x, all_behind Space (b ∷ f) x refl) refl

-- an empty field is blank with blanks behind too
left_behind : (f : List ℕ) (x : ℕ) → left_justified (f ++ spaces x) ≡ left_justified f
left_behind [] x = or_right (eqb (run_of Space (spaces x)) 0) (blank (spaces x)) (blank_spaces x)
left_behind (b ∷ f) x = needed_behind true (b ∷ f) x (omega arith)

-- all of its bytes are there
whole_behind : (m n : ℕ) (f : List ℕ) → length f ≡ m → m ≤ n → is_whole n (filled n f) ≡ is_whole m f
unfolding is_whole
whole_behind m n f l h =
    let e = filled_length n f (omega arith) in
    rw (all_behind Printable f (n - length f) refl, eq-eqb (length (filled n f)) n e, eq-eqb (length f) m l) refl

-- the rules that blanks behind do not break
trails_behind : (n r m : ℕ) (lax : Bool) (f : List ℕ) → trails m r ≡ true → length f ≡ m → m ≤ n
    → passes n r lax (filled n f) ≡ passes m r lax f
unfolding passes keeps
trails_behind n r m lax f t l h = go (eqb r free) refl (eqb r left_text) refl t
  where
    x : ℕ
    x = n - length f

    whole : is_whole n (filled n f) ≡ is_whole m f
    whole = whole_behind m n f l h

    go : (a : Bool) → eqb r free ≡ a → (b : Bool) → eqb r left_text ≡ b → (a || (b || (eqb r named && leb 1 m))) ≡ true
        → passes n r lax (filled n f) ≡ passes m r lax f
    go true p b q t = rw (eqb-true r free p, whole) refl
    go false p true q t = rw (eqb-true r left_text q, whole, left_behind f x) refl
    go false p false q t =
        let e = eqb-true r named (and_left (eqb r named) (leb 1 m) t) in
        let o = leb-true 1 m (and_right (eqb r named) (leb 1 m) t) in
        rw (e, whole, needed_behind lax f x (omega arith)) refl

-- ---- field k of both versions

-- the codes of Version 1, those that only Version 2 knows, and both
abbrev pub first_codes : List ℕ
first_codes = 67 ∷ 68 ∷ 73 ∷ []

abbrev pub other_codes : List ℕ
other_codes = 85 ∷ 77 ∷ []

abbrev pub all_codes : List ℕ
all_codes = 67 ∷ 68 ∷ 73 ∷ 85 ∷ 77 ∷ []

-- a field passes in Version 2 if it does in Version 1, and only then: where it has a code, that must be one of both or of neither
pub passes_wide : (n r m q : ℕ) (lax : Bool) (f : List ℕ) → shares_rule n r m q ≡ true → length f ≡ m
    → (q ≡ first_code → all_of all_codes f ≡ all_of first_codes f) → passes n r lax (filled n f) ≡ passes m q lax f
unfolding passes keeps keeps_other
passes_wide n r m q lax f c l coded = go (eqb m n) refl (eqb q r) refl c
  where
    same_code : (u v : Bool) → (u || (v && false)) ≡ true → u ≡ true
    same_code true v h = refl
    same_code false v h = never (sym (and_false v) ∙ h)

    go : (b : Bool) → eqb m n ≡ b → (d : Bool) → eqb q r ≡ d
        → ((b && (d || (eqb q first_code && eqb r code))) || (ltb m n && (d && trails m r))) ≡ true
        → passes n r lax (filled n f) ≡ passes m q lax f
    go true p true o c =
        let x = eqb-true m n p in
        rw (filled_whole n f (l ∙ x), x, eqb-true q r o) refl
    go true p false o c =
        let x = eqb-true m n p in
        let z = same_code (eqb q first_code && eqb r code) (ltb m n) c in
        let y = eqb-true q first_code (and_left (eqb q first_code) (eqb r code) z) in
        rw (filled_whole n f (l ∙ x), x, eqb-true r code (and_right (eqb q first_code) (eqb r code) z), coded y, y) refl
    go false p true o c =
        let x : m ≤ n = omega (arith, ltb-true m n (and_left (ltb m n) (trails m r) c)) in
        rw (eqb-true q r o) (trails_behind n r m lax f (and_right (ltb m n) (trails m r) c) l x)
    go false p false o c = never (sym (and_false (ltb m n)) ∙ c)

-- a field of no bytes, whose rule is that of text, passes
pub passes_none : (lax : Bool) → passes 0 left_text lax [] ≡ true
unfolding passes is_whole keeps
passes_none lax = refl

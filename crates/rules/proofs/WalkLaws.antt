-- Laws of the walk, of counts, and of a table whose first hit decides.
-- Assumes nothing.
use Rattle.std.specs.Option.{is_none, option_or}
use Rattle.std.specs.Prelude.{Option, Some, None}
use mathlib.Core.Path.{◌≡◌, refl, sym, ◌∙◌, subst}
use mathlib.Core.Logic.{◌⊎◌, inl, inr, ◌≢◌}
use mathlib.Core.Bool.{Bool, true, false, ◌&&◌, ◌||◌, cond, true≢false}
use mathlib.Core.List.{List, [], ◌∷◌, ◌++◌}
use Prim.Native.Nat.{ℕ, zero, suc, ◌+◌, ◌≤◌, ◌<◌}
use native.Mathlib.Nat.{not-suc-le-zero, lt_irrefl}
use native.Mathlib.Decide.{ℕ_discrete, dec_lt}
use native.Mathlib.Numerals.{add-one}
use native.Mathlib.Omega.{arith}
use lib.Dec.{eqb, ltb}
use borrow.Author.Tests.{ltb-true, eq-eqb, ne_eqb}
use Rattle.text.specs.Text.{member_of}
use Rattle.text.proofs.Laws.{and_left, and_right, and_false, or_right}
use Rattle.rules.specs.Walks.{find, walked, sought, count, first}

-- ---- tests

-- a test's value, with the equation
pub decided : (b : Bool) → (b ≡ true) ⊎ (b ≡ false)
decided true = inl refl
decided false = inr refl

pub clash-bool {ℓ} : {A : Type ℓ} {b : Bool} → b ≡ true → b ≡ false → A
clash-bool p q = absurd (true≢false (sym p ∙ q))

pub and_both : (a b : Bool) → a ≡ true → b ≡ true → a && b ≡ true
and_both a b p q = cc

pub and_rest : (a b : Bool) → a ≡ true → a && b ≡ false → b ≡ false
and_rest a b p q = cc

-- ---- the lowest place below n

pub find_some : (p : ℕ → Bool) (n i : ℕ) → find p n ≡ Some i → (i < n) × (p i ≡ true)
unfolding find
find_some p zero i e = let z : ◌≡◌ {A = ℕ} 0 1 = cc in absurd (omega arith)
find_some p (suc n) i e = go (λ f. find_some p n i f) (find p n) refl (p n) refl e
  where
    go : (find p n ≡ Some i → (i < n) × (p i ≡ true)) → (o : Option ℕ) → find p n ≡ o → (b : Bool) → p n ≡ b
        → option_or o (cond b (Some n) None) ≡ Some i → (i < suc n) × (p i ≡ true)
    go ih (Some j) f b q e = let h = ih (f ∙ e) in (omega arith, h.1)
    go ih None f true q e = let z : n ≡ i = cc in (omega arith, rw (← z) q)
    go ih None f false q e = let z : ◌≡◌ {A = ℕ} 0 1 = cc in absurd (omega arith)

pub find_none : (p : ℕ → Bool) (n : ℕ) → find p n ≡ None → (i : ℕ) → i < n → p i ≡ false
unfolding find
find_none p zero e i h = absurd (not-suc-le-zero h)
find_none p (suc n) e i h = go (λ f. find_none p n f i) (find p n) refl (p n) refl e (dec_lt i n)
  where
    go : (find p n ≡ None → i < n → p i ≡ false) → (o : Option ℕ) → find p n ≡ o → (b : Bool) → p n ≡ b
        → option_or o (cond b (Some n) None) ≡ None → Dec (i < n) → p i ≡ false
    go ih (Some j) f b q e d = let z : ◌≡◌ {A = ℕ} 0 1 = cc in absurd (omega arith)
    go ih None f true q e d = let z : ◌≡◌ {A = ℕ} 0 1 = cc in absurd (omega arith)
    go ih None f false q e (yes l) = ih f l
    go ih None f false q e (no l) = let z : i ≡ n = omega arith in rw z q

-- no place below the one that is found passes
pub find_below : (p : ℕ → Bool) (n i : ℕ) → find p n ≡ Some i → (j : ℕ) → j < i → p j ≡ false
unfolding find
find_below p zero i e j h = let z : ◌≡◌ {A = ℕ} 0 1 = cc in absurd (omega arith)
find_below p (suc n) i e j h = go (λ f. find_below p n i f j h) (find p n) refl (p n) refl e
  where
    go : (find p n ≡ Some i → p j ≡ false) → (o : Option ℕ) → find p n ≡ o → (b : Bool) → p n ≡ b
        → option_or o (cond b (Some n) None) ≡ Some i → p j ≡ false
    go ih (Some k) f b q e = ih (f ∙ e)
    go ih None f true q e = let z : n ≡ i = cc in find_none p n f j (omega arith)
    go ih None f false q e = let z : ◌≡◌ {A = ℕ} 0 1 = cc in absurd (omega arith)

-- a test that holds nowhere below n
pub find_nowhere : (p : ℕ → Bool) (n : ℕ) → ((i : ℕ) → i < n → p i ≡ false) → find p n ≡ None
find_nowhere p n f = go (find p n) refl
  where
    go : (o : Option ℕ) → find p n ≡ o → o ≡ None
    go (Some i) e = let h = find_some p n i e in clash-bool h.1 (f i h.0)
    go None e = refl

pub is_none_lem : (o : Option ℕ) → is_none o ≡ true → o ≡ None
is_none_lem None e = refl
is_none_lem (Some i) e = clash-bool e refl

pub find_hit : (p : ℕ → Bool) (n i : ℕ) → find p i ≡ None → p i ≡ true → i < n → find p n ≡ Some i
unfolding find
find_hit p zero i e q h = absurd (not-suc-le-zero h)
find_hit p (suc n) i e q h = go (λ l. find_hit p n i e q l) (dec_lt i n)
  where
    go : (i < n → find p n ≡ Some i) → Dec (i < n) → option_or (find p n) (cond (p n) (Some n) None) ≡ Some i
    go ih (yes l) = rw (ih l) refl
    go ih (no l) = let z : n ≡ i = omega arith in rw (z, e, q) refl

-- ---- what a loop over places cites: it has passed the first i of n, and found nothing

pub record Passed (p : ℕ → Bool) (n i : ℕ) : Type 0 where
  pub within : i ≤ n
  pub nothing : find p i ≡ None

module _ (p : ℕ → Bool) (n : ℕ) where
  pub passed_none : Passed p n 0
  unfolding find
  passed_none = record { within = omega arith; nothing = refl }

  pub passed_more : (i : ℕ) → Passed p n i → i < n → p i ≡ false → Passed p n (i + 1)
  unfolding find
  passed_more i s h f = record { within = omega arith; nothing = rw (add-one, s.nothing, f) }

  pub passed_hit : (i : ℕ) → Passed p n i → i < n → p i ≡ true → record { found = Some i; looked = i + 1 } ≡ sought p n
  unfolding walked
  passed_hit i s h t = rw (find_hit p n i s.nothing t h)

-- the walk looks at no more than there is
pub walked_le : (p : ℕ → Bool) (n : ℕ) → walked p n ≤ n
unfolding walked
walked_le p n = go (find p n) refl
  where
    go : (o : Option ℕ) → find p n ≡ o → walked p n ≤ n
    go (Some i) e = let h = find_some p n i e in rw e (omega arith)
    go None e = rw e (omega arith)

-- two tests that agree below n find the same place
pub find_same_lem : (p q : ℕ → Bool) (n : ℕ) → ((j : ℕ) → j < n → q j ≡ p j) → find q n ≡ find p n
unfolding find
find_same_lem p q zero f = refl
find_same_lem p q (suc n) f = rw (f n (omega arith), find_same_lem p q n (λ j h. f j (omega arith))) refl

-- ---- counts

-- a test counts for at most one
pub at_most_one : (b : Bool) → cond b 1 0 ≤ 1
at_most_one true = omega arith
at_most_one false = omega arith

pub count_same : (p q : ℕ → Bool) (n : ℕ) → ((j : ℕ) → j < n → q j ≡ p j) → count q n ≡ count p n
unfolding count
count_same p q zero f = refl
count_same p q (suc n) f = rw (f n (omega arith), count_same p q n (λ j h. f j (omega arith))) refl

pub count_change : (p q : ℕ → Bool) (i n : ℕ) → i < n → ((j : ℕ) → j ≢ i → q j ≡ p j)
    → count q n + cond (p i) 1 0 ≡ count p n + cond (q i) 1 0
unfolding count
count_change p q i zero h f = absurd (not-suc-le-zero h)
count_change p q i (suc n) h f = go (λ l. count_change p q i n l f) (ℕ_discrete n i)
  where
    go : (i < n → count q n + cond (p i) 1 0 ≡ count p n + cond (q i) 1 0) → Dec (n ≡ i)
        → count q n + cond (q n) 1 0 + cond (p i) 1 0 ≡ count p n + cond (p n) 1 0 + cond (q i) 1 0
    go ih (yes e) =
        let z : count q n ≡ count p n = count_same p q n (λ j l. f j (omega arith)) in
        rw (← e) (omega arith)
    go ih (no e) = rw (f n e) (omega (arith, ih (omega arith)))

-- ---- a table: the first hit decides

-- for the code's returns: a test that passed, and one that failed before it
pub hit : (t : Bool) (n : ℕ) (l : List (Bool × ℕ)) → t ≡ true → n ≡ first ((t, n) ∷ l)
unfolding first
hit t n l e = rw e refl

pub skip : (t : Bool) (n : ℕ) (l : List (Bool × ℕ)) (k : ℕ) → t ≡ false → k ≡ first l → k ≡ first ((t, n) ∷ l)
unfolding first
skip t n l k e f = rw e f

pub done : 0 ≡ first []
unfolding first
done = refl

-- all tests failed
unfoldable pub AllFail : List (Bool × ℕ) → Type 0
AllFail [] = Unit {0}
AllFail (h ∷ t) = (h.0 ≡ false) × AllFail t

unfoldable pub positive : List (Bool × ℕ) → Bool
positive [] = true
positive (h ∷ t) = ltb 0 h.1 && positive t

pub first_zero : (l : List (Bool × ℕ)) → positive l ≡ true → first l ≡ 0 → AllFail l
unfolding first AllFail positive
first_zero [] p e = tt
first_zero (h ∷ t) p e = go (λ f. first_zero t (and_right (ltb 0 h.1) (positive t) p) f) h.0 refl e
  where
    go : (first t ≡ 0 → AllFail t) → (b : Bool) → h.0 ≡ b → cond b h.1 (first t) ≡ 0 → (h.0 ≡ false) × AllFail t
    go ih true q e = absurd (lt_irrefl 0 (subst (λ (n : ℕ). 0 < n) e (ltb-true 0 h.1 (and_left (ltb 0 h.1) (positive t) p))))
    go ih false q e = (q, ih e)

-- the numbers of a table are all in a list
unfoldable pub numbers_in : List ℕ → List (Bool × ℕ) → Bool
numbers_in set [] = true
numbers_in set (h ∷ t) = member_of h.1 set && numbers_in set t

-- so the first hit decides for one of them, or for 0
pub first_in : (set : List ℕ) (l : List (Bool × ℕ)) → member_of 0 set ≡ true → numbers_in set l ≡ true → member_of (first l) set ≡ true
unfolding first numbers_in
first_in set [] z e = z
first_in set (h ∷ t) z e = go (first_in set t z (and_right (member_of h.1 set) (numbers_in set t) e)) h.0
  where
    go : member_of (first t) set ≡ true → (b : Bool) → member_of (cond b h.1 (first t)) set ≡ true
    go ih true = and_left (member_of h.1 set) (numbers_in set t) e
    go ih false = ih

-- a row with this number hits
unfoldable pub hit_by : ℕ → List (Bool × ℕ) → Bool
hit_by n [] = false
hit_by n (h ∷ t) = (eqb h.1 n && h.0) || hit_by n t

-- the number that the first hit decides for is that of a row that hits
pub first_hit : (n : ℕ) (l : List (Bool × ℕ)) → n ≢ 0 → first l ≡ n → hit_by n l ≡ true
unfolding first hit_by
first_hit n [] z e = absurd (z (sym e))
first_hit n (h ∷ t) z e = go (first_hit n t z) h.0 refl e
  where
    go : (first t ≡ n → hit_by n t ≡ true) → (b : Bool) → h.0 ≡ b → cond b h.1 (first t) ≡ n
        → (eqb h.1 n && h.0) || hit_by n t ≡ true
    go ih true q e = rw (q, eq-eqb h.1 n e) refl
    go ih false q e = or_right (eqb h.1 n && h.0) (hit_by n t) (ih e)

-- where some row hits, the first hit decides for a number of the table
pub first_some : (n : ℕ) (set : List ℕ) (l : List (Bool × ℕ)) → hit_by n l ≡ true → numbers_in set l ≡ true
    → member_of (first l) set ≡ true
unfolding first hit_by numbers_in
first_some n set [] k e = clash-bool k refl
first_some n set (h ∷ t) k e =
    go (λ f. first_some n set t f (and_right (member_of h.1 set) (numbers_in set t) e)) h.0 refl
  where
    go : (hit_by n t ≡ true → member_of (first t) set ≡ true) → (b : Bool) → h.0 ≡ b → member_of (cond b h.1 (first t)) set ≡ true
    go ih true q = and_left (member_of h.1 set) (numbers_in set t) e
    go ih false q = ih (rw (q, and_false (eqb h.1 n)) at k)

-- two tables, one after the other
pub first_append : (a b : List (Bool × ℕ)) → positive a ≡ true → first (a ++ b) ≡ cond (eqb (first a) 0) (first b) (first a)
unfolding first positive
first_append [] b p = refl
first_append (h ∷ t) b p = go (first_append t b (and_right (ltb 0 h.1) (positive t) p)) h.0
  where
    go : first (t ++ b) ≡ cond (eqb (first t) 0) (first b) (first t) → (v : Bool)
        → cond v h.1 (first (t ++ b)) ≡ cond (eqb (cond v h.1 (first t)) 0) (first b) (cond v h.1 (first t))
    go ih true =
        let q = ltb-true 0 h.1 (and_left (ltb 0 h.1) (positive t) p) in
        rw (ne_eqb h.1 0 (λ e. omega arith))
    go ih false = ih

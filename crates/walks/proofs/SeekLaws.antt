-- Laws of the walk that is told by a test's answers: what its loop cites, and that it is the walk of what the answers say.
-- Assumes nothing.
use Rattle.std.specs.Prelude.{Option, Some, None}
use mathlib.Core.Path.{◌≡◌, refl, sym}
use mathlib.Core.Bool.{Bool, true, false}
use mathlib.Core.List.{List}
use Prim.Native.Nat.{ℕ, ◌+◌, ◌<◌, ◌/◌}
use lib.ListN.{length}
use borrow.Author.Count.{below_more}
use Rattle.rules.specs.declared.Sought.{Sought}
use Rattle.rules.specs.Walks.{find, walked, sought}
use Rattle.rules.specs.Slots.{place}
use Rattle.rules.proofs.WalkLaws.{find_nowhere, find_hit}
use Rattle.walks.specs.Seeking.{NonePassed, IsSought}

-- ---- what a loop over places cites: it has passed the first i, and found nothing

module _ (answers : List ℕ → Bool → Type 0) (w : ℕ) (store : List ℕ) where
  pub none_more : (i : ℕ) → NonePassed answers w store i → answers (place w store i) false → NonePassed answers w store (i + 1)
  none_more i s f = below_more (λ k. answers (place w store k) false) i s f

  pub sought_hit : (i : ℕ) → NonePassed answers w store i → i < length store / w → answers (place w store i) true
      → IsSought answers w store (record { found = Some i; looked = i + 1 })
  sought_hit i s h t = record {
    passed = λ j e. let z : i ≡ j = cc in rw (← z) (h, t);
    none = s;
    looked = refl;
  }

-- ---- what a caller cites: a test that answers as a predicate does finds what the walk of the predicate finds

module _ {answers : List ℕ → Bool → Type 0} (test : List ℕ → Bool)
    (says : (s : List ℕ) (b : Bool) → answers s b → b ≡ test s) where
  find_nothing : (w : ℕ) (store : List ℕ) (n : ℕ) → NonePassed answers w store n
      → find (λ i. test (place w store i)) n ≡ None
  find_nothing w store n f = find_nowhere (λ i. test (place w store i)) n (λ k h. sym (says (place w store k) false (f k h)))

  pub sought_by : {w : ℕ} {store : List ℕ} {r : Sought} → IsSought answers w store r
      → r ≡ sought (λ i. test (place w store i)) (length store / w)
  unfolding walked
  sought_by {w} {store} {r} h = let e = go r.found refl in rw (e, h.looked) refl
    where
      go : (f : Option ℕ) → r.found ≡ f → find (λ i. test (place w store i)) (length store / w) ≡ r.found
      go (Some i) e =
          let p = h.passed i e in
          rw e (find_hit (λ i. test (place w store i)) (length store / w) i (find_nothing w store i (rw e at h.none))
          (sym (says (place w store i) true p.1)) p.0)
      go None e = rw e (find_nothing w store (length store / w) (rw e at h.none))

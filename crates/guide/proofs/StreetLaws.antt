-- A walk that asks for one street may pass the rows of the others.
-- Assumes nothing.
use Rattle.std.specs.Prelude.{Some, None}
use mathlib.Core.Path.{◌≡◌, refl, sym, ap, ◌∙◌}
use mathlib.Core.Logic.{inr, ⊎_elim}
use mathlib.Core.Bool.{Bool, false, ◌&&◌}
use mathlib.Core.List.{List}
use Prim.Native.Nat.{ℕ, ◌+◌, ◌≤◌, ◌<◌}
use native.Mathlib.Decide.{dec_lt}
use native.Mathlib.Omega.{arith}
use Rattle.text.specs.Text.{same_bytes}
use Rattle.text.proofs.Laws.{and_false}
use Rattle.layout.specs.Fields.{house_of, street_of, place_of, row_street_of, row_place_of}
use Rattle.rules.specs.declared.Sought.{Sought}
use Rattle.rules.specs.Walks.{walked, sought}
use Rattle.rules.specs.Slots.{row_slot_size, row_slots, row_slot_at, is_present, row_of}
use Rattle.rules.specs.Covers.{over, covers, same_street, clash, same_row}
use Rattle.rules.specs.Records.{covers_by, is_over}
use Rattle.rules.specs.Rows.{clashes_by, is_same_by}
use Rattle.rules.proofs.WalkLaws.{find_nowhere}
use Rattle.walks.specs.Seeking.{NonePassed, IsSought}
use Rattle.walks.proofs.SeekLaws.{sought_by}
use Rattle.guide.specs.Streets.{is_on, Elsewhere, AnswersOn}

pub elsewhere_more : (street G : List ℕ) (i j : ℕ) → Elsewhere street G i j → is_on street (row_slot_at G j) ≡ false
    → Elsewhere street G i (j + 1)
elsewhere_more street G i j f e = λ k h l. go k h l (dec_lt k j)
  where
    go : (k : ℕ) → i ≤ k → k < j + 1 → Dec (k < j) → is_on street (row_slot_at G k) ≡ false
    go k h l (yes b) = f k h b
    go k h l (no b) = let z : k ≡ j = omega arith in rw z e

-- rows of other streets are passed over
pub passed_on : (street : List ℕ) (answers : List ℕ → Bool → Type 0) (G : List ℕ) (i j : ℕ)
    → NonePassed (AnswersOn street answers) row_slot_size G i → Elsewhere street G i j
    → NonePassed (AnswersOn street answers) row_slot_size G j
passed_on street answers G i j s f k h = go (dec_lt k i)
  where
    go : Dec (k < i) → AnswersOn street answers (row_slot_at G k) false
    go (yes b) = s k b
    go (no b) = inr (refl, f k (omega arith) h)

-- what is found so is what the walk of a test finds that they fail
pub sought_on : (street : List ℕ) {answers : List ℕ → Bool → Type 0} (test : List ℕ → Bool)
    → ((s : List ℕ) (b : Bool) → answers s b → b ≡ test s) → ((s : List ℕ) → is_on street s ≡ false → test s ≡ false)
    → {G : List ℕ} {r : Sought} → IsSought (AnswersOn street answers) row_slot_size G r
    → r ≡ sought (λ k. test (row_slot_at G k)) (row_slots G)
sought_on street test says fails h = sought_by test (λ s b. ⊎_elim (says s b) (λ e. e.0 ∙ sym (fails s e.1))) h

-- a test that no row passes
pub nothing_sought : (p : ℕ → Bool) (n : ℕ) → ((k : ℕ) → p k ≡ false)
    → record { found = None; looked = n } ≡ sought p n
unfolding walked
nothing_sought p n f = rw (find_nowhere p n (λ k h. f k))

-- a record's address, read: street, place and number, or no number
pub read_over : (r street town : List ℕ) (n : ℕ) → street ≡ street_of r → town ≡ place_of r → house_of r ≡ Some n → (s : List ℕ)
    → (is_present s && over (row_of s) street town n) ≡ covers_by r s
unfolding over covers
read_over r street town n p q e s = rw (p, q, e)

pub none_over : (r G : List ℕ) → house_of r ≡ None → (k : ℕ) → is_over r G k ≡ false
unfolding is_over covers
none_over r G e k =
    rw e (ap (λ x. is_present (row_slot_at G k) && x)
    (ap (λ x. same_bytes (row_street_of (row_of (row_slot_at G k))) (street_of r) && x) (and_false (same_bytes (row_place_of (row_of (row_slot_at G k))) (place_of r)))
    ∙ and_false (same_bytes (row_street_of (row_of (row_slot_at G k))) (street_of r)))
    ∙ and_false (is_present (row_slot_at G k)))

-- ---- the tests that a row of another street fails

pub over_not : (r s : List ℕ) → is_on (street_of r) s ≡ false → covers_by r s ≡ false
unfolding covers
over_not r s e = rw e (and_false (is_present s))

pub clash_not : (g s : List ℕ) → is_on (row_street_of g) s ≡ false → clashes_by g s ≡ false
unfolding clash same_street
clash_not g s e = rw e (and_false (is_present s))

pub same_not : (g s : List ℕ) → is_on (row_street_of g) s ≡ false → is_same_by g s ≡ false
unfolding same_row same_street
same_not g s e = rw e (and_false (is_present s))

-- When what is stored is sound: a record of good form keeps it when its blank ESN is filled in from a row of good form. Assumes nothing.
use Rattle.std.proofs.lemmas.Bool.{not-true}
use mathlib.Core.Path.{◌≡◌, refl, ◌∙◌}
use mathlib.Core.Bool.{Bool, true, false, not, ◌&&◌, ◌||◌, cond}
use mathlib.Core.List.{List, [], ◌∷◌}
use Prim.Native.Nat.{ℕ, zero, suc, ◌+◌, ◌≤◌}
use native.Mathlib.Omega.{arith}
use lib.Dec.{leb, eqb}
use lib.ListN.{drop}
use borrow.Author.Tests.{eqb-true, eqb-false, leb-true, le-leb, ne_eqb}
use Rattle.text.specs.declared.Class.TheVariants.{Digit}
use Rattle.text.specs.Text.{in_class, blank, run_of, runs_of, part}
use Rattle.text.proofs.Laws.{and_left, and_right}
use Rattle.layout.specs.Tables.{data_record, guide_row, start_of, row_esn, zone, high_end, parity_letter}
use Rattle.layout.specs.Fields.{function_of, esn_of, has_esn, row_esn_of, with_esn}
use Rattle.layout.specs.Rules.{keeps, keeps_other, is_whole, fault_by, from_zero, or_else, fault_in, is_lax, record_fault, row_fault}
use Rattle.rules.specs.Records.{shown}
use Rattle.rules.proofs.SlotLaws.{Whole, WholeRow}
use Rattle.rules.proofs.EsnLaws.{esn_at, esn_size, clear_of_esn, esn_with, part_with, function_with, shown_has, shown_blank, has_shown}

-- ---- the fields of a line of good form

-- a line has no fault exactly if its first field has none and the others have none
fault_both : (a b : ℕ) → or_else a b ≡ 0 → (a ≡ 0) × (b ≡ 0)
fault_both a b e = go (eqb a 0) refl e
  where
    go : (x : Bool) → eqb a 0 ≡ x → cond x b a ≡ 0 → (a ≡ 0) × (b ≡ 0)
    go true q e = (eqb-true a 0 q, e)
    go false q e = absurd (eqb-false a 0 q e)

-- and the other way round
pub no_fault : (a b : ℕ) → a ≡ 0 → b ≡ 0 → or_else a b ≡ 0
no_fault a b p q = rw p q

-- the fault of field k of a table
abbrev pub fault_at : Bool → List ℕ → ℕ → List ℕ → ℕ
fault_at lax s zero (at ∷ n ∷ r ∷ t) = fault_by at n r lax s (part (from_zero at) n s)
fault_at lax s zero [] = 0
fault_at lax s zero (x ∷ []) = 0
fault_at lax s zero (x ∷ y ∷ []) = 0
fault_at lax s (suc k) (at ∷ n ∷ r ∷ t) = fault_at lax s k t
fault_at lax s (suc k) [] = 0
fault_at lax s (suc k) (x ∷ []) = 0
fault_at lax s (suc k) (x ∷ y ∷ []) = 0

-- in a line of good form no field has one
pub fault_at_lem : (lax : Bool) (s : List ℕ) (k : ℕ) (t : List ℕ) → fault_in lax s t ≡ 0 → fault_at lax s k t ≡ 0
unfolding fault_in
fault_at_lem lax s zero (at ∷ n ∷ r ∷ t) e = (fault_both (fault_by at n r lax s (part (from_zero at) n s)) (fault_in lax s t) e).0
fault_at_lem lax s zero [] e = refl
fault_at_lem lax s zero (x ∷ []) e = refl
fault_at_lem lax s zero (x ∷ y ∷ []) e = refl
fault_at_lem lax s (suc k) (at ∷ n ∷ r ∷ t) e =
    fault_at_lem lax s k t (fault_both (fault_by at n r lax s (part (from_zero at) n s)) (fault_in lax s t) e).1
fault_at_lem lax s (suc k) [] e = refl
fault_at_lem lax s (suc k) (x ∷ []) e = refl
fault_at_lem lax s (suc k) (x ∷ y ∷ []) e = refl

-- ---- two lines, field by field

-- a test of a field's start, length and rule holds for every field of a table
abbrev pub every_field : (ℕ → ℕ → ℕ → Bool) → List ℕ → Bool
every_field p (at ∷ n ∷ r ∷ t) = p at n r && every_field p t
every_field p [] = true
every_field p (x ∷ []) = true
every_field p (x ∷ y ∷ []) = true

-- where the test holds, a field without fault in s has none in o: so has the line o, if s has none
pub fields_keep : (p : ℕ → ℕ → ℕ → Bool) (lax : Bool) (s o : List ℕ)
    → ((at n r : ℕ) → p at n r ≡ true → fault_by at n r lax s (part (from_zero at) n s) ≡ 0
    → fault_by at n r lax o (part (from_zero at) n o) ≡ 0)
    → (t : List ℕ) → every_field p t ≡ true → fault_in lax s t ≡ 0 → fault_in lax o t ≡ 0
unfolding fault_in
fields_keep p lax s o f (at ∷ n ∷ r ∷ t) a e =
    let b = fault_both (fault_by at n r lax s (part (from_zero at) n s)) (fault_in lax s t) e in
    no_fault (fault_by at n r lax o (part (from_zero at) n o)) (fault_in lax o t)
    (f at n r (and_left (p at n r) (every_field p t) a) b.0)
    (fields_keep p lax s o f t (and_right (p at n r) (every_field p t) a) b.1)
fields_keep p lax s o f [] a e = refl
fields_keep p lax s o f (x ∷ []) a e = refl
fields_keep p lax s o f (x ∷ y ∷ []) a e = refl

-- the rule looks at its own field only
abbrev pub looks_apart : ℕ → Bool
looks_apart r = not (eqb r high_end) && not (eqb r parity_letter)

-- so the fault of the field has nothing to do with the rest of the line
pub fault_alike : (at n r : ℕ) (lax : Bool) (s t f : List ℕ) → looks_apart r ≡ true
    → fault_by at n r lax s f ≡ fault_by at n r lax t f
unfolding fault_by
fault_alike at n r lax s t f e =
    let a = eqb r high_end in
    let b = eqb r parity_letter in
    rw (not-true a (and_left (not a) (not b) e), not-true b (and_right (not a) (not b) e)) refl

-- ---- a row's ESN

-- as a row of good form has it: five printable bytes, 1 to 5 digits and then spaces
record GoodEsn (f : List ℕ) : Type 0 where
  whole : is_whole esn_size f ≡ true
  runs : runs_of Digit 1 5 f ≡ true

-- a row of good form has such an ESN
good_esn : (g : List ℕ) → row_fault guide_row g ≡ 0 → GoodEsn (row_esn_of g)
unfolding row_fault row_esn_of fault_by keeps keeps_other
good_esn g e = go (is_whole esn_size (row_esn_of g)) refl (runs_of Digit 1 5 (row_esn_of g)) refl (fault_at_lem false g row_esn guide_row e)
  where
    go : (a : Bool) → is_whole esn_size (row_esn_of g) ≡ a → (b : Bool) → runs_of Digit 1 5 (row_esn_of g) ≡ b
        → cond a (cond b 0 (start_of guide_row row_esn + 1)) (start_of guide_row row_esn + 1) ≡ 0 → GoodEsn (row_esn_of g)
    go true p true q e = record { whole = p; runs = q }
    go true p false q e = absurd (omega arith)
    go false p b q e = absurd (omega arith)

-- at least one digit is at least none
run_fewer : (f : List ℕ) → runs_of Digit 1 5 f ≡ true → runs_of Digit 0 5 f ≡ true
unfolding runs_of
run_fewer f e =
    let n = run_of Digit f in
    rw (le-leb 0 n (omega arith)) (and_right (leb 1 n) (leb n 5 && blank (drop n f)) e)

-- a digit is no space
run_there : (f : List ℕ) → 1 ≤ run_of Digit f → blank f ≡ false
run_there [] h = absurd (omega arith)
run_there (b ∷ f) h = go (in_class Digit b) refl h
  where
    go : (x : Bool) → in_class Digit b ≡ x → 1 ≤ cond x (suc (run_of Digit f)) 0 → eqb b 32 && blank f ≡ false
    go true e h =
        let l = leb-true 48 b (and_left (leb 48 b) (leb b 57) e) in
        rw (ne_eqb b 32 (omega arith)) refl
    go false e h = absurd (omega arith)

-- it keeps the rule of a record's ESN
esn_keeps : (f : List ℕ) → GoodEsn f → (at : ℕ) (lax : Bool) (s : List ℕ) → fault_by at esn_size zone lax s f ≡ 0
unfolding fault_by keeps keeps_other
esn_keeps f g at lax s = rw (g.whole, run_fewer f g.runs) refl

-- and is not blank
esn_there : (f : List ℕ) → GoodEsn f → blank f ≡ false
unfolding runs_of
esn_there f g =
    let n = run_of Digit f in
    run_there f (leb-true 1 n (and_left (leb 1 n) (leb n 5 && blank (drop n f)) g.runs))

-- ---- a record whose ESN is filled in

-- a field of the table looks at no other field, and is clear of the ESN or is the ESN
abbrev field_apart : ℕ → ℕ → ℕ → Bool
field_apart at n r =
    looks_apart r
    && (clear_of_esn (from_zero at) n || (eqb (from_zero at) esn_at && (eqb n esn_size && eqb r zone)))

module _ (g r : List ℕ) (f : WholeRow g) (k : Whole r) (z : GoodEsn (row_esn_of g)) (lax : Bool) where
  -- its ESN is the row's
  esn_part : part esn_at esn_size (with_esn (row_esn_of g) r) ≡ row_esn_of g
  unfolding esn_of
  esn_part = esn_with g r f k

  -- a field
  field_keeps : (at n q : ℕ) → field_apart at n q ≡ true → fault_by at n q lax r (part (from_zero at) n r) ≡ 0
      → fault_by at n q lax (with_esn (row_esn_of g) r) (part (from_zero at) n (with_esn (row_esn_of g) r)) ≡ 0
  field_keeps at n q a e = go (clear_of_esn (from_zero at) n) refl (and_right (looks_apart q) two a)
    where
      two : Bool
      two = clear_of_esn (from_zero at) n || (eqb (from_zero at) esn_at && (eqb n esn_size && eqb q zone))

      go : (b : Bool) → clear_of_esn (from_zero at) n ≡ b → b || (eqb (from_zero at) esn_at && (eqb n esn_size && eqb q zone)) ≡ true
          → fault_by at n q lax (with_esn (row_esn_of g) r) (part (from_zero at) n (with_esn (row_esn_of g) r)) ≡ 0
      go true c d =
          rw (part_with g r f k (from_zero at) n c)
          (fault_alike at n q lax (with_esn (row_esn_of g) r) r (part (from_zero at) n r) (and_left (looks_apart q) two a) ∙ e)
      go false c d =
          let p = eqb (from_zero at) esn_at in
          let v = eqb n esn_size in
          let w = eqb q zone in
          let x : from_zero at ≡ esn_at = eqb-true (from_zero at) esn_at (and_left p (v && w) d) in
          let y : n ≡ esn_size = eqb-true n esn_size (and_left v w (and_right p (v && w) d)) in
          let u : q ≡ zone = eqb-true q zone (and_right v w (and_right p (v && w) d)) in
          rw (x, y, u, esn_part) (esn_keeps (row_esn_of g) z at lax (with_esn (row_esn_of g) r))

-- a record of good form has it still when its blank ESN is filled in from a row of good form
pub fault_shown : (g r : List ℕ) → WholeRow g → Whole r → row_fault guide_row g ≡ 0 → record_fault data_record r ≡ 0
    → record_fault data_record (shown r g) ≡ 0
unfolding record_fault
fault_shown g r f k e d = go (has_esn r) refl
  where
    go : (b : Bool) → has_esn r ≡ b → record_fault data_record (shown r g) ≡ 0
    go true q = rw (shown_has g r f k q) d
    go false q =
        rw (shown_blank g r f k q, function_with g r f k)
        (fields_keep field_apart (is_lax (function_of r)) r (with_esn (row_esn_of g) r)
        (field_keeps g r f k (good_esn g e) (is_lax (function_of r))) data_record refl d)

-- and has an ESN
pub esn_filled : (g r : List ℕ) → WholeRow g → Whole r → row_fault guide_row g ≡ 0 → has_esn (shown r g) ≡ true
esn_filled g r f k e = has_shown g r f k (esn_there (row_esn_of g) (good_esn g e))

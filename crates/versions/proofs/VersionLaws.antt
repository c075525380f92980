-- Version 1 and Version 2: a record widened and narrowed is itself, so is one narrowed and widened that has nothing more, and the first
-- fault stays where it is. Bytes: both are written field by field (TableLaws), and field k of the one is field k of the other. Faults: in
-- both versions the same test decides on field k (RuleLaws); so from the last field to the first, by how many are left, the first fault of
-- what is left is in the same field in both.
-- Assumes nothing.
use mathlib.Core.Path.{◌≡◌, refl, sym, ap, ◌∙◌}
use mathlib.Core.Bool.{Bool, true, false, ◌||◌, not, cond}
use mathlib.Core.List.{List, [], ◌∷◌, ◌++◌}
use Prim.Native.Nat.{ℕ, zero, suc, ◌+◌, ◌*◌, ◌-◌, ◌≤◌, ◌<◌}
use native.Mathlib.Omega.{arith}
use lib.Dec.{leb, eqb}
use lib.ListN.{length, take, drop, get_or, length-append, length-take, length-drop}
use lib.Seq.{take_at, drop-drop, take-take, take-add, take_all, take-suc, get_or-take}
use borrow.Author.Tests.{eqb-true, eqb-false, leb-true}
use Rattle.text.specs.Text.{member_of, all_of, part, spaces}
use Rattle.text.proofs.Laws.{and_false}
use Rattle.text.proofs.TrimLaws.{blank_is}
use Rattle.layout.specs.Tables.{left_text, star, first_code, data_record, narrow_record, start_of, size_of, field}
use Rattle.layout.specs.Fields.{function_of}
use Rattle.layout.specs.Rules.{is_whole, keeps, keeps_other, fault_by, fault_in, is_lax, record_fault}
use Rattle.layout.proofs.LineLaws.{never, fault_later, fault_here, fault_none}
use Rattle.versions.specs.Versions.{fields, position_of, rule_of, all_to, alone, filled, widened, narrowed, tail_blank, narrows}
use Rattle.versions.specs.Versions.{data_begins, narrow_begins, data_ends, narrow_ends, translate_to, translated}
use Rattle.versions.specs.Versions.{WideAndBack, NarrowAndBack, FaultKept, KnowsThree}
use Rattle.versions.proofs.TableLaws.{all_to_lem, bytes_there, shorter, rule_shared, filled_whole}
use Rattle.versions.proofs.TableLaws.{written_length, written_field, written_back, wide_written, narrow_written}
use Rattle.versions.proofs.RuleLaws.{passes, passes_long, fault_alone, passes_wide, passes_none, first_codes, other_codes, all_codes}

-- ---- widened: 512 bytes, and field k is field k of the record, blanks behind

pub wide_length : (r : List ℕ) → length (widened r) ≡ 512
unfolding widened
wide_length r = written_length (wide_written r) fields (omega arith) ∙ data_ends

pub field_wide : (r : List ℕ) (k : ℕ) → k < 37 → field data_record k (widened r) ≡ filled (size_of data_record k) (field narrow_record k r)
unfolding widened
field_wide r k l = written_field (wide_written r) k l

-- a field of Version 1 is whole where the record is
narrow_there : (r : List ℕ) (k : ℕ) → k < fields → 240 ≤ length r → length (field narrow_record k r) ≡ size_of narrow_record k
narrow_there r k l h =
    let e = narrow_ends in
    bytes_there narrow_record narrow_begins k (size_of narrow_record k) r l (omega arith) (omega arith)

-- ---- narrowed: 240 bytes, and field k is the first bytes of field k

pub narrow_length : (r : List ℕ) → length (narrowed r) ≡ 240
unfolding narrowed
narrow_length r = written_length (narrow_written r) fields (omega arith) ∙ narrow_ends

-- they are there in a record of 512 bytes
wide_there : (r : List ℕ) (k n : ℕ) → k < fields → n ≤ size_of data_record k → length r ≡ 512 → length (part (start_of data_record k) n r) ≡ n
wide_there r k n l m h =
    let e = data_ends in
    bytes_there data_record data_begins k n r l m (omega arith)

field_narrow : (r : List ℕ) (k : ℕ) → k < fields → length r ≡ 512
    → field narrow_record k (narrowed r) ≡ part (start_of data_record k) (size_of narrow_record k) r
unfolding narrowed
field_narrow r k l h =
    let m = size_of narrow_record k in
    written_field (narrow_written r) k l
    ∙ filled_whole m (part (start_of data_record k) m r) (wide_there r k m l (shorter k l) h)

-- ---- there and back

-- "any Version 1 record widened and narrowed is itself": the first bytes of a widened field are the field
pub narrow_wide : (r : List ℕ) → length r ≡ 240 → narrowed (widened r) ≡ r
unfolding narrowed
narrow_wide r h =
    written_back (narrow_written (widened r)) r same fields (omega arith) ∙ ap (λ n. take n r) narrow_ends ∙ take_all 240 r (omega arith)
  where
    same : (k : ℕ) → k < fields
        → filled (size_of narrow_record k) (part (start_of data_record k) (size_of narrow_record k) (widened r)) ≡ field narrow_record k r
    same k l =
        let m = size_of narrow_record k in
        let n = size_of data_record k in
        let f = field narrow_record k r in
        let z = narrow_there r k l (omega arith) in
        let e : part (start_of data_record k) m (widened r) ≡ f =
        sym (take-take m n (drop (start_of data_record k) (widened r)) (shorter k l))
        ∙ ap (take m) (field_wide r k l)
        ∙ take_at f (spaces (n - length f)) m z in
        rw e (filled_whole m f z)

-- a record of Version 2 that Version 1 has all of, narrowed and widened, is itself: what a field loses are the blanks that it gets back
pub wide_narrow : (r : List ℕ) → length r ≡ 512 → narrows r ≡ true → widened (narrowed r) ≡ r
unfolding widened narrows tail_blank
wide_narrow r h t =
    written_back (wide_written (narrowed r)) r same fields (omega arith) ∙ ap (λ n. take n r) data_ends ∙ take_all 512 r (omega arith)
  where
    same : (k : ℕ) → k < fields → filled (size_of data_record k) (field narrow_record k (narrowed r)) ≡ field data_record k r
    same k l =
        let m = size_of narrow_record k in
        let n = size_of data_record k in
        let a = start_of data_record k in
        let f = part a m r in
        let g = part (a + m) (n - m) r in
        let q = shorter k l in
        let e : m + (n - m) ≡ n = omega arith in
        let u : part a n r ≡ f ++ g =
        ap (λ j. part a j r) (sym e) ∙ take-add m (n - m) (drop a r) ∙ ap (λ x. f ++ take (n - m) x) (drop-drop m a r) in
        let o = rw (u, length-append) at (wide_there r k n l (omega arith) h) in
        let y : n - length f ≡ length g = omega arith in
        rw (field_narrow r k l h, y, ← blank_is g (all_to_lem (tail_blank r) fields k t l)) (sym u)

-- both, as the definitions state them
pub wide_and_back : WideAndBack
unfolding WideAndBack
wide_and_back r h = narrow_wide r h

pub narrow_and_back : NarrowAndBack
unfolding NarrowAndBack
narrow_and_back r h t = wide_narrow r h t

-- ---- the fault of a line's fields

-- the fault of field k of a table
abbrev field_fault : Bool → List ℕ → List ℕ → ℕ → ℕ
field_fault lax s t k = fault_by (position_of t k) (size_of t k) (rule_of t k) lax s (field t k s)

-- the first fault from field k on: that of the rest where field k has none, and else its own
abbrev fault_from : Bool → List ℕ → List ℕ → ℕ → ℕ
fault_from lax s t k = fault_in lax s (drop (3 * k) t)

module _ (lax : Bool) (s t : List ℕ) (k : ℕ) (h : 3 * k + 2 < length t) where
  -- the loop's two turns (LineLaws), by k
  fault_next : field_fault lax s t k ≡ 0 → fault_from lax s t (suc k) ≡ fault_from lax s t k
  fault_next z =
      let e : 3 * suc k ≡ 3 * k + 3 = omega arith in
      rw e (fault_later lax s t (3 * k) (field_fault lax s t k) refl h refl z)

  fault_first : (field_fault lax s t k ≡ 0 → ⊥) → field_fault lax s t k ≡ fault_from lax s t k
  fault_first z = fault_here lax s t (3 * k) (field_fault lax s t k) refl h refl z

  -- so it has none where there is none from it on
  fault_free : fault_from lax s t k ≡ 0 → field_fault lax s t k ≡ 0
  fault_free e = go (eqb (field_fault lax s t k) 0) refl
    where
      go : (b : Bool) → eqb (field_fault lax s t k) 0 ≡ b → field_fault lax s t k ≡ 0
      go true q = eqb-true (field_fault lax s t k) 0 q
      go false q = fault_first (eqb-false (field_fault lax s t k) 0 q) ∙ e

-- a line without a fault has none from any field on, nor in it
fault_nowhere : (lax : Bool) (s t : List ℕ) → fault_in lax s t ≡ 0 → (k : ℕ) → 3 * k + 2 < length t
    → (fault_from lax s t k ≡ 0) × (field_fault lax s t k ≡ 0)
fault_nowhere lax s t e zero h = (e, fault_free lax s t 0 h e)
fault_nowhere lax s t e (suc k) h =
    let b : 3 * k + 2 < length t = omega arith in
    let ih = fault_nowhere lax s t e k b in
    let r = fault_next lax s t k b ih.1 ∙ ih.0 in
    (r, fault_free lax s t (suc k) h r)

-- ---- the first fault, in both versions

-- what is computed of the two tables: positions count from 1,
abbrev counts : List ℕ → ℕ → Bool
counts t k = leb 1 (position_of t k)

data_counts : all_to (counts data_record) fields ≡ true
data_counts = refl

narrow_counts : all_to (counts narrow_record) fields ≡ true
narrow_counts = refl

-- a field of no bytes is text, and any other is told by its position,
abbrev is_told : ℕ → Bool
is_told k =
    cond (eqb (size_of narrow_record k) 0) (eqb (rule_of narrow_record k) left_text)
    (eqb (translated (position_of narrow_record k)) (position_of data_record k))

all_told : all_to is_told fields ≡ true
unfolding translated translate_to
all_told = refl

translated_none : translated 0 ≡ 0
unfolding translated translate_to
translated_none = refl

-- and of Version 1's rules, which look at their own fields alone too, only the first is that of the codes
abbrev is_alone : ℕ → Bool
is_alone k = alone (rule_of narrow_record k)

all_alone : all_to is_alone fields ≡ true
all_alone = refl

abbrev coded_first : ℕ → Bool
coded_first k = eqb k 0 || not (eqb (rule_of narrow_record k) first_code)

all_coded : all_to coded_first fields ≡ true
all_coded = refl

-- the fault b of Version 2 is the fault a of Version 1, translated; and there is none only where there is none
abbrev Told : ℕ → ℕ → Type 0
Told a b = (b ≡ translated a) × (b ≡ 0 → a ≡ 0)

-- a record of Version 1 whose code is not one that only Version 2 knows
module _ (lax : Bool) (s : List ℕ) (h : 240 ≤ length s) (u : member_of (function_of s) other_codes ≡ false) where
  -- the test that decides on field k in both
  abbrev passed : ℕ → Bool
  passed k = passes (size_of narrow_record k) (rule_of narrow_record k) lax (field narrow_record k s)

  -- its code is one of both versions or of neither
  coded : (k : ℕ) → k < fields → rule_of narrow_record k ≡ first_code
      → all_of all_codes (field narrow_record k s) ≡ all_of first_codes (field narrow_record k s)
  unfolding function_of
  coded k l q = go (eqb k 0) refl
    where
      go : (b : Bool) → eqb k 0 ≡ b → all_of all_codes (field narrow_record k s) ≡ all_of first_codes (field narrow_record k s)
      go true p = rw (eqb-true k 0 p, take-suc s 0 0 (omega arith), u) refl
      go false p =
          let t = all_to_lem coded_first fields k all_coded l in
          never (rw (p, q) at t)

  -- the fault of field k in each
  narrow_field : (k : ℕ) → k < fields → field_fault lax s narrow_record k ≡ cond (passed k) 0 (position_of narrow_record k)
  narrow_field k l =
      fault_alone (position_of narrow_record k) (size_of narrow_record k) (rule_of narrow_record k) lax s (field narrow_record k s)
      (all_to_lem is_alone fields k all_alone l)

  wide_field : (k : ℕ) → k < fields → field_fault lax (widened s) data_record k ≡ cond (passed k) 0 (position_of data_record k)
  wide_field k l =
      let at = position_of data_record k in
      let n = size_of data_record k in
      let r = rule_of data_record k in
      let f = field narrow_record k s in
      ap (fault_by at n r lax (widened s)) (field_wide s k l)
      ∙ fault_alone at n r lax (widened s) (filled n f) (rule_shared k l).0
      ∙ ap (λ b. cond b 0 at)
      (passes_wide n r (size_of narrow_record k) (rule_of narrow_record k) lax f (rule_shared k l).1 (narrow_there s k l h) (coded k l))

  -- a field that fails has some bytes, so that its position tells which it is
  position_told : (k : ℕ) → k < fields → passed k ≡ false → translated (position_of narrow_record k) ≡ position_of data_record k
  position_told k l p = go (eqb (size_of narrow_record k) 0) refl (all_to_lem is_told fields k all_told l)
    where
      go : (b : Bool) → eqb (size_of narrow_record k) 0 ≡ b
          → cond b (eqb (rule_of narrow_record k) left_text) (eqb (translated (position_of narrow_record k)) (position_of data_record k)) ≡ true
          → translated (position_of narrow_record k) ≡ position_of data_record k
      go true q t =
          let z = eqb-true (size_of narrow_record k) 0 q in
          let e : passed k ≡ true = rw (z, eqb-true (rule_of narrow_record k) left_text t) (passes_none lax) in
          never (sym p ∙ e)
      go false q t = eqb-true (translated (position_of narrow_record k)) (position_of data_record k) t

  -- the first fault of the n fields from field k on: by n. Where field k passes it is that of the rest in both, and else field k's own
  fault_told : (n k : ℕ) → k + n ≡ fields → Told (fault_from lax s narrow_record k) (fault_from lax (widened s) data_record k)
  fault_told zero k e =
      rw (← fault_none lax s narrow_record (3 * k) refl (omega arith), ← fault_none lax (widened s) data_record (3 * k) refl (omega arith))
      (sym translated_none, λ q. q)
  fault_told (suc n) k e = go (passed k) refl (fault_told n (suc k) (omega arith))
    where
      l : k < fields
      l = omega arith

      go : (b : Bool) → passed k ≡ b → Told (fault_from lax s narrow_record (suc k)) (fault_from lax (widened s) data_record (suc k))
          → Told (fault_from lax s narrow_record k) (fault_from lax (widened s) data_record k)
      go true p ih =
          let x = narrow_field k l ∙ ap (λ b. cond b 0 (position_of narrow_record k)) p in
          let y = wide_field k l ∙ ap (λ b. cond b 0 (position_of data_record k)) p in
          rw (← fault_next lax s narrow_record k (omega arith) x, ← fault_next lax (widened s) data_record k (omega arith) y) ih
      go false p ih =
          let c = leb-true 1 (position_of narrow_record k) (all_to_lem (counts narrow_record) fields k narrow_counts l) in
          let d = leb-true 1 (position_of data_record k) (all_to_lem (counts data_record) fields k data_counts l) in
          let x = narrow_field k l ∙ ap (λ b. cond b 0 (position_of narrow_record k)) p in
          let y = wide_field k l ∙ ap (λ b. cond b 0 (position_of data_record k)) p in
          let a = sym (fault_first lax s narrow_record k (omega arith) (λ z. absurd (omega arith))) ∙ x in
          let b = sym (fault_first lax (widened s) data_record k (omega arith) (λ z. absurd (omega arith))) ∙ y in
          rw (a, b) (sym (position_told k l p), λ z. absurd (omega arith))

-- ---- what the callers ask

-- the Function is the same
pub function_wide : (s : List ℕ) → length s ≡ 240 → function_of (widened s) ≡ function_of s
unfolding function_of
function_wide s h =
    let f = field_wide s 0 (omega arith) ∙ filled_whole 1 (take 1 s) (narrow_there s 0 (omega arith) (omega arith)) in
    sym (get_or-take 1 (widened s) 0 0 (omega arith)) ∙ ap (λ x. get_or x 0 0) f ∙ get_or-take 1 s 0 0 (omega arith)

-- another code than C, D and I is the first fault in Version 1
code_fault : (lax : Bool) (s : List ℕ) → member_of (function_of s) first_codes ≡ false → fault_in lax s narrow_record ≡ 1
unfolding function_of passes is_whole keeps keeps_other
code_fault lax s m =
    let e : field_fault lax s narrow_record 0 ≡ 1 = fault_alone 1 1 first_code lax s (take 1 s) refl ∙ ap (λ b. cond b 0 1) (fails s m) in
    sym (fault_first lax s narrow_record 0 (omega arith) (λ z. absurd (omega arith))) ∙ e
  where
    fails : (s : List ℕ) → member_of (function_of s) first_codes ≡ false → passes 1 first_code lax (take 1 s) ≡ false
    fails [] m = refl
    fails (b ∷ s) m = rw m (and_false (is_whole 1 (b ∷ [])))

-- "Version 1 knows only C, D and I"
pub knows_three : KnowsThree
unfolding KnowsThree record_fault
knows_three r m = code_fault (is_lax (function_of r)) r m

-- which U and M are
no_others : (b : ℕ) → member_of b other_codes ≡ true → member_of b first_codes ≡ false
no_others b h = go (eqb 85 b) refl (eqb 77 b) refl h
  where
    go : (u : Bool) → eqb 85 b ≡ u → (v : Bool) → eqb 77 b ≡ v → (u || (v || false)) ≡ true → member_of b first_codes ≡ false
    go true p v q h = let e = sym (eqb-true 85 b p) in rw e refl
    go false p true q h = let e = sym (eqb-true 77 b q) in rw e refl
    go false p false q h = never h

-- a record of good form in Version 1 is of good form when it is widened: its last field is there, and its code is none of the others
pub wide_fault : (lax : Bool) (s : List ℕ) → fault_in lax s narrow_record ≡ 0 → fault_in lax (widened s) data_record ≡ 0
wide_fault lax s e = go (member_of (function_of s) other_codes) refl
  where
    holds : (b : Bool) → ◌≡◌ {A = ℕ} (cond b 0 240) 0 → b ≡ true
    holds true z = refl
    holds false z = absurd (omega arith)

    there : 240 ≤ length s
    there =
        let f = field narrow_record 36 s in
        let z = sym (fault_alone 240 1 star lax s f refl) ∙ (fault_nowhere lax s narrow_record e 36 (omega arith)).1 in
        let l = passes_long 1 star lax f (holds (passes 1 star lax f) z) in
        omega (arith, rw (length-take, length-drop) at l)

    go : (b : Bool) → member_of (function_of s) other_codes ≡ b → fault_in lax (widened s) data_record ≡ 0
    go true m = let z = sym (code_fault lax s (no_others (function_of s) m)) ∙ e in absurd (omega arith)
    go false m = (fault_told lax s there m fields 0 refl).0 ∙ ap translated e ∙ translated_none

-- and one that is of good form when it is widened was so in Version 1, if its code is one of both
pub narrow_fault : (lax : Bool) (s : List ℕ) → length s ≡ 240 → function_of s ≡ 73 → fault_in lax (widened s) data_record ≡ 0
    → fault_in lax s narrow_record ≡ 0
narrow_fault lax s h i e = (fault_told lax s (omega arith) (rw i refl) fields 0 refl).1 e

-- widening keeps the first fault, translated
pub fault_kept : FaultKept
unfolding FaultKept record_fault
fault_kept r h u = rw (function_wide r h) (fault_told (is_lax (function_of r)) r (omega arith) u fields 0 refl).0

-- Last spring's incident: a change, delete or unlock of a company that does not hold the number is turned away, on any register.
-- Assumes nothing.
use Rattle.std.proofs.lemmas.Option.{none-some, same_Some}
use Rattle.std.specs.Prelude.{Option, Some, None}
use mathlib.Core.Path.{◌≡◌, refl, sym, ap, ◌∙◌}
use mathlib.Core.Bool.{Bool, true, false, not, ◌&&◌, ◌||◌, cond}
use mathlib.Core.List.{List, [], ◌∷◌, ◌++◌}
use Prim.Native.Nat.{ℕ}
use lib.Dec.{eqb}
use borrow.Author.Tests.{eqb-true}
use Rattle.text.specs.Text.{same_bytes, member_of, on_some}
use Rattle.text.proofs.Laws.{same_true, same_refl}
use Rattle.calendar.specs.declared.Day.{Day}
use Rattle.calendar.specs.Calendar.{is_before}
use Rattle.layout.specs.declared.frame.Header.{Header}
use Rattle.layout.specs.Fields.{number_of, company_of}
use Rattle.rules.specs.declared.Code.{Code}
use Rattle.rules.specs.declared.Code.TheVariants.{Insert, Change, Delete, Unlock, Migrate}
use Rattle.rules.specs.Walks.{first}
use Rattle.rules.specs.Slots.{slot_at, state_of, record_of, is_held, is_open}
use Rattle.rules.specs.Records.{filed_of, is_insert, is_migrate, is_own, stores, find_number, find_row, find_spare, table, answer_of, register_after, Step, step, applied}
use Rattle.rules.specs.History.{Item, entry, row}
use Rattle.rules.specs.Demands.{File, start, run, is_coded, code_is, newest, last_of, last_stored, LastWas, held_by, Guarded, EveryOf, HolderKept}
use Rattle.rules.proofs.WalkLaws.{clash-bool}
use Rattle.rules.proofs.View.{allowed}
use Rattle.rules.proofs.TakeLaws.{applied_not}
use Rattle.rules.proofs.KeepStores.{used_live, live_held}
use Rattle.rules.proofs.KeepHistory.{state_left, code_is_lem, last_same, last_other, AllTold, ByHolder, Allowed, Lawful}
use Rattle.rules.proofs.Passing.{held_is}
use Rattle.rules.proofs.Keep.{kept}

-- the answers that turn a record away
abbrev away : List ℕ
away = 11 ∷ 13 ∷ 15 ∷ 16 ∷ []

-- a C, D or U is no I and no M
own_codes : (c : Code) → is_own c ≡ true → (is_insert c ≡ false) × (is_migrate c ≡ false)
own_codes Insert e = clash-bool e refl
own_codes Change e = (refl, refl)
own_codes Delete e = (refl, refl)
own_codes Unlock e = (refl, refl)
own_codes Migrate e = clash-bool e refl

-- the tests 11 to 16 for such a code: late, held, open, of another company; held by its own company it is not
turned : (late held opened other : Bool) (rest : List (Bool × ℕ)) → held && not other ≡ false
    → member_of
    (first ((late, 11) ∷ (false, 12) ∷ (not (held || opened), 13) ∷ (false, 14) ∷ (opened, 15) ∷ (held && other, 16) ∷ rest))
    away
    ≡ true
unfolding first
turned true held opened other rest e = refl
turned false true true other rest e = refl
turned false true false true rest e = refl
turned false true false false rest e = clash-bool refl e
turned false false true other rest e = refl
turned false false false other rest e = refl

-- what is found for the number: nothing, or a slot
answered : (R G : List ℕ) (h : Header) (r : List ℕ) (c : Code) (d : Day) (m k p : Option ℕ) → is_own c ≡ true
    → on_some m false (λ i. is_held (state_of (slot_at R i)) && same_bytes (company_of (record_of (slot_at R i))) (company_of r)) ≡ false
    → member_of (first (table R G h r c d m k p)) away ≡ true
answered R G h r c d (Some i) k p w e =
    let b = state_of (slot_at R i) in
    let s = same_bytes (company_of (record_of (slot_at R i))) (company_of r) in
    let n = own_codes c w in
    rw (w, n.0, n.1)
    (turned (is_before h.day d) (is_held b) (is_open b) (not s) _ (twice (is_held b) s e))
  where
    twice : (x y : Bool) → x && y ≡ false → x && not (not y) ≡ false
    twice x true e = e
    twice x false e = e
answered R G h r c d None k p w e =
    let n = own_codes c w in
    rw (w, n.0, n.1) (turned (is_before h.day d) false false false _ refl)

-- the answer of a record with code c and date d is that of the table
answer_is : (R G : List ℕ) (h : Header) (r : List ℕ) (c : Code) (d : Day) → filed_of r ≡ Some (c, d)
    → (applied R G h r).answer ≡ answer_of R G h r c d
unfolding applied step
answer_is R G h r c d f = rw f (go (eqb n 0) refl)
  where
    n : ℕ
    n = answer_of R G h r c d

    go : (b : Bool) → eqb (answer_of R G h r c d) 0 ≡ b
        → (cond {A = Step} b (record { answer = 0; register = register_after R G h r c d }) (record { answer = n; register = R })).answer
        ≡ answer_of R G h r c d
    go true e = sym (eqb-true (answer_of R G h r c d) 0 e)
    go false e = refl

-- a C, D or U of a company that does not hold its number's slot gets 11, 13, 15 or 16 and leaves the register as it is
pub incident : (R G : List ℕ) (h : Header) (r : List ℕ) → Guarded R G h r
unfolding Guarded code_is held_by answer_of
incident R G h r w e =
    record { answered = told; unchanged = applied_not R G h r (λ z. clash-bool told (rw z refl)) }
  where
    go : (f : Option (Code × Day)) → filed_of r ≡ f → is_coded is_own f ≡ true → member_of (applied R G h r).answer away ≡ true
    go None q w = clash-bool w refl
    go (Some (c, d)) q w =
        rw (answer_is R G h r c d q)
        (answered R G h r c d (find_number (number_of r) R) (find_row r G) (find_spare h.day R) w e)

    told : member_of (applied R G h r).answer away ≡ true
    told = go (filed_of r) refl w

-- ---- and from an accepted I, C or M of a company on, until the next U or D, the number is that company's

-- the last record of a number, if it is I, C or M, is the last that was stored
last_stored_lem : (n : List ℕ) (h : List Item) (r : List ℕ) → last_of n h ≡ Some r → code_is stores r ≡ true
    → last_stored n h ≡ Some r
unfolding last_of last_stored newest
last_stored_lem n [] r e s = absurd (none-some r e)
last_stored_lem n (row g ∷ h) r e s = last_stored_lem n h r e s
last_stored_lem n (entry x ∷ h) r e s = go (λ f. last_stored_lem n h r f s) (same_bytes (number_of x) n) e
  where
    go : (last_of n h ≡ Some r → last_stored n h ≡ Some r) → (b : Bool) → cond b (Some x) (last_of n h) ≡ Some r
        → cond (b && code_is stores x) (Some x) (last_stored n h) ≡ Some r
    go ih true e = let i : x ≡ r = same_Some x r e in rw (i, s) refl
    go ih false e = ih e

-- a row is no record of a number
row_last : (n g : List ℕ) (h : List Item) → last_of n (row g ∷ h) ≡ last_of n h
unfolding last_of newest
row_last n g h = refl

-- what is held is not open
not_open : (b : ℕ) → is_held b ≡ true → is_open b ≡ false
not_open b e = rw (eqb-true b 1 e) refl

-- the last record of n that was accepted is I, C or M of the company: its next one can only be C, and only of that company
module _ (n company : List ℕ) (h : List Item) (w : LastWas stores n company h) where
  -- it is the last that was stored
  stored_it : last_stored n h ≡ Some w.it
  stored_it = last_stored_lem n h w.it w.last w.coded

  -- the next one that is not U or D is of the company
  next_of : (r : List ℕ) → number_of r ≡ n → code_is stores r ≡ true → Allowed h r → company_of r ≡ company
  next_of r e s a = go a.code a.date a.filed a.state a.holder
    where
      held : is_held (state_left (last_of (number_of r) h)) ≡ true
      held = rw (e, w.last) (held_is (Some w.it) ∙ w.coded)

      go : (c : Code) (d : Day) → filed_of r ≡ Some (c, d) → allowed c (state_left (last_of (number_of r) h)) ≡ true
          → (is_own c ≡ true → ByHolder h r) → company_of r ≡ company
      go Insert d f t b = clash-bool t (rw (live_held (state_left (last_of (number_of r) h)) held) refl)
      go Change d f t b =
          let o = b refl in
          let q : last_stored n h ≡ Some o.before = rw e at o.last in
          sym o.holder ∙ ap company_of (same_Some o.before w.it (sym q ∙ stored_it)) ∙ w.by
      go Delete d f t b = clash-bool s (code_is_lem r Delete d f stores)
      go Unlock d f t b = clash-bool s (code_is_lem r Unlock d f stores)
      go Migrate d f t b = clash-bool t (not_open (state_left (last_of (number_of r) h)) held)

-- so it goes on: all that was accepted of the number since y, and its last record
record Going (y : List ℕ) (h since : List Item) : Type 0 where
  records : EveryOf (number_of y) (λ r. company_of r ≡ company_of y) since
  last : LastWas stores (number_of y) (company_of y) (since ++ (entry y ∷ h))

-- the last record stays so with a history that has the same last record
still : (n company : List ℕ) (h k : List Item) → last_of n k ≡ last_of n h → LastWas stores n company h → LastWas stores n company k
still n company h k e w = record { it = w.it; last = e ∙ w.last; coded = w.coded; by = w.by }

-- it does, since y
going : (y : List ℕ) (h since : List Item) → code_is stores y ≡ true → Lawful (since ++ (entry y ∷ h))
    → EveryOf (number_of y) (λ r. code_is stores r ≡ true) since → Going y h since
unfolding EveryOf Lawful
going y h [] s l e =
    record { records = tt; last = record { it = y; last = last_same (number_of y) y h refl; coded = s; by = refl } }
going y h (row g ∷ since) s l e =
    let w = going y h since s l e in
    let past = since ++ (entry y ∷ h) in
    record {
      records = w.records;
      last = still (number_of y) (company_of y) past (row g ∷ past) (row_last (number_of y) g past) w.last;
    }
going y h (entry r ∷ since) s l e = go (going y h since s l.1 e.1) (same_bytes (number_of r) (number_of y)) refl
  where
    go : Going y h since → (b : Bool) → same_bytes (number_of r) (number_of y) ≡ b → Going y h (entry r ∷ since)
    go w true q =
        let past = since ++ (entry y ∷ h) in
        let i = same_true (number_of r) (number_of y) q in
        let c = next_of (number_of y) (company_of y) past w.last r i (e.0 i) l.0 in
        record {
          records = ((λ x. c), w.records);
          last = record { it = r; last = last_same (number_of y) r past i; coded = e.0 i; by = c };
        }
    go w false q =
        let past = since ++ (entry y ∷ h) in
        record {
          records = ((λ x. clash-bool (rw x (same_refl (number_of y))) q), w.records);
          last = still (number_of y) (company_of y) past (entry r ∷ past) (last_other (number_of y) r past q) w.last;
        }

-- from an accepted I, C or M of a company until the next accepted U or D of its number, every accepted record of it is of that
-- company, and its entry's Company ID is that company
pub holder : (n m : ℕ) (files : List File) → HolderKept (run files (start n m))
unfolding HolderKept AllTold
holder n m files since y h e s u =
    let o = run files (start n m) in
    let p = kept n m files in
    let w = going y h since s (rw e at p.lawful) u in
    record {
      records = w.records;
      entries = λ i v q.
          let t = p.all_told i (v.0, used_live (state_of (slot_at o.stores.register i)) v.1) in
          let it = w.last.it in
          let a : last_stored (number_of y) o.history ≡ Some it =
          rw e (stored_it (number_of y) (company_of y) (since ++ (entry y ∷ h)) w.last) in
          let b : last_stored (number_of y) o.history ≡ Some t.given = rw q at t.last in
          sym t.holder ∙ ap company_of (same_Some t.given it (sym b ∙ a)) ∙ w.last.by;
    }

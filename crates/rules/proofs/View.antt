-- What an accepted record or row did, in a form to reason from: where it went, what stands there now, and why that was allowed.
-- Assumes nothing.
use Rattle.std.proofs.lemmas.Bool.{not-false}
use Rattle.std.specs.Option.{is_none, option_or}
use Rattle.std.specs.Prelude.{Option, Some, None}
use mathlib.Core.Path.{◌≡◌, refl, ◌∙◌}
use mathlib.Core.Logic.{◌⊎◌, inl, inr, ◌≢◌}
use mathlib.Core.Bool.{Bool, true, false, not, ◌&&◌, ◌||◌, cond}
use mathlib.Core.List.{List}
use Prim.Native.Nat.{ℕ, ◌<◌}
use native.Mathlib.Omega.{arith}
use borrow.Author.Tests.{eqb-true, ltb-true, le-ltb}
use Rattle.text.specs.Text.{same_bytes, on_some}
use Rattle.text.proofs.Laws.{and_left, and_right, same_true, same_refl}
use Rattle.calendar.specs.declared.Day.{Day}
use Rattle.calendar.specs.Calendar.{is_before, is_past}
use Rattle.layout.specs.declared.frame.Header.{Header}
use Rattle.layout.specs.Fields.{number_of, company_of, esn_of, has_esn, row_esn_of}
use Rattle.rules.specs.declared.Code.{Code}
use Rattle.rules.specs.declared.Code.TheVariants.{Insert, Change, Delete, Unlock, Migrate}
use Rattle.rules.specs.declared.RowCode.{RowCode}
use Rattle.rules.specs.declared.RowCode.TheVariants.{Insert as InsertRow, Delete as DeleteRow}
use Rattle.rules.specs.Walks.{find}
use Rattle.rules.specs.Slots.{slots, slot_at, with_slot, state_of, slot_day, record_of, slot_of, is_free, is_held, is_open, is_resting, is_used, is_live, row_slots, row_slot_at, with_row_slot, is_present, is_vacant, row_of, row_slot_of, free_row_slot}
use Rattle.rules.specs.Covers.{covers, clash, same_row}
use Rattle.rules.specs.Records.{is_insert, is_migrate, stores, is_own, state_after, has_number, find_number, is_over, find_row, free_at, is_reusable, reusable_at, find_free, find_reusable, find_spare, too_early, other_esn, table, answer_of, shown, shown_under, slot_after, register_after}
use Rattle.rules.specs.Rows.{clash_at, find_clash, vacant_at, find_vacant, same_at, find_same, entry_under, find_entry, insert_table, delete_table, row_answer_of, guide_after}
use Rattle.rules.specs.Demands.{used_at, live_at, present_at}
use Rattle.rules.proofs.WalkLaws.{clash-bool, and_both, and_rest, find_some, find_none, is_none_lem, AllFail, positive, first_zero}

-- ---- codes and states

-- the codes that a state takes
abbrev pub allowed : Code → ℕ → Bool
allowed Insert b = not (is_live b)
allowed Change b = is_held b
allowed Delete b = is_held b
allowed Unlock b = is_held b
allowed Migrate b = is_open b

-- one of two, where the other is not
or_second : (x y : Bool) → not (x || y) ≡ false → x ≡ false → y ≡ true
or_second true y h e = clash-bool refl e
or_second false y h e = not-false y h

or_first : (x y : Bool) → not (x || y) ≡ false → y ≡ false → x ≡ true
or_first true y h e = refl
or_first false y h e = clash-bool (not-false y h) e

-- the tests 12 to 15 leave what a state takes
right : (c : Code) (b : ℕ) → is_insert c && is_live b ≡ false → not (is_insert c) && not (is_live b) ≡ false
    → is_migrate c && is_held b ≡ false → is_own c && is_open b ≡ false → allowed c b ≡ true
right Insert b p q m o = rw p
right Change b p q m o = or_first (is_held b) (is_open b) q o
right Delete b p q m o = or_first (is_held b) (is_open b) q o
right Unlock b p q m o = or_first (is_held b) (is_open b) q o
right Migrate b p q m o = or_second (is_held b) (is_open b) q m

-- an absent number takes only I
insert_of_free : (c : Code) → allowed c 0 ≡ true → c ≡ Insert
insert_of_free Insert h = refl
insert_of_free Change h = clash-bool h refl
insert_of_free Delete h = clash-bool h refl
insert_of_free Unlock h = clash-bool h refl
insert_of_free Migrate h = clash-bool h refl

-- C, D and U are taken only by a held number
held_of_own : (c : Code) (b : ℕ) → is_own c ≡ true → allowed c b ≡ true → is_held b ≡ true
held_of_own Insert b o h = clash-bool o refl
held_of_own Change b o h = h
held_of_own Delete b o h = h
held_of_own Unlock b o h = h
held_of_own Migrate b o h = clash-bool o refl

-- the test 16 leaves the slot's company
own_company : (c : Code) (b : ℕ) (o r : List ℕ) → allowed c b ≡ true
    → is_own c && (is_held b && not (same_bytes o r)) ≡ false → is_own c ≡ true → o ≡ r
own_company c b o r a t w =
    same_true o r
    (not-false (same_bytes o r)
    (and_rest (is_held b) (not (same_bytes o r)) (held_of_own c b w a)
    (and_rest (is_own c) (is_held b && not (same_bytes o r)) w t)))

-- a free slot is no entry, nor is a resting one
pub dead_of_free : (b : ℕ) → is_free b ≡ true → is_live b ≡ false
dead_of_free b h = rw (eqb-true b 0 h) refl

pub dead_of_resting : (b : ℕ) → is_resting b ≡ true → is_live b ≡ false
dead_of_resting b h = rw (eqb-true b 3 h) refl

-- ---- a data record r with code c and date d

-- where: the number's own slot; or, for a number that no slot has, one that is no entry
pub data Place (R r : List ℕ) (c : Code) (d : Day) (i : ℕ) : Type 0 where
  own : used_at R i → number_of (record_of (slot_at R i)) ≡ number_of r → allowed c (state_of (slot_at R i)) ≡ true
      → (is_own c ≡ true → company_of (record_of (slot_at R i)) ≡ company_of r)
      → too_early R (Some i) c d ≡ false → Place R r c d i
  new : c ≡ Insert → is_live (state_of (slot_at R i)) ≡ false
      → ((j : ℕ) → used_at R j → number_of (record_of (slot_at R j)) ≢ number_of r) → Place R r c d i

-- what: the record with its ESN filled in, under a row; or the record that stood there
pub data Content (R G r : List ℕ) (c : Code) (i : ℕ) (content : List ℕ) : Type 0 where
  stored : stores c ≡ true → (k : ℕ) → present_at G k → covers (row_of (row_slot_at G k)) r ≡ true
      → (has_esn r ≡ true → esn_of r ≡ row_esn_of (row_of (row_slot_at G k)))
      → content ≡ shown r (row_of (row_slot_at G k)) → Content R G r c i content
  kept : stores c ≡ false → content ≡ record_of (slot_at R i) → Content R G r c i content

-- S is the register R after the record was accepted
pub record Took (R G : List ℕ) (h : Header) (r : List ℕ) (c : Code) (d : Day) (S : List ℕ) : Type 0 where
  pub index : ℕ
  pub fits : index < slots R
  pub dated : is_before h.day d ≡ false
  pub place : Place R r c d index
  pub content : List ℕ
  pub what : Content R G r c index content
  pub result : S ≡ with_slot R index (slot_of (state_after c) d content)

-- no used slot has a number that was not found
pub absent : (R n : List ℕ) → find_number n R ≡ None → (j : ℕ) → used_at R j → number_of (record_of (slot_at R j)) ≢ n
unfolding find_number has_number
absent R n e j u q =
    clash-bool
    (and_both (is_used (state_of (slot_at R j))) (same_bytes (number_of (record_of (slot_at R j))) n) u.1 (rw q (same_refl n)))
    (find_none (has_number n R) (slots R) e j u.0)

-- a spare slot is free, or has rested long enough
pub spare : (R : List ℕ) (today : Day) (i : ℕ) → find_spare today R ≡ Some i
    → (i < slots R) × ((is_free (state_of (slot_at R i)) ≡ true) ⊎ (is_reusable today (slot_at R i) ≡ true))
unfolding find_spare find_free find_reusable free_at reusable_at
spare R today i e = go (find (free_at R) (slots R)) refl e
  where
    go : (o : Option ℕ) → find (free_at R) (slots R) ≡ o → option_or o (find (reusable_at today R) (slots R)) ≡ Some i
        → (i < slots R) × ((is_free (state_of (slot_at R i)) ≡ true) ⊎ (is_reusable today (slot_at R i) ≡ true))
    go (Some j) f e = let t = find_some (free_at R) (slots R) i (f ∙ e) in (t.0, inl t.1)
    go None f e = let t = find_some (reusable_at today R) (slots R) i e in (t.0, inr t.1)

-- in both cases it is no entry
spare_dead : (R : List ℕ) (today : Day) (i : ℕ)
    → (is_free (state_of (slot_at R i)) ≡ true) ⊎ (is_reusable today (slot_at R i) ≡ true) → is_live (state_of (slot_at R i)) ≡ false
unfolding is_reusable
spare_dead R today i (inl f) = dead_of_free (state_of (slot_at R i)) f
spare_dead R today i (inr f) =
    dead_of_resting (state_of (slot_at R i))
    (and_left (is_resting (state_of (slot_at R i))) (is_past (slot_day (slot_at R i)) 90 today) f)

-- the tests 18 and 19 leave what is stored
content_of : (R G r : List ℕ) (c : Code) (i : ℕ) (k : Option ℕ) → find_row r G ≡ k
    → stores c && is_none k ≡ false → stores c && other_esn G k r ≡ false
    → Content R G r c i (cond (stores c) (shown_under G k r) (record_of (slot_at R i)))
unfolding find_row is_over
content_of R G r c i k e t u = go (stores c) refl k e t u
  where
    go : (b : Bool) → stores c ≡ b → (k : Option ℕ) → find (is_over r G) (row_slots G) ≡ k
        → b && is_none k ≡ false → b && other_esn G k r ≡ false
        → Content R G r c i (cond b (shown_under G k r) (record_of (slot_at R i)))
    go false q k e t u = kept q refl
    go true q None e t u = clash-bool refl t
    go true q (Some k) e t u =
        let f = find_some (is_over r G) (row_slots G) k e in
        let g = row_of (row_slot_at G k) in
        let p = is_present (row_slot_at G k) in
        let v = covers g r in
        let s = same_bytes (esn_of r) (row_esn_of g) in
        stored q k (f.0, and_left p v f.1) (and_right p v f.1)
        (λ b. same_true (esn_of r) (row_esn_of g) (not-false s (and_rest (has_esn r) (not s) b u)))
        refl

-- the slot written has the content in either case
slot_after_lem : (R G r : List ℕ) (c : Code) (d : Day) (k : Option ℕ) (i : ℕ)
    → with_slot R i (slot_after (slot_at R i) c d (shown_under G k r))
    ≡ with_slot R i (slot_of (state_after c) d (cond (stores c) (shown_under G k r) (record_of (slot_at R i))))
slot_after_lem R G r c d k i = go (stores c)
  where
    go : (b : Bool)
        → with_slot R i (cond b (slot_of (state_after c) d (shown_under G k r)) (slot_of (state_after c) d (record_of (slot_at R i))))
        ≡ with_slot R i (slot_of (state_after c) d (cond b (shown_under G k r) (record_of (slot_at R i))))
    go true = refl
    go false = refl

-- m is the slot of the number, k the row, p the spare slot, and all tests of the table failed
go_took : (R G : List ℕ) (h : Header) (r : List ℕ) (c : Code) (d : Day) (m k p : Option ℕ)
    → find_number (number_of r) R ≡ m → find_row r G ≡ k → find_spare h.day R ≡ p
    → AllFail (table R G h r c d m k p)
    → Took R G h r c d (on_some (option_or m p) R (λ i. with_slot R i (slot_after (slot_at R i) c d (shown_under G k r))))
unfolding AllFail find_number has_number
go_took R G h r c d (Some i) k p em ek ep t =
    let f = find_some (has_number (number_of r) R) (slots R) i em in
    let b = state_of (slot_at R i) in
    let n = same_bytes (number_of (record_of (slot_at R i))) (number_of r) in
    let a : allowed c b ≡ true = right c b t.1.0 t.1.1.0 t.1.1.1.0 t.1.1.1.1.0 in
    record {
      index = i;
      fits = f.0;
      dated = t.0;
      place = own (f.0, and_left (is_used b) n f.1)
          (same_true (number_of (record_of (slot_at R i))) (number_of r) (and_right (is_used b) n f.1))
          a
          (own_company c b (company_of (record_of (slot_at R i))) (company_of r) a t.1.1.1.1.1.0)
          t.1.1.1.1.1.1.0;
      content = cond (stores c) (shown_under G k r) (record_of (slot_at R i));
      what = content_of R G r c i k ek t.1.1.1.1.1.1.1.0 t.1.1.1.1.1.1.1.1.0;
      result = slot_after_lem R G r c d k i;
    }
go_took R G h r c d None k (Some i) em ek ep t =
    let f = spare R h.day i ep in
    let a : allowed c 0 ≡ true = right c 0 t.1.0 t.1.1.0 t.1.1.1.0 t.1.1.1.1.0 in
    record {
      index = i;
      fits = f.0;
      dated = t.0;
      place = new (insert_of_free c a) (spare_dead R h.day i f.1) (absent R (number_of r) em);
      content = cond (stores c) (shown_under G k r) (record_of (slot_at R i));
      what = content_of R G r c i k ek t.1.1.1.1.1.1.1.0 t.1.1.1.1.1.1.1.1.0;
      result = slot_after_lem R G r c d k i;
    }
go_took R G h r c d None k None em ek ep t =
    let a : allowed c 0 ≡ true = right c 0 t.1.0 t.1.1.0 t.1.1.1.0 t.1.1.1.1.0 in
    let e : c ≡ Insert = insert_of_free c a in
    let z : is_insert c && (true && true) ≡ false = t.1.1.1.1.1.1.1.1.1.0 in
    clash-bool refl (rw e at z)

-- a record answered 0 was taken
pub took : (R G : List ℕ) (h : Header) (r : List ℕ) (c : Code) (d : Day) → answer_of R G h r c d ≡ 0
    → Took R G h r c d (register_after R G h r c d)
unfolding answer_of register_after positive
took R G h r c d e =
    go_took R G h r c d (find_number (number_of r) R) (find_row r G) (find_spare h.day R) refl refl refl
    (first_zero (table R G h r c d (find_number (number_of r) R) (find_row r G) (find_spare h.day R)) refl e)

-- its day is no earlier than that of the number's own slot
pub late : (R : List ℕ) (i : ℕ) (c : Code) (d : Day) → too_early R (Some i) c d ≡ false → is_before d (slot_day (slot_at R i)) ≡ false
late R i c d e = go (is_insert c) e
  where
    go : (b : Bool) → cond b (not (is_before (slot_day (slot_at R i)) d)) (is_before d (slot_day (slot_at R i))) ≡ false
        → is_before d (slot_day (slot_at R i)) ≡ false
    go true e =
        let l = ltb-true (slot_day (slot_at R i)).0 d.0 (not-false (is_before (slot_day (slot_at R i)) d) e) in
        le-ltb d.0 (slot_day (slot_at R i)).0 (omega arith)
    go false e = e

-- and is later, if it is I
pub later : (R : List ℕ) (i : ℕ) (d : Day) → too_early R (Some i) Insert d ≡ false → is_before (slot_day (slot_at R i)) d ≡ true
later R i d e = not-false (is_before (slot_day (slot_at R i)) d) e

-- ---- a guide row g with code c

-- K is the guide G after the row was accepted: the row stands where none stood, and clashes with none; or the same row is gone,
-- and covered no entry
pub data RowTook (R G g : List ℕ) (c : Option RowCode) (K : List ℕ) : Type 0 where
  added : c ≡ (Some InsertRow) → (k : ℕ) → k < row_slots G → is_vacant (row_slot_at G k) ≡ true
      → ((j : ℕ) → present_at G j → clash (row_of (row_slot_at G j)) g ≡ false)
      → K ≡ with_row_slot G k (row_slot_of g) → RowTook R G g c K
  removed : c ≡ (Some DeleteRow) → (k : ℕ) → present_at G k → same_row (row_of (row_slot_at G k)) g ≡ true
      → ((i : ℕ) → live_at R i → covers (row_of (row_slot_at G k)) (record_of (slot_at R i)) ≡ false)
      → K ≡ with_row_slot G k free_row_slot → RowTook R G g c K

-- o is a row that clashes, p a vacant slot
go_added : (R G g : List ℕ) (o p : Option ℕ) → find_clash g G ≡ o → find_vacant G ≡ p → AllFail (insert_table o p)
    → RowTook R G g (Some InsertRow) (on_some p G (λ k. with_row_slot G k (row_slot_of g)))
unfolding AllFail find_clash clash_at find_vacant vacant_at
go_added R G g None (Some k) eo ep t =
    let f = find_some (vacant_at G) (row_slots G) k ep in
    added refl k f.0 f.1
    (λ j u. and_rest (is_present (row_slot_at G j)) (clash (row_of (row_slot_at G j)) g) u.1 (find_none (clash_at g G) (row_slots G) eo j u.0))
    refl
go_added R G g None None eo ep t = clash-bool refl t.1.0
go_added R G g (Some j) p eo ep t = clash-bool refl t.0

-- m is the same row
go_removed : (R G g : List ℕ) (m : Option ℕ) → find_same g G ≡ m → AllFail (delete_table R G m)
    → RowTook R G g (Some DeleteRow) (on_some m G (λ k. with_row_slot G k free_row_slot))
unfolding AllFail find_same same_at find_entry entry_under
go_removed R G g (Some k) em t =
    let f = find_some (same_at g G) (row_slots G) k em in
    let o = row_of (row_slot_at G k) in
    let e : find_entry o R ≡ None = is_none_lem (find_entry o R) (not-false (is_none (find_entry o R)) t.1.0) in
    let p = is_present (row_slot_at G k) in
    removed refl k (f.0, and_left p (same_row o g) f.1) (and_right p (same_row o g) f.1)
    (λ i u. and_rest (is_live (state_of (slot_at R i))) (covers o (record_of (slot_at R i))) u.1 (find_none (entry_under o R) (slots R) e i u.0))
    refl
go_removed R G g None em t = clash-bool refl t.0

-- a row answered 0 was taken
pub row_took : (R G g : List ℕ) (c : Option RowCode) → row_answer_of R G g c ≡ 0 → RowTook R G g c (guide_after G g c)
unfolding positive
row_took R G g (Some InsertRow) e =
    go_added R G g (find_clash g G) (find_vacant G) refl refl (first_zero (insert_table (find_clash g G) (find_vacant G)) refl e)
row_took R G g (Some DeleteRow) e = go_removed R G g (find_same g G) refl (first_zero (delete_table R G (find_same g G)) refl e)
row_took R G g None e = absurd (omega arith)

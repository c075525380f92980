-- The first demand: every file, register and guide handed over is answered, and each promise admits one outcome.
-- Assumes nothing.
use Rattle.std.specs.Option.{is_none, option_or}
use Rattle.std.specs.Prelude.{Option, Some, None, Result, Ok, Err}
use mathlib.Core.Path.{◌≡◌, refl, sym, ap, ◌∙◌}
use mathlib.Core.Logic.{◌≢◌}
use mathlib.Core.Bool.{Bool, true, false, ◌&&◌, ◌||◌, cond}
use mathlib.Core.List.{List, ◌++◌}
use Prim.Native.Nat.{ℕ, ◌+◌, ◌*◌, ◌<◌}
use native.Mathlib.Omega.{arith}
use lib.Dec.{leb, eqb}
use lib.ListN.{length, drop, get_or, get_or-append}
use lib.Seq.{drop_at}
use borrow.Author.Tests.{eqb-false, ne_eqb}
use Rattle.text.specs.Text.{member_of, on_some}
use Rattle.text.proofs.Laws.{and_left, and_right, and_false}
use Rattle.calendar.specs.declared.Day.{Day}
use Rattle.layout.specs.declared.frame.Header.{Header}
use Rattle.layout.specs.Fields.{number_of}
use Rattle.layout.specs.Counters.{given_cycle}
use Rattle.versions.specs.declared.Version.{Version}
use Rattle.versions.specs.declared.Version.TheVariants.{One, Two}
use Rattle.rules.specs.declared.Code.{Code}
use Rattle.rules.specs.declared.Code.TheVariants.{Insert, Change, Delete, Unlock, Migrate}
use Rattle.rules.specs.declared.Kind.{Kind}
use Rattle.rules.specs.declared.Kind.TheVariants.{Data, Guide}
use Rattle.rules.specs.declared.RowCode.{RowCode}
use Rattle.rules.specs.declared.RowCode.TheVariants.{Insert as InsertRow, Delete as DeleteRow}
use Rattle.rules.specs.declared.Seen.{Seen}
use Rattle.rules.specs.declared.Refusal.{Refusal}
use Rattle.rules.specs.declared.Taken.{Taken}
use Rattle.rules.specs.Walks.{find}
use Rattle.rules.specs.Slots.{slots, slot_at, good_length, register_sound}
use Rattle.rules.specs.Records.{filed_of, is_insert, find_number, find_row, free_at, reusable_at, find_free, find_reusable, find_spare, table, answer_of, Step, step, applied}
use Rattle.rules.specs.Rows.{row_code_of, find_clash, find_vacant, find_same, insert_table, delete_table, row_answer_of, RowStep, row_applied}
use Rattle.rules.specs.Takes.{Stores, shape_of, line_fault, line_at, lines_in, refuse, checked, line_applied, answer_at, answers_to, after, refused_file, applied_file, on_checked, taken}
use Rattle.rules.specs.Checks.{AllForetold}
use Rattle.rules.specs.Lookups.{is_number, seen_in, unseen, seen, packed}
use Rattle.rules.specs.Loads.{is_entry, load_size, load_header, later_at, wide_at, narrow_refusal, wide_slot, header_refusal, load_refusal, refused_load, written_load, loaded}
use Rattle.rules.specs.Answered.{take_numbers, record_numbers, answer_numbers, load_numbers, lookup_numbers, TakeRefused, NoneHits, TakeDone, TakeAnswered, TakesAnswer, LinesAnswer, Full, FullsAnswer, LoadAnswered, LoadsAnswer, LookupsAnswer, OneData, OneGuide, OneLoad, OneLookup}
use Rattle.rules.specs.Answered.{ChecksAnswer, OneCheck}
use Rattle.rules.proofs.WalkLaws.{clash-bool, find_some, find_none, find_nowhere, is_none_lem, numbers_in, first_in, hit_by, first_hit, first_some}
use Rattle.rules.proofs.TakeLaws.{line_not, answers_length, answer_is, done_undone}
use Rattle.rules.proofs.CheckLaws.{all_foretold}
use Rattle.rules.proofs.FaultLaws.{line_fault_starts}
use Rattle.rules.proofs.GoodLaws.{BadLine, checked_by, passed_good}
use Rattle.rules.proofs.LookupLaws.{seen_bounded}
use Rattle.rules.proofs.LoadLength.{load_rest}

-- ---- a line

-- of what is made of a test, the number is in a list that has the numbers of both
picked : {A : Type 0} (number : A → ℕ) (set : List ℕ) (b : Bool) (x y : A) → member_of (number x) set ≡ true
    → member_of (number y) set ≡ true → member_of (number (cond b x y)) set ≡ true
picked number set true x y p q = p
picked number set false x y p q = q

-- a data record is answered by a number of its table
applied_number : (R G : List ℕ) (h : Header) (r : List ℕ) → member_of (applied R G h r).answer record_numbers ≡ true
unfolding applied step answer_of numbers_in
applied_number R G h r = go (filed_of r)
  where
    go : (f : Option (Code × Day)) → member_of (step R G h r f).answer record_numbers ≡ true
    go None = refl
    go (Some (c, d)) =
        picked (λ (s : Step). s.answer) record_numbers (eqb (answer_of R G h r c d) 0) _ _ refl
        (first_in record_numbers (table R G h r c d (find_number (number_of r) R) (find_row r G) (find_spare h.day R)) refl refl)

-- a row by a number of its tables
row_number : (R G g : List ℕ) (c : Option RowCode) → member_of (row_answer_of R G g c) (answer_numbers Guide) ≡ true
unfolding numbers_in
row_number R G g (Some InsertRow) = first_in (answer_numbers Guide) (insert_table (find_clash g G) (find_vacant G)) refl refl
row_number R G g (Some DeleteRow) = first_in (answer_numbers Guide) (delete_table R G (find_same g G)) refl refl
row_number R G g None = refl

-- also where the guide that it leaves stands beside it
row_applied_number : (R G : List ℕ) (h : Header) (g : List ℕ) → member_of (row_applied R G h g).answer (answer_numbers Guide) ≡ true
unfolding row_applied
row_applied_number R G h g =
    picked (λ (s : RowStep). s.answer) (answer_numbers Guide) (eqb (row_answer_of R G g (row_code_of g)) 0) _ _ refl (row_number R G g (row_code_of g))

-- a line of either kind
line_number : (k : Kind) (h : Header) (r : List ℕ) (s : Stores) → member_of (line_applied k h r s).answer (answer_numbers k) ≡ true
unfolding line_applied
line_number (Data v) h r s = applied_number s.register s.guide h ((shape_of (Data v)).wide r)
line_number Guide h r s = row_applied_number s.register s.guide h r

-- DEMAND 1, of a record: it is answered by a number of its kind, and a refused one leaves both stores
pub line_answered : LinesAnswer
unfolding LinesAnswer
line_answered k h r s = record { number = line_number k h r s; refused = line_not k h r s }

-- ---- 20

-- only I inserts
insert_is : (c : Code) → is_insert c ≡ true → c ≡ Insert
insert_is Insert e = refl
insert_is Change e = clash-bool e refl
insert_is Delete e = clash-bool e refl
insert_is Unlock e = clash-bool e refl
insert_is Migrate e = clash-bool e refl

-- of two searches, the second only where the first found nothing, neither found anything
both_nothing : (a b : Option ℕ) → is_none (option_or a b) ≡ true → (a ≡ None) × (b ≡ None)
both_nothing (Some i) b e = clash-bool e refl
both_nothing None b e = (refl, is_none_lem b e)

module _ (R G : List ℕ) (h : Header) (r : List ℕ) (c : Code) (d : Day) where
  -- the last test of the table
  abbrev is_full : Bool
  is_full = is_insert c && (is_none (find_number (number_of r) R) && is_none (find_spare h.day R))

  -- says that it is I, and that the number, a free slot and a reusable one were each sought in vain
  full_of : is_full ≡ true → Full R h r c
  unfolding find_spare find_free find_reusable free_at reusable_at
  full_of e =
      let n = is_none (find_number (number_of r) R) in
      let p = is_none (find_spare h.day R) in
      let v = and_right (is_insert c) (n && p) e in
      let b = both_nothing (find_free R) (find_reusable h.day R) (and_right n p v) in
      record {
        insert = insert_is c (and_left (is_insert c) (n && p) e);
        absent = is_none_lem (find_number (number_of r) R) (and_left n p v);
        free = find_none (free_at R) (slots R) b.0;
        reusable = find_none (reusable_at h.day R) (slots R) b.1;
      }

  of_full : Full R h r c → is_full ≡ true
  unfolding find_spare find_free find_reusable free_at reusable_at
  of_full f =
      rw (
        f.insert,
        f.absent,
        find_nowhere (free_at R) (slots R) f.free,
        find_nowhere (reusable_at h.day R) (slots R) f.reusable,
      ) refl

-- an answer of 20 is that of the last row, whose test is just this
pub full_answered : FullsAnswer
unfolding FullsAnswer answer_of hit_by numbers_in
full_answered R G h r c d =
    let t = table R G h r c d (find_number (number_of r) R) (find_row r G) (find_spare h.day R) in
    record {
      means = λ e. full_of R G h r c d (or_none (is_full R G h r c d) (first_hit 20 t (omega arith) e));
      then = λ f. first_some 20 (drop 1 record_numbers) t (rw (of_full R G h r c d f) refl) refl;
    }
  where
    or_none : (b : Bool) → b || false ≡ true → b ≡ true
    or_none true e = refl
    or_none false e = clash-bool e refl

-- ---- a take

module _ (k : Kind) (s : Stores) (f answers : List ℕ) (last : ℕ) where
  -- what a take makes of what the checks say, where they say it
  abbrev outcome : Result Header Refusal → Type 0
  outcome c =
      checked k s f (length answers) (given_cycle last) ≡ c
      → TakeAnswered k s f answers last
      (on_checked c (λ h. applied_file k h s f answers) (λ r. refused_file r s answers last))

  -- where none of the nine tests hits, nothing is refused
  not_refused : {A : Type 0} (r : Refusal) → checked k s f (length answers) (given_cycle last) ≡ Err r
      → (h : Header) → NoneHits k s f (length answers) (given_cycle last) h → A
  not_refused r q h p =
      let e : Err r ≡ Ok h = sym q ∙ passed_good k s f (length answers) (given_cycle last) h p in
      let z : ◌≡◌ {A = ℕ} 0 1 = cc in
      absurd (omega arith)

  -- a refusal returns counts of 0 and the cycle as given, and changes nothing lent
  refused_file_lem : (n place position : ℕ)
      → TakeRefused s answers last (refused_file (record { number = n; place = place; position = position }) s answers last)
  unfolding refused_file
  refused_file_lem n place position =
      record { stores = refl; answers = refl; records = refl; done = refl; undone = refl; last = refl }

  -- by a number that is neither 0 nor 9
  refused_plain : (n : ℕ) → member_of n take_numbers ≡ true → n ≢ 0 → n ≢ 9 → outcome (refuse n)
  unfolding refused_file
  refused_plain n m z e q =
      record {
        number = m;
        refused = λ x. refused_file_lem n 0 0;
        done = λ x. absurd (z x);
        taken = not_refused (record { number = n; place = 0; position = 0 }) q;
        placed = λ x. absurd (e x);
        unplaced = λ x. (refl, refl);
      }

  -- by 9: the place is that of a line, and the position that of a field
  refused_line : (i : ℕ) → BadLine k f i
      → outcome (Err (record { number = 9; place = i + 1; position = line_fault k (line_at k f i) }))
  unfolding refused_file
  refused_line i b q =
      record {
        number = refl;
        refused = λ x. refused_file_lem 9 (i + 1) (line_fault k (line_at k f i));
        done = λ x. absurd (omega arith);
        taken = not_refused (record { number = 9; place = i + 1; position = line_fault k (line_at k f i) }) q;
        placed = λ x. record {
          from = omega arith;
          to = omega (arith, b.within);
          field = line_fault_starts k (line_at k f i) b.fault;
        };
        unplaced = λ x. absurd (x refl);
      }

  -- a file that is taken: byte i is the answer to line i, and the bytes behind them stay
  done_file : (h : Header) → NoneHits k s f (length answers) (given_cycle last) h
      → TakeDone k s f answers last (applied_file k h s f answers) h
  unfolding applied_file answer_at
  done_file h g =
      let n = lines_in k f in
      let a = answers_to k h f s n in
      let l = answers_length k h f s n in
      let e : (i : ℕ) → i < n → get_or (a ++ drop n answers) i 0 ≡ answer_at k h f s i
      = λ i m. get_or-append a _ 0 i (rw l m) ∙ answer_is k h f s n i m in
      record {
        passed = g;
        records = refl;
        counts = done_undone k h f s n;
        last = refl;
        each = e;
        number = λ i m. ap (λ x. member_of x (answer_numbers k)) (e i m) ∙ line_number k h (line_at k f i) (after k h f s i);
        rest = drop_at a (drop n answers) n l;
      }

  -- by 0, with place and position 0
  taken_file : (h : Header) → NoneHits k s f (length answers) (given_cycle last) h → outcome (Ok h)
  unfolding applied_file
  taken_file h g q =
      record {
        number = refl;
        refused = λ x. absurd (x refl);
        done = λ x. (h, done_file h g);
        taken = λ x p. refl;
        placed = λ x. absurd (omega arith);
        unplaced = λ x. (refl, refl);
      }

-- DEMAND 1, of a file: whatever is handed over is answered, a refusal leaves all that is lent, and nothing is refused but by the nine
pub take_answered : TakesAnswer
unfolding TakesAnswer taken
take_answered k s f answers last =
    let plain = refused_plain k s f answers last in
    checked_by (outcome k s f answers last) k s f (length answers) (given_cycle last)
    (λ e. plain 1 refl (omega arith) (omega arith))
    (λ e. plain 2 refl (omega arith) (omega arith))
    (plain 3 refl (omega arith) (omega arith))
    (plain 4 refl (omega arith) (omega arith))
    (plain 5 refl (omega arith) (omega arith))
    (plain 6 refl (omega arith) (omega arith))
    (plain 7 refl (omega arith) (omega arith))
    (plain 8 refl (omega arith) (omega arith))
    (refused_line k s f answers last)
    (taken_file k s f answers last)
    refl

-- ---- a check

-- DEMAND 1, of a check: it says what the take that it foretells would say, and that one is answered
pub check_answered : ChecksAnswer
unfolding ChecksAnswer TakesAnswer AllForetold
check_answered k s f answers last =
    let a = take_answered k s f answers last in
    let e = all_foretold k s f answers last in
    record {
      number = rw e.refusal a.number;
      refused = λ x. e.records ∙ (a.refused (λ z. x (e.refusal ∙ z))).records;
      good = λ x. e.records ∙ (a.done (sym e.refusal ∙ x)).1.records;
      passed = λ x. let d = a.done (sym e.refusal ∙ x) in (d.0, d.1.passed);
      passes = λ h p. e.refusal ∙ a.taken h p;
      placed = λ x.
          let p = a.placed (sym e.refusal ∙ x) in
          record { from = rw e.place p.from; to = rw e.place p.to; field = rw e.position p.field };
      unplaced = λ x. let p = a.unplaced (λ z. x (e.refusal ∙ z)) in (e.place ∙ p.0, e.position ∙ p.1);
      done = e.done;
      undone = e.undone;
      last = e.last;
    }

-- ---- the load file

-- P is so of a refusal of a load file, if it is so of each number; of 27, where the lowest entry is given that does not fit
load_by : (P : ℕ → Type 0) (v : Version) (R date company : List ℕ) (c room : ℕ) → P 0 → P 1 → P 25 → P 26
    → ((i : ℕ) → find (wide_at v R) (slots R) ≡ Some i → P 27) → P (load_refusal v R date company c room)
unfolding load_refusal header_refusal narrow_refusal
load_by P v R date company c room p0 p1 p25 p26 p27 = sound (register_sound R)
  where
    long : (b : Bool) → P (cond b 0 25)
    long true = p0
    long false = p25

    fits : (o : Option ℕ) → find (wide_at v R) (slots R) ≡ o → P (on_some o (cond (leb (load_size v R) room) 0 25) (λ i. 27))
    fits None q = long (leb (load_size v R) room)
    fits (Some i) q = p27 i q

    found : (o : Option ℕ) → P (on_some o (narrow_refusal v R room) (λ i. 26))
    found None = fits (find (wide_at v R) (slots R)) refl
    found (Some i) = p26

    opened : (o : Option Header) → P (on_some o 26 (λ h. on_some (find (later_at h.day R) (slots R)) (narrow_refusal v R room) (λ i. 26)))
    opened None = p26
    opened (Some h) = found (find (later_at h.day R) (slots R))

    sound : (b : Bool) → P (cond b (header_refusal v R date company c room) 1)
    sound true = opened (load_header v date company c)
    sound false = p1

-- every record fits in Version 2
two_fits : (R : List ℕ) (i : ℕ) → wide_at Two R i ≡ false
unfolding wide_at
two_fits R i = and_false (is_entry (slot_at R i))

-- a refusal of a load file has one of its numbers
load_number : (v : Version) (R date company : List ℕ) (c room : ℕ) → member_of (load_refusal v R date company c room) (load_numbers v) ≡ true
load_number One R date company c room =
    load_by (λ n. member_of n (load_numbers One) ≡ true) One R date company c room refl refl refl refl (λ i e. refl)
load_number Two R date company c room =
    load_by (λ n. member_of n (load_numbers Two) ≡ true) Two R date company c room refl refl refl refl (λ i e.
    clash-bool (find_some (wide_at Two R) (slots R) i e).1 (two_fits R i))

-- 27 has the slot of that entry, and no other refusal has one
wide_slot_lem : (v : Version) (R : List ℕ) (i : ℕ) → find (wide_at v R) (slots R) ≡ Some i → wide_slot v R 27 ≡ i
unfolding wide_slot
wide_slot_lem v R i e = rw e refl

no_slot : (v : Version) (R : List ℕ) (n : ℕ) → n ≢ 27 → wide_slot v R n ≡ 0
unfolding wide_slot
no_slot v R n e = rw (ne_eqb n 27 e) refl

load_slot : (v : Version) (R date company : List ℕ) (c room : ℕ) → load_refusal v R date company c room ≡ 27
    → find (wide_at v R) (slots R) ≡ Some (wide_slot v R (load_refusal v R date company c room))
load_slot v R date company c room =
    load_by (λ n. n ≡ 27 → find (wide_at v R) (slots R) ≡ Some (wide_slot v R n)) v R date company c room
    (λ e. absurd (omega arith)) (λ e. absurd (omega arith)) (λ e. absurd (omega arith)) (λ e. absurd (omega arith))
    (λ i f e. f ∙ ap Some (sym (wide_slot_lem v R i f)))

-- DEMAND 1, of a load file: it is written whole, or refused with nothing written
pub load_answered : LoadsAnswer
unfolding LoadsAnswer loaded load_size
load_answered v R date company c out = go (eqb (load_refusal v R date company c (length out)) 0) refl
  where
    go : (b : Bool) → eqb (load_refusal v R date company c (length out)) 0 ≡ b
        → LoadAnswered v R out
        (cond b (written_load v R date company c out) (refused_load v R (load_refusal v R date company c (length out)) out))
    go true q =
        record {
          number = load_none v;
          refused = λ x. absurd (x refl);
          sized = λ x. refl;
          rest = load_rest v R date company c out;
          wide = λ x. absurd (omega arith);
          none = λ x. refl;
        }
      where
        load_none : (v : Version) → member_of 0 (load_numbers v) ≡ true
        load_none One = refl
        load_none Two = refl
    go false q =
        record {
          number = load_number v R date company c (length out);
          refused = λ x. (refl, (refl, refl));
          sized = λ x. absurd (eqb-false (load_refusal v R date company c (length out)) 0 q x);
          rest = refl;
          wide = load_slot v R date company c (length out);
          none = no_slot v R (load_refusal v R date company c (length out));
        }

-- ---- lookup

-- P is so of what is seen, if it is so of each refusal and of what the register shows
seen_by : (P : Seen → Type 0) (R n : List ℕ) → P (unseen 1) → P (unseen 10) → P (seen_in R n) → P (seen R n)
unfolding seen
seen_by P R n p1 p10 p = go (good_length 520 R) (is_number n)
  where
    go : (g t : Bool) → P (cond g (cond t (seen_in R n) (unseen 10)) (unseen 1))
    go true true = p
    go true false = p10
    go false t = p1

-- a lookup is answered, and what is unpacked of its number is what was seen
pub lookup_answered : LookupsAnswer
unfolding LookupsAnswer packed seen_in
lookup_answered R n =
    let b = seen_bounded R n in
    let x = b.looked in
    let y = b.slot in
    let z = b.state in
    record {
      number = seen_by (λ s. member_of s.refusal lookup_numbers ≡ true) R n refl refl refl;
      refused = seen_by (λ s. s.refusal ≢ 0 → packed s ≡ s.refusal * 68719476736) R n (λ q. refl) (λ q. refl) (λ q. absurd (q refl));
      looked = omega arith;
      slot = omega arith;
      state = omega arith;
      refusal = omega arith;
    }

-- ---- one outcome

-- result, store and answers are each said to be one thing
one_take : {t u x : Taken} {S T y a b z : List ℕ} → (t ≡ x) × ((S ≡ y) × (a ≡ z)) → (u ≡ x) × ((T ≡ y) × (b ≡ z))
    → (t ≡ u) × ((S ≡ T) × (a ≡ b))
one_take p q = (p.0 ∙ sym q.0, (p.1.0 ∙ sym q.1.0, p.1.1 ∙ sym q.1.1))

-- so the promise of each take admits one outcome,
pub one_data : OneData
unfolding OneData
one_data v R G f answers last t u S T a b p q = one_take p q

pub one_guide : OneGuide
unfolding OneGuide
one_guide R G f answers last t u S T a b p q = one_take p q

-- and so does that of a check, of a load file and of a lookup
pub one_check : OneCheck
unfolding OneCheck
one_check k R G f answers last t u p q = p ∙ sym q

pub one_load : OneLoad
unfolding OneLoad
one_load v R date company c out l m a b p q = (p.0 ∙ sym q.0, p.1 ∙ sym q.1)

pub one_lookup : OneLookup
unfolding OneLookup
one_lookup R n a b p q = p ∙ sym q

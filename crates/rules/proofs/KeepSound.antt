-- The stores of a run stay sound: no file of it is refused by 1 or 2. Assumes nothing.
use Rattle.std.proofs.lemmas.Bool.{not-true, not-false}
use Rattle.std.specs.Option.{is_none}
use Rattle.std.proofs.lemmas.Option.{none-some, same_Some}
use Rattle.rules.specs.declared.Refusal.{Refusal}
use Rattle.std.specs.Prelude.{Option, Some, None, Result, Ok, Err}
use mathlib.Core.Path.{◌≡◌, refl, ap, ◌∙◌, sym}
use mathlib.Core.Logic.{◌≢◌}
use mathlib.Core.Bool.{Bool, true, false, not, ◌&&◌, ◌||◌, cond}
use mathlib.Core.List.{List, [], ◌∷◌}
use Prim.Native.Nat.{ℕ, zero, suc, ◌/◌, ◌≤◌, ◌<◌}
use native.Mathlib.Decide.{ℕ_discrete}
use native.Mathlib.Omega.{arith}
use lib.Dec.{leb, eqb}
use lib.ListN.{length, get_or}
use borrow.Author.Tests.{eqb-true, ne_eqb, leb-true, ltb-false, le-ltb}
use Rattle.text.specs.Text.{part, on_some}
use Rattle.text.proofs.Laws.{and_left, and_right}
use Rattle.calendar.specs.declared.Day.{Day}
use Rattle.calendar.specs.declared.Reading.{Reading}
use Rattle.calendar.specs.declared.Reading.TheVariants.{Present}
use Rattle.calendar.specs.Calendar.{on_calendar, no_later, is_before}
use Rattle.calendar.proofs.DateLaws.{date_fits}
use Rattle.layout.specs.declared.frame.Header.{Header}
use Rattle.layout.specs.Counters.{given_cycle}
use Rattle.layout.specs.Tables.{data_record, guide_row, field, date}
use Rattle.layout.specs.Fields.{function_of, date_of, date_by, row_function_of}
use Rattle.layout.specs.Rules.{record_fault, row_fault}
use Rattle.rules.proofs.WideLaws.{wide_whole, wide_good}
use Rattle.rules.specs.declared.Kind.{Kind}
use Rattle.rules.specs.declared.Kind.TheVariants.{Data, Guide}
use Rattle.rules.specs.declared.Code.{Code}
use Rattle.rules.specs.declared.Code.TheVariants.{Insert, Change, Delete, Unlock, Migrate}
use Rattle.rules.specs.declared.RowCode.{RowCode}
use Rattle.rules.specs.declared.RowCode.TheVariants.{Insert as InsertRow, Delete as DeleteRow}
use Rattle.rules.specs.Walks.{find}
use Rattle.rules.specs.Slots.{place, good_length, slots, slot_at, state_of, slot_day, record_of, slot_of, is_free, is_held, is_used, is_zero, is_entry_code, fits_slot, day_fits, used_sound, slot_sound, slot_sound_by, unsound_slot, register_sound, unsound_by, register_sound_by, row_slots, row_slot_at, with_row_slot, is_present, is_vacant, row_of, row_slot_of, free_row_slot, present_sound, row_slot_sound, unsound_row_slot, guide_sound}
use Rattle.rules.specs.Records.{coded_of, filed_of, stores, state_after, shown, applied}
use Rattle.rules.specs.Rows.{row_code_of, row_applied}
use Rattle.rules.specs.Takes.{Stores, shape_of, line_fault, lines_in, line_at, checked, refused_file, line_applied, after, answer_at, applied_file, taken}
use Rattle.rules.specs.Demands.{File, Office, start, taking, run, present_at, SoundStores, NoneUnsound}
use Rattle.rules.proofs.WalkLaws.{clash-bool, find_none, find_nowhere, is_none_lem}
use Rattle.rules.proofs.SlotLaws.{Whole, WholeRow, state_slot, day_slot, record_slot, present_row, row_slot, length_row_slot, length_free, whole_row_at, zero_zeros, zero_row_sound, empty_sound, empty_guide_sound}
use Rattle.rules.proofs.EsnLaws.{date_shown, function_shown}
use Rattle.rules.proofs.View.{Place, own, new, Content, stored, kept, Took, RowTook, added, removed, late}
use Rattle.rules.proofs.TakeLaws.{accepted, accepted_took, row_accepted_took, line_not, refused_stores, good_stores, refused_is, good_is}
use Rattle.rules.proofs.GoodLaws.{GoodFile, checked_by, good_file_lem, line_long}
use Rattle.rules.proofs.KeepStores.{used_after, content_ok, same_length, same_slots, slot_it, slot_else, RowAfter, row_it, row_else, row_after, put_length, put_slots}
use Rattle.rules.proofs.SoundLaws.{fault_shown, esn_filled}

-- ---- a store is sound exactly if its length is good and each slot is sound

-- a store of places of w bytes, place by place: its length is good, and each place passes a test
pub record AllSound (w : ℕ) (p : List ℕ → Bool) (s : List ℕ) : Type 0 where
  pub long : good_length w s ≡ true
  pub each : (i : ℕ) → i < length s / w → p (place w s i) ≡ true

module _ (w : ℕ) (p : List ℕ → Bool) (s : List ℕ) where
  -- it is so if no place fails
  all_sound : good_length w s && is_none (find (λ i. not (p (place w s i))) (length s / w)) ≡ true → AllSound w p s
  all_sound e =
      let l = good_length w s in
      let o = find (λ i. not (p (place w s i))) (length s / w) in
      record {
        long = and_left l (is_none o) e;
        each = λ i h.
            not-false (p (place w s i))
            (find_none (λ i. not (p (place w s i))) (length s / w) (is_none_lem o (and_right l (is_none o) e)) i h);
      }

  -- and no place fails if it is so
  none_fails : AllSound w p s → good_length w s && is_none (find (λ i. not (p (place w s i))) (length s / w)) ≡ true
  none_fails a =
      let o : find (λ i. not (p (place w s i))) (length s / w) ≡ None =
      find_nowhere (λ i. not (p (place w s i))) (length s / w) (λ i h. rw (a.each i h)) in
      rw (a.long, o) refl

-- a register, and a guide, slot by slot
abbrev pub SlotsSound : List ℕ → Type 0
SlotsSound R = AllSound 520 slot_sound R

abbrev RowsSound : List ℕ → Type 0
RowsSound G = AllSound 208 row_slot_sound G

pub slots_sound : (R : List ℕ) → register_sound R ≡ true → SlotsSound R
unfolding register_sound unsound_slot
slots_sound R e = all_sound 520 slot_sound R e

-- and by either reading of dates
pub slots_sound_by : (x : Reading) (R : List ℕ) → register_sound_by x R ≡ true → AllSound 520 (slot_sound_by x) R
unfolding register_sound_by unsound_by
slots_sound_by x R e = all_sound 520 (slot_sound_by x) R e

pub register_sound_lem : (R : List ℕ) → SlotsSound R → register_sound R ≡ true
unfolding register_sound unsound_slot
register_sound_lem R s = none_fails 520 slot_sound R s

rows_sound : (G : List ℕ) → guide_sound G ≡ true → RowsSound G
unfolding guide_sound unsound_row_slot
rows_sound G e = all_sound 208 row_slot_sound G e

guide_sound_lem : (G : List ℕ) → RowsSound G → guide_sound G ≡ true
unfolding guide_sound unsound_row_slot
guide_sound_lem G s = none_fails 208 row_slot_sound G s

-- the length alone decides whether it is good
pub same_good : (w : ℕ) (s t : List ℕ) → length t ≡ length s → good_length w s ≡ true → good_length w t ≡ true
unfolding good_length
same_good w s t l e = rw l e

-- ---- what a record of good form reads as

-- its date is d, which a slot can have, and its function byte is that of an entry if the code stores
record Reads (r : List ℕ) (c : Code) (d : Day) : Type 0 where
  dated : date_of r ≡ Some d
  coded : stores c ≡ true → is_entry_code (function_of r) ≡ true
  fits : on_calendar d ≡ true

-- its date is a day that a slot can have
pub record_fits : (r : List ℕ) → no_later (date_of r) ≡ true
unfolding date_of
record_fits r = date_fits (field data_record date r)

-- no record is one with a code and a date
no_record : {A : Type 0} (c : Code) (d : Day) → ◌≡◌ {A = Option (Code × Day)} None (Some (c, d)) → A
no_record c d e = absurd (none-some (c, d) e)

-- the byte of a code
coded_as : (b : ℕ) (x : Day) (c : Code) (d : Day) → coded_of b x ≡ Some (c, d) → (x ≡ d) × (stores c ≡ true → is_entry_code b ≡ true)
coded_as b x c d e = go (eqb b 73) refl (eqb b 67) refl (eqb b 68) (eqb b 85) (eqb b 77) refl e
  where
    made : (k : Code) → (stores k ≡ true → is_entry_code b ≡ true) → ◌≡◌ {A = Option (Code × Day)} (Some (k, x)) (Some (c, d))
        → (x ≡ d) × (stores c ≡ true → is_entry_code b ≡ true)
    made k f e =
        let p : ◌≡◌ {A = Code × Day} (k, x) (c, d) = same_Some (k, x) (c, d) e in
        let i : c ≡ k = sym (ap (λ (y : Code × Day). y.0) p) in
        (ap (λ (y : Code × Day). y.1) p, λ s. f (rw i at s))

    go : (i : Bool) → eqb b 73 ≡ i → (g : Bool) → eqb b 67 ≡ g → (y u m : Bool) → eqb b 77 ≡ m
        → ◌≡◌ {A = Option (Code × Day)}
        (cond i (Some (Insert, x)) (cond g (Some (Change, x)) (cond y (Some (Delete, x)) (cond u (Some (Unlock, x)) (cond m (Some (Migrate, x)) None)))))
        (Some (c, d))
        → (x ≡ d) × (stores c ≡ true → is_entry_code b ≡ true)
    go true p g q y u m w e = made Insert (λ s. rw p) e
    go false p true q y u m w e = made Change (λ s. rw (p, q)) e
    go false p false q true u m w e = made Delete (λ s. clash-bool s refl) e
    go false p false q false true m w e = made Unlock (λ s. clash-bool s refl) e
    go false p false q false false true w e = made Migrate (λ s. rw (p, q, w)) e
    go false p false q false false false w e = no_record c d e

-- a record with a code and a date reads so
reads : (r : List ℕ) (c : Code) (d : Day) → filed_of r ≡ Some (c, d) → Reads r c d
unfolding filed_of
reads r c d e = go (eqb (length r) 512) (date_of r) refl e
  where
    go : (b : Bool) (x : Option Day) → date_of r ≡ x → cond b (on_some x None (λ y. coded_of (function_of r) y)) None ≡ Some (c, d)
        → Reads r c d
    go false x q e = no_record c d e
    go true None q e = no_record c d e
    go true (Some x) q e =
        let f = coded_as (function_of r) x c d e in
        record { dated = q ∙ ap Some f.0; coded = f.1; fits = rw (q ∙ ap Some f.0) at (record_fits r) }

-- ---- a slot that is written

-- a used state is not free
not_free : (b : ℕ) → is_used b ≡ true → is_free b ≡ false
not_free b u = let h = leb-true 1 b (and_left (leb 1 b) (leb b 3) u) in ne_eqb b 0 (omega arith)

-- bytes 5 to 7 are zero
pub zeros_slot : (b : ℕ) (d : Day) (r : List ℕ) → is_zero (part 5 3 (slot_of b d r)) ≡ true
unfolding slot_of is_zero
zeros_slot b d r = refl

-- it is sound, if its record fits and its day does
pub slot_sound_lem : (b : ℕ) (d : Day) (r : List ℕ) → Whole r → is_used b ≡ true → on_calendar d ≡ true → fits_slot r ≡ true
    → on_some (date_of r) false (λ x. day_fits b d x) ≡ true → slot_sound (slot_of b d r) ≡ true
unfolding slot_sound used_sound
slot_sound_lem b d r w u c f e =
    let l = leb-true d.0 36524 c in
    let h : d.0 < 4294967296 = omega arith in
    rw (state_slot b d r, not_free b u, u, zeros_slot b d r, record_slot b d r w, f, day_slot b d r h) e

-- what a used slot that is sound has in it, by either reading of dates
pub record UsedBy (x : Reading) (s : List ℕ) : Type 0 where
  pub zeros : is_zero (part 5 3 s) ≡ true
  pub fits : fits_slot (record_of s) ≡ true
  pub dated : on_some (date_by x (record_of s)) false (λ d. day_fits (state_of s) (slot_day s) d) ≡ true

pub used_by : (x : Reading) (s : List ℕ) → slot_sound_by x s ≡ true → is_used (state_of s) ≡ true → UsedBy x s
used_by x s e u =
    let a = is_used (state_of s) in
    let b = is_zero (part 5 3 s) in
    let c = fits_slot (record_of s) in
    let d = on_some (date_by x (record_of s)) false (λ d. day_fits (state_of s) (slot_day s) d) in
    let f : a && (b && (c && d)) ≡ true = rw (not_free (state_of s) u) at e in
    let g = and_right a (b && (c && d)) f in
    let h = and_right b (c && d) g in
    record { zeros = and_left b (c && d) g; fits = and_left c d h; dated = and_right c d h }

-- and as dates are read now
abbrev pub Used : List ℕ → Type 0
Used s = UsedBy Present s

pub used_sound_lem : (s : List ℕ) → slot_sound s ≡ true → is_used (state_of s) ≡ true → Used s
unfolding slot_sound used_sound
used_sound_lem s e u = used_by Present s e u

-- a day is not before itself
not_before : (d : Day) → is_before d d ≡ false
not_before d = le-ltb d.0 d.0 (omega arith)

-- a record that is stored has its own day
day_stored : (c : Code) (d : Day) → stores c ≡ true → on_calendar d ≡ true → day_fits (state_after c) d d ≡ true
unfolding day_fits
day_stored c d s e = rw (not_before d, e) (go (is_held (state_after c)))
  where
    go : (b : Bool) → (not b || true) && true ≡ true
    go true = refl
    go false = refl

-- a U or D comes no earlier than the day of the slot, which is no earlier than its record's
day_kept : (c : Code) (b : ℕ) (d e x : Day) → stores c ≡ false → is_before d e ≡ false → on_calendar d ≡ true
    → day_fits b e x ≡ true → day_fits (state_after c) d x ≡ true
unfolding day_fits
day_kept c b d e x s l o f =
    let p = not (is_before e x) in
    let q = (not (is_held b) || not (is_before x e)) && on_calendar e in
    let y = not-true (is_before e x) (and_left p q f) in
    let i = ltb-false d.0 e.0 l in
    let j = ltb-false e.0 x.0 y in
    let g : is_before d x ≡ false = le-ltb d.0 x.0 (omega arith) in
    rw (g, o) (go c s)
  where
    go : (c : Code) → stores c ≡ false → (not (is_held (state_after c)) || not (is_before x d)) && true ≡ true
    go Insert s = clash-bool refl s
    go Change s = clash-bool refl s
    go Delete s = refl
    go Unlock s = refl
    go Migrate s = clash-bool refl s

-- so it is for the date that a record has, if it has one
date_kept : (c : Code) (b : ℕ) (d e : Day) (x : Option Day) → stores c ≡ false → is_before d e ≡ false → on_calendar d ≡ true
    → on_some x false (λ x. day_fits b e x) ≡ true → on_some x false (λ x. day_fits (state_after c) d x) ≡ true
date_kept c b d e (Some x) s l o f = day_kept c b d e x s l o f
date_kept c b d e None s l o f = f

-- ---- a row in a sound guide

-- its slot is not vacant
present_not_vacant : (s : List ℕ) → is_present s ≡ true → is_vacant s ≡ false
unfolding is_present is_vacant
present_not_vacant s p = rw (eqb-true (get_or s 0 0) 1 p) refl

-- it is of good form
row_good : (G : List ℕ) (k : ℕ) → RowsSound G → present_at G k → row_fault guide_row (row_of (row_slot_at G k)) ≡ 0
unfolding row_slot_sound present_sound
row_good G k gs u = go (row_slot_at G k) (gs.each k u.0) u.1
  where
    go : (s : List ℕ) → row_slot_sound s ≡ true → is_present s ≡ true → row_fault guide_row (row_of s) ≡ 0
    go s e p =
        let a = is_present s in
        let b = is_zero (part 1 7 s) in
        let c = eqb (row_fault guide_row (row_of s)) 0 in
        let d = eqb (row_function_of (row_of s)) 73 in
        let f : a && (b && (c && d)) ≡ true = rw (present_not_vacant s p) at e in
        eqb-true (row_fault guide_row (row_of s)) 0 (and_left c d (and_right b (c && d) (and_right a (b && (c && d)) f)))

-- ---- the register after a record that was accepted

module _ (R G : List ℕ) (h : Header) (r : List ℕ) (c : Code) (d : Day) (S : List ℕ) (k : Whole r) (t : Took R G h r c d S) (filed : filed_of r ≡ Some (c, d)) (good : record_fault data_record r ≡ 0) (rs : SlotsSound R) (gs : RowsSound G) where
  -- what an entry shows fits a slot
  fits_shown : (g : List ℕ) → WholeRow g → row_fault guide_row g ≡ 0 → is_entry_code (function_of r) ≡ true
      → fits_slot (shown r g) ≡ true
  unfolding fits_slot
  fits_shown g f v e = rw (fault_shown g r f k v good, function_shown g r f k, e, esn_filled g r f k v) refl

  -- what was written fits a slot, and so does its day
  content_sound : (fits_slot t.content ≡ true) × (on_some (date_of t.content) false (λ x. day_fits (state_after c) d x) ≡ true)
  content_sound = go t.place t.what
    where
      go : Place R r c d t.index → Content R G r c t.index t.content
          → (fits_slot t.content ≡ true) × (on_some (date_of t.content) false (λ x. day_fits (state_after c) d x) ≡ true)
      go p (stored s i there u e q) =
          let g = row_of (row_slot_at G i) in
          let f = whole_row_at G i there.0 in
          let v = row_good G i gs there in
          let x = reads r c d filed in
          rw q (fits_shown g f v (x.coded s), rw (date_shown g r f k, x.dated) (day_stored c d s x.fits))
      go (own u n a w l) (kept s q) =
          let old = slot_at R t.index in
          let o = used_sound_lem old (rs.each t.index u.0) u.1 in
          rw q (
            o.fits,
            date_kept c (state_of old) d (slot_day old) (date_of (record_of old)) s (late R t.index c d l)
                (reads r c d filed).fits o.dated,
          )
      go (new e b f) (kept s q) = clash-bool refl (rw e at s)

  -- each slot of the register is sound
  keep_slots : SlotsSound S
  keep_slots =
      record {
        long = same_good 520 R S (same_length R G h r c d S k t) rs.long;
        each = λ j l. go j (rw (same_slots R G h r c d S k t) at l) (ℕ_discrete j t.index);
      }
    where
      go : (j : ℕ) → j < slots R → Dec (j ≡ t.index) → slot_sound (slot_at S j) ≡ true
      go j l (yes e) =
          rw (e, slot_it R G h r c d S k t)
          (slot_sound_lem (state_after c) d t.content (content_ok R G h r c d S k t).0 (used_after c)
          (reads r c d filed).fits content_sound.0 content_sound.1)
      go j l (no n) = rw (slot_else R G h r c d S k t j n) (rs.each j l)

-- ---- the guide after a row that was accepted

-- the byte of code I
row_coded : (g : List ℕ) → row_code_of g ≡ (Some InsertRow) → eqb (row_function_of g) 73 ≡ true
unfolding row_code_of
row_coded g e = go (eqb (length g) 200) (eqb (row_function_of g) 73) (eqb (row_function_of g) 68) e
  where
    go : (l a b : Bool) → cond l (cond a (Some InsertRow) (cond b (Some DeleteRow) None)) None ≡ (Some InsertRow) → a ≡ true
    go true true b e = refl
    go true false true e = let z : ◌≡◌ {A = ℕ} 0 1 = cc in absurd (omega arith)
    go true false false e = let z : ◌≡◌ {A = ℕ} 0 1 = cc in absurd (omega arith)
    go false a b e = let z : ◌≡◌ {A = ℕ} 0 1 = cc in absurd (omega arith)

-- bytes 1 to 7 are zero
zeros_row : (g : List ℕ) → is_zero (part 1 7 (row_slot_of g)) ≡ true
unfolding row_slot_of is_zero
zeros_row g = refl

-- a slot with a row of good form and code I in it
row_slot_sound_lem : (g : List ℕ) → WholeRow g → row_fault guide_row g ≡ 0 → row_code_of g ≡ (Some InsertRow)
    → row_slot_sound (row_slot_of g) ≡ true
unfolding row_slot_sound present_sound
row_slot_sound_lem g w e c =
    rw (present_not_vacant (row_slot_of g) (present_row g), present_row g, zeros_row g, row_slot g w, e, row_coded g c) refl

module _ (R G g : List ℕ) (c : Option RowCode) (K : List ℕ) (w : WholeRow g) (coded : row_code_of g ≡ c) (good : row_fault guide_row g ≡ 0) (gs : RowsSound G) where
  -- what is put into a slot is sound
  put_sound : (s : List ℕ) (k : ℕ) → k < row_slots G → length s ≡ 208 → K ≡ with_row_slot G k s → row_slot_sound s ≡ true
      → RowsSound K
  put_sound s k f l q e =
      record {
        long = same_good 208 G K (put_length G K s k f l q) gs.long;
        each = λ j h. go j (rw (put_slots G K s k f l q) at h) (row_after G K s k f l q j);
      }
    where
      go : (j : ℕ) → j < row_slots G → RowAfter G K s k j → row_slot_sound (row_slot_at K j) ≡ true
      go j h (row_it x y) = rw y e
      go j h (row_else x y) = rw y (gs.each j h)

  -- a free slot is all zero
  free_zero : is_zero free_row_slot ≡ true
  unfolding free_row_slot
  free_zero = zero_zeros 208

  -- each slot of the guide is sound
  keep_rows : RowTook R G g c K → RowsSound K
  keep_rows (added i k l v p e) =
      put_sound (row_slot_of g) k l (length_row_slot g w) e (row_slot_sound_lem g w good (coded ∙ i))
  keep_rows (removed i k l v p e) =
      put_sound free_row_slot k l.0 length_free e (zero_row_sound free_row_slot free_zero)

-- ---- over a line, a file, a run

-- a line that keeps the field rules and is answered 0
sound_line : (k : Kind) (h : Header) (l : List ℕ) (s : Stores) → length l ≡ (shape_of k).line → line_fault k l ≡ 0
    → (line_applied k h l s).answer ≡ 0 → SoundStores s → SoundStores (line_applied k h l s).stores
unfolding line_applied
sound_line (Data v) h l s x y e p =
    let r = (shape_of (Data v)).wide l in
    let w = wide_whole v l x in
    let g = wide_good v l x y in
    let R = s.register in
    let G = s.guide in
    let a = accepted R G h r e in
    record {
      register = register_sound_lem (applied R G h r).register
          (keep_slots R G h r a.code a.date (applied R G h r).register w (accepted_took R G h r a) a.filed g
          (slots_sound R p.register) (rows_sound G p.guide));
      guide = p.guide;
    }
sound_line Guide h g s w v e p =
    let R = s.register in
    let G = s.guide in
    record {
      register = p.register;
      guide = guide_sound_lem (row_applied R G h g).guide
          (keep_rows R G g (row_code_of g) (row_applied R G h g).guide w refl v (rows_sound G p.guide) (row_accepted_took R G h g e));
    }

-- the first i lines of a file that passes the checks
sound_lines : (k : Kind) (h : Header) (f : List ℕ) (s : Stores) (i : ℕ) → GoodFile k s f → i ≤ lines_in k f
    → SoundStores (after k h f s i)
unfolding after answer_at
sound_lines k h f s zero g l = record { register = g.register; guide = g.guide }
sound_lines k h f s (suc i) g l = go (sound_lines k h f s i g (omega arith)) (ℕ_discrete (answer_at k h f s i) 0)
  where
    go : SoundStores (after k h f s i) → Dec (answer_at k h f s i ≡ 0) → SoundStores (after k h f s (suc i))
    go p (yes e) = sound_line k h (line_at k f i) (after k h f s i) (line_long k f i g.long l) (g.lines i l) e p
    go p (no e) = rw (line_not k h (line_at k f i) (after k h f s i) e) p

-- a file, taken or refused
sound_file : (f : File) (o : Office) → SoundStores o.stores → SoundStores (taking f o).stores
unfolding taking
sound_file f o p = go (checked f.kind o.stores f.bytes (length f.answers) (given_cycle f.last)) refl
  where
    go : (c : Result Header Refusal) → checked f.kind o.stores f.bytes (length f.answers) (given_cycle f.last) ≡ c
        → SoundStores (taking f o).stores
    go (Ok h) e =
        rw (good_stores f.kind o.stores f.bytes f.answers f.last h e)
        (sound_lines f.kind h f.bytes o.stores (lines_in f.kind f.bytes)
        (good_file_lem f.kind o.stores f.bytes (length f.answers) (given_cycle f.last) h e) (omega arith))
    go (Err r) e = rw (refused_stores f.kind o.stores f.bytes f.answers f.last r e) p

-- a run of files
pub sound_files : (fs : List File) (o : Office) → SoundStores o.stores → SoundStores (run fs o).stores
unfolding run
sound_files [] o p = p
sound_files (f ∷ fs) o p = sound_files fs (taking f o) (sound_file f o p)

-- after any run from 1 to 4096 empty slots of each kind, both stores are sound
pub run_sound : (n m : ℕ) → 1 ≤ n → n ≤ 4096 → 1 ≤ m → m ≤ 4096 → (files : List File)
    → SoundStores (run files (start n m)).stores
unfolding start
run_sound n m a b c d files =
    sound_files files (start n m) (record { register = empty_sound n a b; guide = empty_guide_sound m c d })

-- ---- what sound stores are not refused by

-- what the checks of sound stores say is good, or has a number above 2
abbrev Above : Result Header Refusal → Type 0
Above (Ok h) = Unit {0}
Above (Err r) = 2 < r.number

-- a file is not refused by 1 or 2
not_unsound : (k : Kind) (s : Stores) (f answers : List ℕ) (last : ℕ) → SoundStores s
    → ((taken k s f answers last).result.refusal ≢ 1) × ((taken k s f answers last).result.refusal ≢ 2)
unfolding refused_file applied_file
not_unsound k s f answers last p = go (checked k s f (length answers) (given_cycle last)) refl
  where
    above : Above (checked k s f (length answers) (given_cycle last))
    above =
        checked_by Above k s f (length answers) (given_cycle last) (λ e. clash-bool p.register e) (λ e. clash-bool p.guide e)
        (omega arith) (omega arith) (omega arith) (omega arith) (omega arith) (omega arith) (λ i j. omega arith) (λ h g. tt)

    go : (c : Result Header Refusal) → checked k s f (length answers) (given_cycle last) ≡ c
        → ((taken k s f answers last).result.refusal ≢ 1) × ((taken k s f answers last).result.refusal ≢ 2)
    go (Ok h) e = rw (good_is k s f answers last h e) (omega arith)
    go (Err r) e = let l : 2 < r.number = rw e at above in rw (refused_is k s f answers last r e) (omega arith)

-- so no file that follows a run is refused by 1 or 2
pub run_not_unsound : (n m : ℕ) → 1 ≤ n → n ≤ 4096 → 1 ≤ m → m ≤ 4096 → (files : List File)
    → NoneUnsound (run files (start n m)).stores
unfolding NoneUnsound
run_not_unsound n m a b c d files f =
    not_unsound f.kind (run files (start n m)).stores f.bytes f.answers f.last (run_sound n m a b c d files)

-- The entries of a sound register, inserted one after the other into an empty one: each goes into the next free slot.
-- Assumes nothing.
use Rattle.std.proofs.lemmas.Bool.{not-true}
use Rattle.std.specs.Prelude.{Option, Some, None}
use mathlib.Core.Path.{◌≡◌, refl, sym, ap, ◌∙◌}
use mathlib.Core.Logic.{◌≢◌}
use mathlib.Core.Bool.{Bool, true, false, ◌&&◌, ◌||◌, not}
use mathlib.Core.List.{List, ◌++◌}
use Prim.Native.Nat.{ℕ, suc, ◌+◌, ◌*◌, ◌-◌, ◌≤◌, ◌<◌}
use native.Mathlib.Decide.{ℕ_discrete, dec_lt}
use native.Mathlib.Omega.{arith}
use lib.Dec.{eqb}
use lib.ListN.{length, replicate, length-replicate, replicate-append-replicate}
use borrow.Author.Tests.{eqb-true, leb-true, ltb-false}
use Rattle.text.specs.Text.{part, on_some}
use Rattle.text.proofs.Laws.{and_left, and_right, and_false, same_refl}
use Rattle.calendar.specs.declared.Day.{Day}
use Rattle.calendar.specs.Calendar.{is_before, on_calendar, no_later}
use Rattle.layout.specs.declared.frame.Header.{Header}
use Rattle.layout.specs.Tables.{data_record}
use Rattle.layout.specs.Fields.{function_of, number_of, esn_of, has_esn, date_of, row_esn_of, for_load}
use Rattle.layout.specs.Rules.{is_lax, record_fault}
use Rattle.rules.specs.declared.Code.TheVariants.{Insert}
use Rattle.rules.specs.Walks.{find, count, first}
use Rattle.rules.specs.Slots.{place, slots, slot_at, with_slot, state_of, slot_day, record_of, slot_of, is_held, is_used, is_entry_code, fits_slot, day_fits, register_sound, row_slot_at, row_of}
use Rattle.rules.specs.Records.{filed_of, has_number, find_number, find_row, free_at, find_free, find_spare, answer_of, shown, register_after, step, applied}
use Rattle.rules.specs.Loads.{entry_at}
use Rattle.rules.specs.Demands.{live_at}
use Rattle.rules.specs.Circle.{OneEntry, Zoned}
use Rattle.rules.proofs.WalkLaws.{clash-bool, find_nowhere, find_hit}
use Rattle.rules.proofs.SlotLaws.{Whole, zero_zeros, zero_free, state_slot, record_slot, length_slot, whole_at, slot_same, slot_other, length_with}
use Rattle.rules.proofs.KeepStores.{used_live, differ}
use Rattle.rules.proofs.KeepSound.{slots_sound, record_fits, Used, used_sound_lem}
use Rattle.rules.proofs.FrameLaws.{part_at}
use Rattle.rules.proofs.LoadLaws.{whole_load, function_load, number_load, esn_load, has_load, date_load, row_load}
use Rattle.rules.proofs.FileLaws.{count_below, CountedAs, counted_as}

-- ---- an entry of a sound register

-- the date in a record
abbrev pub day_in : List ℕ → Day
day_in r = on_some (date_of r) (record { 0 = 0 }) (λ d. d)

-- the slot that its line fills
abbrev pub copy_of : List ℕ → List ℕ
copy_of r = slot_of 1 (day_in r) (for_load r)

-- what is known of it
pub record Entry (s : List ℕ) : Type 0 where
  pub good : record_fault data_record (record_of s) ≡ 0
  pub strict : is_lax (function_of (record_of s)) ≡ false
  pub zoned : has_esn (record_of s) ≡ true
  pub dated : date_of (record_of s) ≡ Some (day_in (record_of s))
  pub small : (day_in (record_of s)).0 ≤ 36524
  pub early : is_before (slot_day s) (day_in (record_of s)) ≡ false
  pub same : is_held (state_of s) ≡ true → day_in (record_of s) ≡ slot_day s

-- I, C and M may not leave a field blank
not_lax : (b : ℕ) → is_entry_code b ≡ true → is_lax b ≡ false
not_lax b e = go (eqb b 73) refl (eqb b 67) refl e
  where
    go : (x : Bool) → eqb b 73 ≡ x → (y : Bool) → eqb b 67 ≡ y → (x || y) || eqb b 77 ≡ true → is_lax b ≡ false
    go true p y q e = rw (eqb-true b 73 p) refl
    go false p true q e = rw (eqb-true b 67 q) refl
    go false p false q e = rw (eqb-true b 77 e) refl

-- days of one number are one day
same_day : (d e : Day) → d.0 ≡ e.0 → d ≡ e
same_day d e p = ap (λ (x : ℕ). record { 0 = x }) p

-- a date that fits: no later than the day, and the same if it is held
day_early : (b : ℕ) (day date : Day) → day_fits b day date ≡ true → is_before day date ≡ false
unfolding day_fits
day_early b day date e =
    not-true (is_before day date)
    (and_left (not (is_before day date)) ((not (is_held b) || not (is_before date day)) && on_calendar day) e)

day_held : (b : ℕ) (day date : Day) → day_fits b day date ≡ true → is_held b ≡ true → date ≡ day
unfolding day_fits
day_held b day date e h =
    let p = not (is_before day date) in
    let q = not (is_held b) || not (is_before date day) in
    let x = and_left q (on_calendar day) (and_right p (q && on_calendar day) e) in
    let y : not (is_before date day) ≡ true = rw h at x in
    let i = ltb-false date.0 day.0 (not-true (is_before date day) y) in
    let j = ltb-false day.0 date.0 (day_early b day date e) in
    same_day date day (omega arith)

-- an entry of a sound register is so
pub entry_is : (R : List ℕ) → register_sound R ≡ true → (i : ℕ) → live_at R i → Entry (slot_at R i)
unfolding fits_slot
entry_is R e i u =
    let s = slot_at R i in
    let v = used_sound_lem s ((slots_sound R e).each i u.0) (used_live (state_of s) u.1) in
    go s v (date_of (record_of s)) refl v.dated (record_fits (record_of s))
  where
    go : (s : List ℕ) → Used s → (x : Option Day) → date_of (record_of s) ≡ x
        → on_some x false (λ d. day_fits (state_of s) (slot_day s) d) ≡ true → no_later (date_of (record_of s)) ≡ true → Entry s
    go s v None q d l = clash-bool d refl
    go s v (Some x) q d l =
        let a = eqb (record_fault data_record (record_of s)) 0 in
        let b = is_entry_code (function_of (record_of s)) in
        let c = has_esn (record_of s) in
        let w = and_right a (b && c) v.fits in
        let z : day_in (record_of s) ≡ x = rw q in
        record {
          good = eqb-true (record_fault data_record (record_of s)) 0 (and_left a (b && c) v.fits);
          strict = not_lax (function_of (record_of s)) (and_left b c w);
          zoned = and_right b c w;
          dated = q ∙ ap Some (sym z);
          small = rw q (leb-true x.0 36524 (rw q at l));
          early = rw q (day_early (state_of s) (slot_day s) x d);
          same = λ h. z ∙ day_held (state_of s) (slot_day s) x d h;
        }

-- ---- an insert that is taken

-- a record of 512 bytes with code I and a date
filed_load : (r : List ℕ) → Whole r → date_of r ≡ Some (day_in r) → filed_of (for_load r) ≡ Some (Insert, (day_in r))
unfolding filed_of
filed_load r w d = rw (whole_load r w, date_load r w, d, function_load r w)

-- r is inserted under the row in guide slot g, into the spare slot k
insert_done : (E G : List ℕ) (h : Header) (r : List ℕ) (d : Day) (g k : ℕ) → filed_of r ≡ Some (Insert, d)
    → is_before h.day d ≡ false → has_esn r ≡ true → find_number (number_of r) E ≡ None → find_row r G ≡ Some g
    → esn_of r ≡ row_esn_of (row_of (row_slot_at G g)) → find_spare h.day E ≡ Some k
    → applied E G h r ≡ record { answer = 0; register = with_slot E k (slot_of 1 d r) }
unfolding applied step answer_of register_after first shown
insert_done E G h r d g k f t w m o z p =
    rw (f, m, o, p, t, w, z, same_refl (row_esn_of (row_of (row_slot_at G g))))

-- ---- what is reached after the first i slots of R: the register E, of n slots

pub record Reached (R : List ℕ) (n i : ℕ) (E : List ℕ) : Type 0 where
  pub sized : length E ≡ n * 520
  pub back : (j : ℕ) → j < i → entry_at R j ≡ true → slot_at E (count (entry_at R) j) ≡ copy_of (record_of (slot_at R j))
  pub free : (x : ℕ) → count (entry_at R) i ≤ x → x < n → slot_at E x ≡ replicate 520 0

-- n zeros
abbrev zeros : ℕ → List ℕ
zeros n = replicate n 0

zeros_length : (n : ℕ) → length (zeros n) ≡ n
zeros_length n = length-replicate n 0

-- a slot of zeros is zeros
zero_slot : (n x : ℕ) → x < n → slot_at (zeros (n * 520)) x ≡ zeros 520
unfolding place
zero_slot n x h =
    let a : ℕ = x * 520 in
    let m : ℕ = n * 520 - (a + 520) in
    let e : n * 520 ≡ a + (520 + m) = omega arith in
    let f : zeros a ++ (zeros 520 ++ zeros m) ≡ zeros (a + (520 + m)) =
    ap (λ y. zeros a ++ y) (replicate-append-replicate 520 m 0) ∙ replicate-append-replicate a (520 + m) 0 in
    ap (λ y. part a 520 (zeros y)) e ∙ ap (part a 520) (sym f)
    ∙ part_at (zeros a) (zeros 520) (zeros m) a 520 (zeros_length a) (zeros_length 520)

-- at the beginning every slot is free
pub reached_none : (R : List ℕ) (n : ℕ) → Reached R n 0 (zeros (n * 520))
reached_none R n =
    record { sized = zeros_length (n * 520); back = λ j l e. absurd (omega arith); free = λ x l h. zero_slot n x h }

-- past a slot without an entry nothing is written
pub reached_skip : (R : List ℕ) (n i : ℕ) (E : List ℕ) → Reached R n i E → entry_at R i ≡ false → Reached R n (suc i) E
unfolding count
reached_skip R n i E p e =
    record {
      sized = p.sized;
      back = λ j l f. go j l f (ℕ_discrete j i);
      free = λ x l h. p.free x (omega (arith, rw e at l)) h;
    }
  where
    go : (j : ℕ) → j < suc i → entry_at R j ≡ true → Dec (j ≡ i) → slot_at E (count (entry_at R) j) ≡ copy_of (record_of (slot_at R j))
    go j l f (yes q) = clash-bool f (rw q e)
    go j l f (no q) = p.back j (omega arith) f

-- slot i has an entry, and there is room
module _ (R : List ℕ) (n i : ℕ) (E : List ℕ) (p : Reached R n i E) (l : i < slots R) (e : entry_at R i ≡ true) (room : count (entry_at R) i < n) where
  -- its place, and what is written there
  abbrev k : ℕ
  k = count (entry_at R) i

  abbrev r : List ℕ
  r = record_of (slot_at R i)

  many : slots E ≡ n
  many = rw p.sized (omega arith)

  copy_long : length (copy_of r) ≡ 520
  copy_long = length_slot 1 (day_in r) (for_load r) (whole_load r (whole_at R i l))

  within : k < slots E
  within = rw many room

  -- one entry more is back
  pub reached_more : Reached R n (suc i) (with_slot E k (copy_of r))
  unfolding count
  reached_more =
      record {
        sized = length_with E k within (copy_of r) copy_long ∙ p.sized;
        back = λ j h f. go j h f (ℕ_discrete j i);
        free = λ x h b.
            let y : k + 1 ≤ x = rw e at h in
            slot_other E k within (copy_of r) copy_long x (omega arith) ∙ p.free x (omega arith) b;
      }
    where
      go : (j : ℕ) → j < suc i → entry_at R j ≡ true → Dec (j ≡ i)
          → slot_at (with_slot E k (copy_of r)) (count (entry_at R) j) ≡ copy_of (record_of (slot_at R j))
      go j h f (yes q) = rw q (slot_same E k within (copy_of r) copy_long)
      go j h f (no q) =
          let b : j < i = omega arith in
          let x = count_below (entry_at R) j i b f in
          slot_other E k within (copy_of r) copy_long (count (entry_at R) j) (omega arith) ∙ p.back j b f

  -- below its place stands an entry of a slot before slot i
  below_is : (x : ℕ) (c : CountedAs (entry_at R) i x) → slot_at E x ≡ copy_of (record_of (slot_at R c.it))
  below_is x c = ap (slot_at E) (sym c.counts) ∙ p.back c.it c.below c.passes

  -- from its place on nothing does
  above_is : (x : ℕ) → k ≤ x → x < n → state_of (slot_at E x) ≡ 0
  above_is x h b = ap state_of (p.free x h b) ∙ zero_free (zeros 520) (zero_zeros 520)

  -- so it is the lowest free slot
  spare_there : (today : Day) → find_spare today E ≡ Some k
  unfolding find_spare find_free free_at
  spare_there today = rw (find_hit (free_at E) (slots E) k none (rw (above_is k (omega arith) room)) within)
    where
      taken : (x : ℕ) → CountedAs (entry_at R) i x → free_at E x ≡ false
      taken x c =
          let o = record_of (slot_at R c.it) in
          ap (λ s. eqb (state_of s) 0) (below_is x c) ∙ rw (state_slot 1 (day_in o) (for_load o))

      none : find (free_at E) k ≡ None
      none = find_nowhere (free_at E) k (λ x h. taken x (counted_as (entry_at R) i x h))

  -- and no slot has its number
  number_absent : OneEntry R → find_number (number_of (for_load r)) E ≡ None
  unfolding OneEntry find_number has_number entry_at
  number_absent one =
      find_nowhere (has_number (number_of (for_load r)) E) (slots E) (λ x h. go x (rw many at h) (dec_lt x k))
    where
      other : (x : ℕ) → CountedAs (entry_at R) i x → number_of (record_of (slot_at E x)) ≢ number_of (for_load r)
      other x c f =
          let o = record_of (slot_at R c.it) in
          let v : c.it < slots R = omega (arith, c.below) in
          let w = whole_load o (whole_at R c.it v) in
          let q : number_of (record_of (slot_at E x)) ≡ number_of o =
          ap (λ s. number_of (record_of s)) (below_is x c) ∙ ap number_of (record_slot 1 (day_in o) (for_load o) w)
          ∙ number_load o (whole_at R c.it v) in
          let z : c.it ≡ i = one c.it i (v, c.passes) (l, e) (sym q ∙ f ∙ number_load r (whole_at R i l)) in
          omega (arith, c.below)

      go : (x : ℕ) → x < n → Dec (x < k) → has_number (number_of (for_load r)) E x ≡ false
      go x h (yes b) =
          let a = number_of (record_of (slot_at E x)) in
          rw (differ a (number_of (for_load r)) (other x (counted_as (entry_at R) i x b))) (and_false (is_used (state_of (slot_at E x))))
      go x h (no b) = rw (above_is x (omega arith) h)

  -- so its line is answered 0, and fills that slot
  pub line_done : (G : List ℕ) (h : Header) (g : ℕ) → OneEntry R → Entry (slot_at R i) → Zoned G r g
      → is_before h.day (day_in r) ≡ false
      → applied E G h (for_load r) ≡ record { answer = 0; register = with_slot E k (copy_of r) }
  line_done G h g one t z b =
      let w = whole_at R i l in
      insert_done E G h (for_load r) (day_in r) g k (filed_load r w t.dated) b (has_load r w ∙ t.zoned) (number_absent one)
      (row_load r w G ∙ z.lowest) (esn_load r w ∙ z.zone) (spare_there h.day)

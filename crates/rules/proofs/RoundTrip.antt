-- THE ROUND TRIP: a load file written from a register with no number twice, and taken into an empty one, brings back every entry;
-- and what a run leaves is fit for it. Assumes nothing.
use Rattle.std.proofs.lemmas.Bool.{not-false}
use Rattle.text.specs.Text.{on_some}
use Rattle.std.specs.Prelude.{Option, Some, None, Ok}
use mathlib.Core.Path.{◌≡◌, refl, sym, ap, ◌∙◌, subst}
use mathlib.Core.Bool.{Bool, true, false, ◌&&◌, not, cond}
use mathlib.Core.List.{List, [], ◌∷◌, ◌++◌}
use Prim.Native.Nat.{ℕ, zero, suc, ◌+◌, ◌*◌, ◌≤◌, ◌<◌}
use native.Mathlib.Numerals.{add-one}
use native.Mathlib.Nat.{add-zero}
use native.Mathlib.Omega.{arith}
use lib.Dec.{leb, ltb, eqb}
use lib.ListN.{length, drop, get_or, replicate, replicate-append-replicate}
use lib.Seq.{take_at}
use borrow.Author.Tests.{leb-true, eqb-true, ltb-true, ltb-false, le-leb, le-ltb, eq-eqb}
use Rattle.text.proofs.Laws.{and_left, and_right}
use Rattle.calendar.specs.Calendar.{is_before}
use Rattle.layout.specs.declared.frame.Header.{Header}
use Rattle.layout.specs.Tables.{header_table, trailer_table, data_record, start_of, function, source}
use Rattle.layout.specs.declared.counter.Cycle.{Cycle}
use Rattle.layout.specs.Counters.{given_cycle, is_next_of}
use Rattle.layout.specs.Fields.{function_of, for_load}
use Rattle.layout.specs.Frames.{header_of, trailer_of}
use Rattle.versions.specs.declared.Version.{Version}
use Rattle.versions.specs.Versions.{fits_in}
use Rattle.rules.specs.declared.Kind.TheVariants.{Data}
use Rattle.rules.specs.Walks.{find, count}
use Rattle.rules.specs.Slots.{slots, slot_at, state_of, slot_day, record_of, with_slot, is_live, register_sound, row_slots, row_slot_at, is_present, row_of}
use Rattle.rules.specs.Covers.{covers}
use Rattle.rules.specs.Records.{is_over, find_row, Step, applied}
use Rattle.rules.specs.Takes.{Stores, shape_of, line_at, lines_in, bad_line, lines_checked, trailer_checked, frame_checked, checked, line_applied, after, answer_at, answers_to, zeros_in, applied_file, taken}
use Rattle.rules.specs.Loads.{entry_at, entries_in, header_for, trailer_for, load_file, load_size, load_header, later_at, wide_at, narrow_refusal, header_refusal, load_refusal, loaded}
use Rattle.rules.specs.Demands.{File, start, run, live_at, OneSlot, Lies, AllLie}
use Rattle.rules.specs.Circle.{OneEntry, AllZoned, Fit, Trip, file_of, Back, Returned, RoundTrip}
use Rattle.rules.proofs.WalkLaws.{clash-bool, and_both, and_rest, find_none, find_nowhere, find_hit}
use Rattle.rules.proofs.SlotLaws.{Whole, state_slot, day_slot, record_slot, whole_at, empty_sound}
use Rattle.rules.proofs.TakeLaws.{good_is}
use Rattle.rules.proofs.KeepStores.{used_live}
use Rattle.rules.proofs.Keep.{demand3}
use Rattle.rules.proofs.LoadLength.{load_length}
use Rattle.rules.proofs.FrameLaws.{cycle_read, trailer_read}
use Rattle.rules.proofs.LoadLaws.{whole_load, function_load, source_load, byte_load, wide_load, good_load}
use Rattle.rules.proofs.FileLaws.{CountedAs, counted_as, count_below, file_lines, file_good, file_header, file_trailer, file_line}
use Rattle.rules.proofs.TripLaws.{day_in, copy_of, Entry, entry_is, Reached, reached_none, reached_skip, reached_more, line_done}

-- ---- a load file that was written

-- what is known of it
pub record Written (v : Version) (R date company : List ℕ) (c room : ℕ) : Type 0 where
  pub sound : register_sound R ≡ true
  pub six : length date ≡ 6
  pub fifty : length company ≡ 50
  pub opening : Header
  pub opens : header_of (header_table (shape_of (Data v)).frame) (header_for v date company c) ≡ Some opening
  pub early : (i : ℕ) → live_at R i → is_before opening.day (slot_day (slot_at R i)) ≡ false
  pub narrow : (i : ℕ) → live_at R i → fits_in v (record_of (slot_at R i)) ≡ true
  pub fits : load_size v R ≤ room

-- it was not refused
not_refused : (v : Version) (R date company : List ℕ) (c : ℕ) (out : List ℕ) → (loaded v R date company c out).result.refusal ≡ 0
    → load_refusal v R date company c (length out) ≡ 0
unfolding loaded
not_refused v R date company c out e = go (eqb (load_refusal v R date company c (length out)) 0) refl
  where
    go : (b : Bool) → eqb (load_refusal v R date company c (length out)) 0 ≡ b → load_refusal v R date company c (length out) ≡ 0
    go true q = eqb-true (load_refusal v R date company c (length out)) 0 q
    go false q = rw q at e

-- a header that is there has date and name of the right lengths
header_there : (v : Version) (date company : List ℕ) (c : ℕ) (h : Header) → load_header v date company c ≡ Some h
    → (length date ≡ 6)
    × ((length company ≡ 50) × (header_of (header_table (shape_of (Data v)).frame) (header_for v date company c) ≡ Some h))
unfolding load_header
header_there v date company c h e = go (eqb (length date) 6) refl (eqb (length company) 50) refl e
  where
    go : (x : Bool) → eqb (length date) 6 ≡ x → (y : Bool) → eqb (length company) 50 ≡ y
        → cond (x && y) (header_of (header_table (shape_of (Data v)).frame) (header_for v date company c)) None ≡ Some h
        → (length date ≡ 6)
        × ((length company ≡ 50) × (header_of (header_table (shape_of (Data v)).frame) (header_for v date company c) ≡ Some h))
    go true p true q e = (eqb-true (length date) 6 p, (eqb-true (length company) 50 q, e))
    go true p false q e = let z : ◌≡◌ {A = ℕ} 0 1 = cc in absurd (omega arith)
    go false p y q e = let z : ◌≡◌ {A = ℕ} 0 1 = cc in absurd (omega arith)

-- so it was not refused by any of the tests
pub written_is : (v : Version) (R date company : List ℕ) (c room : ℕ) → load_refusal v R date company c room ≡ 0
    → Written v R date company c room
unfolding load_refusal header_refusal narrow_refusal later_at wide_at
written_is v R date company c room e = go (register_sound R) refl (load_header v date company c) refl e
  where
    room_there : (b : Bool) → leb (load_size v R) room ≡ b → ◌≡◌ {A = ℕ} (cond b 0 25) 0 → load_size v R ≤ room
    room_there true q z = leb-true (load_size v R) room q
    room_there false q z = absurd (omega arith)

    found : (h : Header) → register_sound R ≡ true → load_header v date company c ≡ Some h
        → (o : Option ℕ) → find (later_at h.day R) (slots R) ≡ o
        → (w : Option ℕ) → find (wide_at v R) (slots R) ≡ w
        → ◌≡◌ {A = ℕ} (on_some o (on_some w (cond (leb (load_size v R) room) 0 25) (λ i. 27)) (λ i. 26)) 0 → Written v R date company c room
    found h s q (Some i) f w g e = absurd (omega arith)
    found h s q None f (Some i) g e = absurd (omega arith)
    found h s q None f None g e =
        let t = header_there v date company c h q in
        record {
          narrow = λ i u.
              not-false (fits_in v (record_of (slot_at R i)))
              (and_rest (is_live (state_of (slot_at R i))) (not (fits_in v (record_of (slot_at R i)))) u.1
              (find_none (wide_at v R) (slots R) g i u.0));
          sound = s;
          six = t.0;
          fifty = t.1.0;
          opening = h;
          opens = t.1.1;
          early = λ i u.
              and_rest (is_live (state_of (slot_at R i))) (is_before h.day (slot_day (slot_at R i))) u.1
              (find_none (later_at h.day R) (slots R) f i u.0);
          fits = room_there (leb (load_size v R) room) refl e;
        }

    go : (b : Bool) → register_sound R ≡ b → (o : Option Header) → load_header v date company c ≡ o
        → ◌≡◌ {A = ℕ}
        (cond b (on_some o 26 (λ h. on_some (find (later_at h.day R) (slots R)) (narrow_refusal v R room) (λ i. 26))) 1) 0
        → Written v R date company c room
    go false s o q e = absurd (omega arith)
    go true s None q e = absurd (omega arith)
    go true s (Some h) q e = found h s q (find (later_at h.day R) (slots R)) refl (find (wide_at v R) (slots R)) refl e

-- the bytes written are the file
file_is : (v : Version) (R date company : List ℕ) (c : ℕ) (out : List ℕ) → load_refusal v R date company c (length out) ≡ 0
    → file_of v R date company c out ≡ load_file v R date company c
unfolding loaded
file_is v R date company c out e =
    rw e (take_at (load_file v R date company c) (drop (load_size v R) out) (load_size v R) (load_length v R date company c))

-- ---- its lines, one after the other

-- n empty slots, beside a guide
abbrev empty : ℕ → List ℕ → Stores
empty n G = record { register = replicate (n * 520) 0; guide = G }

-- what the first k lines leave, which are those of the first i slots of R: all answered 0
record Arrived (v : Version) (R G : List ℕ) (h : Header) (f : List ℕ) (n i k : ℕ) : Type 0 where
  reached : Reached R n i (after (Data v) h f (empty n G) k).register
  guided : (after (Data v) h f (empty n G) k).guide ≡ G
  answered : answers_to (Data v) h f (empty n G) k ≡ replicate k 0

-- as many answers of 0 as there are
zeros_counted : (k : ℕ) → zeros_in (replicate k 0) ≡ k
unfolding zeros_in
zeros_counted zero = refl
zeros_counted (suc k) = rw (zeros_counted k) (omega arith)

-- an entry of a sound register is back in the slot that its line fills
back_is : (s : List ℕ) → Whole (record_of s) → Entry s → Back s (copy_of (record_of s))
unfolding function_of
back_is s k e =
    let r = record_of s in
    let w = whole_load r k in
    let d : slot_day (copy_of r) ≡ day_in r = day_slot 1 (day_in r) (for_load r) (omega (arith, e.small)) in
    let q : record_of (copy_of r) ≡ for_load r = record_slot 1 (day_in r) (for_load r) w in
    record {
      state = state_slot 1 (day_in r) (for_load r);
      dated = e.dated ∙ ap Some (sym d);
      day = λ h. d ∙ e.same h;
      coded = ap (λ x. get_or x (start_of data_record function) 0) q ∙ function_load r k;
      marked = ap (λ x. get_or x (start_of data_record source) 0) q ∙ source_load r k;
      bytes = λ j a b. ap (λ x. get_or x j 0) q ∙ byte_load r k j a b;
    }

-- a cycle that is next is 1 to 999999
next_range : (last c : ℕ) → is_next_of (given_cycle last) (given_cycle c) ≡ true → (1 ≤ c) × (c ≤ 999999)
next_range last c e = go (ltb last 999999) refl (eqb last 999999) e
  where
    go : (x : Bool) → ltb last 999999 ≡ x → (y : Bool)
        → on_some (cond x (Some (given_cycle (last + 1))) (cond y (Some (given_cycle 1)) None)) false (λ t. eqb t.0 c)
        ≡ true
        → (1 ≤ c) × (c ≤ 999999)
    go true p y e =
        let l = ltb-true last 999999 p in
        let q = eqb-true (last + 1) c e in
        (omega arith, omega arith)
    go false p true e = let q = eqb-true 1 c e in (omega arith, omega arith)
    go false p false e = clash-bool e refl

module _ (v : Version) (R G date company : List ℕ) (c : ℕ) (out answers : List ℕ) (last n : ℕ)
    (t : Trip v R G date company c out answers last n) (w : Written v R date company c (length out)) where
  -- the file and its header
  abbrev f : List ℕ
  f = load_file v R date company c

  abbrev h : Header
  h = w.opening

  -- the stores after k lines
  abbrev left : ℕ → Stores
  left k = after (Data v) h f (empty n G) k

  -- the date of an entry is no later than the header's
  not_early : (i : ℕ) → live_at R i → is_before h.day (day_in (record_of (slot_at R i))) ≡ false
  not_early i u =
      let x = slot_day (slot_at R i) in
      let d = day_in (record_of (slot_at R i)) in
      let a = ltb-false h.day.0 x.0 (w.early i u) in
      let b = ltb-false x.0 d.0 (entry_is R w.sound i u).early in
      le-ltb h.day.0 d.0 (omega arith)

  -- there is room for each entry
  room_left : (i : ℕ) → live_at R i → count (entry_at R) i < n
  unfolding entry_at entries_in
  room_left i u = omega (arith, t.enough, count_below (entry_at R) i (slots R) u.0 u.1)

  -- the line of the entry in slot i is answered 0, and fills the next slot
  step_done : (i : ℕ) → live_at R i → Arrived v R G h f n i (count (entry_at R) i)
      → applied (left (count (entry_at R) i)).register (left (count (entry_at R) i)).guide h
      ((shape_of (Data v)).wide (line_at (Data v) f (count (entry_at R) i)))
      ≡ record {
        answer = 0;
        register = with_slot (left (count (entry_at R) i)).register (count (entry_at R) i) (copy_of (record_of (slot_at R i)));
      }
  unfolding entry_at AllZoned
  step_done i u a =
      let z = t.fit.zones i u in
      rw (
        a.guided,
        file_line v R date company c i u.0 u.1,
        wide_load v (record_of (slot_at R i)) (whole_at R i u.0) (w.narrow i u),
      )
      (line_done R n i (left (count (entry_at R) i)).register a.reached u.0 u.1 (room_left i u) G h z.0
      t.fit.numbers (entry_is R w.sound i u) z.1 (not_early i u))

  -- so all that came before slot i is back
  arrive : (i : ℕ) → i ≤ slots R → Arrived v R G h f n i (count (entry_at R) i)
  unfolding count after line_applied answers_to answer_at entry_at
  arrive zero l = record { reached = reached_none R n; guided = refl; answered = refl }
  arrive (suc i) l = go (arrive i (omega arith)) (entry_at R i) refl
    where
      go : Arrived v R G h f n i (count (entry_at R) i) → (b : Bool) → entry_at R i ≡ b
          → Arrived v R G h f n (suc i) (count (entry_at R) i + cond b 1 0)
      go a false e =
          rw (add-zero (count (entry_at R) i)) (record {
            reached = reached_skip R n i (left (count (entry_at R) i)).register a.reached e;
            guided = a.guided;
            answered = a.answered;
          })
      go a true e =
          let k : ℕ = count (entry_at R) i in
          let d = step_done i (l, e) a in
          rw (add-one k) (record {
            reached = subst (Reached R n (suc i)) (sym (ap (λ (x : Step). x.register) d))
                (reached_more R n i (left k).register a.reached l e (room_left i (l, e)));
            guided = a.guided;
            answered = ap (λ x. x ++ (answer_at (Data v) h f (empty n G) k ∷ [])) a.answered
                ∙ ap (λ (x : Step). replicate k 0 ++ (x.answer ∷ [])) d
                ∙ replicate-append-replicate k 1 0
                ∙ ap (λ m. replicate m 0) (add-one k);
          })

  -- ---- it passes the checks

  -- each of its lines keeps the field rules
  lines_keep : find (bad_line (Data v) f) (entries_in R) ≡ None
  unfolding bad_line entries_in entry_at
  lines_keep = find_nowhere (bad_line (Data v) f) (entries_in R) (λ x l. go x (counted_as (entry_at R) (slots R) x l))
    where
      go : (y : ℕ) → CountedAs (entry_at R) (slots R) y → bad_line (Data v) f y ≡ false
      go y k =
          let i = k.it in
          let x = entry_is R w.sound i (k.below, k.passes) in
          rw (
            ← k.counts,
            file_line v R date company c i k.below k.passes,
            good_load v (record_of (slot_at R i)) (whole_at R i k.below) (w.narrow i (k.below, k.passes)) x.strict x.good,
          )

  -- the header has the cycle that was given
  turned : h.cycle ≡ given_cycle c
  unfolding header_for
  turned =
      let x = next_range last c t.next in
      ap given_cycle (cycle_read v date company w.six w.fifty c h x.0 x.1 w.opens)

  -- the trailer has the count of its lines
  closes : trailer_of (trailer_table (shape_of (Data v)).frame) (header_for v date company c) (trailer_for v date company (entries_in R))
      ≡ Some (record { 0 = entries_in R })
  unfolding header_for trailer_for
  closes = trailer_read v date company w.six w.fifty c (entries_in R) h (omega (arith, t.enough, t.few)) w.opens

  -- and nothing is refused
  passes : checked (Data v) (empty n G) f (length answers) (given_cycle last) ≡ Ok h
  unfolding checked frame_checked trailer_checked lines_checked
  passes =
      rw (
        empty_sound n t.some t.few,
        t.guide,
        file_good v R date company c (omega (arith, t.enough, t.few)),
        file_lines v R date company c,
        le-leb (entries_in R) (length answers) t.room,
        file_header v R date company c,
        w.opens,
        ap (is_next_of (given_cycle last)) turned ∙ t.next,
        file_trailer v R date company c,
        closes,
        eq-eqb (entries_in R) (entries_in R) refl,
        lines_keep,
      )

  -- ---- what is returned

  -- after its last line all is back
  arrived : Arrived v R G h f n (slots R) (lines_in (Data v) f)
  unfolding entries_in
  arrived = rw (file_lines v R date company c) (arrive (slots R) (omega arith))

  -- so all is as it has to be
  returned : Returned R answers c n (applied_file (Data v) h (empty n G) f answers)
  unfolding applied_file entries_in entry_at
  returned =
      let a = arrived in
      let l = file_lines v R date company c in
      record {
        refusal = refl;
        records = l;
        done = ap zeros_in a.answered ∙ zeros_counted (lines_in (Data v) f) ∙ l;
        last = ap (λ (x : Cycle). x.0) turned;
        answers = ap (λ x. x ++ drop (lines_in (Data v) f) answers) a.answered ∙ ap (λ k. replicate k 0 ++ drop k answers) l;
        sized = a.reached.sized;
        back = λ i u.
            subst (Back (slot_at R i)) (sym (a.reached.back i u.0 u.1))
            (back_is (slot_at R i) (whole_at R i u.0) (entry_is R w.sound i u));
        free = a.reached.free;
      }

-- the round trip
pub round_trip : RoundTrip
unfolding RoundTrip
round_trip v R G date company c out answers last n t =
    let e = not_refused v R date company c out t.written in
    let w = written_is v R date company c (length out) e in
    let o =
    ap (λ x. taken (Data v) (empty n G) x answers last) (file_is v R date company c out e)
    ∙ good_is (Data v) (empty n G) (load_file v R date company c) answers last w.opening
    (passes v R G date company c out answers last n t w) in
    subst (Returned R answers c n) (sym o) (returned v R G date company c out answers last n t w)

-- ---- what a run leaves is fit for it

-- the one row over a record is the lowest
lowest_is : (G r : List ℕ) (k : ℕ) → Lies G r k → find_row r G ≡ Some k
unfolding find_row is_over
lowest_is G r k l =
    find_hit (is_over r G) (row_slots G) k none
    (and_both (is_present (row_slot_at G k)) (covers (row_of (row_slot_at G k)) r) l.there.1 l.under) l.there.0
  where
    go : (j : ℕ) → j < k → (b : Bool) → is_over r G j ≡ b → is_over r G j ≡ false
    go j h false e = e
    go j h true e =
        let p = is_present (row_slot_at G j) in
        let v = covers (row_of (row_slot_at G j)) r in
        let q : j ≡ k = l.alone j (omega (arith, l.there.0), and_left p v e) (and_right p v e) in
        absurd (omega arith)

    none : find (is_over r G) k ≡ None
    none = find_nowhere (is_over r G) k (λ j h. go j h (is_over r G j) refl)

-- after any run from empty stores
pub run_fit : (files : List File) (n m : ℕ) → Fit (run files (start n m)).stores.register (run files (start n m)).stores.guide
unfolding OneEntry AllZoned OneSlot AllLie
run_fit files n m =
    let R = (run files (start n m)).stores.register in
    let G = (run files (start n m)).stores.guide in
    let d = (demand3 n m files).stores in
    record {
      numbers = λ i j u v e.
          d.numbers i j (u.0, used_live (state_of (slot_at R i)) u.1) (v.0, used_live (state_of (slot_at R j)) v.1) e;
      zones = λ i u.
          let l = d.entries i u in
          (l.0, record { lowest = lowest_is G (record_of (slot_at R i)) l.0 l.1; zone = l.1.shows });
    }

-- The conversion of a register. A used slot that is not late becomes the same slot with its day moved (slot_is), another stays; slot j of
-- the converted register is slot j converted (converted_at). A date whose former day has a reading now has that reading (anew_is of
-- calendar), so a day that fitted its record's date fits it still, and what was sound by the former reading is sound now. Assumes nothing.
use Rattle.std.proofs.lemmas.Bool.{not-true}
use Rattle.std.specs.Prelude.{Option, Some, None}
use mathlib.Core.Path.{◌≡◌, refl, sym, ap, ◌∙◌}
use mathlib.Core.Bool.{Bool, true, false, not, ◌&&◌, ◌||◌, cond}
use mathlib.Core.List.{List, [], ◌∷◌}
use Prim.Native.Nat.{ℕ, zero, suc, ◌+◌, ◌≤◌, ◌<◌}
use native.Mathlib.Decide.{ℕ_discrete}
use native.Mathlib.Omega.{arith}
use lib.Dec.{leb, ltb}
use lib.ListN.{length}
use borrow.Author.Tests.{eqb-true, leb-true, leb-false, le-leb, lt-leb, ltb-true, ltb-false, lt-ltb, le-ltb}
use Rattle.text.specs.Text.{part, on_some}
use Rattle.text.proofs.Laws.{and_left, and_right}
use Rattle.calendar.specs.declared.Day.{Day}
use Rattle.calendar.specs.declared.Reading.TheVariants.{Former}
use Rattle.calendar.specs.Calendar.{on_calendar, is_before, day_of}
use Rattle.calendar.specs.Former.{former_of, formerly, anew}
use Rattle.calendar.proofs.DateLaws.{former_is, formerly_other, anew_is}
use Rattle.layout.specs.Tables.{data_record, field, date}
use Rattle.layout.specs.Fields.{date_of}
use Rattle.rules.specs.Walks.{find}
use Rattle.rules.specs.Slots.{slots, slot_at, with_slot, state_of, slot_day, record_of, slot_of, restated, is_free, is_held, is_used, is_live, is_zero}
use Rattle.rules.specs.Slots.{day_fits, slot_sound, slot_sound_by, register_sound_by}
use Rattle.rules.specs.Demands.{OneSlot, AllLie}
use Rattle.rules.specs.Converts.{is_late, late_at, converted_slot, converted_to, conversion}
use Rattle.rules.specs.Converts.{Moved, ConvertDone, ConvertAnswered, ConvertsAnswer, ConvertKeeps, HeldOnce, OrderStays, DistanceStays, OneConvert}
use Rattle.rules.proofs.WalkLaws.{clash-bool, and_rest, find_some, find_none, find_below}
use Rattle.rules.proofs.PlaceLaws.{part_length}
use Rattle.rules.proofs.SlotLaws.{state_slot, day_slot, record_slot, length_slot, restated_slot, record_length, slot_same, slot_other, length_with, length_slot_at, zeros_are, zero_sound}
use Rattle.rules.proofs.KeepSound.{AllSound, slots_sound, slots_sound_by, register_sound_lem, same_good, zeros_slot, slot_sound_lem, UsedBy, used_by, used_sound_lem}

-- ---- a day read anew

-- a day that has a reading is moved
day_moved : (d x : Day) → anew d ≡ Some x → x.0 ≡ d.0 + 10957
day_moved d x e = go (leb d.0 25567) e
  where
    go : (b : Bool) → cond b (Some (record { 0 = d.0 + 10957 })) None ≡ Some x → x.0 ≡ d.0 + 10957
    go true e = sym (ap (λ (y : Option Day). on_some y 0 (λ z. z.0)) e)
    go false e = let z : ◌≡◌ {A = ℕ} 0 1 = cc in absurd (omega arith)

-- two numbers moved by as much compare as before
less_moved : (a b c d n : ℕ) → c ≡ a + n → d ≡ b + n → ltb c d ≡ ltb a b
less_moved a b c d n p q = go (ltb a b) refl
  where
    go : (t : Bool) → ltb a b ≡ t → ltb c d ≡ ltb a b
    go true e = let l = ltb-true a b e in lt-ltb c d (omega arith) ∙ sym e
    go false e = let l = ltb-false a b e in le-ltb c d (omega arith) ∙ sym e

most_moved : (a b c d n : ℕ) → c ≡ a + n → d ≡ b + n → leb c d ≡ leb a b
most_moved a b c d n p q = go (leb a b) refl
  where
    go : (t : Bool) → leb a b ≡ t → leb c d ≡ leb a b
    go true e = let l = leb-true a b e in le-leb c d (omega arith) ∙ sym e
    go false e = let l = leb-false a b e in lt-leb c d (omega arith) ∙ sym e

pub order_stays : OrderStays
unfolding OrderStays
order_stays d e x y p q =
    less_moved d.0 e.0 x.0 y.0 10957 (day_moved d x p) (day_moved e y q)

pub distance_stays : DistanceStays
unfolding DistanceStays
distance_stays d e x y n p q =
    let i = day_moved d x p in
    most_moved (d.0 + n) e.0 (x.0 + n) y.0 10957 (omega arith) (day_moved e y q)

-- ---- one slot

-- a slot that is not used stays
slot_stays : (s : List ℕ) → is_used (state_of s) ≡ false → converted_slot s ≡ s
unfolding converted_slot
slot_stays s u = rw u refl

-- a slot has as many bytes as before
length_converted : (s : List ℕ) → length s ≡ 520 → length (converted_slot s) ≡ 520
unfolding converted_slot
length_converted s l = go _ (is_used (state_of s)) (anew (slot_day s))
  where
    go : (state : ℕ) (b : Bool) (x : Option Day) → length (cond b (on_some x s (λ d. restated state d s)) s) ≡ 520
    go state false x = l
    go state true None = l
    go state true (Some d) = ap length (restated_slot state d s l) ∙ length_slot state d (record_of s) (record_length s l)

-- bytes 5 to 7, where they are zero
zeros_at : (s : List ℕ) → length s ≡ 520 → is_zero (part 5 3 s) ≡ true → part 5 3 s ≡ 0 ∷ 0 ∷ 0 ∷ []
zeros_at s l z = rw (part_length 5 3 s (omega arith)) at (zeros_are (part 5 3 s) z)

-- a day that fitted a date fits it still, both moved
fits_moved : (b : ℕ) (day x to y : Day) → to.0 ≡ day.0 + 10957 → y.0 ≡ x.0 + 10957 → day.0 ≤ 25567
    → day_fits b day x ≡ true → day_fits b to y ≡ true
unfolding day_fits
fits_moved b day x to y p q l f =
    let on : on_calendar day ≡ true = le-leb day.0 36524 (omega arith) in
    rw (
      less_moved day.0 x.0 to.0 y.0 10957 p q,
      less_moved x.0 day.0 y.0 to.0 10957 q p,
      le-leb to.0 36524 (omega arith),
    ) (rw on at f)

-- the date is no later than a day that fits it
no_later_lem : (b : ℕ) (day x : Day) → day_fits b day x ≡ true → x.0 ≤ day.0
unfolding day_fits
no_later_lem b day x f =
    let t = (not (is_held b) || not (is_before x day)) && on_calendar day in
    ltb-false day.0 x.0 (not-true (is_before day x) (and_left (not (is_before day x)) t f))

-- a used slot that is sound by the former reading, and not late
module _ (s : List ℕ) (l : length s ≡ 520) (u : is_used (state_of s) ≡ true) (late : is_late s ≡ false) where
  -- its day has a reading
  early : (slot_day s).0 ≤ 25567
  early =
      go (leb (slot_day s).0 25567) refl
      (and_rest (is_used (state_of s)) (on_some (anew (slot_day s)) true (λ d. false)) u late)
    where
      go : (b : Bool) → leb (slot_day s).0 25567 ≡ b
          → on_some {A = Day} (cond b (Some (record { 0 = (slot_day s).0 + 10957 })) None) true (λ d. false) ≡ false → (slot_day s).0 ≤ 25567
      go true e q = leb-true (slot_day s).0 25567 e
      go false e q = clash-bool refl q

  -- the day that it has then
  abbrev then : Day
  then = record { 0 = (slot_day s).0 + 10957 }

  -- it becomes a slot with that day, and the same state and record
  slot_is : converted_slot s ≡ slot_of (state_of s) then (record_of s)
  unfolding converted_slot
  slot_is = rw (u, le-leb (slot_day s).0 25567 early) (restated_slot (state_of s) then s l)

  module _ (sound : slot_sound_by Former s ≡ true) where
    used : UsedBy Former s
    used = used_by Former s sound u

    moved_used : Moved s (converted_slot s)
    moved_used =
        let b = state_of s in
        let r = record_of s in
        let w = record_length s l in
        rw slot_is
        record {
          unused = λ n. clash-bool u n;
          state = state_slot b then r;
          day = λ u. ap (λ (d : Day). d.0) (day_slot b then r (omega (arith, early)));
          zeros = zeros_at (slot_of b then r) (length_slot b then r w) (zeros_slot b then r) ∙ sym (zeros_at s l used.zeros);
          line = record_slot b then r w;
        }

    -- its day fits the date as it is read now
    fits_now : on_some (date_of (record_of s)) false (λ x. day_fits (state_of s) then x) ≡ true
    unfolding date_of
    fits_now = let f = field data_record date (record_of s) in go f (former_of f) refl used.dated
      where
        go : (f : List ℕ) (x : Option Day) → former_of f ≡ x → on_some x false (λ d. day_fits (state_of s) (slot_day s) d) ≡ true
            → on_some (day_of f) false (λ x. day_fits (state_of s) then x) ≡ true
        go f None e h = clash-bool h refl
        go f (Some x) e h =
            let y : Day = record { 0 = x.0 + 10957 } in
            let n = no_later_lem (state_of s) (slot_day s) x h in
            rw (anew_is f x e (omega (arith, early))) (fits_moved (state_of s) (slot_day s) x then y refl refl early h)

    sound_used : slot_sound (converted_slot s) ≡ true
    sound_used =
        rw slot_is
        (slot_sound_lem (state_of s) then (record_of s) (record_length s l) u (le-leb then.0 36524 (omega (arith, early))) used.fits
        fits_now)

-- any slot that is sound by the former reading, and not late
module _ (s : List ℕ) (l : length s ≡ 520) (sound : slot_sound_by Former s ≡ true) (late : is_late s ≡ false) where
  -- where it is not used, it is all zero
  unused_zero : is_used (state_of s) ≡ false → is_zero s ≡ true
  unused_zero u = go (is_free (state_of s)) (rw u at sound)
    where
      go : (b : Bool) → cond b (is_zero s) false ≡ true → is_zero s ≡ true
      go true e = e
      go false e = clash-bool e refl

  moved_slot : Moved s (converted_slot s)
  moved_slot = go (is_used (state_of s)) refl
    where
      go : (b : Bool) → is_used (state_of s) ≡ b → Moved s (converted_slot s)
      go true u = moved_used s l u late sound
      go false u =
          rw (slot_stays s u)
          record { unused = λ n. refl; state = refl; day = λ v. clash-bool v u; zeros = refl; line = refl }

  sound_slot : slot_sound (converted_slot s) ≡ true
  sound_slot = go (is_used (state_of s)) refl
    where
      go : (b : Bool) → is_used (state_of s) ≡ b → slot_sound (converted_slot s) ≡ true
      go true u = sound_used s l u late sound
      go false u = rw (slot_stays s u) (zero_sound s (unused_zero u))

-- ---- the register

module _ (R : List ℕ) where
  -- with its first i slots converted it is as long
  converted_length : (i : ℕ) → i ≤ slots R → length (converted_to R i) ≡ length R
  unfolding converted_to
  converted_length zero h = refl
  converted_length (suc i) h =
      let C = converted_to R i in
      let e : length C ≡ length R = converted_length i (omega arith) in
      let w : i < slots C = rw e (omega arith) in
      length_with C i w (converted_slot (slot_at C i)) (length_converted (slot_at C i) (length_slot_at C i w)) ∙ e

  -- slot i of what it is then
  within : (i : ℕ) → suc i ≤ slots R → i < slots (converted_to R i)
  within i h = let e : length (converted_to R i) ≡ length R = converted_length i (omega arith) in rw e h

  length_next : (i : ℕ) → suc i ≤ slots R → length (converted_slot (slot_at (converted_to R i) i)) ≡ 520
  length_next i h = length_converted (slot_at (converted_to R i) i) (length_slot_at (converted_to R i) i (within i h))

  -- the slots from i on are as they were
  still_at : (i : ℕ) → i ≤ slots R → (j : ℕ) → i ≤ j → slot_at (converted_to R i) j ≡ slot_at R j
  unfolding converted_to
  still_at zero h j a = refl
  still_at (suc i) h j a =
      slot_other (converted_to R i) i (within i h) (converted_slot (slot_at (converted_to R i) i)) (length_next i h) j (omega arith)
      ∙ still_at i (omega arith) j (omega arith)

  -- and those below it are converted
  converted_at : (i : ℕ) → i ≤ slots R → (j : ℕ) → j < i → slot_at (converted_to R i) j ≡ converted_slot (slot_at R j)
  unfolding converted_to
  converted_at zero h j a = absurd (omega arith)
  converted_at (suc i) h j a = go (converted_at i (omega arith) j) (ℕ_discrete j i)
    where
      go : (j < i → slot_at (converted_to R i) j ≡ converted_slot (slot_at R j)) → Dec (j ≡ i)
          → slot_at (with_slot (converted_to R i) i (converted_slot (slot_at (converted_to R i) i))) j ≡ converted_slot (slot_at R j)
      go ih (yes e) =
          rw e
          (slot_same (converted_to R i) i (within i h) (converted_slot (slot_at (converted_to R i) i)) (length_next i h)
          ∙ ap converted_slot (still_at i (omega arith) i (omega arith)))
      go ih (no n) =
          slot_other (converted_to R i) i (within i h) (converted_slot (slot_at (converted_to R i) i)) (length_next i h) j n
          ∙ ih (omega arith)

  -- all of it
  module _ (former : register_sound_by Former R ≡ true) (none : find (late_at R) (slots R) ≡ None) where
    was : AllSound 520 (slot_sound_by Former) R
    was = slots_sound_by Former R former

    abbrev then_all : List ℕ
    then_all = converted_to R (slots R)

    all_length : length then_all ≡ length R
    all_length = converted_length (slots R) (omega arith)

    all_at : (k : ℕ) → k < slots R → slot_at then_all k ≡ converted_slot (slot_at R k)
    all_at k h = converted_at (slots R) (omega arith) k h

    not_late : (k : ℕ) → k < slots R → late_at R k ≡ false
    not_late k h = find_none (late_at R) (slots R) none k h

    convert_done : ConvertDone R then_all
    unfolding late_at
    convert_done =
        record {
          former = former;
          none = not_late;
          moved = λ k h.
              rw (all_at k h) (moved_slot (slot_at R k) (length_slot_at R k h) (was.each k h) (not_late k h));
          sound =
              register_sound_lem then_all
              record {
                long = same_good 520 R then_all all_length was.long;
                each = λ k h. each k (rw all_length at h);
              };
        }
      where
        each : (k : ℕ) → k < slots R → slot_sound (slot_at then_all k) ≡ true
        each k h = rw (all_at k h) (sound_slot (slot_at R k) (length_slot_at R k h) (was.each k h) (not_late k h))

pub convert_answered : ConvertsAnswer
unfolding ConvertsAnswer conversion
convert_answered R = go (register_sound_by Former R) refl (find (late_at R) (slots R)) refl
  where
    go : (b : Bool) → register_sound_by Former R ≡ b → (o : Option ℕ) → find (late_at R) (slots R) ≡ o → ConvertAnswered R (conversion R)
    go false e o f =
        rw e
        record {
          number = refl;
          refused = λ n. refl;
          unsound = λ n. e;
          late = λ n. absurd (omega arith);
          untold = λ n. refl;
          done = λ n. absurd (omega arith);
          converted = λ p q. clash-bool p e;
          sized = refl;
        }
    go true e (Some k) f =
        let h = find_some (late_at R) (slots R) k f in
        rw (e, f)
        record {
          number = refl;
          refused = λ n. refl;
          unsound = λ n. absurd (omega arith);
          late = λ n. record { within = h.0; late = h.1; lowest = find_below (late_at R) (slots R) k f };
          untold = λ n. absurd (n refl);
          done = λ n. absurd (omega arith);
          converted = λ p q. clash-bool h.1 (q k h.0);
          sized = refl;
        }
    go true e None f =
        rw (e, f)
        record {
          number = refl;
          refused = λ n. absurd (n refl);
          unsound = λ n. absurd (omega arith);
          late = λ n. absurd (omega arith);
          untold = λ n. refl;
          done = λ n. convert_done R e f;
          converted = λ p q. refl;
          sized = converted_length R (slots R) (omega arith);
        }

-- ---- what the third demand says of the stores alone

module _ (R S : List ℕ) (same : length S ≡ length R) (moved : (k : ℕ) → k < slots R → Moved (slot_at R k) (slot_at S k)) where
  -- a slot that passes a test of its state passed it before
  was_at : (p : ℕ → Bool) (i : ℕ) → (i < slots S) × (p (state_of (slot_at S i)) ≡ true)
      → (i < slots R) × (p (state_of (slot_at R i)) ≡ true)
  was_at p i u = let w : i < slots R = rw same at u.0 in (w, rw (moved i w).state at u.1)

  one_slot_lem : OneSlot R → OneSlot S
  unfolding OneSlot
  one_slot_lem o i j u v e =
      let a = was_at is_used i u in
      let b = was_at is_used j v in
      o i j a b (rw ((moved i a.0).line, (moved j b.0).line) at e)

  all_lie : (G : List ℕ) → AllLie (record { register = R; guide = G }) → AllLie (record { register = S; guide = G })
  unfolding AllLie
  all_lie G a i u = let b = was_at is_live i u in rw (moved i b.0).line (a i b)

pub convert_keeps : ConvertKeeps
unfolding ConvertKeeps ConvertsAnswer
convert_keeps R G e k =
    let c = convert_answered R in
    let S = (conversion R).register in
    let m = (c.done e).moved in
    record {
      numbers = one_slot_lem R S c.sized m k.numbers;
      houses = k.houses;
      entries = all_lie R S c.sized m G k.entries;
    }

-- ---- a held slot

-- a held slot's day is the date
held_day : (b : ℕ) (day x : Day) → is_held b ≡ true → day_fits b day x ≡ true → x.0 ≡ day.0
unfolding day_fits
held_day b day x h f =
    let p = not (is_before day x) in
    let q = not (is_held b) || not (is_before x day) in
    let r : not (is_before x day) ≡ true = rw h at (and_left q (on_calendar day) (and_right p (q && on_calendar day) f)) in
    let i = ltb-false day.0 x.0 (not-true (is_before day x) (and_left p (q && on_calendar day) f)) in
    let j = ltb-false x.0 day.0 (not-true (is_before x day) r) in
    omega arith

-- no day has the number that it had before, so none is the date of a held slot by both readings
unlike : (f : List ℕ) (b : ℕ) (day : Day) → is_held b ≡ true → on_some (former_of f) false (λ d. day_fits b day d) ≡ true
    → on_some (day_of f) false (λ d. day_fits b day d) ≡ true → ⊥
unlike f b day h p q = go (day_of f) (rw (former_is f) at p) q
  where
    go : (x : Option Day) → on_some (on_some x None (λ d. Some (record { 0 = formerly d.0 }))) false (λ d. day_fits b day d) ≡ true
        → on_some x false (λ d. day_fits b day d) ≡ true → ⊥
    go None p q = clash-bool q refl
    go (Some x) p q = formerly_other x.0 (held_day b day (record { 0 = formerly x.0 }) h p ∙ sym (held_day b day x h q))

-- and no slot that is sound by both is held
not_held : (s : List ℕ) → slot_sound_by Former s ≡ true → slot_sound s ≡ true → is_held (state_of s) ≡ false
unfolding date_of
not_held s p q = go (is_held (state_of s)) refl
  where
    go : (b : Bool) → is_held (state_of s) ≡ b → b ≡ false
    go false h = refl
    go true h =
        let u : is_used (state_of s) ≡ true = rw (eqb-true (state_of s) 1 h) refl in
        absurd
        (unlike (field data_record date (record_of s)) (state_of s) (slot_day s) h (used_by Former s p u).dated (used_sound_lem s q u).dated)

pub held_once : HeldOnce
unfolding HeldOnce
held_once R former now k w = not_held (slot_at R k) ((slots_sound_by Former R former).each k w) ((slots_sound R now).each k w)

-- ---- one outcome

pub one_convert : OneConvert
unfolding OneConvert
one_convert R a b S T p q = (p.0 ∙ sym q.0, p.1 ∙ sym q.1)

-- Slots: what is written into one is read back, the other slots stay, and a store of zeros is sound and has nothing in it.
-- Assumes nothing.
use Rattle.std.specs.Prelude.{None}
use mathlib.Core.Path.{◌≡◌, refl, sym, ap, ◌∙◌}
use mathlib.Core.Logic.{◌≢◌}
use mathlib.Core.Bool.{true, false}
use mathlib.Core.List.{List, [], ◌∷◌, ◌++◌, append-nil}
use Prim.Native.Nat.{ℕ, zero, suc, ◌+◌, ◌*◌, ◌/◌, ◌%◌, ◌≤◌, ◌<◌}
use native.Mathlib.Omega.{arith}
use lib.Dec.{eqb}
use lib.ListN.{length, take, drop, get_or, replicate, length-append, length-drop, length-replicate, drop_of_length-le}
use lib.Seq.{take_all, take_at, drop_at, drop-drop}
use borrow.Author.Tests.{eqb-true, le-leb}
use Rattle.text.specs.Text.{part, all_equal, put_at}
use Rattle.text.proofs.Laws.{and_left, and_right}
use Rattle.calendar.specs.declared.Day.{Day}
use Rattle.calendar.specs.declared.Reading.TheVariants.{Present}
use Rattle.calendar.proofs.DayLaws.{bytes_back}
use Rattle.rules.specs.Walks.{find}
use Rattle.rules.specs.Slots.{place, good_length, slots, slot_at, with_slot, state_of, slot_day, record_of, slot_head, slot_of, restated, written, is_zero, used_sound, slot_sound, unsound_slot, register_sound, unsound_by, register_sound_by, row_slots, row_slot_at, with_row_slot, is_present, is_vacant, row_of, row_head, row_slot_of, row_written, free_row_slot, row_slot_sound, unsound_row_slot, guide_sound}
use Rattle.rules.proofs.WalkLaws.{find_nowhere, and_both}
use Rattle.rules.proofs.PlaceLaws.{part_length, place_same, place_other, place_length}

-- a data record has 512 bytes, a guide row 200
abbrev pub Whole : List ℕ → Type 0
Whole r = length r ≡ 512

abbrev pub WholeRow : List ℕ → Type 0
WholeRow g = length g ≡ 200

-- ---- bytes put over others

-- m bytes over the m that stand from i on
pub put_is : (i m : ℕ) (b s : List ℕ) → length b ≡ m → i + m ≤ length s → put_at i b s ≡ take i s ++ (b ++ drop m (drop i s))
unfolding put_at
put_is i m b s l h = rw (l, le-leb (i + m) (length s) h, drop-drop)

-- bytes over the whole rest
put_rest : (i m : ℕ) (b a s : List ℕ) → length a ≡ i → length b ≡ m → length s ≡ m → put_at i b (a ++ s) ≡ a ++ b
put_rest i m b a s p l k =
    let e : length (a ++ s) ≡ i + m = simp length-append (omega arith) in
    let z : length s ≤ m = omega arith in
    put_is i m b (a ++ s) l (omega arith)
    ∙ rw (take_at a s i p, drop_at a s i p, drop_of_length-le s z, append-nil)

-- ---- a register slot

-- the state that was written
pub state_slot : (b : ℕ) (d : Day) (r : List ℕ) → state_of (slot_of b d r) ≡ b
unfolding state_of slot_of
state_slot b d r = refl

-- the day that was written, if four bytes hold it
pub day_slot : (b : ℕ) (d : Day) (r : List ℕ) → d.0 < 4294967296 → slot_day (slot_of b d r) ≡ d
unfolding slot_day slot_of
day_slot b d r h = bytes_back d.0 h

-- the record in a slot has 512 bytes
pub record_length : (s : List ℕ) → length s ≡ 520 → Whole (record_of s)
unfolding record_of
record_length s h = part_length 8 512 s (omega arith)

-- the record that was written
pub record_slot : (b : ℕ) (d : Day) (r : List ℕ) → Whole r → record_of (slot_of b d r) ≡ r
unfolding record_of slot_of
record_slot b d r h = take_all 512 r (omega arith)

-- a slot that was written has 520 bytes
pub length_slot : (b : ℕ) (d : Day) (r : List ℕ) → Whole r → length (slot_of b d r) ≡ 520
unfolding slot_of
length_slot b d r h = omega arith

-- a slot with another state and day has the record that stood in it
pub restated_slot : (b : ℕ) (d : Day) (s : List ℕ) → length s ≡ 520 → restated b d s ≡ slot_of b d (record_of s)
unfolding restated slot_of record_of
restated_slot b d s h =
    put_is 0 8 (slot_head b d) s refl (omega arith)
    ∙ ap (λ x. slot_head b d ++ x) (sym (take_all 512 (drop 8 s) (simp length-drop (omega arith))))

-- a slot with another state, day and record has nothing of what stood in it
pub written_slot : (b : ℕ) (d : Day) (r s : List ℕ) → Whole r → length s ≡ 520 → written b d r s ≡ slot_of b d r
unfolding written slot_of
written_slot b d r s k h =
    let o = record_of s in
    let l : length o ≡ 512 = record_length s h in
    ap (put_at 8 r) (restated_slot b d s h) ∙ put_rest 8 512 r (slot_head b d) o refl k l

-- ---- the register

module _ (R : List ℕ) (i : ℕ) (h : i < slots R) where
  room : i * 520 + 520 ≤ length R
  room = omega arith

  -- a slot of the register has 520 bytes, and the record in it 512
  pub length_slot_at : length (slot_at R i) ≡ 520
  unfolding place
  length_slot_at = part_length (i * 520) 520 R room

  pub whole_at : Whole (record_of (slot_at R i))
  whole_at = record_length (slot_at R i) length_slot_at

  -- a slot of 520 bytes is written
  module _ (s : List ℕ) (e : length s ≡ 520) where
    -- it is read back
    pub slot_same : slot_at (with_slot R i s) i ≡ s
    slot_same = place_same 520 R i s room e

    -- the others stay
    pub slot_other : (j : ℕ) → j ≢ i → slot_at (with_slot R i s) j ≡ slot_at R j
    slot_other j n = place_other 520 R i s room e j n

    -- the register is as long, and has as many slots
    pub length_with : length (with_slot R i s) ≡ length R
    length_with = place_length 520 R i s room e

    pub slots_with : slots (with_slot R i s) ≡ slots R
    slots_with = ap (λ n. n / 520) length_with

-- ---- a guide slot

-- a slot with a row in it is present
pub present_row : (g : List ℕ) → is_present (row_slot_of g) ≡ true
unfolding is_present row_slot_of
present_row g = refl

-- the row that was written
pub row_slot : (g : List ℕ) → WholeRow g → row_of (row_slot_of g) ≡ g
unfolding row_of row_slot_of
row_slot g h = take_all 200 g (omega arith)

-- a slot that was written has 208 bytes
pub length_row_slot : (g : List ℕ) → WholeRow g → length (row_slot_of g) ≡ 208
unfolding row_slot_of
length_row_slot g h = omega arith

-- a slot with another row has nothing of what stood in it
pub row_written_lem : (g s : List ℕ) → WholeRow g → length s ≡ 208 → row_written g s ≡ row_slot_of g
unfolding row_written row_slot_of
row_written_lem g s k h =
    ap (put_at 8 g) (put_is 0 8 row_head s refl (omega arith))
    ∙ put_rest 8 200 g row_head (drop 8 s) refl k (simp length-drop (omega arith))

-- a free slot has no row in it, is vacant, and has 208 bytes
pub free_absent : is_present free_row_slot ≡ false
unfolding is_present free_row_slot
free_absent = refl

pub free_vacant : is_vacant free_row_slot ≡ true
unfolding is_vacant free_row_slot
free_vacant = refl

pub length_free : length free_row_slot ≡ 208
unfolding free_row_slot
length_free = refl

-- a vacant slot has no row in it
pub vacant_absent : (s : List ℕ) → is_vacant s ≡ true → is_present s ≡ false
unfolding is_vacant is_present
vacant_absent s h = rw (eqb-true (get_or s 0 0) 0 h)

-- ---- the guide

module _ (G : List ℕ) (k : ℕ) (h : k < row_slots G) where
  row_room : k * 208 + 208 ≤ length G
  row_room = omega arith

  -- a slot of the guide has 208 bytes, and the row in it 200
  pub length_row_slot_at : length (row_slot_at G k) ≡ 208
  unfolding place
  length_row_slot_at = part_length (k * 208) 208 G row_room

  pub whole_row_at : WholeRow (row_of (row_slot_at G k))
  unfolding row_of
  whole_row_at = part_length 8 200 (row_slot_at G k) (omega (arith, length_row_slot_at))

  -- a slot of 208 bytes is written
  module _ (s : List ℕ) (e : length s ≡ 208) where
    -- it is read back
    pub row_slot_same : row_slot_at (with_row_slot G k s) k ≡ s
    row_slot_same = place_same 208 G k s row_room e

    -- the others stay
    pub row_slot_other : (j : ℕ) → j ≢ k → row_slot_at (with_row_slot G k s) j ≡ row_slot_at G j
    row_slot_other j n = place_other 208 G k s row_room e j n

    -- the guide is as long, and has as many slots
    pub length_with_row : length (with_row_slot G k s) ≡ length G
    length_with_row = place_length 208 G k s row_room e

    pub row_slots_with : row_slots (with_row_slot G k s) ≡ row_slots G
    row_slots_with = ap (λ n. n / 208) length_with_row

-- ---- zeros

-- bytes that are all b: the first of them, and those behind
equal_take : (n b : ℕ) (s : List ℕ) → all_equal b s ≡ true → all_equal b (take n s) ≡ true
equal_take zero b s h = refl
equal_take (suc n) b [] h = refl
equal_take (suc n) b (a ∷ s) h =
    and_both (eqb a b) (all_equal b (take n s)) (and_left (eqb a b) (all_equal b s) h)
    (equal_take n b s (and_right (eqb a b) (all_equal b s) h))

equal_drop : (n b : ℕ) (s : List ℕ) → all_equal b s ≡ true → all_equal b (drop n s) ≡ true
equal_drop zero b s h = h
equal_drop (suc n) b [] h = refl
equal_drop (suc n) b (a ∷ s) h = equal_drop n b s (and_right (eqb a b) (all_equal b s) h)

-- zeros are all zero, and so is a part of what is all zero
pub zero_zeros : (n : ℕ) → is_zero (replicate n 0) ≡ true
unfolding is_zero
zero_zeros zero = refl
zero_zeros (suc n) = zero_zeros n

pub zero_part : (i n : ℕ) (s : List ℕ) → is_zero s ≡ true → is_zero (part i n s) ≡ true
unfolding is_zero
zero_part i n s h = equal_take n 0 (drop i s) (equal_drop i 0 s h)

-- what is all zero is zeros
pub zeros_are : (s : List ℕ) → is_zero s ≡ true → s ≡ replicate (length s) 0
unfolding is_zero
zeros_are [] h = refl
zeros_are (a ∷ s) h =
    rw (eqb-true a 0 (and_left (eqb a 0) (all_equal 0 s) h)) (ap (λ t. 0 ∷ t) (zeros_are s (and_right (eqb a 0) (all_equal 0 s) h)))

-- its first byte is 0
zero_first : (s : List ℕ) → is_zero s ≡ true → get_or s 0 0 ≡ 0
unfolding is_zero
zero_first [] h = refl
zero_first (a ∷ s) h = eqb-true a 0 (and_left (eqb a 0) (all_equal 0 s) h)

-- a slot of zeros is free, and sound
pub zero_free : (s : List ℕ) → is_zero s ≡ true → state_of s ≡ 0
unfolding state_of
zero_free s h = zero_first s h

pub zero_sound : (s : List ℕ) → is_zero s ≡ true → slot_sound s ≡ true
unfolding slot_sound
zero_sound s h = rw (zero_free s h) h

-- a guide slot of zeros has no row in it, and is sound
pub zero_absent : (s : List ℕ) → is_zero s ≡ true → is_present s ≡ false
unfolding is_present
zero_absent s h = rw (zero_first s h) refl

pub zero_row_sound : (s : List ℕ) → is_zero s ≡ true → row_slot_sound s ≡ true
unfolding row_slot_sound is_vacant
zero_row_sound s h = rw (zero_first s h) h

-- the slots of a store of zeros are zeros
zero_place : (w n i : ℕ) → is_zero (place w (replicate n 0) i) ≡ true
unfolding place
zero_place w n i = zero_part (i * w) w (replicate n 0) (zero_zeros n)

-- so each slot is free, or has no row in it
pub empty_slot : (n i : ℕ) → state_of (slot_at (replicate n 0) i) ≡ 0
empty_slot n i = zero_free (slot_at (replicate n 0) i) (zero_place 520 n i)

pub empty_row_slot : (n i : ℕ) → is_present (row_slot_at (replicate n 0) i) ≡ false
empty_row_slot n i = zero_absent (row_slot_at (replicate n 0) i) (zero_place 208 n i)

-- how many they are
pub empty_slots : (n : ℕ) → slots (replicate (n * 520) 0) ≡ n
empty_slots n = rw length-replicate (omega arith)

pub empty_row_slots : (n : ℕ) → row_slots (replicate (n * 208) 0) ≡ n
empty_row_slots n = rw length-replicate (omega arith)

-- a register of 1 to 4096 slots of zeros is sound, and so is a guide
pub empty_sound : (n : ℕ) → 1 ≤ n → n ≤ 4096 → register_sound (replicate (n * 520) 0) ≡ true
unfolding register_sound good_length unsound_slot
empty_sound n a b =
    let R : List ℕ = replicate (n * 520) 0 in
    let e : length R % 520 ≡ 0 = rw length-replicate (omega arith) in
    let o : find (unsound_slot R) (slots R) ≡ None =
    find_nowhere (unsound_slot R) (slots R) (λ i l. rw (zero_sound (slot_at R i) (zero_place 520 (n * 520) i))) in
    rw (o, e, empty_slots n, le-leb 1 n a, le-leb n 4096 b)

pub empty_guide_sound : (n : ℕ) → 1 ≤ n → n ≤ 4096 → guide_sound (replicate (n * 208) 0) ≡ true
unfolding guide_sound good_length unsound_row_slot
empty_guide_sound n a b =
    let G : List ℕ = replicate (n * 208) 0 in
    let e : length G % 208 ≡ 0 = rw length-replicate (omega arith) in
    let o : find (unsound_row_slot G) (row_slots G) ≡ None =
    find_nowhere (unsound_row_slot G) (row_slots G) (λ i l. rw (zero_row_sound (row_slot_at G i) (zero_place 208 (n * 208) i))) in
    rw (o, e, empty_row_slots n, le-leb 1 n a, le-leb n 4096 b)

-- ---- the two readings of dates

-- a register is sound as dates are read now exactly if it is so by the present reading
pub sound_now : (R : List ℕ) → register_sound_by Present R ≡ register_sound R
unfolding register_sound_by register_sound unsound_by unsound_slot slot_sound used_sound
sound_now R = refl

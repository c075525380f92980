-- A header and a trailer that are written: what stands in them, and that the trailer is read back beside its header.
-- Assumes nothing.
use Rattle.calendar.specs.declared.Day.{Day}
use Rattle.std.specs.Prelude.{Option, Some, None}
use mathlib.Core.Path.{◌≡◌, refl, sym, ap, ◌∙◌}
use mathlib.Core.Bool.{Bool, true, false, cond}
use mathlib.Core.List.{List, [], ◌∷◌, ◌++◌}
use Prim.Native.Nat.{ℕ, zero, suc, ◌+◌, ◌-◌, ◌≤◌}
use native.Mathlib.Omega.{arith}
use lib.Dec.{leb, eqb}
use lib.ListN.{length, take, drop, length-append, length-replicate}
use lib.Seq.{take_at, drop_at, drop-append-add}
use borrow.Author.Tests.{eqb-true, leb-true, le-leb}
use Rattle.text.specs.declared.Class.TheVariants.{Printable, Digit}
use Rattle.text.specs.Text.{in_class, all_in, part, put_at, spaces, digits, width, among_spaces, left_digits, right_digits, on_some}
use Rattle.text.proofs.Laws.{and_left, and_right, same_refl}
use Rattle.text.proofs.DigitLaws.{all_append, digits_all, left_length, right_length}
use Rattle.layout.proofs.CounterLaws.{cycle_back, count_back}
use Rattle.calendar.specs.Calendar.{day_of}
use Rattle.layout.specs.declared.frame.Header.{Header}
use Rattle.layout.specs.declared.counter.Cycle.{Cycle}
use Rattle.layout.specs.Tables.{header, header_table, trailer_table, field, cycle, mmddyy, named, closing, tally, free, star}
use Rattle.layout.specs.Counters.{cycle_of}
use Rattle.layout.specs.Rules.{from_zero, is_tally, keeps_frame, keeps_other, keeps, is_whole, fault_by, fault_in}
use Rattle.layout.specs.Frames.{date_of, name_of, header_of, same_frame, trailer_of, header_letters, trailer_letters, frame_with, header_with, trailer_with}
use Rattle.versions.specs.declared.Version.{Version}
use Rattle.versions.specs.declared.Version.TheVariants.{One, Two}
use Rattle.rules.specs.declared.Kind.TheVariants.{Data}
use Rattle.rules.specs.Takes.{shape_of}
use Rattle.rules.proofs.SlotLaws.{put_is}
use Rattle.rules.proofs.SoundLaws.{no_fault, fault_at_lem, fault_alike}

-- ---- parts of lists that follow one another

-- past the first list
pub part_past : (a c : List ℕ) (m i n : ℕ) → length a ≡ m → part (m + i) n (a ++ c) ≡ part i n c
part_past a c m i n l = rw (← l) (ap (take n) (drop-append-add a c i))

-- the second list
pub part_at : (a b c : List ℕ) (m n : ℕ) → length a ≡ m → length b ≡ n → part m n (a ++ (b ++ c)) ≡ b
part_at a b c m n p q = ap (take n) (drop_at a (b ++ c) m p) ∙ take_at b c n q

-- bytes put over as many
put_over : (i m : ℕ) (a b x c : List ℕ) → length a ≡ i → length b ≡ m → length x ≡ m
    → put_at i b (a ++ (x ++ c)) ≡ a ++ (b ++ c)
put_over i m a b x c p q l =
    put_is i m b (a ++ (x ++ c)) q (simp length-append (omega arith))
    ∙ rw (take_at a (x ++ c) i p, drop_at a (x ++ c) i p, drop_at x c m l)

-- ---- a header or a trailer

-- what stands behind the counter: spaces and `*`
abbrev gap : Version → ℕ
gap One = 98
gap Two = 138

abbrev tail_from : Version → ℕ → List ℕ
tail_from v m = drop m (spaces (gap v) ++ (42 ∷ []))

-- as long as a version's header and trailer
abbrev frame_of : Version → ℕ
frame_of v = (shape_of (Data v)).frame

-- `*` stands in the last byte, and spaces before it
star_last : (v : Version) → put_at (from_zero (frame_of v)) (42 ∷ []) (spaces (frame_of v)) ≡ spaces 61 ++ (spaces (gap v) ++ (42 ∷ []))
unfolding put_at
star_last One = refl
star_last Two = refl

gap_long : (v : Version) → 98 ≤ gap v
gap_long One = omega arith
gap_long Two = omega arith

-- its parts in a row
abbrev framed : Version → List ℕ → List ℕ → List ℕ → List ℕ → ℕ → List ℕ
framed v letters date company counter m = letters ++ (date ++ (company ++ (counter ++ tail_from v m)))

module _ (v : Version) (letters date company counter : List ℕ) (m : ℕ) (a : length letters ≡ 5) (b : length date ≡ 6)
    (c : length company ≡ 50) (d : length counter ≡ m) where
  -- it is written so
  frame_is : m ≤ 98 → frame_with letters date company counter (frame_of v) ≡ framed v letters date company counter m
  unfolding frame_with
  frame_is h =
      let t : List ℕ = spaces (gap v) ++ (42 ∷ []) in
      let g = gap_long v in
      let e : put_at 61 counter (spaces 61 ++ t) ≡ spaces 61 ++ (counter ++ tail_from v m) =
      put_is 61 m counter (spaces 61 ++ t) d (simp (length-append, length-replicate) (omega arith)) in
      ap (λ x. put_at 0 letters (put_at 5 date (put_at 11 company (put_at 61 counter x)))) (star_last v)
      ∙ ap (λ x. put_at 0 letters (put_at 5 date (put_at 11 company x))) e
      ∙ ap (λ x. put_at 0 letters (put_at 5 date x))
      (put_over 11 50 (spaces 11) company (spaces 50) (counter ++ tail_from v m) refl c refl)
      ∙ ap (put_at 0 letters) (put_over 5 6 (spaces 5) date (spaces 6) (company ++ (counter ++ tail_from v m)) refl b refl)
      ∙ put_over 0 5 [] letters (spaces 5) (date ++ (company ++ (counter ++ tail_from v m))) refl a refl

  -- each part is read back
  date_at : part 5 6 (framed v letters date company counter m) ≡ date
  date_at = part_at letters date (company ++ (counter ++ tail_from v m)) 5 6 a b

  name_at : part 11 50 (framed v letters date company counter m) ≡ company
  name_at =
      part_past letters (date ++ (company ++ (counter ++ tail_from v m))) 5 6 50 a
      ∙ part_at date company (counter ++ tail_from v m) 6 50 b c

  -- what stands behind letters and date
  behind : (i n : ℕ) → part (5 + (6 + i)) n (framed v letters date company counter m) ≡ part i n (company ++ (counter ++ tail_from v m))
  behind i n =
      part_past letters (date ++ (company ++ (counter ++ tail_from v m))) 5 (6 + i) n a
      ∙ part_past date (company ++ (counter ++ tail_from v m)) 6 i n b

  counter_at : part 61 m (framed v letters date company counter m) ≡ counter
  counter_at = behind 50 m ∙ part_at company counter (tail_from v m) 50 m c d

  tail_at : (i n : ℕ) → part (5 + (6 + (50 + (m + i)))) n (framed v letters date company counter m) ≡ part i n (tail_from v m)
  tail_at i n =
      behind (50 + (m + i)) n ∙ part_past company (counter ++ tail_from v m) 50 (m + i) n c ∙ part_past counter (tail_from v m) m i n d

-- ---- the counters

-- a digit is printable, and so is a space
print_digits : (s : List ℕ) → all_in Digit s ≡ true → all_in Printable s ≡ true
print_digits [] p = refl
print_digits (b ∷ s) p =
    let d = and_left (in_class Digit b) (all_in Digit s) p in
    let h = leb-true 48 b (and_left (leb 48 b) (leb b 57) d) in
    let l = leb-true b 57 (and_right (leb 48 b) (leb b 57) d) in
    rw (le-leb 32 b (omega arith), le-leb b 126 (omega arith))
    (print_digits s (and_right (in_class Digit b) (all_in Digit s) p))

print_spaces : (m : ℕ) → all_in Printable (spaces m) ≡ true
print_spaces zero = refl
print_spaces (suc m) = print_spaces m

-- so are digits among spaces, and a count
print_among : (a w n m : ℕ) → all_in Printable (among_spaces a w n m) ≡ true
unfolding among_spaces
print_among a w n m =
    let z = spaces (m - (a + w)) in
    all_append Printable (spaces a) (digits w n ++ z) (print_spaces a)
    (all_append Printable (digits w n) z (print_digits (digits w n) (digits_all w n)) (print_spaces (m - (a + w))))

print_count : (n : ℕ) → all_in Printable (right_digits n (spaces 9)) ≡ true
unfolding right_digits
print_count n = go (leb (width n) 9)
  where
    go : (b : Bool) → all_in Printable (cond b (among_spaces (9 - width n) (width n) n 9) (spaces 9)) ≡ true
    go true = print_among (9 - width n) (width n) n 9
    go false = refl

-- ---- a header that is read, and the trailer written beside it

-- what a header that is read has in it
record HeaderRead (v : Version) (s : List ℕ) (h : Header) : Type 0 where
  good : fault_in false s (header_table (frame_of v)) ≡ 0
  turns : cycle_of (field header cycle s) ≡ Some h.cycle

-- a wrong one is none
wrong : {A : Type 0} (h : Header) → None ≡ Some h → A
wrong h e = let z : ◌≡◌ {A = ℕ} 0 1 = cc in absurd (omega arith)

-- it has them if it is read
header_read : (v : Version) (s : List ℕ) (h : Header) → header_of (header_table (frame_of v)) s ≡ Some h → HeaderRead v s h
unfolding header_of
header_read v s h e = go (eqb (fault_in false s (header_table (frame_of v))) 0) refl (day_of (date_of s)) (cycle_of (field header cycle s)) refl e
  where
    go : (b : Bool) → eqb (fault_in false s (header_table (frame_of v))) 0 ≡ b → (x : Option Day) (c : Option Cycle) → cycle_of (field header cycle s) ≡ c
        → cond b (on_some x None (λ d. on_some c None (λ c. Some (record { day = d; cycle = c })))) None ≡ Some h
        → HeaderRead v s h
    go true p (Some d) (Some c) q e =
        let i : record { day = d; cycle = c } ≡ h = cc in
        record { good = eqb-true (fault_in false s (header_table (frame_of v))) 0 p; turns = q ∙ ap (λ (x : Header). Some x.cycle) i }
    go true p (Some d) None q e = wrong h e
    go true p None c q e = wrong h e
    go false p x c q e = wrong h e

-- the free part and the last byte, computed
free_good : (v : Version) (f : List ℕ) → ((i m : ℕ) → part (5 + (6 + (50 + (9 + i)))) m f ≡ part i m (tail_from v 9))
    → fault_by 71 (frame_of v - 71) free false f (part 70 (frame_of v - 71) f) ≡ 0
unfolding fault_by is_whole keeps
free_good One f e = rw (e 0 89)
free_good Two f e = rw (e 0 129)

star_good : (v : Version) (f : List ℕ) → ((i m : ℕ) → part (5 + (6 + (50 + (9 + i)))) m f ≡ part i m (tail_from v 9))
    → fault_by (frame_of v) 1 star false f (part (from_zero (frame_of v)) 1 f) ≡ 0
unfolding fault_by is_whole keeps keeps_other
star_good One f e = rw (e 89 1)
star_good Two f e = rw (e 129 1)

module _ (v : Version) (date company : List ℕ) (b : length date ≡ 6) (c : length company ≡ 50) where
  -- the header of cycle t as it stands, and the trailer of n records
  abbrev opened : ℕ → List ℕ
  opened t = framed v header_letters date company (left_digits t (spaces 6)) 6

  abbrev closed : ℕ → List ℕ
  closed n = framed v trailer_letters date company (right_digits n (spaces 9)) 9

  header_is : (t : ℕ) → header_with date company t (frame_of v) ≡ opened t
  unfolding header_with
  header_is t =
      frame_is v header_letters date company (left_digits t (spaces 6)) 6 refl b c (left_length t (spaces 6)) (omega arith)

  trailer_is : (n : ℕ) → trailer_with date company n (frame_of v) ≡ closed n
  unfolding trailer_with
  trailer_is n =
      frame_is v trailer_letters date company (right_digits n (spaces 9)) 9 refl b c (right_length n (spaces 9)) (omega arith)

  -- their dates and names
  opened_date : (t : ℕ) → part 5 6 (opened t) ≡ date
  opened_date t = date_at v header_letters date company (left_digits t (spaces 6)) 6 refl b c (left_length t (spaces 6))

  opened_name : (t : ℕ) → part 11 50 (opened t) ≡ company
  opened_name t = name_at v header_letters date company (left_digits t (spaces 6)) 6 refl b c (left_length t (spaces 6))

  closed_date : (n : ℕ) → part 5 6 (closed n) ≡ date
  closed_date n = date_at v trailer_letters date company (right_digits n (spaces 9)) 9 refl b c (right_length n (spaces 9))

  closed_name : (n : ℕ) → part 11 50 (closed n) ≡ company
  closed_name n = name_at v trailer_letters date company (right_digits n (spaces 9)) 9 refl b c (right_length n (spaces 9))

  -- their counters
  opened_cycle : (t : ℕ) → part 61 6 (opened t) ≡ left_digits t (spaces 6)
  opened_cycle t = counter_at v header_letters date company (left_digits t (spaces 6)) 6 refl b c (left_length t (spaces 6))

  closed_count : (n : ℕ) → part 61 9 (closed n) ≡ right_digits n (spaces 9)
  closed_count n = counter_at v trailer_letters date company (right_digits n (spaces 9)) 9 refl b c (right_length n (spaces 9))

  -- and what stands behind the count
  closed_tail : (n i m : ℕ) → part (5 + (6 + (50 + (9 + i)))) m (closed n) ≡ part i m (tail_from v 9)
  closed_tail n i m = tail_at v trailer_letters date company (right_digits n (spaces 9)) 9 refl b c (right_length n (spaces 9)) i m

  -- the cycle that is read is the one that was written
  pub cycle_read : (t : ℕ) (h : Header) → 1 ≤ t → t ≤ 999999
      → header_of (header_table (frame_of v)) (header_with date company t (frame_of v)) ≡ Some h
      → h.cycle.0 ≡ t
  cycle_read t h x y e =
      let r = header_read v (header_with date company t (frame_of v)) h e in
      let i : field header cycle (header_with date company t (frame_of v)) ≡ left_digits t (spaces 6) =
      ap (part 61 6) (header_is t) ∙ opened_cycle t in
      let j : Some h.cycle ≡ Some (record { 0 = t }) = sym r.turns ∙ ap cycle_of i ∙ cycle_back t x y in
      let k : h.cycle ≡ record { 0 = t } = cc in
      ap (λ (x : Cycle). x.0) k

  -- a trailer beside a header of good form
  module _ (t n : ℕ) (good : fault_in false (opened t) (header_table (frame_of v)) ≡ 0) where
    -- the fields that it has in common with the header keep their rules in it
    date_good : fault_by 6 6 mmddyy false (closed n) (part 5 6 (closed n)) ≡ 0
    date_good =
        rw (closed_date n)
        (fault_alike 6 6 mmddyy false (closed n) (opened t) date refl
        ∙ rw (opened_date t) at (fault_at_lem false (opened t) 1 (header_table (frame_of v)) good))

    name_good : fault_by 12 50 named false (closed n) (part 11 50 (closed n)) ≡ 0
    name_good =
        rw (closed_name n)
        (fault_alike 12 50 named false (closed n) (opened t) company refl
        ∙ rw (opened_name t) at (fault_at_lem false (opened t) 2 (header_table (frame_of v)) good))

    -- and so do the others
    trailer_good : n ≤ 999999999 → fault_in false (closed n) (trailer_table (frame_of v)) ≡ 0
    unfolding fault_in fault_by is_whole keeps keeps_other keeps_frame is_tally
    trailer_good x =
        let f = closed n in
        let T : List ℕ = trailer_table (frame_of v) in
        let p : fault_by 1 5 closing false f (part 0 5 f) ≡ 0 = refl in
        let q : fault_by 62 9 tally false f (part 61 9 f) ≡ 0 =
        rw (closed_count n, right_length n (spaces 9), print_count n, count_back n x) in
        let r : fault_by 71 (frame_of v - 71) free false f (part 70 (frame_of v - 71) f) ≡ 0 = free_good v f (closed_tail n) in
        let s : fault_by (frame_of v) 1 star false f (part (from_zero (frame_of v)) 1 f) ≡ 0 = star_good v f (closed_tail n) in
        no_fault (fault_by 1 5 closing false f (part 0 5 f)) (fault_in false f (drop 3 T)) p
        (no_fault (fault_by 6 6 mmddyy false f (part 5 6 f)) (fault_in false f (drop 6 T)) date_good
        (no_fault (fault_by 12 50 named false f (part 11 50 f)) (fault_in false f (drop 9 T)) name_good
        (no_fault (fault_by 62 9 tally false f (part 61 9 f)) (fault_in false f (drop 12 T)) q
        (no_fault (fault_by 71 (frame_of v - 71) free false f (part 70 (frame_of v - 71) f)) (fault_in false f (drop 15 T)) r
        (no_fault (fault_by (frame_of v) 1 star false f (part (from_zero (frame_of v)) 1 f)) (fault_in false f (drop 18 T)) s refl)))))

  -- the trailer is read back beside its header
  pub trailer_read : (t n : ℕ) (h : Header) → n ≤ 999999999
      → header_of (header_table (frame_of v)) (header_with date company t (frame_of v)) ≡ Some h
      → trailer_of (trailer_table (frame_of v)) (header_with date company t (frame_of v)) (trailer_with date company n (frame_of v))
      ≡ Some (record { 0 = n })
  unfolding trailer_of same_frame date_of name_of
  trailer_read t n h x e =
      let g : fault_in false (opened t) (header_table (frame_of v)) ≡ 0 =
      rw (header_is t) at (header_read v (header_with date company t (frame_of v)) h e).good in
      rw (
        header_is t,
        trailer_is n,
        trailer_good t n g x,
        opened_date t,
        closed_date n,
        same_refl date,
        opened_name t,
        closed_name n,
        same_refl company,
        closed_count n,
        count_back n x,
      )

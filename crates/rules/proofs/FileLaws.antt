-- The bytes of a load file: header, one line for each entry in slot order, trailer. Assumes nothing.
use mathlib.Core.Path.{◌≡◌, refl, ap, ◌∙◌}
use mathlib.Core.Bool.{Bool, true, false, cond}
use mathlib.Core.List.{List, [], ◌++◌, append-nil, append_assoc}
use Prim.Native.Nat.{ℕ, zero, suc, ◌+◌, ◌*◌, ◌-◌, ◌/◌, ◌%◌, ◌≤◌, ◌<◌}
use native.Mathlib.Decide.{dec_lt}
use native.Mathlib.Nat.{add-sub_cancel_left}
use native.Mathlib.Omega.{arith}
use lib.ListN.{length, take}
use lib.Seq.{take_at, drop_at, take_all}
use borrow.Author.Tests.{le-leb}
use Rattle.text.specs.Text.{part, spaces, left_digits, right_digits}
use Rattle.layout.specs.Tables.{header, trailer, size_of, cycle, count as tally}
use Rattle.layout.specs.Fields.{for_load}
use Rattle.layout.specs.Frames.{header_letters, trailer_letters, header_with, trailer_with}
use Rattle.versions.specs.declared.Version.{Version}
use Rattle.versions.specs.declared.Version.TheVariants.{One, Two}
use Rattle.versions.specs.Versions.{narrow_of}
use Rattle.rules.specs.declared.Kind.TheVariants.{Data}
use Rattle.rules.specs.Walks.{count}
use Rattle.rules.specs.Slots.{slots, slot_at, record_of}
use Rattle.rules.specs.Takes.{shape_of, edges, lines_in, good_file, header_line, trailer_line, line_at}
use Rattle.rules.specs.Loads.{entry_at, entries_in, lines_to, header_for, trailer_for, load_file, load_size}
use Rattle.rules.proofs.SlotLaws.{whole_at}
use Rattle.rules.proofs.LoadLength.{frame_length, line_whole, lines_length, load_length}
use Rattle.rules.proofs.FrameLaws.{part_past, part_at}

-- ---- counts

-- one that passes is counted before those above it
pub count_below : (p : ℕ → Bool) (i m : ℕ) → i < m → p i ≡ true → count p i < count p m
unfolding count
count_below p i zero h e = absurd (omega arith)
count_below p i (suc m) h e = go (λ l. count_below p i m l e) (dec_lt i m)
  where
    go : (i < m → count p i < count p m) → Dec (i < m) → count p i < count p m + cond (p m) 1 0
    go ih (yes l) = omega (arith, ih l)
    go ih (no l) = let z : m ≡ i = omega arith in rw (z, e) (omega arith)

-- the one that is counted as x
pub record CountedAs (p : ℕ → Bool) (i x : ℕ) : Type 0 where
  pub it : ℕ
  pub below : it < i
  pub passes : p it ≡ true
  pub counts : count p it ≡ x

pub counted_as : (p : ℕ → Bool) (i x : ℕ) → x < count p i → CountedAs p i x
unfolding count
counted_as p zero x h = absurd (omega arith)
counted_as p (suc i) x h = go (λ l. counted_as p i x l) (dec_lt x (count p i)) (p i) refl h
  where
    go : (x < count p i → CountedAs p i x) → Dec (x < count p i) → (b : Bool) → p i ≡ b → x < count p i + cond b 1 0
        → CountedAs p (suc i) x
    go ih (yes l) b e h =
        let c = ih l in
        record { it = c.it; below = omega (arith, c.below); passes = c.passes; counts = c.counts }
    go ih (no l) true e h = record { it = i; below = omega arith; passes = e; counts = omega arith }
    go ih (no l) false e h = absurd (omega arith)

-- ---- as many lines as there are

mul_div_line : (v : Version) (n : ℕ) → n * (shape_of (Data v)).line / (shape_of (Data v)).line ≡ n
mul_div_line One n = omega arith
mul_div_line Two n = omega arith

mul_mod_line : (v : Version) (n : ℕ) → n * (shape_of (Data v)).line % (shape_of (Data v)).line ≡ 0
mul_mod_line One n = omega arith
mul_mod_line Two n = omega arith

-- ---- the lines

-- those of the slots before slot i, its own, and those behind it
lines_split : (v : Version) (R : List ℕ) (i m : ℕ) → i < m → entry_at R i ≡ true
    → (rest : List ℕ) × (lines_to v R m ≡ lines_to v R i ++ (narrow_of v (for_load (record_of (slot_at R i))) ++ rest))
unfolding lines_to
lines_split v R i zero h e = absurd (omega arith)
lines_split v R i (suc m) h e = go (λ l. lines_split v R i m l e) (dec_lt i m)
  where
    go : (i < m → (rest : List ℕ) × (lines_to v R m ≡ lines_to v R i ++ (narrow_of v (for_load (record_of (slot_at R i))) ++ rest))) → Dec (i < m)
        → (rest : List ℕ)
        × (lines_to v R m ++ cond (entry_at R m) (narrow_of v (for_load (record_of (slot_at R m)))) []
        ≡ lines_to v R i ++ (narrow_of v (for_load (record_of (slot_at R i))) ++ rest))
    go ih (yes l) =
        let t = ih l in
        let x = cond (entry_at R m) (narrow_of v (for_load (record_of (slot_at R m)))) [] in
        (t.0 ++ x, ap (λ y. y ++ x) t.1 ∙ simp append_assoc)
    go ih (no l) = let z : m ≡ i = omega arith in ([], rw (z, e, append-nil))

-- ---- the file

module _ (v : Version) (R date company : List ℕ) (c : ℕ) where
  abbrev F : ℕ
  F = (shape_of (Data v)).frame

  abbrev L : ℕ
  L = (shape_of (Data v)).line

  -- header, lines and trailer have so many bytes
  head_long : length (header_for v date company c) ≡ F
  unfolding header_for header_with
  head_long = frame_length header_letters date company (left_digits c (spaces (size_of header cycle))) F

  body_long : length (lines_to v R (slots R)) ≡ entries_in R * L
  unfolding entries_in
  body_long = lines_length v R (slots R) (omega arith)

  tail_long : length (trailer_for v date company (entries_in R)) ≡ F
  unfolding trailer_for trailer_with
  tail_long = frame_length trailer_letters date company (right_digits (entries_in R) (spaces (size_of trailer tally))) F

  -- it has as many lines as there are entries
  pub file_lines : lines_in (Data v) (load_file v R date company c) ≡ entries_in R
  unfolding lines_in load_size
  file_lines = rw (load_length v R date company c, add-sub_cancel_left (edges (Data v)) (entries_in R * L)) (mul_div_line v (entries_in R))

  -- so its length is good
  pub file_good : entries_in R ≤ 9999 → good_file (Data v) (load_file v R date company c) ≡ true
  unfolding good_file load_size
  file_good h =
      let n : ℕ = entries_in R in
      rw (
        file_lines,
        load_length v R date company c,
        le-leb (edges (Data v)) (edges (Data v) + n * L) (omega arith),
        add-sub_cancel_left (edges (Data v)) (n * L),
        mul_mod_line v n,
        le-leb n 9999 h,
      )

  -- header and trailer
  pub file_header : header_line (Data v) (load_file v R date company c) ≡ header_for v date company c
  unfolding header_line load_file
  file_header = take_at (header_for v date company c) (lines_to v R (slots R) ++ trailer_for v date company (entries_in R)) F head_long

  pub file_trailer : trailer_line (Data v) (load_file v R date company c) ≡ trailer_for v date company (entries_in R)
  unfolding trailer_line load_file load_size
  file_trailer =
      let t = trailer_for v date company (entries_in R) in
      let e : length (load_file v R date company c) - F ≡ F + entries_in R * L =
      rw (load_length v R date company c) (omega arith) in
      rw e
      (part_past (header_for v date company c) (lines_to v R (slots R) ++ t) F (entries_in R * L) F head_long
      ∙ ap (take F) (drop_at (lines_to v R (slots R)) t (entries_in R * L) body_long)
      ∙ take_all F t (omega (arith, tail_long)))

  -- the line of the entry in slot i
  pub file_line : (i : ℕ) → i < slots R → entry_at R i ≡ true
      → line_at (Data v) (load_file v R date company c) (count (entry_at R) i) ≡ narrow_of v (for_load (record_of (slot_at R i)))
  unfolding line_at load_file
  file_line i h e =
      let t = trailer_for v date company (entries_in R) in
      let r = narrow_of v (for_load (record_of (slot_at R i))) in
      let s = lines_split v R i (slots R) h e in
      let q : lines_to v R (slots R) ++ t ≡ lines_to v R i ++ (r ++ (s.0 ++ t)) = ap (λ x. x ++ t) s.1 ∙ simp append_assoc in
      part_past (header_for v date company c) (lines_to v R (slots R) ++ t) F (count (entry_at R) i * L) L head_long
      ∙ ap (part (count (entry_at R) i * L) L) q
      ∙ part_at (lines_to v R i) r (s.0 ++ t) (count (entry_at R) i * L) L
      (lines_length v R i (omega arith)) (line_whole v (record_of (slot_at R i)) (whole_at R i h))

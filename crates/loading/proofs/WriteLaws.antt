-- The turns of the loops over the slots, which count the entries and lay their records one behind the other; the header, and one record
-- in the part that is lent for it; what the refusals leave known; the size of the file, and the file from its three parts. All but two_none
-- is over the version v: how many bytes a line, a header and a trailer have is what its shape says.
-- Assumes nothing.
use Rattle.std.specs.Option.{is_none}
use Rattle.std.specs.Prelude.{None}
use Rattle.std.specs.Int.{from_bool}
use mathlib.Core.Path.{◌≡◌, ◌∙◌, refl, sym, ap}
use mathlib.Core.Bool.{Bool, true, false, ◌&&◌, cond}
use mathlib.Core.List.{List, [], ◌++◌, append_assoc, append-nil}
use Prim.Native.Nat.{ℕ, zero, suc, ◌+◌, ◌*◌, ◌-◌, ◌≤◌, ◌<◌}
use native.Mathlib.Numerals.{add-one}
use native.Mathlib.Nat.{le_trans, sub-zero, zero-mul, add-mul, mul-le-mul_right, add-sub_cancel_left}
use native.Mathlib.Decide.{dec_lt}
use native.Mathlib.Omega.{arith}
use lib.Dec.{eqb}
use lib.ListN.{drop_of_length-le, length, take, drop, length-append, length-drop}
use lib.Seq.{take_at, drop-append-add, drop-drop, drop_at, drop-length}
use Rattle.text.specs.Text.{put_at}
use Rattle.text.proofs.Laws.{and_left, and_false}
use Rattle.layout.specs.Tables.{header_table}
use Rattle.layout.specs.Frames.{header_of, header_with, trailer_with}
use Rattle.layout.specs.Fields.{for_load}
use Rattle.versions.specs.declared.Version.{Version}
use Rattle.versions.specs.declared.Version.TheVariants.{Two}
use Rattle.versions.specs.Versions.{narrow_of}
use Rattle.rules.specs.declared.Kind.TheVariants.{Data}
use Rattle.rules.specs.Walks.{find, count}
use Rattle.rules.specs.Slots.{slot_size, good_length, unsound_slot, register_sound, slots, slot_at, record_of}
use Rattle.rules.specs.Takes.{shape_of, edges}
use Rattle.rules.specs.Loads.{is_entry, entry_at, entries_in, lines_to, header_for, trailer_for, load_file, load_size, load_header, wide_at}
use Rattle.rules.proofs.WalkLaws.{find_nowhere, at_most_one}
use Rattle.rules.proofs.PlaceLaws.{part_length}
use Rattle.rules.proofs.SlotLaws.{put_is}
use Rattle.rules.proofs.LookupLaws.{long_few}
use Rattle.rules.proofs.LoadLength.{lines_length, header_length, trailer_length}

-- ---- the count: e of the first i slots have an entry

-- a test as a number
one_if : (b : Bool) → from_bool b ≡ cond b 1 0
one_if true = refl
one_if false = refl

pub counted_more : (p : ℕ → Bool) (i e r : ℕ) (b : Bool) → (e ≡ count p i) × (e ≤ i) → b ≡ p i → r ≡ from_bool b
    → (e + r ≡ count p (i + 1)) × (e + r ≤ i + 1)
unfolding count
counted_more p i e r b c q s =
    let n = s ∙ one_if b in
    (rw (add-one i, c.0, n, q) refl, omega (arith, c.1, at_most_one b, n))

-- ---- the header, written over the first n bytes of others and read back from there; the code lends them from 0 to n, which are n - 0

-- as many bytes as the version has of it: it is the load file's
header_put : (v : Version) (date company : List ℕ) (c n : ℕ) (line H : List ℕ) → n ≡ (shape_of (Data v)).frame → n ≤ length line
    → H ≡ header_with date company c (length (take (n - 0) (drop 0 line))) → H ≡ header_for v date company c
unfolding header_for
header_put v date company c n line H p h x = rw (sub-zero n, part_length 0 n line (omega arith), p) at x

-- and are read by the table for their length, if date and name have theirs
pub header_read : (v : Version) (date company : List ℕ) (c n : ℕ) (t line H : List ℕ) → n ≡ (shape_of (Data v)).frame → n ≤ length line
    → H ≡ header_with date company c (length (take (n - 0) (drop 0 line))) → t ≡ header_table n
    → eqb (length date) 6 && eqb (length company) 50 ≡ true
    → header_of t (take (n - 0) (H ++ drop (n - 0) line)) ≡ load_header v date company c
unfolding load_header
header_read v date company c n t line H p h x e b =
    let head : H ≡ header_for v date company c = header_put v date company c n line H p h x in
    let long : length H ≡ n = ap length head ∙ header_length v date company c ∙ sym p in
    rw (b, sub-zero n, take_at H (drop n line) n long, e, head, p) refl

-- ---- one record

-- bytes over as many others
pub put_all : (b s : List ℕ) → length b ≡ length s → put_at 0 b s ≡ b
put_all b s e =
    put_is 0 (length s) b s e (omega arith)
    ∙ ap (λ (x : List ℕ). b ++ x) (drop-length s)
    ∙ append-nil b

-- the part that is lent for a line of u bytes has its length
pub line_room : (u at : ℕ) (out : List ℕ) → at + u ≤ length out → length (take (at + u - at) (drop at out)) ≡ u
line_room u at out h = ap (λ (n : ℕ). length (take n (drop at out))) (add-sub_cancel_left at u) ∙ part_length at u out h

-- what is asked for where a slot has an entry, whose line has w bytes
pub entry_room : (b : Bool) (w u at n : ℕ) → b ≡ true → u ≡ w → at + cond b w 0 ≤ n → at + u ≤ n
entry_room b w u at n e p h = rw (e, ← p) at h

-- ---- the records: those of the first i slots are written over the old bytes, up to `at`

-- more places are counted the further it goes
count_le : (p : ℕ → Bool) (i n : ℕ) → i ≤ n → count p i ≤ count p n
unfolding count
count_le p i zero h = let z : i ≡ 0 = omega arith in rw z (omega arith)
count_le p i (suc n) h = go (λ l. count_le p i n l) (dec_lt i (suc n))
  where
    go : (i ≤ n → count p i ≤ count p n) → Dec (i < suc n) → count p i ≤ count p (suc n)
    go ih (yes l) = omega (arith, ih (omega arith))
    go ih (no l) = let z : i ≡ suc n = omega arith in rw z (omega arith)

pub record Laid (v : Version) (R old : List ℕ) (i at : ℕ) (new : List ℕ) : Type 0 where
  pub within : i ≤ slots R
  pub place : at ≡ count (entry_at R) i * (shape_of (Data v)).line
  pub bytes : new ≡ lines_to v R i ++ drop at old

-- slot i adds a line to those before it, or nothing
line_more : (n w : ℕ) (b : Bool) → n * w + cond b w 0 ≡ (n + cond b 1 0) * w
line_more n w true = omega (arith, add-mul n 1 w)
line_more n w false = omega (arith, add-mul n 0 w)

module _ (v : Version) (R old : List ℕ) where
  pub laid_none : Laid v R old 0 0 old
  unfolding count lines_to
  laid_none = record { within = omega arith; place = sym (zero-mul (shape_of (Data v)).line); bytes = refl }

  module _ (room : entries_in R * (shape_of (Data v)).line ≤ length old) (i at : ℕ) (new : List ℕ) (laid : Laid v R old i at new) where
    long : length (lines_to v R i) ≡ at
    long = lines_length v R i laid.within ∙ sym laid.place

    -- the lines of no more slots than there are fit in
    inside : (n : ℕ) → n ≤ slots R → count (entry_at R) n * (shape_of (Data v)).line ≤ length old
    unfolding entries_in
    inside n h = le_trans (mul-le-mul_right (shape_of (Data v)).line (count_le (entry_at R) n (slots R) h)) room

    pub laid_length : length new ≡ length old
    laid_length = rw (laid.bytes, length-append, length-drop) (omega (arith, long, laid.place, inside i laid.within))

    -- where the next one goes
    next_place : at + cond (entry_at R i) (shape_of (Data v)).line 0 ≡ count (entry_at R) (suc i) * (shape_of (Data v)).line
    unfolding count
    next_place = rw laid.place (line_more (count (entry_at R) i) (shape_of (Data v)).line (entry_at R i))

    -- there is room for it
    pub laid_room : i < slots R → at + cond (entry_at R i) (shape_of (Data v)).line 0 ≤ length old
    laid_room t = rw next_place (inside (suc i) t)

    pub laid_more : i < slots R → (r : ℕ) → r ≡ at + cond (entry_at R i) (shape_of (Data v)).line 0 → (next : List ℕ)
        → next ≡ take at new ++ (cond (entry_at R i) (narrow_of v (for_load (record_of (slot_at R i)))) [] ++ drop r new)
        → Laid v R old (i + 1) r next
    unfolding lines_to
    laid_more t r e next q =
        record {
          within = omega arith;
          place = rw add-one (e ∙ next_place);
          bytes =
              rw (add-one i, q, laid.bytes, take_at (lines_to v R i) (drop at old) at long)
              (ap (λ (x : List ℕ). lines_to v R i ++ (line ++ x)) behind ∙ sym (append_assoc (lines_to v R i) line (drop r old)));
        }
      where
        line : List ℕ
        line = cond (entry_at R i) (narrow_of v (for_load (record_of (slot_at R i)))) []

        step : ℕ
        step = cond (entry_at R i) (shape_of (Data v)).line 0

        behind : drop r (lines_to v R i ++ drop at old) ≡ drop r old
        behind =
            rw e
            (ap (λ (k : ℕ). drop (k + step) (lines_to v R i ++ drop at old)) (sym long)
            ∙ drop-append-add (lines_to v R i) (drop at old) step
            ∙ drop-drop step at old)

    pub laid_all : slots R ≤ i → new ≡ lines_to v R (slots R) ++ drop (entries_in R * (shape_of (Data v)).line) old
    unfolding entries_in
    laid_all t = let z : i ≡ slots R = omega (arith, laid.within) in rw (laid.bytes, laid.place, z) refl

-- ---- the refusals

-- every record fits in Version 2
pub two_none : (R : List ℕ) → find (wide_at Two R) (slots R) ≡ None
unfolding wide_at
two_none R = find_nowhere (wide_at Two R) (slots R) (λ i h. and_false (is_entry (slot_at R i)))

-- a sound register has at most 4096 slots
pub few_slots : (R : List ℕ) → register_sound R ≡ true → slots R ≤ 4096
unfolding register_sound
few_slots R s = long_few R (and_left (good_length slot_size R) (is_none (find (unsound_slot R) (slots R))) s)

-- ---- the file

-- the size of the file, from the count of its entries
pub size_of : (v : Version) (R : List ℕ) (e : ℕ) → e ≡ entries_in R → edges (Data v) + e * (shape_of (Data v)).line ≡ load_size v R
unfolding load_size
size_of v R e q = rw q refl

-- the output as it is lent after a header of f bytes, after the lines up to byte g, and after the trailer up to byte k
abbrev pub headed : ℕ → List ℕ → List ℕ → List ℕ
headed f H old = H ++ drop (f - 0) old

abbrev pub lined : ℕ → ℕ → List ℕ → List ℕ → List ℕ
lined f g one L = take f one ++ (L ++ drop (g - f) (drop f one))

abbrev pub closed : ℕ → ℕ → List ℕ → List ℕ → List ℕ
closed g k two T = take g two ++ (T ++ drop (k - g) (drop g two))

module _ (f g : ℕ) (H L old : List ℕ) (h : length H ≡ f) (l : f + length L ≡ g) where
  lined_is : lined f g (headed f H old) L ≡ (H ++ L) ++ drop g old
  lined_is =
      rw (sub-zero f, take_at H (drop f old) f h, drop_at H (drop f old) f h, ← l, add-sub_cancel_left f (length L), drop-drop)
      (sym (append_assoc H L (drop (f + length L) old)))

  long_lined : length (H ++ L) ≡ g
  long_lined = rw (length-append, h, l) refl

  -- three parts, each lent and written, are one behind the other
  three_parts : (k : ℕ) (T : List ℕ) → g + length T ≡ k → closed g k (lined f g (headed f H old) L) T ≡ (H ++ (L ++ T)) ++ drop k old
  three_parts k T t =
      let before = take_at (H ++ L) (drop g old) g long_lined in
      let behind = drop_at (H ++ L) (drop g old) g long_lined in
      rw (lined_is, before, behind, ← t, add-sub_cancel_left g (length T), drop-drop)
      (append_assoc H L (T ++ drop (g + length T) old)
      ∙ ap (λ (x : List ℕ). H ++ x) (sym (append_assoc L T (drop (g + length T) old)))
      ∙ sym (append_assoc H (L ++ T) (drop (g + length T) old)))

-- the load file of k bytes, from its three parts: header and trailer have f bytes each
module _ (v : Version) (R : List ℕ) (e f k : ℕ) (old : List ℕ) (q : e ≡ entries_in R) (room : load_size v R ≤ length old)
    (p : f ≡ (shape_of (Data v)).frame) (s : k ≡ edges (Data v) + e * (shape_of (Data v)).line) where
  sized : k ≡ load_size v R
  sized = s ∙ size_of v R e q

  pub file_room : k ≤ length old
  file_room = rw sized room

  -- what is lent for the lines has their length
  lines_part : (H : List ℕ) → length H ≡ f → length (take (k - f - f) (drop f (headed f H old))) ≡ e * (shape_of (Data v)).line
  lines_part H h =
      let between : k - f - f ≡ e * (shape_of (Data v)).line = omega (arith, p, s) in
      rw (sub-zero f, drop_at H (drop f old) f h, between) (part_length f (e * (shape_of (Data v)).line) old (omega (arith, p, s, file_room)))

  pub file_written : (date company : List ℕ) (c : ℕ) (H L T : List ℕ)
      → H ≡ header_with date company c (length (take (f - 0) (drop 0 old)))
      → L ≡ lines_to v R (slots R) ++ drop (entries_in R * (shape_of (Data v)).line) (take (k - f - f) (drop f (headed f H old)))
      → T ≡ trailer_with date company e (length (take (k - (k - f)) (drop (k - f) (lined f (k - f) (headed f H old) L))))
      → closed (k - f) k (lined f (k - f) (headed f H old) L) T ≡ load_file v R date company c ++ drop (load_size v R) old
  unfolding load_file header_for trailer_for entries_in
  file_written date company c H L T x y z =
      let w : ℕ = (shape_of (Data v)).line in
      let g : ℕ = k - f in
      let last : k - g ≡ f = omega (arith, p, s) in
      let back : g + f ≡ k = omega (arith, p, s) in
      let head : H ≡ header_for v date company c = header_put v date company c f old H p (omega (arith, p, s, file_room)) x in
      let h : length H ≡ f = ap length head ∙ header_length v date company c ∙ sym p in
      let ends : drop (entries_in R * w) (take (g - f) (drop f (headed f H old))) ≡ [] =
      rw (← q) (drop_of_length-le (take (g - f) (drop f (headed f H old))) {i = e * w} (omega (arith, lines_part H h))) in
      let lines : L ≡ lines_to v R (slots R) =
      y ∙ ap (λ (x : List ℕ). lines_to v R (slots R) ++ x) ends ∙ append-nil (lines_to v R (slots R)) in
      let many : length L ≡ e * w = ap length lines ∙ lines_length v R (slots R) (omega arith) ∙ ap (λ (n : ℕ). n * w) (sym q) in
      let l : f + length L ≡ g = omega (arith, p, s, many) in
      let t : length (take (k - g) (drop g (lined f g (headed f H old) L))) ≡ k - g =
      rw (lined_is f g H L old h l)
      (part_length g (k - g) ((H ++ L) ++ drop g old)
      (rw (length-append, length-append, length-drop) (omega (arith, h, l, file_room)))) in
      let tail : T ≡ trailer_for v date company (entries_in R) =
      (rw (t, last, p) at z) ∙ ap (λ (n : ℕ). trailer_for v date company n) q in
      let u : length T ≡ f = ap length tail ∙ trailer_length v date company (entries_in R) ∙ sym p in
      three_parts f g H L old h l k T (ap (λ (n : ℕ). g + n) u ∙ back) ∙ (rw (head, lines, tail, sized) refl)

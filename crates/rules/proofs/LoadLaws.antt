-- The load file: a record with Function `I` and Source `C`, and where each record stands in the file. Assumes nothing.
use mathlib.Core.Path.{◌≡◌, refl, sym, ap, ◌∙◌}
use mathlib.Core.Logic.{◌≢◌}
use mathlib.Core.Bool.{Bool, true, false, not, ◌&&◌, ◌||◌}
use mathlib.Core.List.{List, [], ◌∷◌, ◌++◌}
use Prim.Native.Nat.{ℕ, zero, suc, ◌+◌, ◌-◌, ◌≤◌, ◌<◌}
use native.Mathlib.Numerals.{add-one}
use native.Mathlib.Omega.{arith}
use lib.Dec.{leb, ltb, eqb}
use lib.ListN.{length, take, drop, get_or, set, length-set}
use lib.Seq.{set_split, drop-cons, drop-drop, drop-set-lt, drop-set-add, take-set-le, get_or-set_same, get_or-set_other}
use borrow.Author.Tests.{eqb-true, leb-true, ltb-true}
use Rattle.text.specs.Text.{blank, part, put_at}
use Rattle.text.proofs.Laws.{and_left, and_right}
use Rattle.calendar.specs.Calendar.{day_of}
use Rattle.layout.specs.Tables.{data_record, narrow_record, start_of, size_of, field, span, function, npa, calling_number, house_number, prefix, post, community, state, esn, date, source, code, space_or_c}
use Rattle.layout.specs.Fields.{function_of, number_of, house_in, house_of, street_of, place_of, esn_of, has_esn, date_of, for_load}
use Rattle.layout.specs.Rules.{keeps, keeps_other, is_whole, fault_by, from_zero, fault_in, is_lax, record_fault}
use Rattle.rules.specs.Slots.{row_slots, row_slot_at, is_present, row_of}
use Rattle.versions.specs.declared.Version.{Version}
use Rattle.versions.specs.declared.Version.TheVariants.{One, Two}
use Rattle.versions.specs.Versions.{all_to, widened, narrowed, narrows, tail_blank, narrow_of, fits_in}
use Rattle.versions.proofs.TableLaws.{all_to_lem}
use Rattle.versions.proofs.VersionLaws.{wide_narrow, narrow_length, narrow_fault, function_wide}
use Rattle.rules.specs.declared.Kind.TheVariants.{Data}
use Rattle.rules.specs.Takes.{shape_of, line_fault}
use Rattle.rules.specs.Covers.{covers}
use Rattle.rules.specs.Records.{is_over, find_row}
use Rattle.rules.proofs.WalkLaws.{find_same_lem}
use Rattle.rules.proofs.SlotLaws.{Whole, put_is}
use Rattle.rules.proofs.LoadLength.{for_length}
use Rattle.rules.proofs.SoundLaws.{looks_apart, fault_alike, fields_keep}

-- ---- one byte of a list is set

-- bytes clear of it are as they were
part_set : (s : List ℕ) (i b a n : ℕ) → (leb (a + n) i || ltb i a) ≡ true → part a n (set s i b) ≡ part a n s
part_set s i b a n c = go (leb (a + n) i) refl c
  where
    go : (x : Bool) → leb (a + n) i ≡ x → (x || ltb i a) ≡ true → part a n (set s i b) ≡ part a n s
    go true e c =
        let h = leb-true (a + n) i e in
        let k : a + (i - a) ≡ i = omega arith in
        let l : n ≤ i - a = omega arith in
        rw (← k) (ap (take n) (drop-set-add a s (i - a) b) ∙ take-set-le n (drop a s) (i - a) b l)
    go false e c = ap (take n) (drop-set-lt a s i b (ltb-true i a c))

-- a byte that is put is set
put_set : (s : List ℕ) (i b : ℕ) → i < length s → put_at i (b ∷ []) s ≡ set s i b
put_set s i b h =
    put_is i 1 (b ∷ []) s refl (omega arith)
    ∙ ap (λ x. take i s ++ (b ∷ x)) (rw add-one at (drop-drop 1 i s)) ∙ sym (set_split s i b h)

-- a part of one byte
part_one : (s : List ℕ) (i : ℕ) → i < length s → part i 1 s ≡ get_or s i 0 ∷ []
part_one s i h = ap (take 1) (drop-cons s i 0 h)

-- ---- a record "with Function `I` and Source `C`"

-- where the table of fields has them
abbrev pub function_at : ℕ
function_at = start_of data_record function

abbrev pub source_at : ℕ
source_at = start_of data_record source

-- the n bytes from a are clear of both
abbrev clear_of_both : ℕ → ℕ → Bool
clear_of_both a n = (leb (a + n) function_at || ltb function_at a) && (leb (a + n) source_at || ltb source_at a)

module _ (r : List ℕ) (k : Whole r) where
  -- both bytes are set
  load_is : for_load r ≡ set (set r function_at 73) source_at 67
  unfolding for_load
  load_is =
      ap (put_at source_at (67 ∷ [])) (put_set r function_at 73 (omega arith))
      ∙ put_set (set r function_at 73) source_at 67 (rw length-set (omega arith))

  -- it has 512 bytes
  pub whole_load : Whole (for_load r)
  whole_load = for_length r ∙ k

  -- the bytes
  pub function_load : function_of (for_load r) ≡ 73
  unfolding function_of
  function_load =
      ap (λ x. get_or x function_at 0) load_is ∙ get_or-set_other (set r function_at 73) source_at function_at 67 0 (omega arith)
      ∙ get_or-set_same r function_at 73 0 (omega arith)

  pub source_load : get_or (for_load r) source_at 0 ≡ 67
  source_load =
      ap (λ x. get_or x source_at 0) load_is ∙ get_or-set_same (set r function_at 73) source_at 67 0 (rw length-set (omega arith))

  pub byte_load : (j : ℕ) → j ≢ function_at → j ≢ source_at → get_or (for_load r) j 0 ≡ get_or r j 0
  byte_load j p q =
      ap (λ x. get_or x j 0) load_is ∙ get_or-set_other (set r function_at 73) source_at j 67 0 q ∙ get_or-set_other r function_at j 73 0 p

  -- the other fields are the record's own
  part_load : (a n : ℕ) → clear_of_both a n ≡ true → part a n (for_load r) ≡ part a n r
  part_load a n c =
      let x = leb (a + n) function_at || ltb function_at a in
      let y = leb (a + n) source_at || ltb source_at a in
      ap (part a n) load_is ∙ part_set (set r function_at 73) source_at 67 a n (and_right x y c)
      ∙ part_set r function_at 73 a n (and_left x y c)

  -- field j, and the fields i to j, of the table
  field_load : (j : ℕ) → clear_of_both (start_of data_record j) (size_of data_record j) ≡ true
      → field data_record j (for_load r) ≡ field data_record j r
  field_load j c = part_load (start_of data_record j) (size_of data_record j) c

  span_load : (i j : ℕ)
      → clear_of_both (start_of data_record i) (start_of data_record j + size_of data_record j - start_of data_record i) ≡ true
      → span data_record i j (for_load r) ≡ span data_record i j r
  span_load i j c = part_load (start_of data_record i) (start_of data_record j + size_of data_record j - start_of data_record i) c

  -- number, house number, street, place, ESN and date
  pub number_load : number_of (for_load r) ≡ number_of r
  unfolding number_of
  number_load = span_load npa calling_number refl

  house_load : house_of (for_load r) ≡ house_of r
  unfolding house_of
  house_load = ap house_in (field_load house_number refl)

  street_load : street_of (for_load r) ≡ street_of r
  unfolding street_of
  street_load = span_load prefix post refl

  place_load : place_of (for_load r) ≡ place_of r
  unfolding place_of
  place_load = span_load community state refl

  pub esn_load : esn_of (for_load r) ≡ esn_of r
  unfolding esn_of
  esn_load = field_load esn refl

  pub has_load : has_esn (for_load r) ≡ has_esn r
  unfolding has_esn
  has_load = ap (λ x. not (blank x)) (field_load esn refl)

  pub date_load : date_of (for_load r) ≡ date_of r
  unfolding date_of
  date_load = ap day_of (field_load date refl)

  -- so the same rows cover it
  covers_load : (g : List ℕ) → covers g (for_load r) ≡ covers g r
  unfolding covers
  covers_load g = rw (street_load, place_load, house_load) refl

  pub row_load : (G : List ℕ) → find_row (for_load r) G ≡ find_row r G
  unfolding find_row is_over
  row_load G =
      find_same_lem (is_over r G) (is_over (for_load r) G) (row_slots G)
      (λ j h. ap (λ x. is_present (row_slot_at G j) && x) (covers_load (row_of (row_slot_at G j))))

-- a field of the table looks at no other field, and is clear of both bytes or is one of them
abbrev field_loads : ℕ → ℕ → ℕ → Bool
field_loads at n q =
    looks_apart q
    && (clear_of_both (from_zero at) n
    || ((eqb (from_zero at) function_at && (eqb n 1 && eqb q code))
    || (eqb (from_zero at) source_at && (eqb n 1 && eqb q space_or_c))))

module _ (r : List ℕ) (k : Whole r) where
  -- the two fields
  function_part : part function_at 1 (for_load r) ≡ 73 ∷ []
  unfolding function_of
  function_part = part_one (for_load r) function_at (omega (arith, whole_load r k)) ∙ ap (λ x. x ∷ []) (function_load r k)

  source_part : part source_at 1 (for_load r) ≡ 67 ∷ []
  source_part = part_one (for_load r) source_at (omega (arith, whole_load r k)) ∙ ap (λ x. x ∷ []) (source_load r k)

  -- a field keeps its rule
  field_loads_lem : (at n q : ℕ) → field_loads at n q ≡ true → fault_by at n q false r (part (from_zero at) n r) ≡ 0
      → fault_by at n q false (for_load r) (part (from_zero at) n (for_load r)) ≡ 0
  unfolding fault_by is_whole keeps keeps_other
  field_loads_lem at n q a e =
      go (clear_of_both (from_zero at) n) refl (eqb (from_zero at) function_at && (eqb n 1 && eqb q code)) refl
      (and_right (looks_apart q) two a)
    where
      other : Bool
      other = eqb (from_zero at) source_at && (eqb n 1 && eqb q space_or_c)

      two : Bool
      two = clear_of_both (from_zero at) n || ((eqb (from_zero at) function_at && (eqb n 1 && eqb q code)) || other)

      is : (i c : ℕ) → eqb (from_zero at) i && (eqb n 1 && eqb q c) ≡ true → (from_zero at ≡ i) × ((n ≡ 1) × (q ≡ c))
      is i c e =
          let x = eqb (from_zero at) i in
          let y = eqb n 1 in
          let z = eqb q c in
          let f = and_right x (y && z) e in (
            eqb-true (from_zero at) i (and_left x (y && z) e),
            (eqb-true n 1 (and_left y z f), eqb-true q c (and_right y z f)),
          )

      go : (b : Bool) → clear_of_both (from_zero at) n ≡ b → (d : Bool) → eqb (from_zero at) function_at && (eqb n 1 && eqb q code) ≡ d
          → b || (d || other) ≡ true → fault_by at n q false (for_load r) (part (from_zero at) n (for_load r)) ≡ 0
      go true c d f h =
          rw (part_load r k (from_zero at) n c)
          (fault_alike at n q false (for_load r) r (part (from_zero at) n r) (and_left (looks_apart q) two a) ∙ e)
      go false c true f h = let i = is function_at code f in rw (i.0, i.1.0, i.1.1, function_part)
      go false c false f h = let i = is source_at space_or_c h in rw (i.0, i.1.0, i.1.1, source_part)

  -- so a record of good form with another code than D and U has it still
  pub fault_load : is_lax (function_of r) ≡ false → record_fault data_record r ≡ 0 → record_fault data_record (for_load r) ≡ 0
  unfolding record_fault
  fault_load l e = rw (function_load r k) (fields_keep field_loads false r (for_load r) field_loads_lem data_record refl (rw l at e))

-- ---- either version

-- what is behind the bytes that Version 1 has of a field is clear of both
abbrev tail_clear : ℕ → Bool
tail_clear k = clear_of_both (start_of data_record k + size_of narrow_record k) (size_of data_record k - size_of narrow_record k)

tails_clear : all_to tail_clear 37 ≡ true
tails_clear = refl

all_by : (p q : ℕ → Bool) (n : ℕ) → ((k : ℕ) → k < n → q k ≡ p k) → all_to p n ≡ true → all_to q n ≡ true
all_by p q zero f h = refl
all_by p q (suc n) f h =
    rw (all_by p q n (λ k l. f k (omega arith)) (and_left (all_to p n) (p n) h), f n (omega arith)) (and_right (all_to p n) (p n) h)

-- so a record with nothing more in it has nothing more as it is loaded
pub fits_load : (v : Version) (r : List ℕ) → Whole r → fits_in v r ≡ true → fits_in v (for_load r) ≡ true
unfolding narrows tail_blank
fits_load Two r w h = refl
fits_load One r w h =
    all_by (tail_blank r) (tail_blank (for_load r)) 37
    (λ k l. ap blank (part_load r w (start_of data_record k + size_of narrow_record k) (size_of data_record k - size_of narrow_record k)
    (all_to_lem tail_clear 37 k tails_clear l))) h

-- as it stands in the file it is widened to itself
pub wide_load : (v : Version) (r : List ℕ) → Whole r → fits_in v r ≡ true → (shape_of (Data v)).wide (narrow_of v (for_load r)) ≡ for_load r
wide_load Two r w h = refl
wide_load One r w h = wide_narrow (for_load r) (whole_load r w) (fits_load One r w h)

-- and keeps the rules of its version
pub good_load : (v : Version) (r : List ℕ) → Whole r → fits_in v r ≡ true → is_lax (function_of r) ≡ false → record_fault data_record r ≡ 0
    → line_fault (Data v) (narrow_of v (for_load r)) ≡ 0
unfolding record_fault
good_load Two r w h l e = fault_load r w l e
good_load One r w h l e =
    let s = for_load r in
    let n = narrowed s in
    let i : widened n ≡ s = wide_load One r w h in
    let f : function_of n ≡ 73 = sym (function_wide n (narrow_length s)) ∙ ap function_of i ∙ function_load r w in
    let g : fault_in (is_lax (function_of s)) s data_record ≡ 0 = fault_load r w l e in
    let j : is_lax (function_of n) ≡ is_lax (function_of s) = rw (f, function_load r w) refl in
    rw j (narrow_fault (is_lax (function_of s)) n (narrow_length s) f (rw i g))

-- A record whose blank ESN is filled in from a row: its ESN is the row's, and its other fields are as they were.
-- Assumes nothing.
use mathlib.Core.Path.{◌≡◌, refl, sym, ap, ◌∙◌}
use mathlib.Core.Bool.{Bool, true, false, ◌||◌, not, cond}
use mathlib.Core.List.{List, ◌++◌}
use Prim.Native.Nat.{ℕ, ◌+◌, ◌-◌, ◌≤◌}
use native.Mathlib.Omega.{arith}
use lib.Dec.{leb}
use lib.ListN.{length, take, drop, get_or}
use lib.Seq.{take_all, get_or-take}
use borrow.Author.Tests.{leb-true}
use Rattle.text.specs.Text.{blank, part, put_at}
use Rattle.calendar.specs.Calendar.{day_of}
use Rattle.layout.specs.Tables.{data_record, guide_row, start_of, size_of, field, span, function, npa, calling_number, house_number, prefix, post, community, state, esn, date, company_id, row_esn}
use Rattle.layout.specs.Fields.{function_of, number_of, house_in, house_of, street_of, place_of, esn_of, has_esn, date_of, company_of, row_esn_of, with_esn}
use Rattle.rules.specs.Covers.{covers}
use Rattle.rules.specs.Records.{shown, filed_of}
use Rattle.rules.proofs.PlaceLaws.{part_length, mid_length, mid_same, mid_before, mid_after}
use Rattle.rules.proofs.SlotLaws.{Whole, WholeRow, put_is}

-- where the table of fields has the ESN
abbrev pub esn_at : ℕ
esn_at = start_of data_record esn

abbrev pub esn_size : ℕ
esn_size = size_of data_record esn

-- the n bytes from a lie before the ESN or after it
abbrev pub clear_of_esn : ℕ → ℕ → Bool
clear_of_esn a n = leb (a + n) esn_at || leb (esn_at + esn_size) a

module _ (g r : List ℕ) (f : WholeRow g) (k : Whole r) where
  -- a row's ESN has as many bytes as a record's
  pub length_row_esn : length (row_esn_of g) ≡ esn_size
  unfolding row_esn_of
  length_row_esn = part_length (start_of guide_row row_esn) (size_of guide_row row_esn) g (omega arith)

  room : esn_at + esn_size ≤ length r
  room = omega arith

  -- the row's bytes in the place of those that stood there
  with_is : with_esn (row_esn_of g) r ≡ take esn_at r ++ (row_esn_of g ++ drop esn_size (drop esn_at r))
  unfolding with_esn
  with_is =
      let l : length (row_esn_of g) ≡ esn_size = length_row_esn in
      ap (λ x. put_at esn_at x r) (take_all esn_size (row_esn_of g) (omega arith)) ∙ put_is esn_at esn_size (row_esn_of g) r l room

  -- the record has 512 bytes still
  pub whole_with : Whole (with_esn (row_esn_of g) r)
  whole_with = ap length with_is ∙ mid_length r (row_esn_of g) esn_at esn_size room length_row_esn ∙ k

  -- the ESN is the row's
  pub esn_with : esn_of (with_esn (row_esn_of g) r) ≡ row_esn_of g
  unfolding esn_of
  esn_with = ap (part esn_at esn_size) with_is ∙ mid_same r (row_esn_of g) esn_at esn_size room length_row_esn

  -- bytes clear of it are as they were: one law for every other field, and for fields that follow one another
  pub part_with : (a n : ℕ) → clear_of_esn a n ≡ true → part a n (with_esn (row_esn_of g) r) ≡ part a n r
  part_with a n c = ap (part a n) with_is ∙ go (leb (a + n) esn_at) refl c
    where
      go : (b : Bool) → leb (a + n) esn_at ≡ b → b || leb (esn_at + esn_size) a ≡ true
          → part a n (take esn_at r ++ (row_esn_of g ++ drop esn_size (drop esn_at r))) ≡ part a n r
      go true q c = mid_before r (row_esn_of g) esn_at esn_size room length_row_esn a n (leb-true (a + n) esn_at q)
      go false q c = mid_after r (row_esn_of g) esn_at esn_size room length_row_esn a n (leb-true (esn_at + esn_size) a c)

  -- field j, and the fields i to j, of the table
  pub field_with : (j : ℕ) → clear_of_esn (start_of data_record j) (size_of data_record j) ≡ true
      → field data_record j (with_esn (row_esn_of g) r) ≡ field data_record j r
  field_with j c = part_with (start_of data_record j) (size_of data_record j) c

  pub span_with : (i j : ℕ)
      → clear_of_esn (start_of data_record i) (start_of data_record j + size_of data_record j - start_of data_record i) ≡ true
      → span data_record i j (with_esn (row_esn_of g) r) ≡ span data_record i j r
  span_with i j c = part_with (start_of data_record i) (start_of data_record j + size_of data_record j - start_of data_record i) c

  -- number, house number, street, place, date and company are the record's own
  pub number_with : number_of (with_esn (row_esn_of g) r) ≡ number_of r
  unfolding number_of
  number_with = span_with npa calling_number refl

  pub house_with : house_of (with_esn (row_esn_of g) r) ≡ house_of r
  unfolding house_of
  house_with = ap house_in (field_with house_number refl)

  pub street_with : street_of (with_esn (row_esn_of g) r) ≡ street_of r
  unfolding street_of
  street_with = span_with prefix post refl

  pub place_with : place_of (with_esn (row_esn_of g) r) ≡ place_of r
  unfolding place_of
  place_with = span_with community state refl

  pub date_with : date_of (with_esn (row_esn_of g) r) ≡ date_of r
  unfolding date_of
  date_with = ap day_of (field_with date refl)

  pub company_with : company_of (with_esn (row_esn_of g) r) ≡ company_of r
  unfolding company_of
  company_with = field_with company_id refl

  -- and its function, one byte: it is read off the field that it is
  pub function_with : function_of (with_esn (row_esn_of g) r) ≡ function_of r
  unfolding function_of
  function_with =
      sym (get_or-take 1 (with_esn (row_esn_of g) r) 0 0 (omega arith))
      ∙ ap (λ x. get_or x 0 0) (field_with function refl)
      ∙ get_or-take 1 r 0 0 (omega arith)

  -- so its code and date are
  pub filed_with : filed_of (with_esn (row_esn_of g) r) ≡ filed_of r
  unfolding filed_of
  filed_with = simp (whole_with ∙ sym k, date_with, function_with)

  -- and the same rows cover it
  pub covers_with : (h : List ℕ) → covers h (with_esn (row_esn_of g) r) ≡ covers h r
  unfolding covers
  covers_with h = rw (street_with, place_with, house_with) refl

  -- ---- what an entry shows

  -- an ESN that is there stays
  pub shown_has : has_esn r ≡ true → shown r g ≡ r
  unfolding shown
  shown_has e = rw e refl

  -- a blank one is filled in
  pub shown_blank : has_esn r ≡ false → shown r g ≡ with_esn (row_esn_of g) r
  unfolding shown
  shown_blank e = rw e refl

  -- what the filling leaves, an entry shows
  pub shown_same : {A : Type 0} (read : List ℕ → A) → read (with_esn (row_esn_of g) r) ≡ read r → read (shown r g) ≡ read r
  unfolding shown
  shown_same read e = go (has_esn r)
    where
      go : (b : Bool) → read (cond b r (with_esn (row_esn_of g) r)) ≡ read r
      go true = refl
      go false = e

  -- it has 512 bytes
  pub whole_shown : Whole (shown r g)
  whole_shown = shown_same length (whole_with ∙ sym k) ∙ k

  -- the ESN shown is the row's, if the record's own is blank or is that
  pub esn_shown : (has_esn r ≡ true → esn_of r ≡ row_esn_of g) → esn_of (shown r g) ≡ row_esn_of g
  unfolding shown
  esn_shown e = go (has_esn r) refl
    where
      go : (b : Bool) → has_esn r ≡ b → esn_of (cond b r (with_esn (row_esn_of g) r)) ≡ row_esn_of g
      go true q = e q
      go false q = esn_with

  -- and it is not blank, if the row's is not
  pub has_shown : blank (row_esn_of g) ≡ false → has_esn (shown r g) ≡ true
  unfolding shown has_esn esn_of
  has_shown e = go (has_esn r) refl
    where
      go : (b : Bool) → has_esn r ≡ b → has_esn (cond b r (with_esn (row_esn_of g) r)) ≡ true
      go true q = q
      go false q = ap (λ x. not (blank x)) esn_with ∙ rw e

  -- the other fields are the record's own
  pub number_shown : number_of (shown r g) ≡ number_of r
  number_shown = shown_same number_of number_with

  pub house_shown : house_of (shown r g) ≡ house_of r
  house_shown = shown_same house_of house_with

  pub street_shown : street_of (shown r g) ≡ street_of r
  street_shown = shown_same street_of street_with

  pub place_shown : place_of (shown r g) ≡ place_of r
  place_shown = shown_same place_of place_with

  pub date_shown : date_of (shown r g) ≡ date_of r
  date_shown = shown_same date_of date_with

  pub company_shown : company_of (shown r g) ≡ company_of r
  company_shown = shown_same company_of company_with

  pub function_shown : function_of (shown r g) ≡ function_of r
  function_shown = shown_same function_of function_with

  -- and so are code and date
  pub filed_shown : filed_of (shown r g) ≡ filed_of r
  filed_shown = shown_same filed_of filed_with

  -- the same rows cover what is shown
  pub covers_shown : (h : List ℕ) → covers h (shown r g) ≡ covers h r
  covers_shown h = shown_same (covers h) (covers_with h)

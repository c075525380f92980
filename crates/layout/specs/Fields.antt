-- What is read from a record or a row, and what is written into one, by the tables.
-- Assumes nothing.
use Rattle.calendar.specs.declared.Day.{Day}
use Rattle.std.specs.Prelude.{ℕ, ◌%◌, ◌≡◌, refl, List, [], ◌∷◌, Bool, true, false, not, cond, eqb, get_or, Option}
use Rattle.text.specs.Text.{blank, spelled, same_bytes, part, put_at}
use Rattle.calendar.specs.declared.Reading.{Reading}
use Rattle.calendar.specs.declared.Reading.TheVariants.{Present, Former}
use Rattle.calendar.specs.Calendar.{day_of}
use Rattle.calendar.specs.Former.{former_of}
use Rattle.layout.specs.Tables.{data_record, guide_row, start_of, size_of, sizes_from, field, span}
use Rattle.layout.specs.Tables.{function, npa, calling_number, house_number, prefix, post, community, state, esn, date, company_id, source}
use Rattle.layout.specs.Tables.{row_prefix, row_post, low, high, row_community, row_state, parity, row_esn, row_function}

-- ---- the data record

unfoldable pub function_of : List ℕ → ℕ
function_of r = get_or r (start_of data_record function) 0

-- the number is NPA and Calling Number, ten bytes
unfoldable pub number_of : List ℕ → List ℕ
number_of r = span data_record npa calling_number r

-- "House Number is blank or 1 to 8 digits; blank counts as 0"
abbrev pub house_in : List ℕ → Option ℕ
house_in f = spelled 0 8 f

unfoldable pub house_of : List ℕ → Option ℕ
house_of r = house_in (field data_record house_number r)

-- "the street fields (directionals, street, suffix, community and state)" lie in two spans, in the record as in the row
unfoldable pub street_of : List ℕ → List ℕ
street_of r = span data_record prefix post r

unfoldable pub place_of : List ℕ → List ℕ
place_of r = span data_record community state r

unfoldable pub esn_of : List ℕ → List ℕ
esn_of r = field data_record esn r

unfoldable pub has_esn : List ℕ → Bool
has_esn r = not (blank (field data_record esn r))

-- "ESN `83` and `083` differ": bytes are compared
abbrev pub same_esn : List ℕ → List ℕ → Bool
same_esn a b = same_bytes a b

unfoldable pub date_of : List ℕ → Option Day
date_of r = day_of (field data_record date r)

-- the same, by either reading
abbrev pub date_by : Reading → List ℕ → Option Day
date_by Present r = date_of r
date_by Former r = former_of (field data_record date r)

unfoldable pub company_of : List ℕ → List ℕ
company_of r = field data_record company_id r

-- ---- the guide row

unfoldable pub row_street_of : List ℕ → List ℕ
row_street_of g = span guide_row row_prefix row_post g

unfoldable pub row_place_of : List ℕ → List ℕ
row_place_of g = span guide_row row_community row_state g

-- the street fields have the same lengths, in the same order, in both layouts
pub same_street_lem : same_bytes (sizes_from 4 prefix data_record) (sizes_from 4 row_prefix guide_row) ≡ true
same_street_lem = refl

pub same_place : same_bytes (sizes_from 2 community data_record) (sizes_from 2 row_community guide_row) ≡ true
same_place = refl

-- "Low and High are 1 to 8 digits"
abbrev pub end_in : List ℕ → Option ℕ
end_in f = spelled 1 8 f

unfoldable pub low_of : List ℕ → Option ℕ
low_of g = end_in (field guide_row low g)

unfoldable pub high_of : List ℕ → Option ℕ
high_of g = end_in (field guide_row high g)

unfoldable pub parity_of : List ℕ → ℕ
parity_of g = get_or g (start_of guide_row parity) 0

-- "parity allows it": `O` the odd numbers, `E` the even ones, `B` both
unfoldable pub allows : ℕ → ℕ → Bool
allows p n = cond (eqb p 79) (eqb (n % 2) 1) (cond (eqb p 69) (eqb (n % 2) 0) (cond (eqb p 66) true false))

unfoldable pub row_esn_of : List ℕ → List ℕ
row_esn_of g = field guide_row row_esn g

unfoldable pub row_function_of : List ℕ → ℕ
row_function_of g = get_or g (start_of guide_row row_function) 0

-- ---- writing

-- the record with another ESN
unfoldable pub with_esn : List ℕ → List ℕ → List ℕ
with_esn e r = put_at (start_of data_record esn) (part 0 (size_of data_record esn) e) r

-- the record "with Function `I` and Source `C`"
unfoldable pub for_load : List ℕ → List ℕ
for_load r = put_at (start_of data_record source) (67 ∷ []) (put_at (start_of data_record function) (73 ∷ []) r)

-- Document 000, Exhibit 10: the labels that are taken, in the exhibit's order, and for each the bytes of the data record that its
-- value stands for, and the form of that value.
-- Assumes nothing.
use Rattle.std.specs.Prelude.{ℕ, ◌+◌, ◌*◌, ◌-◌, ◌≡◌, refl, List, [], ◌∷◌, ◌++◌, true, get_or}
use Rattle.text.specs.Text.{part}
use Rattle.layout.specs.Tables.{data_record, start_of, size_of, tiles}
use Rattle.layout.specs.Tables.{calling_number, cell, comments, community, company_id, county, customer_code, customer_name, date, esn, exchange, function, general_use, house_number, house_suffix, location, main_npa, main_number, npa, order, post, prefix, sector, service_class, service_type, state, street_name, street_suffix, tar, zip, zip4}
use Rattle.layout.specs.Tables.{source, x, z, reserved, record_star}

-- ---- the forms of a value

-- the field without the spaces at its end
abbrev pub plain : ℕ
plain = 0

-- "as ten digits"
abbrev pub ten : ℕ
ten = 1

-- CCYY-MM-DD
abbrev pub calendar_date : ℕ
calendar_date = 2

-- NNNNN or NNNNN-NNNN
abbrev pub postal : ℕ
postal = 3

-- ---- the table, one row for each label: its letters, and where its fields start (from 0), how many bytes they have, and the form

abbrev pub labels : List ℕ
labels =
    70 ∷ 79 ∷ 67 ∷  -- FOC
    67 ∷ 80 ∷ 78 ∷  -- CPN
    72 ∷ 78 ∷ 79 ∷  -- HNO
    72 ∷ 78 ∷ 83 ∷  -- HNS
    80 ∷ 82 ∷ 68 ∷  -- PRD
    83 ∷ 84 ∷ 78 ∷  -- STN
    83 ∷ 84 ∷ 83 ∷  -- STS
    80 ∷ 79 ∷ 68 ∷  -- POD
    77 ∷ 67 ∷ 78 ∷  -- MCN
    83 ∷ 84 ∷ 65 ∷  -- STA
    76 ∷ 79 ∷ 67 ∷  -- LOC
    78 ∷ 65 ∷ 77 ∷  -- NAM
    67 ∷ 76 ∷ 83 ∷  -- CLS
    84 ∷ 89 ∷ 83 ∷  -- TYS
    69 ∷ 88 ∷ 67 ∷  -- EXC
    69 ∷ 83 ∷ 78 ∷  -- ESN
    77 ∷ 84 ∷ 78 ∷  -- MTN
    79 ∷ 82 ∷ 68 ∷  -- ORD
    67 ∷ 80 ∷ 68 ∷  -- CPD
    67 ∷ 79 ∷ 73 ∷  -- COI
    67 ∷ 80 ∷ 70 ∷  -- CPF
    90 ∷ 73 ∷ 80 ∷  -- ZIP
    67 ∷ 85 ∷ 83 ∷  -- CUS
    67 ∷ 77 ∷ 84 ∷  -- CMT
    84 ∷ 65 ∷ 82 ∷  -- TAR
    71 ∷ 85 ∷ 49 ∷  -- GU1
    67 ∷ 69 ∷ 76 ∷  -- CEL
    83 ∷ 69 ∷ 67 ∷  -- SEC
    []

-- the bytes of fields j to k
abbrev pub size_from : ℕ → ℕ → ℕ
size_from j k = start_of data_record k + size_of data_record k - start_of data_record j

abbrev pub tags : List ℕ
tags =
    start_of data_record function ∷ size_from function function ∷ plain ∷  -- FOC
    start_of data_record npa ∷ size_from npa calling_number ∷ ten ∷  -- CPN
    start_of data_record house_number ∷ size_from house_number house_number ∷ plain ∷  -- HNO
    start_of data_record house_suffix ∷ size_from house_suffix house_suffix ∷ plain ∷  -- HNS
    start_of data_record prefix ∷ size_from prefix prefix ∷ plain ∷  -- PRD
    start_of data_record street_name ∷ size_from street_name street_name ∷ plain ∷  -- STN
    start_of data_record street_suffix ∷ size_from street_suffix street_suffix ∷ plain ∷  -- STS
    start_of data_record post ∷ size_from post post ∷ plain ∷  -- POD
    start_of data_record community ∷ size_from community community ∷ plain ∷  -- MCN
    start_of data_record state ∷ size_from state state ∷ plain ∷  -- STA
    start_of data_record location ∷ size_from location location ∷ plain ∷  -- LOC
    start_of data_record customer_name ∷ size_from customer_name customer_name ∷ plain ∷  -- NAM
    start_of data_record service_class ∷ size_from service_class service_class ∷ plain ∷  -- CLS
    start_of data_record service_type ∷ size_from service_type service_type ∷ plain ∷  -- TYS
    start_of data_record exchange ∷ size_from exchange exchange ∷ plain ∷  -- EXC
    start_of data_record esn ∷ size_from esn esn ∷ plain ∷  -- ESN
    start_of data_record main_npa ∷ size_from main_npa main_number ∷ ten ∷  -- MTN
    start_of data_record order ∷ size_from order order ∷ plain ∷  -- ORD
    start_of data_record date ∷ size_from date date ∷ calendar_date ∷  -- CPD
    start_of data_record county ∷ size_from county county ∷ plain ∷  -- COI
    start_of data_record company_id ∷ size_from company_id company_id ∷ plain ∷  -- CPF
    start_of data_record zip ∷ size_from zip zip4 ∷ postal ∷  -- ZIP
    start_of data_record customer_code ∷ size_from customer_code customer_code ∷ plain ∷  -- CUS
    start_of data_record comments ∷ size_from comments comments ∷ plain ∷  -- CMT
    start_of data_record tar ∷ size_from tar tar ∷ plain ∷  -- TAR
    start_of data_record general_use ∷ size_from general_use general_use ∷ plain ∷  -- GU1
    start_of data_record cell ∷ size_from cell cell ∷ plain ∷  -- CEL
    start_of data_record sector ∷ size_from sector sector ∷ plain ∷  -- SEC
    []

-- behind it "a field without a label": Source, X to Z, Reserved; and `*`
abbrev pub rows : List ℕ
rows =
    tags
    ++ (start_of data_record source ∷ size_from source source ∷ plain
    ∷ start_of data_record x ∷ size_from x z ∷ plain
    ∷ start_of data_record reserved ∷ size_from reserved reserved ∷ plain
    ∷ start_of data_record record_star ∷ size_from record_star record_star ∷ plain
    ∷ [])

abbrev pub tag_count : ℕ
tag_count = 28

-- row k
abbrev pub label_at : ℕ → List ℕ
label_at k = part (3 * k) 3 labels

abbrev pub span_at : ℕ → ℕ
span_at k = get_or rows (3 * k) 0

abbrev pub span_size : ℕ → ℕ
span_size k = get_or rows (3 * k + 1) 0

abbrev pub form_at : ℕ → ℕ
form_at k = get_or rows (3 * k + 2) 0

-- the bytes of a record that label k is for
abbrev pub span_of : ℕ → List ℕ → List ℕ
span_of k r = part (span_at k) (span_size k) r

-- ---- the table's rule, computed: every byte of the record is in one row, and in no other

-- the rows in the order of the record
abbrev pub by_place : List ℕ
by_place =
    0 ∷ 1 ∷ 2 ∷ 3 ∷ 4 ∷ 5 ∷ 6 ∷ 7 ∷ 8 ∷ 9 ∷ 10 ∷ 11 ∷ 12 ∷ 13 ∷ 14 ∷ 15 ∷ 16 ∷ 17 ∷ 18 ∷ 19 ∷ 20
    ∷ 28 ∷ 21 ∷ 25 ∷ 22 ∷ 23 ∷ 29 ∷ 26 ∷ 27 ∷ 24 ∷ 30 ∷ 31 ∷ []

abbrev pub placed : List ℕ → List ℕ
placed [] = []
placed (k ∷ l) = (span_at k + 1) ∷ span_size k ∷ k ∷ placed l

pub tags_tile : tiles 1 512 (placed by_place) ≡ true
tags_tile = refl

-- 01, "Layouts": where each field of a line starts (from 1), how many bytes it has, and the rule that it keeps.
-- Assumes nothing.
use Rattle.std.specs.Prelude.{ℕ, zero, suc, ◌+◌, ◌*◌, ◌-◌, ◌≡◌, refl, List, [], ◌∷◌, Bool, true, false, ◌&&◌, leb, eqb, get_or}
use Rattle.text.specs.Text.{part}

-- ---- rules have names; `Rules` says what each asks

-- any printable bytes
abbrev pub free : ℕ
free = 1

-- left-justified: blank, or the first byte is no space
abbrev pub left_text : ℕ
left_text = 2

-- the same, and not blank; in D and U of a data record it may be
abbrev pub named : ℕ
named = 3

-- C, D, I, U or M
abbrev pub code : ℕ
code = 4

-- all digits
abbrev pub digits : ℕ
digits = 5

-- blank, or 1 to 8 digits
abbrev pub house : ℕ
house = 6

-- blank or N S E W NE NW SE SW
abbrev pub direction : ℕ
direction = 7

-- a digit; in D and U of a data record it may be blank
abbrev pub one_digit : ℕ
one_digit = 8

-- 0 to 5; in D and U of a data record it may be blank
abbrev pub zero_to_five : ℕ
zero_to_five = 9

-- capitals; in D and U of a data record they may be blank
abbrev pub capitals : ℕ
capitals = 10

-- a space or `C`
abbrev pub space_or_c : ℕ
space_or_c = 11

-- blank, or 1 to 5 digits
abbrev pub zone : ℕ
zone = 12

-- 1 to 5 capitals and digits
abbrev pub company_letters : ℕ
company_letters = 13

-- a date
abbrev pub mmddyy : ℕ
mmddyy = 14

-- `*`
abbrev pub star : ℕ
star = 15

-- 1 to 8 digits
abbrev pub low_end : ℕ
low_end = 16

-- 1 to 8 digits, no less than Low
abbrev pub high_end : ℕ
high_end = 17

-- `O`, `E` or `B`, and both ends are of it
abbrev pub parity_letter : ℕ
parity_letter = 18

-- 1 to 5 digits
abbrev pub row_zone : ℕ
row_zone = 19

-- `I` or `D`
abbrev pub row_code : ℕ
row_code = 20

-- `UHL` and two spaces
abbrev pub opening : ℕ
opening = 21

-- `UTL` and two spaces
abbrev pub closing : ℕ
closing = 22

-- a cycle
abbrev pub turn : ℕ
turn = 23

-- a record count
abbrev pub tally : ℕ
tally = 24

-- C, D or I
abbrev pub first_code : ℕ
first_code = 25

-- ---- the tables

-- "Data record, 512."
abbrev pub data_record : List ℕ
data_record =
    1 ∷ 1 ∷ code ∷  -- Function
    2 ∷ 3 ∷ digits ∷  -- NPA
    5 ∷ 7 ∷ digits ∷  -- Calling Number
    12 ∷ 10 ∷ house ∷  -- House Number
    22 ∷ 4 ∷ left_text ∷  -- House Suffix
    26 ∷ 2 ∷ direction ∷  -- Prefix Directional
    28 ∷ 60 ∷ named ∷  -- Street Name
    88 ∷ 4 ∷ left_text ∷  -- Street Suffix
    92 ∷ 2 ∷ direction ∷  -- Post Directional
    94 ∷ 32 ∷ named ∷  -- Community
    126 ∷ 2 ∷ capitals ∷  -- State
    128 ∷ 60 ∷ left_text ∷  -- Location
    188 ∷ 32 ∷ left_text ∷  -- Customer Name
    220 ∷ 1 ∷ one_digit ∷  -- Class
    221 ∷ 1 ∷ zero_to_five ∷  -- Type
    222 ∷ 4 ∷ left_text ∷  -- Exchange
    226 ∷ 5 ∷ zone ∷  -- ESN
    231 ∷ 3 ∷ left_text ∷  -- Main NPA
    234 ∷ 7 ∷ left_text ∷  -- Main Number
    241 ∷ 10 ∷ left_text ∷  -- Order
    251 ∷ 6 ∷ mmddyy ∷  -- Date
    257 ∷ 4 ∷ left_text ∷  -- County
    261 ∷ 5 ∷ company_letters ∷  -- Company ID
    266 ∷ 1 ∷ space_or_c ∷  -- Source
    267 ∷ 5 ∷ left_text ∷  -- Zip
    272 ∷ 4 ∷ left_text ∷  -- Zip+4
    276 ∷ 11 ∷ free ∷  -- General Use
    287 ∷ 3 ∷ left_text ∷  -- Customer Code
    290 ∷ 30 ∷ left_text ∷  -- Comments
    320 ∷ 9 ∷ left_text ∷  -- X
    329 ∷ 9 ∷ left_text ∷  -- Y
    338 ∷ 5 ∷ left_text ∷  -- Z
    343 ∷ 6 ∷ left_text ∷  -- Cell
    349 ∷ 1 ∷ left_text ∷  -- Sector
    350 ∷ 6 ∷ left_text ∷  -- TAR
    356 ∷ 156 ∷ free ∷  -- Reserved
    512 ∷ 1 ∷ star ∷  -- `*`
    []

-- 2026-01, "the 240-byte record of document 003, Exhibit 1": the fields of the data record in their order, with the lengths that they
-- have in Version 1; some have no bytes
abbrev pub narrow_record : List ℕ
narrow_record =
    1 ∷ 1 ∷ first_code ∷  -- Function
    2 ∷ 3 ∷ digits ∷  -- NPA
    5 ∷ 7 ∷ digits ∷  -- Calling Number
    12 ∷ 10 ∷ house ∷  -- House Number
    22 ∷ 4 ∷ left_text ∷  -- House Suffix
    26 ∷ 2 ∷ direction ∷  -- Prefix Directional
    28 ∷ 40 ∷ named ∷  -- Street Name
    68 ∷ 4 ∷ left_text ∷  -- Street Suffix
    72 ∷ 2 ∷ direction ∷  -- Post Directional
    74 ∷ 32 ∷ named ∷  -- Community
    106 ∷ 2 ∷ capitals ∷  -- State
    108 ∷ 20 ∷ left_text ∷  -- Location
    128 ∷ 32 ∷ left_text ∷  -- Customer Name
    160 ∷ 1 ∷ one_digit ∷  -- Class
    161 ∷ 1 ∷ zero_to_five ∷  -- Type
    162 ∷ 4 ∷ left_text ∷  -- Exchange
    166 ∷ 5 ∷ zone ∷  -- ESN
    171 ∷ 3 ∷ left_text ∷  -- Main NPA
    174 ∷ 7 ∷ left_text ∷  -- Main Number
    181 ∷ 10 ∷ left_text ∷  -- Order
    191 ∷ 6 ∷ mmddyy ∷  -- Date
    197 ∷ 4 ∷ left_text ∷  -- County
    201 ∷ 5 ∷ company_letters ∷  -- Company ID
    206 ∷ 1 ∷ space_or_c ∷  -- Source
    207 ∷ 5 ∷ left_text ∷  -- Zip
    212 ∷ 4 ∷ left_text ∷  -- Zip+4
    216 ∷ 11 ∷ free ∷  -- General Use
    227 ∷ 0 ∷ left_text ∷  -- Customer Code
    227 ∷ 0 ∷ left_text ∷  -- Comments
    227 ∷ 0 ∷ left_text ∷  -- X
    227 ∷ 0 ∷ left_text ∷  -- Y
    227 ∷ 0 ∷ left_text ∷  -- Z
    227 ∷ 0 ∷ left_text ∷  -- Cell
    227 ∷ 0 ∷ left_text ∷  -- Sector
    227 ∷ 0 ∷ left_text ∷  -- TAR
    227 ∷ 13 ∷ free ∷  -- Reserved
    240 ∷ 1 ∷ star ∷  -- `*`
    []

-- "Header, 200."; of m bytes, 2026-01: "ours, with the free part shortened"
abbrev pub header_table : ℕ → List ℕ
header_table m =
    1 ∷ 5 ∷ opening ∷  -- `UHL` and two spaces
    6 ∷ 6 ∷ mmddyy ∷  -- date
    12 ∷ 50 ∷ named ∷  -- company name
    62 ∷ 6 ∷ turn ∷  -- cycle
    68 ∷ (m - 68) ∷ free ∷  -- free
    m ∷ 1 ∷ star ∷  -- `*`
    []

abbrev pub header : List ℕ
header = header_table 200

-- "Trailer, 200."; of m bytes
abbrev pub trailer_table : ℕ → List ℕ
trailer_table m =
    1 ∷ 5 ∷ closing ∷  -- `UTL` and two spaces
    6 ∷ 6 ∷ mmddyy ∷  -- date
    12 ∷ 50 ∷ named ∷  -- name
    62 ∷ 9 ∷ tally ∷  -- record count
    71 ∷ (m - 71) ∷ free ∷  -- free
    m ∷ 1 ∷ star ∷  -- `*`
    []

abbrev pub trailer : List ℕ
trailer = trailer_table 200

-- "Guide row, 200."
abbrev pub guide_row : List ℕ
guide_row =
    1 ∷ 2 ∷ direction ∷  -- Prefix
    3 ∷ 60 ∷ named ∷  -- Street
    63 ∷ 4 ∷ left_text ∷  -- Suffix
    67 ∷ 2 ∷ direction ∷  -- Post
    69 ∷ 10 ∷ low_end ∷  -- Low
    79 ∷ 10 ∷ high_end ∷  -- High
    89 ∷ 32 ∷ named ∷  -- Community
    121 ∷ 2 ∷ capitals ∷  -- State
    123 ∷ 1 ∷ parity_letter ∷  -- parity
    124 ∷ 5 ∷ row_zone ∷  -- ESN
    129 ∷ 70 ∷ free ∷  -- free
    199 ∷ 1 ∷ row_code ∷  -- Function
    200 ∷ 1 ∷ star ∷  -- `*`
    []

-- ---- each table tiles its line: the fields follow one another from position p to the end at m, with no gap

abbrev pub tiles : ℕ → ℕ → List ℕ → Bool
tiles p m (at ∷ n ∷ r ∷ t) = (eqb at p && leb 1 n) && tiles (p + n) m t
tiles p m [] = eqb p (m + 1)
tiles p m (x ∷ []) = false
tiles p m (x ∷ y ∷ []) = false

pub record_tiles : tiles 1 512 data_record ≡ true
record_tiles = refl

pub header_tiles : tiles 1 200 header ≡ true
header_tiles = refl

pub trailer_tiles : tiles 1 200 trailer ≡ true
trailer_tiles = refl

pub narrow_header_tiles : tiles 1 160 (header_table 160) ≡ true
narrow_header_tiles = refl

pub narrow_trailer_tiles : tiles 1 160 (trailer_table 160) ≡ true
narrow_trailer_tiles = refl

pub row_tiles : tiles 1 200 guide_row ≡ true
row_tiles = refl

-- ---- a field is named by its place in its table, from 0: those of the data record,

abbrev pub function : ℕ
function = 0

abbrev pub npa : ℕ
npa = 1

abbrev pub calling_number : ℕ
calling_number = 2

abbrev pub house_number : ℕ
house_number = 3

abbrev pub house_suffix : ℕ
house_suffix = 4

abbrev pub prefix : ℕ
prefix = 5

abbrev pub street_name : ℕ
street_name = 6

abbrev pub street_suffix : ℕ
street_suffix = 7

abbrev pub post : ℕ
post = 8

abbrev pub community : ℕ
community = 9

abbrev pub state : ℕ
state = 10

abbrev pub location : ℕ
location = 11

abbrev pub customer_name : ℕ
customer_name = 12

abbrev pub service_class : ℕ
service_class = 13

abbrev pub service_type : ℕ
service_type = 14

abbrev pub exchange : ℕ
exchange = 15

abbrev pub esn : ℕ
esn = 16

abbrev pub main_npa : ℕ
main_npa = 17

abbrev pub main_number : ℕ
main_number = 18

abbrev pub order : ℕ
order = 19

abbrev pub date : ℕ
date = 20

abbrev pub county : ℕ
county = 21

abbrev pub company_id : ℕ
company_id = 22

abbrev pub source : ℕ
source = 23

abbrev pub zip : ℕ
zip = 24

abbrev pub zip4 : ℕ
zip4 = 25

abbrev pub general_use : ℕ
general_use = 26

abbrev pub customer_code : ℕ
customer_code = 27

abbrev pub comments : ℕ
comments = 28

abbrev pub x : ℕ
x = 29

abbrev pub z : ℕ
z = 31

abbrev pub cell : ℕ
cell = 32

abbrev pub sector : ℕ
sector = 33

abbrev pub tar : ℕ
tar = 34

abbrev pub reserved : ℕ
reserved = 35

abbrev pub record_star : ℕ
record_star = 36

-- those of the guide row,

abbrev pub row_prefix : ℕ
row_prefix = 0

abbrev pub row_post : ℕ
row_post = 3

abbrev pub low : ℕ
low = 4

abbrev pub high : ℕ
high = 5

abbrev pub row_community : ℕ
row_community = 6

abbrev pub row_state : ℕ
row_state = 7

abbrev pub parity : ℕ
parity = 8

abbrev pub row_esn : ℕ
row_esn = 9

abbrev pub row_function : ℕ
row_function = 11

-- and those of header and trailer

abbrev pub opener : ℕ
opener = 0

abbrev pub frame_date : ℕ
frame_date = 1

abbrev pub name : ℕ
name = 2

abbrev pub cycle : ℕ
cycle = 3

abbrev pub count : ℕ
count = 3

abbrev pub frame_star : ℕ
frame_star = 5

-- the byte, from 0, at which field k starts, and how many bytes it has
abbrev pub start_of : List ℕ → ℕ → ℕ
start_of t k = get_or t (3 * k) 0 - 1

abbrev pub size_of : List ℕ → ℕ → ℕ
size_of t k = get_or t (3 * k + 1) 0

-- the bytes of field k of a line
abbrev pub field : List ℕ → ℕ → List ℕ → List ℕ
field t k s = part (start_of t k) (size_of t k) s

-- the bytes from field j to field k
abbrev pub span : List ℕ → ℕ → ℕ → List ℕ → List ℕ
span t j k s = part (start_of t j) (start_of t k + size_of t k - start_of t j) s

-- the lengths of n fields from field k on
abbrev pub sizes_from : ℕ → ℕ → List ℕ → List ℕ
sizes_from zero k t = []
sizes_from (suc n) k t = size_of t k ∷ sizes_from n (k + 1) t

-- 2026-01: the data record of Version 1 (document 003, Exhibit 1) beside that of Version 2: the same fields in the same order, some
-- shorter, some of no bytes. A record is widened to Version 2, narrowed to Version 1, and its first fault stays. Assumes nothing.
use Rattle.std.specs.Prelude.{ℕ, zero, suc, ◌+◌, ◌*◌, ◌-◌, ◌≡◌, refl, min, length, get_or}
use Rattle.std.specs.Prelude.{List, [], ◌∷◌, ◌++◌, Bool, true, false, ◌&&◌, ◌||◌, not, cond, leb, ltb, eqb}
use Rattle.text.specs.Text.{member_of, blank, part, spaces}
use Rattle.layout.specs.Tables.{free, left_text, named, code, first_code, high_end, parity_letter}
use Rattle.layout.specs.Tables.{data_record, narrow_record, start_of, size_of, field}
use Rattle.layout.specs.Fields.{function_of}
use Rattle.layout.specs.Rules.{record_fault}
use Rattle.versions.specs.declared.Version.{Version}
use Rattle.versions.specs.declared.Version.TheVariants.{One, Two}

-- ---- both tables have the same 37 fields, and tile their records; Version 1's table has fields of no bytes

abbrev pub fields : ℕ
fields = 37

-- the position of field k, as refusals count: from 1; and its rule
abbrev pub position_of : List ℕ → ℕ → ℕ
position_of t k = get_or t (3 * k) 0

abbrev pub rule_of : List ℕ → ℕ → ℕ
rule_of t k = get_or t (3 * k + 2) 0

-- every number below n passes the test
abbrev pub all_to : (ℕ → Bool) → ℕ → Bool
all_to p zero = true
all_to p (suc k) = all_to p k && p k

-- how many bytes the first k fields have
unfoldable pub end_of : List ℕ → ℕ → ℕ
end_of t zero = 0
end_of t (suc k) = end_of t k + size_of t k

-- each field starts where those before it end, and the last ends at the record's end
abbrev pub begins : List ℕ → ℕ → Bool
begins t k = eqb (start_of t k) (end_of t k)

pub data_begins : all_to (begins data_record) fields ≡ true
unfolding end_of
data_begins = refl

pub narrow_begins : all_to (begins narrow_record) fields ≡ true
unfolding end_of
narrow_begins = refl

pub data_ends : end_of data_record fields ≡ 512
unfolding end_of
data_ends = refl

pub narrow_ends : end_of narrow_record fields ≡ 240
unfolding end_of
narrow_ends = refl

-- the table of a version
abbrev pub table_of : Version → List ℕ
table_of One = narrow_record
table_of Two = data_record

-- "same fields": none is longer in Version 1, and each has the same rule but for the codes. Where it is shorter, the rule is one that
-- blanks behind do not break, and each rule looks at its own field alone
abbrev pub trails : ℕ → ℕ → Bool
trails m r = eqb r free || (eqb r left_text || (eqb r named && leb 1 m))

abbrev pub alone : ℕ → Bool
alone r = not (eqb r high_end) && not (eqb r parity_letter)

abbrev pub shares_rule : ℕ → ℕ → ℕ → ℕ → Bool
shares_rule n r m q = (eqb m n && (eqb q r || (eqb q first_code && eqb r code))) || (ltb m n && (eqb q r && trails m r))

abbrev pub shares : ℕ → Bool
shares k =
    alone (rule_of data_record k)
    && shares_rule (size_of data_record k) (rule_of data_record k) (size_of narrow_record k) (rule_of narrow_record k)

pub same_fields : all_to shares fields ≡ true
same_fields = refl

-- ---- a record of Version 1 as one of Version 2, and back

-- n bytes: those of a field, and "blanks behind"
abbrev pub filled : ℕ → List ℕ → List ℕ
filled n f = f ++ spaces (n - length f)

-- "by widening each record to Version 2: same fields, blanks behind, the 13 Reserved bytes first": the first k fields
unfoldable pub widen_to : List ℕ → ℕ → List ℕ
widen_to r zero = []
widen_to r (suc k) = widen_to r k ++ filled (size_of data_record k) (field narrow_record k r)

unfoldable pub widened : List ℕ → List ℕ
widened r = widen_to r fields

-- back: of each field the first bytes, as many as it has in Version 1
unfoldable pub narrow_to : List ℕ → ℕ → List ℕ
narrow_to r zero = []
narrow_to r (suc k) = narrow_to r k ++ filled (size_of narrow_record k) (part (start_of data_record k) (size_of narrow_record k) r)

unfoldable pub narrowed : List ℕ → List ℕ
narrowed r = narrow_to r fields

-- either, from the table t to the table u: of each field the bytes that both have
unfoldable pub move_to : List ℕ → List ℕ → List ℕ → ℕ → List ℕ
move_to t u r zero = []
move_to t u r (suc k) = move_to t u r k ++ filled (size_of u k) (part (start_of t k) (min (size_of t k) (size_of u k)) r)

abbrev pub moved : List ℕ → List ℕ → List ℕ → List ℕ
moved t u r = move_to t u r fields

-- 27: "if a Version 2 field or the tail of a longer field isn't blank": field k has nothing behind the bytes that Version 1 has of it
unfoldable pub tail_blank : List ℕ → ℕ → Bool
tail_blank r k = blank (part (start_of data_record k + size_of narrow_record k) (size_of data_record k - size_of narrow_record k) r)

unfoldable pub narrows : List ℕ → Bool
narrows r = all_to (tail_blank r) fields

-- in either version: a record of Version 2 as one of it, and whether that has all of it
abbrev pub narrow_of : Version → List ℕ → List ℕ
narrow_of One r = narrowed r
narrow_of Two r = r

abbrev pub fits_in : Version → List ℕ → Bool
fits_in One r = narrows r
fits_in Two r = true

-- ---- what is proved of them

-- "any Version 1 record widened and narrowed is itself": of any 240 bytes
unfoldable pub WideAndBack : Type 0
WideAndBack = (r : List ℕ) → length r ≡ 240 → narrowed (widened r) ≡ r

-- a record of Version 2 that Version 1 has all of, narrowed and widened, is itself
unfoldable pub NarrowAndBack : Type 0
NarrowAndBack = (r : List ℕ) → length r ≡ 512 → narrows r ≡ true → widened (narrowed r) ≡ r

-- position p of Version 1, where a field of some bytes begins, as the position of the same field in Version 2; 0 stays 0
unfoldable pub translate_to : ℕ → ℕ → ℕ
translate_to p zero = 0
translate_to p (suc k) =
    cond (eqb (position_of narrow_record k) p && leb 1 (size_of narrow_record k)) (position_of data_record k) (translate_to p k)

unfoldable pub translated : ℕ → ℕ
translated p = translate_to p fields

-- widening keeps the first fault, translated: but for U and M, which Version 2 knows
unfoldable pub FaultKept : Type 0
FaultKept =
    (r : List ℕ) → length r ≡ 240 → member_of (function_of r) (85 ∷ 77 ∷ []) ≡ false
    → record_fault data_record (widened r) ≡ translated (record_fault narrow_record r)

-- "Version 1 knows only C, D and I": "9 at position 1 for U and M"
unfoldable pub KnowsThree : Type 0
KnowsThree = (r : List ℕ) → member_of (function_of r) (67 ∷ 68 ∷ 73 ∷ []) ≡ false → record_fault narrow_record r ≡ 1

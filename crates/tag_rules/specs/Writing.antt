-- 2026-12, writing: "We write labels in the exhibit's order and omit blank fields, so each record has one tagged form".
-- Assumes nothing.
use Rattle.std.specs.Option.{is_none}
use Rattle.std.specs.Prelude.{ℕ, zero, suc, ◌+◌, ◌≡◌, List, [], ◌∷◌, ◌++◌, Bool, ◌&&◌, not, cond, ltb, eqb, length, drop}
use Rattle.text.specs.declared.Class.TheVariants.{Unbarred}
use Rattle.text.specs.Text.{all_in, blank}
use Rattle.layout.specs.Tables.{data_record}
use Rattle.layout.specs.Rules.{record_fault}
use Rattle.rules.specs.Walks.{find, first}
use Rattle.tag_rules.specs.declared.Tagged.{Tagged}
use Rattle.tag_rules.specs.Tags.{tag_count, label_at, span_size, form_at, span_of}
use Rattle.tag_rules.specs.Forms.{formed, worded, longest}
use Rattle.tag_rules.specs.Reading.{TextOutcome, refused_text}

-- "for each field `|`, label and value"; a blank one is omitted
unfoldable pub pair_of : List ℕ → ℕ → List ℕ
pair_of r k = cond (blank (span_of k r)) [] (124 ∷ (label_at k ++ worded (form_at k) (span_of k r)))

-- the pairs of the first k labels
unfoldable pub pairs_to : List ℕ → ℕ → List ℕ
pairs_to r zero = []
pairs_to r (suc k) = pairs_to r k ++ pair_of r k

-- the one tagged form of a record
unfoldable pub tagged_of : List ℕ → List ℕ
tagged_of r = 68 ∷ 65 ∷ 84 ∷ (pairs_to r tag_count ++ (10 ∷ []))

-- how many bytes the pair of label k may have, those of the first k labels, and a text
abbrev pub room_at : ℕ → ℕ
room_at k = 4 + longest (form_at k) (span_size k)

abbrev pub room_to : ℕ → ℕ
room_to zero = 0
room_to (suc k) = room_to k + room_at k

abbrev pub text_most : ℕ
text_most = 4 + room_to tag_count

-- 37: "a field without a label (`*` apart) isn't blank"
unfoldable pub is_bare : List ℕ → Bool
is_bare r = blank (span_of 28 r) && (blank (span_of 29 r) && blank (span_of 30 r))

-- 37: the bytes of label k have no tagged form
unfoldable pub unformed_at : List ℕ → ℕ → Bool
unformed_at r k = not (formed (form_at k) (span_of k r))

-- 37: "if a value contains `|`" (a `|` in a field without a label is refused by 37 too), or one of the others
unfoldable pub has_form : List ℕ → Bool
has_form r = all_in Unbarred r && (is_bare r && is_none (find (unformed_at r) tag_count))

-- "9; 37 when writing, after 9 ..; then 25"; a record has 512 bytes
abbrev pub write_table : List ℕ → ℕ → List (Bool × ℕ)
write_table r room =
    (not (eqb (length r) 512 && eqb (record_fault data_record r) 0), 9)
    ∷ (not (has_form r), 37)
    ∷ (ltb room (length (tagged_of r)), 25)
    ∷ []

unfoldable pub write_refusal : List ℕ → ℕ → ℕ
write_refusal r room = first (write_table r room)

-- the position of the fault; 0 where the record has not 512 bytes
abbrev pub fault_of : List ℕ → ℕ
fault_of r = cond (eqb (length r) 512) (record_fault data_record r) 0

unfoldable pub text_written : List ℕ → List ℕ → TextOutcome
text_written r out =
    cond (eqb (write_refusal r (length out)) 0)
    (record {
      result = record { refusal = 0; position = 0; bytes = length (tagged_of r) };
      output = tagged_of r ++ drop (length (tagged_of r)) out;
    })
    (refused_text (write_refusal r (length out)) (fault_of r) out)

-- what writing promises: the result, and the output at exit
abbrev pub WritesText : List ℕ → List ℕ → Tagged → List ℕ → Type 0
WritesText r out result output = (result ≡ (text_written r out).result) × (output ≡ (text_written r out).output)

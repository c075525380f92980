-- 2026-12, reading: "`DAT`, then for each field `|`, label and value .., then one newline byte", "reading accepts any order".
-- Assumes nothing.
use Rattle.std.specs.Prelude.{ℕ, ◌-◌, ◌≡◌, List, [], ◌∷◌, ◌++◌, Bool, true, false, ◌&&◌, ◌||◌, not, cond, leb, ltb, eqb, length, drop, get_or, set, replicate, Option}
use Rattle.text.specs.Text.{same_bytes, part, spaces, put_at, on_some}
use Rattle.layout.specs.Tables.{data_record}
use Rattle.layout.specs.Rules.{record_fault}
use Rattle.rules.specs.Walks.{find, first}
use Rattle.tag_rules.specs.declared.Notes.{Notes}
use Rattle.tag_rules.specs.declared.Tagged.{Tagged}
use Rattle.tag_rules.specs.Tags.{tag_count, label_at, span_at, span_size, form_at}
use Rattle.tag_rules.specs.Forms.{spread, fits}

-- ---- the text

-- 33: "no `DAT` or newline": `DAT` before the first `|`, and a newline as the last byte
unfoldable pub is_framed : List ℕ → Bool
is_framed s =
    leb 4 (length s)
    && (eqb (get_or s (length s - 1) 0) 10
    && (same_bytes (part 0 3 s) (68 ∷ 65 ∷ 84 ∷ [])
    && (eqb (length s) 4 || eqb (get_or s 3 0) 124)))

-- what stands between the two
unfoldable pub body_of : List ℕ → List ℕ
body_of s = part 3 (length s - 4) s

-- what stands before, between and behind the `|` of a list
abbrev pub pushed : ℕ → List (List ℕ) → List (List ℕ)
pushed b [] = (b ∷ []) ∷ []
pushed b (p ∷ ps) = (b ∷ p) ∷ ps

abbrev pub parted : List ℕ → List (List ℕ)
parted [] = [] ∷ []
parted (b ∷ s) = cond (eqb b 124) ([] ∷ parted s) (pushed b (parted s))

-- "for each field `|`, label and value": the pairs of a body, which begins with `|`
abbrev pub pairs_of : List ℕ → List (List ℕ)
pairs_of [] = []
pairs_of (b ∷ s) = parted s

-- ---- one pair

-- the row of its label, if the label is taken and not cut short
abbrev pub is_label : List ℕ → ℕ → Bool
is_label p k = same_bytes (label_at k) (part 0 3 p)

unfoldable pub tag_of : List ℕ → Option ℕ
tag_of p = find (is_label p) tag_count

abbrev pub value_in : List ℕ → List ℕ
value_in p = drop 3 p

-- ---- the walk over all pairs, one after the other

-- what was noted so far, which labels were seen (1 or 0), and the record
pub record Draft : Type 0 where
  pub notes : Notes
  pub seen : List ℕ
  pub line : List ℕ

-- 34 is noted of a label that is not taken
abbrev pub unknown_noted : Notes → Notes
unknown_noted n = record { unknown = true; twice = n.twice; unfit = n.unfit }

-- 35 of one that was seen before, 36 of a value that does not fit
abbrev pub label_noted : Bool → Bool → Notes → Notes
label_noted again fit n = record { unknown = n.unknown; twice = n.twice || again; unfit = n.unfit || not fit }

abbrev pub unknown_taken : Draft → Draft
unknown_taken w = record { notes = unknown_noted w.notes; seen = w.seen; line = w.line }

-- label k with its value v: it is seen, and the value is put into its place
abbrev pub label_taken : ℕ → List ℕ → Draft → Draft
label_taken k v w =
    record {
      notes = label_noted (eqb (get_or w.seen k 0) 1) (fits (form_at k) (span_size k) v) w.notes;
      seen = set w.seen k 1;
      line = put_at (span_at k) (spread (form_at k) (span_size k) v) w.line;
    }

-- a pair, by its label; and all pairs, one after the other
unfoldable pub pair_taken : List ℕ → Draft → Draft
pair_taken p w = on_some (tag_of p) (unknown_taken w) (λ k. label_taken k (value_in p) w)

unfoldable pub all_taken : List (List ℕ) → Draft → Draft
all_taken [] w = w
all_taken (p ∷ ps) w = all_taken ps (pair_taken p w)

-- before it: nothing noted, no label seen; a record of spaces and `*`
abbrev pub nothing_noted : Notes
nothing_noted = record { unknown = false; twice = false; unfit = false }

abbrev pub none_seen : List ℕ
none_seen = replicate tag_count 0

abbrev pub blank_line : List ℕ
blank_line = spaces 511 ++ (42 ∷ [])

abbrev pub blank_draft : Draft
blank_draft = record { notes = nothing_noted; seen = none_seen; line = blank_line }

unfoldable pub draft_of : List ℕ → Draft
draft_of s = all_taken (pairs_of (body_of s)) blank_draft

-- ---- the refusals, in this order: "33 ..; 34 ..; 35 ..; 36 ..; then 9; .. then 25"

abbrev pub read_table : List ℕ → ℕ → Draft → List (Bool × ℕ)
read_table s room w =
    (not (is_framed s), 33)
    ∷ (w.notes.unknown, 34)
    ∷ (w.notes.twice, 35)
    ∷ (w.notes.unfit, 36)
    ∷ (not (eqb (record_fault data_record w.line) 0), 9)
    ∷ (ltb room 512, 25)
    ∷ []

unfoldable pub read_refusal : List ℕ → ℕ → ℕ
read_refusal s room = first (read_table s room (draft_of s))

-- ---- what is returned, and the output afterwards

pub record TextOutcome : Type 0 where
  pub result : Tagged
  pub output : List ℕ

-- "A refusal writes nothing"; the position is told in 9 only
abbrev pub refused_text : ℕ → ℕ → List ℕ → TextOutcome
refused_text n position out =
    record { result = record { refusal = n; position = cond (eqb n 9) position 0; bytes = 0 }; output = out }

unfoldable pub text_read : List ℕ → List ℕ → TextOutcome
text_read s out =
    cond (eqb (read_refusal s (length out)) 0)
    (record { result = record { refusal = 0; position = 0; bytes = 512 }; output = (draft_of s).line ++ drop 512 out })
    (refused_text (read_refusal s (length out)) (record_fault data_record (draft_of s).line) out)

-- what reading promises: the result, and the output at exit
abbrev pub ReadsText : List ℕ → List ℕ → Tagged → List ℕ → Type 0
ReadsText s out result output = (result ≡ (text_read s out).result) × (output ≡ (text_read s out).output)

-- What writing cites: the row of a label and its bytes; a pair, which is written behind what is there; and the room that is left.
-- Assumes nothing.
use Rattle.std.proofs.Common.{◌≡◌, ℕ, ◌+◌, ◌^◌, ◌<◌, ◌≤◌, Bool, true, false, List, [], ◌∷◌, ◌++◌, length, refl, sym, ap, ◌∙◌, not, arith, append_assoc, append-nil, length-append, add-one}
use Rattle.text.specs.Text.{blank, part}
use Rattle.layout.specs.Tables.{data_record}
use Rattle.layout.specs.Rules.{record_fault}
use Rattle.versions.specs.declared.Version.TheVariants.{Two}
use Rattle.rules.specs.declared.Kind.TheVariants.{Data}
use Rattle.rules.proofs.FaultLaws.{line_fault_le}
use Rattle.tag_rules.specs.Tags.{label_at, form_at, span_of}
use Rattle.tag_rules.specs.Forms.{shaped, formed, worded, longest}
use Rattle.tag_rules.specs.Writing.{pair_of, pairs_to, tagged_of, room_at, unformed_at}
use Rattle.tag_rules.proofs.TagLaws.{label_long}
use Rattle.tag_rules.proofs.FormLaws.{row_shape}
use Rattle.tag_rules.proofs.RoomLaws.{span_long, pairs_room, room_more, room_all}
use Rattle.tagged.specs.declared.table.Row.{Row}
use Rattle.tagged.specs.Rows.{number, IsRow}

module _ (k : ℕ) (row : Row) (e : IsRow k row) (r f : List ℕ) (p : f ≡ part row.at row.size r) where
  field_is : f ≡ span_of k r
  field_is = p ∙ rw (e.at, e.size) refl

  -- what the test says of a row
  pub formed_at : (b v : Bool) → b ≡ formed (number row.form) f → b ≡ v → unformed_at r k ≡ not v
  unfolding unformed_at
  formed_at b v q t = ap not (sym (rw (field_is, e.form) at q) ∙ t)

  -- nothing is written for a blank field
  pub pair_none : (old : List ℕ) → blank f ≡ true → old ≡ old ++ pair_of r k
  unfolding pair_of
  pair_none old b = let z : blank (span_of k r) ≡ true = ap blank (sym field_is) ∙ b in rw z (sym (append-nil old))

  pub pair_some : (old t u : List ℕ) → blank f ≡ false → t ≡ old ++ row.label
      → u ≡ t ++ worded (number row.form) f → u ≡ old ++ pair_of r k
  unfolding pair_of
  pair_some old t u b x y =
      let z : blank (span_of k r) ≡ false = ap blank (sym field_is) ∙ b in
      y ∙ rw (x, z, e.label, e.form, field_is) (append_assoc old (124 ∷ label_at k) (worded (form_at k) (span_of k r)))

  -- there is room for the value
  pub value_shaped : k < 28 → length r ≡ 512 → shaped (number row.form) (length f) ≡ true
  value_shaped h l = rw (field_is, span_long r l k h, e.form) (row_shape k h)

  pub value_fits : k < 28 → length r ≡ 512 → (old t : List ℕ) → length old + room_at k ≤ 452 → t ≡ old ++ row.label
      → length t + longest (number row.form) (length f) ≤ 452
  value_fits h l old t room x =
      let m : length t ≡ length old + length (124 ∷ label_at k) = ap length x ∙ length-append old row.label ∙ rw e.label refl in
      rw (field_is, span_long r l k h, e.form) (omega (arith, m, label_long k h))

-- ---- the pairs of the first k labels

module _ (r : List ℕ) (l : length r ≡ 512) (k : ℕ) (old : List ℕ) (x : old ≡ 68 ∷ 65 ∷ 84 ∷ pairs_to r k) where
  -- there is room for the next one
  pub pairs_next : k < 28 → length old + room_at k ≤ 452
  pairs_next h = rw x (omega (arith, pairs_room r l k (omega arith), room_more k h))

  pub pairs_more : (u : List ℕ) → u ≡ old ++ pair_of r k → u ≡ 68 ∷ 65 ∷ 84 ∷ pairs_to r (k + 1)
  unfolding pairs_to
  pairs_more u y = y ∙ rw (x, add-one k) refl

-- all pairs, which leave room for the newline
module _ (r : List ℕ) (l : length r ≡ 512) (old : List ℕ) (x : old ≡ 68 ∷ 65 ∷ 84 ∷ pairs_to r 28) where
  pub newline_fits : length old + 1 ≤ 452
  newline_fits = rw x (omega (arith, pairs_room r l 28 (omega arith), room_all))

  pub text_made : (u : List ℕ) → u ≡ old ++ 10 ∷ [] → u ≡ tagged_of r
  unfolding tagged_of
  text_made u y = y ∙ rw x refl

-- ---- the answers

-- the position of a fault fits
pub fault_fits : (r : List ℕ) → record_fault data_record r < 2 ^ 32
fault_fits r = omega (arith, line_fault_le (Data Two) r)

-- How long a text may be: a value of each form is at most as long as `longest` says, the rows add up, and `DAT` and a newline stand
-- round the pairs. The sums over the table are computed. Assumes nothing.
use mathlib.Core.Path.{◌≡◌, refl, ◌∙◌}
use mathlib.Core.Bool.{Bool, true, false, cond}
use mathlib.Core.List.{List, [], ◌∷◌, ◌++◌}
use Prim.Native.Nat.{ℕ, zero, suc, ◌+◌, ◌≤◌, ◌<◌}
use native.Mathlib.Omega.{arith}
use lib.Dec.{leb}
use lib.ListN.{length, get_or, length-append}
use borrow.Author.Tests.{leb-true}
use Rattle.text.specs.Text.{blank, part}
use Rattle.text.proofs.TrimLaws.{trim_length}
use Rattle.calendar.proofs.DayLaws.{every, every_at}
use Rattle.rules.proofs.PlaceLaws.{part_length}
use Rattle.tag_rules.specs.Tags.{calendar_date, postal, tag_count, label_at, span_at, span_size, form_at, span_of}
use Rattle.tag_rules.specs.Forms.{shaped, is_nineteen, century, worded, longest}
use Rattle.tag_rules.specs.Writing.{pair_of, pairs_to, tagged_of, room_at, room_to, text_most}
use Rattle.tag_rules.proofs.FormLaws.{Shape, is_plain, is_ten, is_date_lem, is_postal, shape_of, row_shape}
use Rattle.tag_rules.proofs.TagLaws.{label_long, span_in}

-- ---- a value

century_long : (b : ℕ) → length (century b) ≡ 2
century_long b = go (is_nineteen b)
  where
    go : (v : Bool) → length {A = ℕ} (cond v (49 ∷ 57 ∷ []) (50 ∷ 48 ∷ [])) ≡ 2
    go true = refl
    go false = refl

date_long : (f : List ℕ) → length f ≡ 6 → length (worded calendar_date f) ≡ 10
unfolding worded
date_long f l =
    let c = century_long (get_or f 4 0) in
    let yy = part_length 4 2 f (omega arith) in
    let mm = part_length 0 2 f (omega arith) in
    let dd = part_length 2 2 f (omega arith) in
    rw (length-append, c, length-append, yy, length-append, mm, dd) refl

postal_most : (f : List ℕ) → length f ≡ 9 → length (worded postal f) ≤ 10
unfolding worded
postal_most f l = rw (length-append, part_length 0 5 f (omega arith)) (go (blank (part 5 4 f)))
  where
    go : (v : Bool) → 5 + length (cond v [] (45 ∷ part 5 4 f)) ≤ 10
    go true = omega arith
    go false = omega (arith, part_length 5 4 f (omega arith))

pub worded_most : (form n : ℕ) (f : List ℕ) → shaped form n ≡ true → length f ≡ n → length (worded form f) ≤ longest form n
unfolding worded
worded_most form n f s l = go (shape_of form n s)
  where
    go : Shape form n → length (worded form f) ≤ longest form n
    go (is_plain e) = rw (e, ← l) (trim_length f)
    go (is_ten e m) = rw (e, ← l) (omega arith)
    go (is_date_lem e m) = rw e (omega (arith, date_long f (l ∙ m)))
    go (is_postal e m) = rw e (postal_most f (l ∙ m))

-- ---- a pair

module _ (r : List ℕ) (l : length r ≡ 512) where
  pub span_long : (k : ℕ) → k < 28 → length (span_of k r) ≡ span_size k
  span_long k h = part_length (span_at k) (span_size k) r (omega (arith, span_in k (omega arith), l))

  pub value_room : (k : ℕ) → k < 28 → length (worded (form_at k) (span_of k r)) ≤ longest (form_at k) (span_size k)
  value_room k h = worded_most (form_at k) (span_size k) (span_of k r) (row_shape k h) (span_long k h)

  pub pair_room : (k : ℕ) → k < 28 → length (pair_of r k) ≤ room_at k
  unfolding pair_of
  pair_room k h = go (blank (span_of k r))
    where
      go : (v : Bool) → length (cond v [] (124 ∷ (label_at k ++ worded (form_at k) (span_of k r)))) ≤ room_at k
      go true = omega arith
      go false = rw (length-append, label_long k h) (omega (arith, value_room k h))

  -- those of the first k labels
  pub pairs_room : (k : ℕ) → k ≤ 28 → length (pairs_to r k) ≤ room_to k
  unfolding pairs_to
  pairs_room zero h = omega arith
  pairs_room (suc k) h =
      let z = length-append (pairs_to r k) (pair_of r k) in
      omega (arith, z, pairs_room k (omega arith), pair_room k (omega arith))

-- ---- all of them

abbrev roomy : ℕ → Bool
roomy k = leb (room_to k + room_at k) 448

all_roomy : every roomy 28 ≡ true
all_roomy = refl

-- the room of a label and of those before it is within that of all
pub room_more : (k : ℕ) → k < 28 → room_to k + room_at k ≤ 448
room_more k h = leb-true (room_to k + room_at k) 448 (every_at roomy 28 k all_roomy h)

pub room_all : room_to tag_count ≡ 448
room_all = refl

pub text_room : text_most ≡ 452
text_room = refl

pub text_most_lem : (r : List ℕ) → length r ≡ 512 → length (tagged_of r) ≤ 452
unfolding tagged_of
text_most_lem r l = rw length-append (omega (arith, pairs_room r l 28 (omega arith), room_all))

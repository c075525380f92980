-- Without a house number no row covers the record (none_over). Else read_over makes is_over's test of street, place and number the test
-- of the record, which rows of another street fail by over_not: by sought_on what seek_on finds is what the walk of that test finds.
use mathlib.Core.Path.{◌≡◌, ◌∙◌, sym}
use mathlib.Core.Bool.{◌&&◌}
use borrow.Author.Rules.{rules}
use Rattle.rules.specs.Slots.{is_present, row_of}
use Rattle.rules.specs.Covers.{over}
use Rattle.rules.specs.Records.{is_over, covers_by}
use Rattle.guide.proofs.StreetLaws.{sought_on, nothing_sought, read_over, none_over, over_not}
use Rattle.guide.proofs.find_row.Goals as goal

pub returns-in_default : goal.returns-in_default
returns-in_default c = nothing_sought _ _ (none_over c.args.rec.now c.args.guide.now (sym c.house.ensures ∙ c.in_default.is))

pub returns : goal.returns
unfolding is_over
returns c =
    sought_on c.street-street.result.now (covers_by c.args.rec.now)
    (λ s b a.
    let e : b ≡ (is_present s && over (row_of s) c.street-street.result.now c.place-place.result.now c.in-Some.house) = search rules in
    e ∙ read_over _ _ _ _ c.street-street.ensures c.place-place.ensures (sym c.house.ensures ∙ c.in-Some.is) s)
    (λ s e. over_not c.args.rec.now s (rw c.street-street.ensures at e)) c.seek_on.ensures

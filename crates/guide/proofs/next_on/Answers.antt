-- Every row from i to below j is of another street. Where may_be_on says false it promises just that of row j (elsewhere_more), and at
-- either exit the invariant is the promise.
use mathlib.Core.Path.{refl}
use Rattle.rules.proofs.PlaceLaws.{place_test}
use Rattle.guide.specs.Streets.{is_on}
use Rattle.guide.proofs.StreetLaws.{elsewhere_more}
use Rattle.guide.proofs.next_on.Goals as goal

pub loop-j-preserved : goal.loop-j-preserved
loop-j-preserved c =
    elsewhere_more _ _ _ _ c.loop-j.invariant
    (place_test 208 (is_on c.args.street.now) c.args.guide.now c.loop-j.j refl (c.may_be_on.ensures c.if-may_be_on.false))

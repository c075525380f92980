-- The chain asks member of each byte, which promises member_of: that is all_of (all_of_is).
use mathlib.Core.Path.{◌∙◌}
use Rattle.std.proofs.Common.{rules, tests}
use Rattle.std.proofs.lemmas.Iterator.{YieldsList-from_slice}
use Rattle.std.proofs.lemmas.Iterator.Search.{all_from_yields_List}
use Rattle.text.specs.Text.{member_of}
use Rattle.text.proofs.Laws.{all_of_is}
use Rattle.text.proofs.all_of.Goals as goal

pub returns : goal.returns
returns c =
    let set = c.args.set.now in
    let f = c.args.f.now in
    let steps = YieldsList-from_slice f c.iter.ensures.rest in
    all_from_yields_List (λ b. member_of b set) _ _ c.all.result c.all.ensures.ran steps (λ x b q k. search (rules, tests))
    ∙ all_of_is set f

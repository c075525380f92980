-- The run ends at the first byte that is not of the class, or at the end (run_past, run_ends); it is no longer than the whole (run_most).
use mathlib.Core.Path.{◌≡◌, refl, sym, ◌∙◌}
use mathlib.Core.Bool.{true, false}
use Rattle.std.proofs.Common.{rules, tests}
use Rattle.std.proofs.lemmas.Iterator.{YieldsList-from_slice, IsFirst-from_position, index_from_first}
use Rattle.text.specs.Text.{in_class, run_of}
use Rattle.text.proofs.Laws.{run_past, run_ends, run_most}
use Rattle.text.proofs.run.Goals as goal

pub returns : goal.returns
returns c =
    let k = c.args.k in
    let f = c.args.f.now in
    let steps = YieldsList-from_slice f c.iter.ensures.rest in
    let first =
    IsFirst-from_position _ _ _ (λ b. in_class k b ≡ false) (λ b. in_class k b ≡ true) c.position.ensures.ran steps
    (λ x q e. search (rules, tests)) (λ x q e. search (rules, tests)) in
    let place = index_from_first (run_of k) _ _ refl (run_ends k) (run_past k) f c.position.result first in
    let r : c.unwrap_or.result ≡ run_of k f = c.unwrap_or.ensures ∙ sym place in
    (r, rw r (run_most k f))

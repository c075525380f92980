-- A space at the end counts for nothing (trim_space); a line that ends in another byte is left whole (trim_other).
use mathlib.Core.Path.{sym, ap, ◌∙◌}
use Rattle.text.specs.Text.{trim_of}
use Rattle.text.proofs.TrimLaws.{trim_space, trim_other}
use Rattle.text.proofs.trimmed.Goals as goal

pub returns-then-last-ne32 : goal.returns-then-last-ne32
returns-then-last-ne32 c =
    let e = c.in-Some.ensures.cases.0 in
    e ∙ sym (trim_other c.in-Some.before.now c.if-last-ne32.true) ∙ sym (ap trim_of e) ∙ c.loop-last.invariant

pub loop-last-preserved : goal.loop-last-preserved
loop-last-preserved c =
    let e = c.in-Some.ensures.cases.0 in
    sym (trim_space c.in-Some.before.now c.if-last-ne32.false) ∙ sym (ap trim_of e) ∙ c.loop-last.invariant

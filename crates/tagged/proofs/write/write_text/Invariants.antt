-- `DAT` and the pairs of the first k labels are written.
use Rattle.std.proofs.Common.{◌≡◌, ◌∷◌}
use Rattle.tag_rules.specs.Writing.{pairs_to}
use Rattle.tagged.proofs.write.write_text.Given as goal

abbrev pub invariant-loop-k : goal.invariant-loop-k
invariant-loop-k l = l.line ≡ 68 ∷ 65 ∷ 84 ∷ pairs_to l.rec l.k

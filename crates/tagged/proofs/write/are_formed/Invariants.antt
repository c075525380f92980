-- No label before k is without a form.
use Rattle.rules.proofs.WalkLaws.{Passed}
use Rattle.tag_rules.specs.Writing.{unformed_at}
use Rattle.tagged.proofs.write.are_formed.Given as goal

abbrev pub invariant-loop-k : goal.invariant-loop-k
invariant-loop-k l = Passed (unformed_at l.rec) 28 l.k

-- The draft is what the pairs so far make of it.
use Rattle.std.proofs.Common.{◌≡◌, map}
use Rattle.tag_rules.specs.Reading.{all_taken}
use Rattle.tagged.proofs.read.Walk.take_pairs.Given as goal

abbrev pub invariant-loop-pair : goal.invariant-loop-pair
invariant-loop-pair l = l.self ≡ all_taken (map (λ x. x.now) l.yielded) l.initial.self

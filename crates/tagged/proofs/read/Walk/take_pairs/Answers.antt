-- One turn is one pair more (taken_more). At the end the pairs are what stands before, between and behind the `|` (parts_are).
use Rattle.std.proofs.Common.{rules, tests, ℕ, List, refl, sym, ap, ◌∙◌}
use Rattle.std.specs.Slice.Iter.{split_rest, split_done, split_callee}
use Rattle.std.proofs.lemmas.Iterator.Consumers.{YieldsList-end}
use Rattle.std.proofs.lemmas.Iterator.Splits.{YieldsList-from_slice_split}
use Rattle.tag_rules.specs.Reading.{pairs_of, pair_taken, all_taken}
use Rattle.tagged.proofs.ReadLaws.{tag_in, none_taken, parts_are, taken_more}
use Rattle.tagged.proofs.read.Walk.take_pairs.Goals as goal

pub overflow_add-next : goal.overflow_add-next
overflow_add-next c =
    let h = tag_in c.in-Some-pair.pair.now c.find_tag-tag.result c.in-Some-tag.k c.find_tag-tag.ensures c.in-Some-tag.is in
    search rules

pub loop-pair-init : goal.loop-pair-init
unfolding all_taken
loop-pair-init c = refl

pub loop-pair-preserved-in-Some-tag : goal.loop-pair-preserved-in-Some-tag
loop-pair-preserved-in-Some-tag c =
    let pair = c.in-Some-pair.pair in
    c.take_pair.ensures ∙ ap (pair_taken pair.now) c.loop-pair.invariant ∙ sym (taken_more c.loop-pair.yielded pair c.args.self.now)

pub loop-pair-preserved : goal.loop-pair-preserved
loop-pair-preserved c =
    let pair = c.in-Some-pair.pair in
    c.take_pair.ensures ∙ ap (pair_taken pair.now) c.loop-pair.invariant ∙ sym (taken_more c.loop-pair.yielded pair c.args.self.now)

pub returns-in-None : goal.returns-in-None
returns-in-None c =
    let it = c.into_iter-pair-iterator.ensures.into_iter_gives in
    let pairs = c.in-Some.pairs.now in
    let cut = c.split-pair-items.ensures in
    let split = YieldsList-from_slice_split _ _ pairs (ap split_rest it ∙ cut.rest) (ap split_done it ∙ cut.done)
    (ap split_callee it ∙ cut.closure)
    (λ x r q k. search (rules, tests)) in
    let end = YieldsList-end split c.loop-pair.yielded _ c.loop-pair.yielded_by _ _ c.in-None.is c.next.ensures.steps in
    c.loop-pair.invariant ∙ ap (λ (ps : List (List ℕ)). all_taken ps c.args.self.now) (end.0 ∙ parts_are pairs)
    ∙ ap (λ (s : List ℕ). all_taken (pairs_of s) c.args.self.now) (sym c.in-Some.ensures.cases.0)

pub returns-in_default : goal.returns-in_default
returns-in_default c = none_taken c.args.body.now c.args.self.now c.in_default.ensures.cases

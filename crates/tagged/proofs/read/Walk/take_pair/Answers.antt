-- The place of a label that was not seen is blank (Clear), and take_value clears that of one that was seen. What was lent comes back as
-- the value put into its place of the line as it was: label_taken_lem.
use mathlib.Core.Path.{sym, ap, ◌∙◌, subst}
use native.Mathlib.Omega.{arith}
use borrow.Author.Rules.{rules}
use Rattle.tag_rules.specs.Reading.{Draft, pair_taken}
use Rattle.tagged.specs.Walking.{Clear}
use Rattle.tagged.proofs.ReadLaws.{not_taken, tag_in, place_in, lent_shaped, lent_blank, label_taken_lem, still_clear}
use Rattle.tagged.proofs.read.Walk.take_pair.Goals as goal

pub returns-in_default : goal.returns-in_default
returns-in_default c =
    let w = c.self.inside in
    not_taken c.args.pair.now c.args.tag (record { notes = w.notes; seen = w.seen; line = w.line }) c.requires c.in_default.is
    ∙ ap (pair_taken c.args.pair.now) c.self.view_is

pub row_at-row-requires : goal.row_at-row-requires
row_at-row-requires c = tag_in c.args.pair.now c.args.tag c.in-Some.k c.requires c.in-Some.is

pub bounds-self-inside-k : goal.bounds-self-inside-k
bounds-self-inside-k c = tag_in c.args.pair.now c.args.tag c.in-Some.k c.requires c.in-Some.is

pub overflow_add-end : goal.overflow_add-end
overflow_add-end c =
    let k = c.in-Some.k in
    let h = tag_in c.args.pair.now c.args.tag k c.requires c.in-Some.is in
    let r = c.row_at-row.result.now in
    let row = c.row_at-row.ensures in
    omega (arith, place_in k r.at r.size h row.at row.size)

pub slice_bounds-take_value-end : goal.slice_bounds-take_value-end
slice_bounds-take_value-end c =
    let k = c.in-Some.k in
    let h = tag_in c.args.pair.now c.args.tag k c.requires c.in-Some.is in
    let r = c.row_at-row.result.now in
    let row = c.row_at-row.ensures in
    omega (arith, place_in k r.at r.size h row.at row.size)

pub take_value-fit-requires-clause-shaped : goal.take_value-fit-requires-clause-shaped
take_value-fit-requires-clause-shaped c =
    let k = c.in-Some.k in
    let h = tag_in c.args.pair.now c.args.tag k c.requires c.in-Some.is in
    let r = c.row_at-row.result.now in
    let row = c.row_at-row.ensures in
    lent_shaped k r.at r.size h row.at row.size c.self.inside.line (search rules) r.form row.form

pub take_value-fit-requires-clause-blank : goal.take_value-fit-requires-clause-blank
take_value-fit-requires-clause-blank c =
    let k = c.in-Some.k in
    let h = tag_in c.args.pair.now c.args.tag k c.requires c.in-Some.is in
    let r = c.row_at-row.result.now in
    let row = c.row_at-row.ensures in
    lent_blank k r.at r.size h row.at row.size c.self.inside.line (search rules) c.self.inside.seen c.self.invariant

pub bounds-self-inside-k-2 : goal.bounds-self-inside-k-2
bounds-self-inside-k-2 c = tag_in c.args.pair.now c.args.tag c.in-Some.k c.requires c.in-Some.is

pub invariant_of-self-2 : goal.invariant_of-self-2
invariant_of-self-2 c =
    let w = c.self.inside in
    let r = c.row_at-row.result.now in
    let row = c.row_at-row.ensures in
    let d : Draft = record { notes = w.notes; seen = w.seen; line = w.line } in
    let taken = label_taken_lem c.args.pair.now c.args.tag c.in-Some.k c.requires c.in-Some.is r.at r.size row.at row.size d (search rules)
    r.form row.form c.part_of-value.result.now c.take_value-fit.new.span c.take_value-fit.result
    c.part_of-value.ensures c.take_value-fit.ensures.fits c.take_value-fit.ensures.spread in
    subst (λ (x : Draft). Clear x.seen x.line) (sym taken)
    (still_clear c.args.pair.now d (search rules) (search rules) c.self.invariant)

pub returns : goal.returns
returns c =
    let w = c.self.inside in
    let r = c.row_at-row.result.now in
    let row = c.row_at-row.ensures in
    let d : Draft = record { notes = w.notes; seen = w.seen; line = w.line } in
    label_taken_lem c.args.pair.now c.args.tag c.in-Some.k c.requires c.in-Some.is r.at r.size row.at row.size d (search rules)
    r.form row.form c.part_of-value.result.now c.take_value-fit.new.span c.take_value-fit.result
    c.part_of-value.ensures c.take_value-fit.ensures.fits c.take_value-fit.ensures.spread
    ∙ ap (pair_taken c.args.pair.now) c.self.view_is

-- A refusal is refused's line. Else the answers end at nine bytes a record, which with 325 leaves room for the eleven of the counts, and
-- over_last puts these behind them.
use mathlib.Core.Path.{refl, sym, ◌∙◌}
use native.Mathlib.Omega.{arith}
use lib.ListN.{length-take, length-drop, length-append, length}
use borrow.Author.Tests.{eq-eqb, ne_eqb}
use Rattle.desk_rules.specs.Desk.{answers_said, take_said, counts_said}
use Rattle.desk_rules.proofs.OverLaws.{over_last}
use Rattle.desk_rules.proofs.SayLaws.{answers_length}
use Rattle.desk_lines.proofs.say.taken.Goals as goal

pub returns-then-t-ne0 : goal.returns-then-t-ne0
unfolding take_said
returns-then-t-ne0 c =
    rw (ne_eqb _ _ c.if-t-ne0.true) c.refused.ensures

pub counts-requires : goal.counts-requires
counts-requires c =
    let r = c.answers-at.ensures.0 ∙ answers_length c.args.given.now c.args.t.records in
    let k = c.answers-at.auto.out in
    simp (length-take, length-drop) (omega (arith, c.requires.0, c.requires.1))

pub returns : goal.returns
unfolding take_said
returns c =
    let t = c.args.t in
    let given = c.args.given.now in
    rw (eq-eqb _ _ c.if-t-ne0.false) (
      rw (c.answers-at.ensures.0, c.counts.ensures.0) (sym (length-append (answers_said given t.records) (counts_said t))),
      rw c.counts.ensures.1
          (over_last (answers_said given t.records) (counts_said t) c.args.out.now c.answers-at.result (length (counts_said t))
          c.answers-at.ensures.1 (sym c.answers-at.ensures.0) refl),
    )

-- Nothing is written for a blank field (pair_none); for any other the label with its `|` and the value are its pair (pair_some). The room
-- of the row is that of the two (value_fits).
use native.Mathlib.Omega.{arith}
use mathlib.Core.Path.{sym, ◌∙◌}
use Rattle.tagged.proofs.TextLaws.{pair_none, pair_some, value_shaped, value_fits}
use Rattle.tagged.proofs.write.write_pair.Goals as goal

pub write-requires : goal.write-requires
write-requires c =
    let row = c.row_at-row.result.now in
    let f = c.field-field.result.now in (
      omega arith,
      (
        value_shaped c.args.k row c.row_at-row.ensures c.args.rec.now f c.field-field.ensures c.requires.label c.requires.long,
        value_fits c.args.k row c.row_at-row.ensures c.args.rec.now f c.field-field.ensures c.requires.label c.requires.long
            c.args.line.now c.append.new.self c.requires.room c.append.ensures,
      ),
    )

pub returns-then-not-is_blank : goal.returns-then-not-is_blank
returns-then-not-is_blank c =
    pair_some c.args.k c.row_at-row.result.now c.row_at-row.ensures c.args.rec.now c.field-field.result.now c.field-field.ensures
    c.args.line.now c.append.new.self c.write.new.out (sym c.is_blank.ensures ∙ c.if-not-is_blank.true) c.append.ensures c.write.ensures

pub returns-else-not-is_blank : goal.returns-else-not-is_blank
returns-else-not-is_blank c =
    pair_none c.args.k c.row_at-row.result.now c.row_at-row.ensures c.args.rec.now c.field-field.result.now c.field-field.ensures
    c.args.line.now (sym c.is_blank.ensures ∙ c.if-not-is_blank.false)

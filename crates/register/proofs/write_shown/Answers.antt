-- What write_slot promises holds of the bare record: it is what is shown where the record has an ESN. Else filled_in carries the ESN
-- that came back in the record's part to the whole slot, and not_filled says that a record too long for the slot changes nothing.
use mathlib.Core.Path.{◌∙◌, sym}
use Rattle.layout.specs.Fields.{row_esn_of}
use Rattle.rules.specs.Records.{shown}
use Rattle.register.proofs.ShownLaws.{filled_in, not_filled}
use Rattle.register.proofs.write_shown.Goals as goal

pub returns-then-has_esn : goal.returns-then-has_esn
unfolding shown
returns-then-has_esn c = rw (← c.has_esn.ensures, c.if-has_esn.true) c.write_slot.ensures

pub returns-then-is_there : goal.returns-then-is_there
unfolding shown
returns-then-is_there c =
    rw (← c.has_esn.ensures, c.if-has_esn.false, ← c.row_esn.ensures)
    (filled_in c.args.state c.args.day c.args.rec.now c.row_esn.result.now c.args.slot.now c.write_slot.new.slot
    c.write_slot.ensures c.fill_esn.new.rec (sym c.is_there.ensures ∙ c.if-is_there.true) c.fill_esn.ensures)

pub returns-else-is_there : goal.returns-else-is_there
unfolding shown
returns-else-is_there c =
    rw (← c.has_esn.ensures, c.if-has_esn.false)
    (not_filled c.args.state c.args.day c.args.rec.now (row_esn_of c.args.row.now) c.args.slot.now
    c.write_slot.new.slot c.write_slot.ensures (sym c.is_there.ensures ∙ c.if-is_there.false))

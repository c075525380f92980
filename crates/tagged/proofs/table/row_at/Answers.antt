-- Row k of the code is row k of the rules: computed (row_is).
use Rattle.tagged.proofs.RowLaws.{row_is}
use Rattle.tagged.proofs.table.row_at.Goals as goal

pub returns : goal.returns
returns c = row_is c.args.k c.requires

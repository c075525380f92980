-- The walk begins at a record of spaces and `*`, which is blank in the place of every label (blank_clear), and has 512 bytes.
use mathlib.Core.Path.{◌≡◌, sym, ◌∙◌}
use lib.ListN.{length}
use lib.Seq.{length-take-le}
use borrow.Author.Rules.{rules}
use Rattle.tagged.proofs.ReadLaws.{blank_clear}
use Rattle.tagged.proofs.read.read.Goals as goal

pub invariant_of-walk : goal.invariant_of-walk
invariant_of-walk c = blank_clear

pub copy_from_slice-requires : goal.copy_from_slice-requires
copy_from_slice-requires c =
    let l : length c.walk.inside.line ≡ 512 = search rules in
    length-take-le 512 c.args.out.now c.if-out-lt-RECORD_SIZE.false ∙ sym l

-- A place that was cleared is blank, and so is one where nothing stood.
use lib.ListN.{length}
use Rattle.text.proofs.DigitLaws.{blank_spaces}
use Rattle.tagged.proofs.read.take_value.Goals as goal
use Rattle.tagged.proofs.read.take_value.Goals.{then-again, else-again}

pub spread-requires : goal.spread-requires
spread-requires c = elim c.if-again.branch [
  | then-again w ↦ rw (w.span-is, w.fill.ensures) (blank_spaces (length c.args.span.now))
  | else-again w ↦ rw w.span-is (c.requires.blank w.if-again.false)
]

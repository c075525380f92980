-- encode gets just the first 2n + 1 bytes and fills them with the frame's line (encoded_is); the others stay.
use mathlib.Core.Path.{refl, sym, ◌∙◌}
use native.Mathlib.Omega.{arith}
use lib.ListN.{length-take}
use Rattle.desk_rules.proofs.HexLaws.{line_length, encoded_is}
use Rattle.desk_lines.proofs.say.line.Goals as goal

pub returns : goal.returns
returns c =
    let frame = c.args.frame.now in (
      sym (line_length frame),
      rw (c.encode.ensures ∙ encoded_is frame _ (simp length-take (omega arith)), line_length frame) refl,
    )

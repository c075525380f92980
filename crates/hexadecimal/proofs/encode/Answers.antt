-- The first 2i characters are those of the frame's line and the others as they were. encode_more sets the two of byte i, encode_all the
-- newline at the end. The guard is encoded's own test.
use mathlib.Core.Path.{◌∙◌, sym}
use native.Mathlib.Omega.{arith}
use Rattle.desk_rules.proofs.HexLaws.{encode_more, encode_all, encoded_is, encoded_not}
use Rattle.hexadecimal.proofs.encode.Goals as goal

pub returns-then-line-frame : goal.returns-then-line-frame
returns-then-line-frame c =
    sym (encoded_not c.args.frame.now c.args.line.now c.if-line-frame.true)

pub loop-i-preserved : goal.loop-i-preserved
loop-i-preserved c =
    encode_more c.args.frame.now c.args.line.now c.if-line-frame.false c.loop-i.i c.loop-i.invariant
    (omega arith) _ _ c.loop-i-test.true c.digit.ensures c.digit-in-loop-i.ensures

pub returns : goal.returns
returns c =
    let frame = c.args.frame.now in
    let line = c.args.line.now in
    encode_all frame line c.if-line-frame.false c.loop-i.i c.loop-i.invariant (omega arith) c.loop-i-test.false
    ∙ sym (encoded_is frame line c.if-line-frame.false)

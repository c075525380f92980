-- The first i bytes are the line's and the others as they were: front_more adds byte i, which bytes_at reads off the pair. The guard is
-- decoded's own test, so other room stays (decoded_not).
use mathlib.Core.Path.{◌∙◌, sym}
use native.Mathlib.Omega.{arith}
use Rattle.desk_rules.specs.Hex.{bytes_in}
use Rattle.desk_rules.proofs.HexLaws.{bytes_length, bytes_at, decoded_is, decoded_not}
use Rattle.desk_rules.proofs.OverLaws.{front_more, front_all}
use Rattle.hexadecimal.proofs.decode.Goals as goal

pub returns-then-bytes-line : goal.returns-then-bytes-line
returns-then-bytes-line c =
    sym (decoded_not c.args.line.now c.args.bytes.now c.if-bytes-line.true)

pub loop-i-preserved : goal.loop-i-preserved
loop-i-preserved c =
    let line = c.args.line.now in
    front_more (bytes_in line) c.args.bytes.now c.loop-i.i c.loop-i.invariant _ (omega (arith, bytes_length line)) (omega arith)
    (rw (c.value.ensures.0, c.value-in-loop-i.ensures.0) (sym (bytes_at line c.loop-i.i (omega arith))))

pub returns : goal.returns
returns c =
    let line = c.args.line.now in
    let bytes = c.args.bytes.now in
    front_all (bytes_in line) bytes c.loop-i.i c.loop-i.invariant (omega (arith, bytes_length line)) (omega arith)
    ∙ sym (decoded_is line bytes c.if-bytes-line.false)

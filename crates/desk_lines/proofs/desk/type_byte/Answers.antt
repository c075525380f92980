-- Up to 2050 characters the byte is set behind those typed (type_laid); a line that is too long stays as it is (type_not).
use mathlib.Core.Path.{refl}
use mathlib.Core.List.{[]}
use Rattle.desk_rules.proofs.DeskLaws.{said_laid, type_laid, type_not}
use Rattle.desk_lines.proofs.desk.type_byte.Goals as goal

pub returns-then-m-le-MOST_TYPED : goal.returns-then-m-le-MOST_TYPED
returns-then-m-le-MOST_TYPED c = λ R G C o ready. type_laid c.args.m R G C c.args.line.now o ready c.args.b c.if-m-le-MOST_TYPED.true

pub returns : goal.returns
returns c =
    let m = c.args.m in
    let line = c.args.line.now in
    λ R G C o ready. rw (type_not m R G C line o ready c.args.b c.if-m-le-MOST_TYPED.false)
    (said_laid m R G C line o ready [] o 0 (refl, refl))

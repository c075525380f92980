-- The first and the last 4 or 8 meet or overlap, as twice that is no less than the length: all_meet makes the two tests one of all bytes.
use Prim.Native.Nat.{◌-◌}
use native.Mathlib.Omega.{arith}
use lib.ListN.{length}
use Rattle.text.specs.declared.Class.TheVariants.{Space}
use Rattle.text.proofs.Laws.{rest_is}
use Rattle.text.proofs.PartLaws.{all_meet}
use Rattle.text.proofs.is_blank.Goals as goal

pub returns-in-4-to-7 : goal.returns-in-4-to-7
returns-in-4-to-7 c =
    let f = c.args.f.now in
    rw (c.all_in.ensures, rw rest_is at c.all_in-in-4-to-7.ensures) (all_meet Space 4 (length f - 4) f (omega arith))

pub returns-in-8-to-15 : goal.returns-in-8-to-15
returns-in-8-to-15 c =
    let f = c.args.f.now in
    rw (c.all_in-in-8-to-15.ensures, rw rest_is at c.all_in-in-8-to-15-2.ensures) (all_meet Space 8 (length f - 8) f (omega arith))

-- Up to the last place i * SIZE does not wrap, and part_of promises the place itself; above it the place begins behind the last byte,
-- where by part_none there is nothing.
use Prim.Native.Nat.{◌*◌}
use Rattle.std.proofs.Math.Nat.{div-lt_iff_lt-mul}
use Rattle.text.proofs.Laws.{part_none}
use Rattle.rules.specs.Slots.{place}
use Rattle.walks.proofs.left_at.Goals as goal

pub returns-then-i-store : goal.returns-then-i-store
unfolding place
returns-then-i-store g c = c.part_of.ensures

pub returns : goal.returns
unfolding place
returns g c = part_none c.args.store.now (c.args.i * g.row.SIZE) g.row.SIZE ((div-lt_iff_lt-mul c.requires).0 c.if-i-store.false)

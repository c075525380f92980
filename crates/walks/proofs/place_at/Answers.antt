-- Of a whole place place_part makes the part from start to end the place itself; of any other it is left_at's promise.
use Rattle.rules.proofs.PlaceLaws.{place_part}
use Rattle.walks.proofs.place_at.Goals as goal

pub returns-then-i-store : goal.returns-then-i-store
returns-then-i-store g c = place_part g.row.SIZE c.args.store.now c.args.i

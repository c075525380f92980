-- The record is as long as the line, so put writes all of it (put_all), and mark_for_load promises for_load of what it finds there.
use Rattle.loading.proofs.WriteLaws.{put_all}
use mathlib.Core.Path.{ap, ◌∙◌}
use Prim.Native.Nat.{ℕ}
use mathlib.Core.List.{List}
use Rattle.layout.specs.Fields.{for_load}
use Rattle.loading.proofs.write_wide.Goals as goal

pub returns : goal.returns
returns c =
    c.mark_for_load.ensures
    ∙ ap (λ (s : List ℕ). for_load s) (c.put.ensures ∙ put_all c.args.rec.now c.args.line.now c.requires)

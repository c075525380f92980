-- The copy is as long as the record, so write_wide leaves for_load in it; narrowed's 240 bytes are as many as the line's, and put writes
-- them all (put_all).
use mathlib.Core.Path.{sym, ap, ◌∙◌}
use mathlib.Core.List.{List}
use Prim.Native.Nat.{ℕ}
use lib.ListN.{length}
use Rattle.layout.specs.Fields.{for_load}
use Rattle.versions.specs.Versions.{narrowed}
use Rattle.versions.proofs.VersionLaws.{narrow_length}
use Rattle.loading.proofs.WriteLaws.{put_all}
use Rattle.loading.proofs.write_narrow.Goals as goal

pub returns : goal.returns
returns c =
    let line = c.args.line.now in
    let is = c.narrowed-narrow.ensures ∙ ap (λ (s : List ℕ). narrowed s) c.write_wide.ensures in
    c.put.ensures
    ∙ put_all c.narrowed-narrow.result line
    (ap (λ (s : List ℕ). length s) is ∙ narrow_length (for_load c.args.rec.now) ∙ sym c.requires.1)
    ∙ is

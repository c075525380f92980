-- With an entry, entry_room finds the bytes of a line from `at`, and write_line fills them, which set into the output are what is promised;
-- without one the output is its bytes before `at` and those from there on, with nothing between.
use mathlib.Core.Path.{sym, ap, ◌∙◌}
use mathlib.Core.List.{List}
use Prim.Native.Nat.{ℕ}
use lib.ListN.{length}
use Rattle.rules.specs.declared.Kind.TheVariants.{Data}
use Rattle.rules.specs.Takes.{shape_of}
use Rattle.rules.specs.Loads.{is_entry}
use Rattle.rules.proofs.SlotLaws.{record_length}
use Rattle.loading.proofs.WriteLaws.{line_room, entry_room}
use Rattle.loading.proofs.write_entry.Goals as goal

pub write_line-requires : goal.write_line-requires
write_line-requires c =
    let the_at = c.args.at in
    let slot = c.args.slot.now in
    let out = c.args.out.now in
    let room = entry_room (is_entry slot) (shape_of (Data c.args.version)).line c.sizes_of-sizes.result.line the_at (length out)
    (sym c.is_entry.ensures ∙ c.if-not-is_entry.false) c.sizes_of-sizes.ensures.0.1 c.requires.1 in (
      ap (λ (s : List ℕ). length s) c.rec.ensures ∙ record_length slot c.requires.0,
      line_room c.sizes_of-sizes.result.line the_at out room ∙ c.sizes_of-sizes.ensures.0.1,
    )

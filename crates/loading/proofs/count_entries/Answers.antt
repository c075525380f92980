-- entries is the count of entries among the first i slots, no more than i: slot i, which the lent bytes are by place_part, adds 0 or 1.
use mathlib.Core.Path.{ap, ◌∙◌}
use mathlib.Core.List.{List}
use Prim.Native.Nat.{ℕ}
use Rattle.rules.specs.Loads.{is_entry, entry_at}
use Rattle.rules.proofs.PlaceLaws.{place_part}
use Rattle.loading.proofs.WriteLaws.{counted_more}
use Rattle.loading.proofs.count_entries.Goals as goal

pub loop-i-preserved : goal.loop-i-preserved
unfolding entry_at
loop-i-preserved c =
    let register = c.args.register.now in
    counted_more (entry_at register) _ _ _ _ c.loop-i.invariant
    (c.is_entry.ensures ∙ ap (λ (s : List ℕ). is_entry s) (place_part 520 register c.loop-i.i)) c.from-entries.ensures

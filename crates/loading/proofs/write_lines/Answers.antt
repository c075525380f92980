-- The records of the first i slots stand one behind the other up to `at`, and the old bytes from there on (Laid). laid_room finds room for
-- the next, as no more entries lie below i + 1 than in all; laid_more is the turn, laid_all the end.
use Rattle.rules.specs.Loads.{entry_at}
use Rattle.rules.proofs.SlotLaws.{length_slot_at}
use Rattle.loading.proofs.WriteLaws.{laid_none, laid_length, laid_room, laid_more, laid_all}
use Rattle.rules.proofs.PlaceLaws.{place_part}
use Rattle.loading.proofs.write_lines.Goals as goal

pub loop-i-init : goal.loop-i-init
loop-i-init c = laid_none _ _ _

pub write_entry-at-requires : goal.write_entry-at-requires
unfolding entry_at
write_entry-at-requires c =
    let i = c.loop-i.i in
    let version = c.args.version in
    let register = c.args.register.now in
    let out = c.args.out.now in
    rw (place_part 520 register i) (
      length_slot_at register i c.loop-i-test.true,
      rw (laid_length version register out c.requires i c.loop-i.at c.loop-i.out c.loop-i.invariant)
          (laid_room version register out c.requires i c.loop-i.at c.loop-i.out c.loop-i.invariant c.loop-i-test.true),
    )

pub loop-i-preserved : goal.loop-i-preserved
unfolding entry_at
loop-i-preserved c =
    let i = c.loop-i.i in
    let register = c.args.register.now in
    laid_more c.args.version register c.args.out.now c.requires i c.loop-i.at c.loop-i.out
    c.loop-i.invariant c.loop-i-test.true c.write_entry-at.result
    (rw (place_part 520 register i) at c.write_entry-at.ensures.0) c.write_entry-at.new.out
    (rw (place_part 520 register i) at c.write_entry-at.ensures.1)

pub returns : goal.returns
returns c =
    laid_all c.args.version c.args.register.now c.args.out.now c.requires c.loop-i.i
    c.loop-i.at c.loop-i.out c.loop-i.invariant c.loop-i-test.false

-- A readable line has two characters or more (readable_two), so decode writes k bytes and k is not 0: the first is the code (first_of), and
-- those from 1 to k are the bytes behind it (behind_first). What they are as a frame is of's promise, and the rest is act's.
use mathlib.Core.Path.{◌∙◌}
use Prim.Native.Nat.{◌/◌, ◌≤◌}
use native.Mathlib.Omega.{arith}
use lib.ListN.{length-take, length}
use Rattle.desk_rules.specs.Hex.{bytes_in}
use Rattle.desk_rules.specs.Served.{bench_of, desk_of}
use Rattle.desk_rules.proofs.OverLaws.{first_of, behind_first}
use Rattle.desk_rules.proofs.HexLaws.{readable_two, bytes_length, decoded_is}
use Rattle.desk_lines.proofs.bench.Bench.read_line.Goals as goal

pub returns-clause-acts : goal.returns-clause-acts
returns-clause-acts c =
    let b = c.args.self.now in
    let line = c.args.line.now in
    let t = readable_two line c.requires in
    let n = bytes_length line in
    let k : 1 ≤ length line / 2 = omega arith in
    λ l ready.
    let d = desk_of b.marks (bench_of b.register.now b.guide.now b.collection.now l b.out.now) in
    rw (
      c.decode.ensures ∙ decoded_is line _ (simp length-take (omega arith)),
      first_of (bytes_in line) _ (length line / 2) n k,
      behind_first (bytes_in line) _ (length line / 2) n k,
    ) at (rw (← c.of.ensures d) at (c.act.ensures.acts l ready))

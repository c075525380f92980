-- Each arm is the promise of record_fault or row_fault, line_fault of that kind; no field of a table starts behind 512 (line_fault_le).
use mathlib.Core.Path.{◌≡◌}
use Rattle.rules.specs.Takes.{line_fault}
use Rattle.rules.proofs.FaultLaws.{line_fault_le}
use Rattle.taking.proofs.checks.line_fault.Goals as goal

pub returns-in-Data : goal.returns-in-Data
returns-in-Data c =
    let the-kind = c.args.kind in
    let line = c.args.line.now in
    let p : c.record_fault.result ≡ line_fault the-kind line = rw c.in-Data.is c.record_fault.ensures in
    (p, rw p (line_fault_le the-kind line))

pub returns-in-Guide : goal.returns-in-Guide
returns-in-Guide c =
    let kind = c.args.kind in
    let line = c.args.line.now in
    let p : c.row_fault.result ≡ line_fault kind line = rw c.in-Guide.is c.row_fault.ensures in
    (p, rw p (line_fault_le kind line))

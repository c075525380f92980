-- The fault of the fields still to come is that of the whole table, and there are three numbers fewer of them each time. A field's
-- fault other than 0 is the answer, a 0 leaves it to the fields behind, and fewer than three numbers have none: so says fault_in.
use Rattle.std.proofs.Common.{◌≡◌, length}
use Rattle.layout.specs.Rules.{fault_in}
use Rattle.lines.proofs.check.first_fault.Given as goal

abbrev pub invariant-loop-fields : goal.invariant-loop-fields
invariant-loop-fields l = fault_in l.lax l.line l.fields ≡ fault_in l.lax l.line l.table

abbrev pub decreases-loop-fields : goal.decreases-loop-fields
decreases-loop-fields l = length l.fields

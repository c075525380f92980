-- No line below i is bad. A line with a fault is the one that find gives (lines_bad); at the end find has nothing (lines_good). line_at's
-- promise makes the fault that of line i, and n is lines_in because the caller says so.
use Rattle.rules.specs.Takes.{bad_line}
use Rattle.rules.proofs.WalkLaws.{Passed}
use Rattle.taking.proofs.checks.check_lines.Given as goal

abbrev pub invariant-loop-i : goal.invariant-loop-i
invariant-loop-i l = Passed (bad_line l.kind l.file) l.n l.i

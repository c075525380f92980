-- What the definition of the desk keeps, as statements. They are proved in `proofs/`, for all inputs: `FileLaws` has fed_takes and
-- ended_takes; `KeptLaws` has feed_both, and of the desk after an input and its files (`files_of`, at its end `files_ended`) desk_run,
-- desk_run_ended, desk_demand and desk_demand_ended; `Programs` has fed_stays, ended_stays, program_writes and one_served; `Witness`
-- computes the description's example. Assumes nothing.
use Rattle.std.specs.Prelude.{ℕ, ◌+◌, ◌≤◌, ◌≡◌, true, List, [], ◌∷◌, ◌++◌, length, take}
use Rattle.rules.specs.Takes.{Stores}
use Rattle.rules.specs.Demands.{File, start, run, Demand3}
use Rattle.desk_rules.specs.declared.Marks.{Marks}
use Rattle.desk_rules.specs.declared.Fed.{Fed}
use Rattle.desk_rules.specs.Desk.{Desk, Reply, empty_desk, most_collected, most_typed, take_said, fed, ended, fed_all, written}
use Rattle.desk_rules.specs.Files.{outcome, done_in}
use Rattle.desk_rules.specs.Served.{Bench, bench_of, most_said, is_ready, desk_of, marks_of, Served, served, Serves}

-- ---- the desk

-- input may come in parts: what is fed and said of both is what is fed and said of one, then of the other
abbrev pub FeedBoth : Desk → List ℕ → List ℕ → Type 0
FeedBoth d a b =
    ((fed_all d (a ++ b)).desk ≡ (fed_all (fed_all d a).desk b).desk)
    × ((fed_all d (a ++ b)).said ≡ (fed_all d a).said ++ (fed_all (fed_all d a).desk b).said)

-- what a byte of input, or its end, does on these stores: it leaves them; or it takes a file, and says what came of that
pub data Takes (s : Stores) (r : Reply) : List File → Type 0 where
  none : r.desk.stores ≡ s → Takes s r []
  one : (f : File) → r.desk.stores ≡ (outcome f s).stores → r.said ≡ take_said (outcome f s).result (outcome f s).answers
      → Takes s r (f ∷ [])

-- "on 64 empty slots of each kind": the desk's stores are those that its own files leave, and the history of these files is what the
-- desk answered 0
pub record IsRun (d : Desk) (files : List File) : Type 0 where
  pub stores : d.stores ≡ (run files (start 64 64)).stores
  pub history : (run files (start 64 64)).history ≡ done_in files empty_desk.stores []

-- so the brief's third demand holds of the desk's stores and its own history
abbrev pub Demanded : Desk → List File → Type 0
Demanded d files = IsRun d files × Demand3 64 64 (run files (start 64 64))

-- ---- the program, which lends the bytes and writes what is said

-- after a call on a ready desk: it is ready again, the bytes hold the definition's desk, and what was said stands at the start of the output
abbrev pub Stays : (Desk → Reply) → Marks → Bench → Type 0
Stays act m b =
    (is_ready (served act m b).result.marks (served act m b).bench ≡ true)
    × ((desk_of (served act m b).result.marks (served act m b).bench ≡ (act (desk_of m b)).desk)
    × (take (served act m b).result.said (served act m b).bench.out ≡ (act (desk_of m b)).said))

-- a call's bytes that are written
abbrev pub wrote : Served → List ℕ
wrote s = take s.result.said s.bench.out

-- each byte of the input is fed to what the call before it left, and at the end of input the desk is finished
unfoldable pub all_wrote : Marks → Bench → List ℕ → List ℕ
all_wrote m b [] = wrote (served ended m b)
all_wrote m b (x ∷ input) =
    wrote (served (λ d. fed d x) m b)
    ++ all_wrote (served (λ d. fed d x) m b).result.marks (served (λ d. fed d x) m b).bench input

-- "Standard input and output are lines of hexadecimal .. on 64 empty slots of each kind, both last cycles 0": from an empty desk, with
-- room enough, the calls write what the definition says of the whole input
abbrev pub ProgramWrites : List ℕ → List ℕ → List ℕ → List ℕ → Type 0
ProgramWrites collection line out input =
    most_collected ≤ length collection → most_typed + 1 ≤ length line → most_said ≤ length out
    → all_wrote (marks_of empty_desk) (bench_of empty_desk.stores.register empty_desk.stores.guide collection line out) input ≡ written input

-- a promise is met in one way only: one result, and one value of each lent buffer
abbrev pub OneServed : (Desk → Reply) → Marks → Bench → Type 0
OneServed act m b = (r s : Fed) (a c : Bench) → Serves act m b r a → Serves act m b s c → (r ≡ s) × (a ≡ c)

-- What the definition of the desk keeps: input in parts, the run of its own files, and how much a desk holds.
-- Assumes nothing.
use mathlib.Core.Path.{◌≡◌, refl, sym}
use mathlib.Core.Bool.{Bool, true, false, cond}
use mathlib.Core.List.{List, [], ◌∷◌, append_assoc}
use Prim.Native.Nat.{ℕ, ◌+◌, ◌≤◌, ◌<◌}
use native.Mathlib.Omega.{arith}
use lib.Dec.{leb, eqb}
use lib.ListN.{length, drop, get_or, length-append}
use borrow.Author.Tests.{leb-true, leb-false}
use Rattle.rules.specs.Demands.{File, start, run}
use Rattle.rules.proofs.Keep.{demand3}
use Rattle.desk_rules.specs.Hex.{bytes_in}
use Rattle.desk_rules.specs.Desk.{Desk, Reply, empty_desk, most_collected, most_typed, most_lines, collecting, taking_guide, taking_data, looking, framed, is_readable, line_read, next_line, line_ended, typed, has_stopped, fed, ended, fed_all}
use Rattle.desk_rules.specs.Files.{end_files, files_of, files_ended}
use Rattle.desk_rules.specs.Kept.{FeedBoth, IsRun, Demanded}
use Rattle.desk_rules.proofs.FileLaws.{ended_takes, run_both, takes_run, fed_run, run_done}

-- ---- input in parts

pub feed_both : (d : Desk) (a b : List ℕ) → FeedBoth d a b
unfolding fed_all
feed_both d [] b = (refl, refl)
feed_both d (x ∷ a) b =
    let h = feed_both (fed d x).desk a b in
    (h.0, rw h.1 (sym (append_assoc (fed d x).said (fed_all (fed d x).desk a).said (fed_all (fed_all (fed d x).desk a).desk b).said)))

-- ---- what holds of each case of a test holds of the test

on_test : (P : Desk → Type 0) (t : Bool) (x y : Reply) → P x.desk → P y.desk → P (cond t x y).desk
on_test P true x y p q = p
on_test P false x y p q = q

-- what a frame leaves, if each of the four leaves it
on_framed : (P : Desk → Type 0) (d : Desk) (code : ℕ) (bytes : List ℕ) → P d → P (collecting d bytes).desk → P (taking_guide d).desk
    → P (taking_data d).desk → P (framed d code bytes).desk
unfolding framed looking
on_framed P d code bytes p collected guided filed =
    on_test P (eqb code 1) _ _ collected
    (on_test P (eqb code 2) _ _ (on_test P (eqb (length bytes) 0) _ _ guided p)
    (on_test P (eqb code 3) _ _ (on_test P (eqb (length bytes) 0) _ _ filed p)
    (on_test P (eqb code 4) _ _ p p)))

-- what the end of a line leaves, if a frame and a line that can't be read leave it
on_line : (P : Desk → Type 0) (d : Desk) → P (next_line d) → ((code : ℕ) (bytes : List ℕ) → P (framed (next_line d) code bytes).desk)
    → P (line_ended d).desk
unfolding line_ended line_read
on_line P d p f =
    on_test P (is_readable d.line) _ _ (f (get_or (bytes_in d.line) 0 0) (drop 1 (bytes_in d.line))) p

-- ---- the desk's own files

begin : empty_desk.stores ≡ (start 64 64).stores
unfolding empty_desk start
begin = refl

-- a run from the empty desk
from_empty : (d : Desk) (files : List File) → d.stores ≡ (run files (start 64 64)).stores → IsRun d files
unfolding empty_desk start
from_empty d files e = record { stores = e; history = run_done files (start 64 64) }

-- after any input, and after its end
pub desk_run : (input : List ℕ) → IsRun (fed_all empty_desk input).desk (files_of input)
desk_run input = from_empty (fed_all empty_desk input).desk (files_of input) (fed_run input (start 64 64) empty_desk begin)

pub desk_run_ended : (input : List ℕ) → IsRun (ended (fed_all empty_desk input).desk).desk (files_ended input)
desk_run_ended input =
    let d : Desk = (fed_all empty_desk input).desk in
    from_empty (ended d).desk (files_ended input)
    (rw (run_both (files_of input) (end_files d) (start 64 64))
    (takes_run (run (files_of input) (start 64 64)) (ended_takes d) (desk_run input).stores))

pub desk_demand : (input : List ℕ) → Demanded (fed_all empty_desk input).desk (files_of input)
desk_demand input = (desk_run input, demand3 64 64 (files_of input))

pub desk_demand_ended : (input : List ℕ) → Demanded (ended (fed_all empty_desk input).desk).desk (files_ended input)
desk_demand_ended input = (desk_run_ended input, demand3 64 64 (files_ended input))

-- ---- how much a desk holds

pub record Small (d : Desk) : Type 0 where
  pub collected : length d.collection ≤ most_collected
  pub typed : length d.line ≤ most_typed + 1
  pub lines : d.lines ≤ most_lines

small_collect : (d : Desk) (bytes : List ℕ) → Small d → Small (collecting d bytes).desk
unfolding collecting
small_collect d bytes s = go (leb (length d.collection + length bytes) most_collected) refl
  where
    go : (t : Bool) → leb (length d.collection + length bytes) most_collected ≡ t → Small (collecting d bytes).desk
    go true e =
        let h = leb-true (length d.collection + length bytes) most_collected e in
        rw e (record { collected = simp length-append h; typed = s.typed; lines = s.lines })
    go false e = rw e s

small_line : (d : Desk) → Small d → d.lines < most_lines → Small (line_ended d).desk
unfolding next_line taking_guide taking_data
small_line d s h =
    let n : Small (next_line d) = record { collected = s.collected; typed = omega arith; lines = omega arith } in
    on_line Small d n (λ code bytes.
    on_framed Small (next_line d) code bytes n (small_collect (next_line d) bytes n)
    (record { collected = omega arith; typed = n.typed; lines = n.lines })
    (record { collected = omega arith; typed = n.typed; lines = n.lines }))

small_typed : (d : Desk) (x : ℕ) → Small d → Small (typed d x)
unfolding typed
small_typed d x s = go (leb (length d.line) most_typed) refl
  where
    go : (t : Bool) → leb (length d.line) most_typed ≡ t → Small (typed d x)
    go true e =
        let h = leb-true (length d.line) most_typed e in
        rw e (record { collected = s.collected; typed = simp length-append (omega arith); lines = s.lines })
    go false e = rw e s

pub small_fed : (d : Desk) (x : ℕ) → Small d → Small (fed d x).desk
unfolding fed
small_fed d x s = go (has_stopped d) refl
  where
    go : (t : Bool) → has_stopped d ≡ t → Small (fed d x).desk
    go true e = rw e s
    go false e = rw e (on_test Small (eqb x 10) _ _ (small_line d s (leb-false most_lines d.lines e)) (small_typed d x s))

pub small_ended : (d : Desk) → Small d → Small (ended d).desk
unfolding ended
small_ended d s = go (has_stopped d) refl
  where
    go : (t : Bool) → has_stopped d ≡ t → Small (ended d).desk
    go true e = rw e s
    go false e = rw e (on_test Small (eqb (length d.line) 0) _ _ s (small_line d s (leb-false most_lines d.lines e)))

-- The files that an input takes: each is taken by the reply to a byte, or to the end of input, and what a run of them accepts is what
-- was answered 0. Assumes nothing.
use Rattle.rules.specs.declared.Refusal.{Refusal}
use Rattle.std.specs.Prelude.{Result, Ok, Err}
use mathlib.Core.Path.{◌≡◌, ◌∙◌, refl, sym, ap}
use mathlib.Core.Bool.{Bool, true, false, cond}
use mathlib.Core.List.{List, [], ◌∷◌, ◌++◌}
use Prim.Native.Nat.{ℕ, zero, suc, ◌+◌, ◌≤◌}
use native.Mathlib.Omega.{arith}
use lib.Dec.{leb, eqb}
use lib.ListN.{length, drop, get_or, get_or-append}
use borrow.Author.Tests.{eqb-true, ne_eqb}
use Rattle.layout.specs.declared.frame.Header.{Header}
use Rattle.layout.specs.Counters.{given_cycle}
use Rattle.rules.specs.Takes.{Stores, lines_in, checked, answers_to, applied_file}
use Rattle.rules.specs.History.{Item, history_to}
use Rattle.rules.specs.Demands.{File, Office, taking, run}
use Rattle.rules.proofs.TakeLaws.{answers_length, answer_is, refused_history, refused_number, good_is, good_history}
use Rattle.desk_rules.specs.Hex.{bytes_in}
use Rattle.desk_rules.specs.Desk.{Desk, Reply, most_collected, collecting, taking_guide, taking_data, looking, framed, is_readable, line_read, next_line, line_ended, typed, has_stopped, fed, ended, fed_all}
use Rattle.desk_rules.specs.Files.{guide_file, data_file, frame_files, line_files, byte_files, end_files, files_from, outcome, done_to, done_of, done_in}
use Rattle.desk_rules.specs.Kept.{Takes, none, one}

-- ---- the file of a reply

-- a test chooses the reply, and with it the files
on_both : (s : Stores) (t : Bool) (x y : Reply) (a b : List File) → Takes s x a → Takes s y b → Takes s (cond t x y) (cond t a b)
on_both s true x y a b p q = p
on_both s false x y a b p q = q

-- a test chooses the reply, and none takes a file
on_none : (s : Stores) (t : Bool) (x y : Reply) → Takes s x [] → Takes s y [] → Takes s (cond t x y) []
on_none s true x y p q = p
on_none s false x y p q = q

frame_takes : (d : Desk) (code : ℕ) (bytes : List ℕ) → Takes d.stores (framed d code bytes) (frame_files d code bytes)
unfolding framed frame_files collecting taking_guide taking_data looking
frame_takes d code bytes = go (eqb code 1) refl
  where
    go : (t : Bool) → eqb code 1 ≡ t → Takes d.stores (framed d code bytes) (frame_files d code bytes)
    go true e =
        rw (eqb-true code 1 e)
        (on_none d.stores (leb (length d.collection + length bytes) most_collected) _ _ (none refl) (none refl))
    go false e =
        rw e
        (on_both d.stores (eqb code 2) _ _ _ _
        (on_both d.stores (eqb (length bytes) 0) _ _ _ _ (one (guide_file d) refl refl) (none refl))
        (on_both d.stores (eqb code 3) _ _ _ _
        (on_both d.stores (eqb (length bytes) 0) _ _ _ _ (one (data_file d) refl refl) (none refl))
        (on_none d.stores (eqb code 4) _ _ (none refl) (none refl))))

line_takes : (d : Desk) → Takes d.stores (line_ended d) (line_files d)
unfolding line_ended line_read line_files next_line frame_files
line_takes d =
    on_both d.stores (is_readable d.line) _ _ _ _
    (frame_takes (next_line d) (get_or (bytes_in d.line) 0 0) (drop 1 (bytes_in d.line))) (none refl)

pub fed_takes : (d : Desk) (b : ℕ) → Takes d.stores (fed d b) (byte_files d b)
unfolding fed byte_files typed
fed_takes d b =
    on_both d.stores (has_stopped d) _ _ _ _ (none refl)
    (on_both d.stores (eqb b 10) _ _ _ _ (line_takes d) (none refl))

pub ended_takes : (d : Desk) → Takes d.stores (ended d) (end_files d)
unfolding ended end_files
ended_takes d =
    on_both d.stores (has_stopped d) _ _ _ _ (none refl)
    (on_both d.stores (eqb (length d.line) 0) _ _ _ _ (none refl) (line_takes d))

-- ---- the stores of a run of files

pub run_both : (a b : List File) (o : Office) → run (a ++ b) o ≡ run b (run a o)
unfolding run
run_both [] b o = refl
run_both (f ∷ a) b o = run_both a b (taking f o)

pub takes_run : (o : Office) {s : Stores} {r : Reply} {files : List File} → Takes s r files → s ≡ o.stores
    → r.desk.stores ≡ (run files o).stores
unfolding run taking
takes_run o (none e) h = e ∙ h
takes_run o (one f e w) h = e ∙ ap (λ (s : Stores). (outcome f s).stores) h

pub fed_run : (s : List ℕ) (o : Office) (d : Desk) → d.stores ≡ o.stores → (fed_all d s).desk.stores ≡ (run (files_from d s) o).stores
unfolding fed_all files_from run
fed_run [] o d e = e
fed_run (x ∷ s) o d e =
    fed_run s (run (byte_files d x) o) (fed d x).desk (takes_run o (fed_takes d x) e)
    ∙ sym (ap (λ (p : Office). p.stores) (run_both (byte_files d x) (files_from (fed d x).desk s) o))

-- ---- what was answered 0

-- of a file that passes the checks
done_lines : (f : File) (h : Header) (s : Stores) (rest : List ℕ) (past : List Item) (n i : ℕ) → i ≤ n
    → history_to f.kind h f.bytes s past i ≡ done_to f (answers_to f.kind h f.bytes s n ++ rest) past i
unfolding history_to done_to
done_lines f h s rest past n zero l = refl
done_lines f h s rest past n (suc i) l =
    let a = answers_to f.kind h f.bytes s n in
    let e = get_or-append a rest 0 i (rw (answers_length f.kind h f.bytes s n) l) ∙ answer_is f.kind h f.bytes s n i l in
    rw (e, done_lines f h s rest past n i (omega arith))

taking_done : (f : File) (o : Office) → (taking f o).history ≡ done_of f (outcome f o.stores) o.history
unfolding taking done_of applied_file
taking_done f o = go (checked f.kind o.stores f.bytes (length f.answers) (given_cycle f.last)) refl
  where
    go : (c : Result Header Refusal) → checked f.kind o.stores f.bytes (length f.answers) (given_cycle f.last) ≡ c
        → (taking f o).history ≡ done_of f (outcome f o.stores) o.history
    go (Ok h) e =
        rw (good_history f.kind o.stores f.bytes f.answers f.last h e o.history, good_is f.kind o.stores f.bytes f.answers f.last h e)
        (done_lines f h o.stores _ o.history (lines_in f.kind f.bytes) (lines_in f.kind f.bytes) (omega arith))
    go (Err r) e =
        let n = refused_number f.kind o.stores f.bytes f.answers f.last r e in
        rw (refused_history f.kind o.stores f.bytes f.answers f.last r e o.history, ne_eqb (outcome f o.stores).result.refusal 0 (λ z. omega arith))

pub run_done : (files : List File) (o : Office) → (run files o).history ≡ done_in files o.stores o.history
unfolding run done_in taking
run_done [] o = refl
run_done (f ∷ fs) o =
    run_done fs (taking f o) ∙ ap (λ (h : List Item). done_in fs (outcome f o.stores).stores h) (taking_done f o)

-- The theorems with premises are not empty: all that they ask for is computed of the run of `Witness`, in which a number passes from A
-- to B by U and M, a late C of A is turned away and a C of B is taken; so each says what it says of that run. Assumes nothing.
use mathlib.Core.Path.{◌≡◌, refl, ap}
use mathlib.Core.List.{List, [], ◌∷◌}
use Prim.Native.Nat.{ℕ}
use native.Mathlib.Omega.{arith}
use lib.ListN.{get_or, replicate}
use Rattle.layout.specs.declared.frame.Header.{Header}
use Rattle.rules.specs.Slots.{slots, slot_at, record_of, is_held}
use Rattle.rules.specs.Records.{applied}
use Rattle.versions.specs.declared.Version.TheVariants.{Two}
use Rattle.rules.specs.declared.Kind.TheVariants.{Data, Guide}
use Rattle.rules.specs.Takes.{taken}
use Rattle.rules.specs.Lookups.{seen}
use Rattle.rules.specs.History.{Item, entry, row}
use Rattle.rules.specs.Demands.{Office, start, run, live_at, Lies, AllLie, IsLast, AllLast, InState, Exactly, Passed, OnlyPassed}
use Rattle.rules.specs.Demands.{SoundStores, Shows, AllShown, TurnedAway, Guarded, Holder, HolderKept}
use Rattle.rules.specs.Answered.{Morning, Overnight}
use Rattle.rules.specs.Demands.{code_is, newest, last_of, last_stored, last_is, held_by, EveryOf}
use Rattle.rules.proofs.Keep.{demand3}
use Rattle.rules.proofs.KeepSound.{run_sound}
use Rattle.rules.proofs.Overnight.{overnight}
use Rattle.rules.proofs.Shown.{run_shows}
use Rattle.rules.proofs.Incident.{incident, holder}
use Rattle.witnesses.proofs.Witness.{line, row_line, guide_file, data_file, delete_file, files, seen as run_seen}

-- what the run leaves
abbrev office : Office
office = run files (start 1 1)

abbrev register : List ℕ
register = office.stores.register

-- the number
abbrev number : List ℕ
number = replicate 10 49

-- what was accepted before the M: U and I of A, and the row
abbrev past : List Item
past = entry (line 85 65) ∷ entry (line 73 65) ∷ row row_line ∷ []

-- and since: the C of B
abbrev since : List Item
since = entry (line 67 66) ∷ []

-- the header of the data file
abbrev head : Header
head = record { day = record { 0 = 10957 }; cycle = record { 0 = 1 } }

-- ---- the third demand

-- the stores are sound,
pub sound : SoundStores office.stores
sound = run_sound 1 1 (omega arith) (omega arith) (omega arith) (omega arith) files

-- slot 0 has an entry,
pub live : live_at register 0
unfolding run_seen
live = (let e : slots register ≡ 1 = refl in omega arith, refl)

-- which lies under one row
pub lies : (k : ℕ) × Lies office.stores.guide (record_of (slot_at register 0)) k
unfolding AllLie
lies = (demand3 1 1 files).stores.entries 0 live

-- and is the last accepted I, C or M of its number, with that row's ESN;
pub is_last : IsLast office.stores.guide office.history (record_of (slot_at register 0)) lies.0
unfolding AllLast
is_last = (demand3 1 1 files).history.entries 0 live lies.0 lies.1

-- the number is held, as its last accepted record is a C,
pub held : InState register number is_held
unfolding run_seen Exactly last_is last_of newest code_is
held = ((demand3 1 1 files).history.held number).1 refl

-- and passed from A to B by U and M;
pub passed : Passed past (line 73 65) (line 77 66)
unfolding run_seen OnlyPassed last_stored newest code_is
passed =
    (demand3 1 1 files).history.passing since (line 77 66) past (line 73 65) refl refl refl
    (λ e. let d : 65 ≡ 66 = ap (λ c. get_or c 0 0) e in omega arith)

-- so lookup shows it
pub shows : Shows office number (seen register number)
unfolding run_seen AllShown
shows = run_shows files 1 1 (omega arith) (omega arith) number refl

-- ---- last spring's incident

-- one more C of A is turned away,
pub late_change : TurnedAway register (applied register office.stores.guide head (line 67 65))
unfolding run_seen Guarded code_is held_by
late_change = incident register office.stores.guide head (line 67 65) refl refl

-- by 16,
pub late_answer : (applied register office.stores.guide head (line 67 65)).answer ≡ 16
unfolding run_seen
late_answer = refl

-- and since the M of B all that was accepted of the number, and its entry, is B's
pub since_migrate : Holder office since (line 77 66)
unfolding run_seen HolderKept code_is EveryOf
since_migrate = holder 1 1 files since (line 77 66) past refl refl (λ e. refl, tt)

-- ---- evening and morning

-- the file of the D is checked good of empty stores; overnight the run's files are taken, a data file of the same cycle among them
pub morning : Morning (Data Two) office.stores delete_file (1 ∷ []) 0
unfolding run_seen Overnight
morning = overnight (Data Two) (start 1 1) files delete_file (1 ∷ []) 0 refl

-- what the guide file left, which that data file was taken after
abbrev ruled : Office
ruled = run (record { kind = Guide; bytes = guide_file; answers = 1 ∷ []; last = 0 } ∷ []) (start 1 1)

-- so the D is refused by 6 after the last cycle that it returned, 1
pub overtaken : (taken (Data Two) office.stores delete_file (1 ∷ []) 1).result.refusal ≡ 6
unfolding run_seen
overtaken = morning.overtaken (Data Two) ruled.stores data_file (1 ∷ 1 ∷ 1 ∷ 1 ∷ 1 ∷ []) refl

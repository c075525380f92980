-- The brief's third demand, as statements: what holds after any run of files, of the stores alone and with the history of what was
-- accepted; and last spring's incident. They are proved in `proofs/`, of n and m slots and any list of files:
-- `Keep` has demand3 : Demand3 n m (run files (start n m)); `KeepSound` has run_sound : SoundStores (run files (start n m)).stores
-- and run_not_unsound : NoneUnsound (run files (start n m)).stores, for 1 to 4096 slots of each kind; `Incident` has
-- incident : Guarded R G h r, for any stores, and holder : HolderKept (run files (start n m)); `Shown` has
-- run_shows : AllShown (run files (start n m)), for 1 to 4096 slots. A file of a run is one that was applied; a check changes nothing, so
-- it is none. The crate `witnesses` computes one run, and that it meets what these theorems ask for.
-- Assumes nothing.
use Rattle.calendar.specs.declared.Day.{Day}
use Rattle.std.specs.Prelude.{ℕ, ◌+◌, ◌*◌, ◌<◌, ◌≡◌, ◌≢◌, List, [], ◌∷◌, ◌++◌, Bool, true, false, ◌&&◌, cond, length, replicate, Option, Some, None}
use Rattle.text.specs.Text.{same_bytes, member_of, on_some}
use Rattle.layout.specs.declared.frame.Header.{Header}
use Rattle.layout.specs.Fields.{number_of, company_of, esn_of, row_esn_of}
use Rattle.rules.specs.declared.Kind.{Kind}
use Rattle.rules.specs.declared.Code.{Code}
use Rattle.rules.specs.declared.Code.TheVariants.{Insert, Change, Delete, Unlock, Migrate}
use Rattle.rules.specs.declared.Seen.{Seen}
use Rattle.rules.specs.Walks.{count}
use Rattle.rules.specs.Slots.{slot_size, slots, slot_at, state_of, record_of, is_held, is_open, is_used, is_live, register_sound}
use Rattle.rules.specs.Slots.{row_slot_size, row_slots, row_slot_at, is_present, row_of, guide_sound}
use Rattle.rules.specs.Covers.{over, covers}
use Rattle.rules.specs.Records.{filed_of, is_insert, is_migrate, is_own, stores, find_number, shown, Step, applied}
use Rattle.rules.specs.Takes.{Stores, taken}
use Rattle.rules.specs.Lookups.{is_number, seen}
use Rattle.rules.specs.History.{Item, entry, row, history_after}

-- ---- "Begin with an empty register and guide of fixed size that nothing else writes. After any run of files, taken or refused"

-- a file as it is handed over: a guide file or a data file of either version, any bytes, with any answers buffer and any last cycle
pub record File : Type 0 where
  pub kind : Kind
  pub bytes : List ℕ
  pub answers : List ℕ
  pub last : ℕ

-- the two stores, and what was accepted, the newest first
pub record Office : Type 0 where
  pub stores : Stores
  pub history : List Item

-- n and m slots, all zero, and nothing accepted yet
unfoldable pub start : ℕ → ℕ → Office
start n m =
    record {
      stores = record { register = replicate (n * slot_size) 0; guide = replicate (m * row_slot_size) 0 };
      history = [];
    }

-- what a file leaves
unfoldable pub taking : File → Office → Office
taking f o =
    record {
      stores = (taken f.kind o.stores f.bytes f.answers f.last).stores;
      history = history_after f.kind o.stores f.bytes (length f.answers) f.last o.history;
    }

-- what files leave, taken in the order of the list
unfoldable pub run : List File → Office → Office
run [] o = o
run (f ∷ fs) o = run fs (taking f o)

-- ---- of the stores alone

-- slot i is used
abbrev pub used_at : List ℕ → ℕ → Type 0
used_at R i = (i < slots R) × (is_used (state_of (slot_at R i)) ≡ true)

-- slot i has an entry, held or open
abbrev pub live_at : List ℕ → ℕ → Type 0
live_at R i = (i < slots R) × (is_live (state_of (slot_at R i)) ≡ true)

-- guide slot k has a row
abbrev pub present_at : List ℕ → ℕ → Type 0
present_at G k = (k < row_slots G) × (is_present (row_slot_at G k) ≡ true)

-- "no number has two slots"
unfoldable pub OneSlot : List ℕ → Type 0
OneSlot R =
    (i j : ℕ) → used_at R i → used_at R j → number_of (record_of (slot_at R i)) ≡ number_of (record_of (slot_at R j)) → i ≡ j

-- "no house number on a street has two guide rows"
unfoldable pub OneRow : List ℕ → Type 0
OneRow G =
    (k l : ℕ) (street town : List ℕ) (n : ℕ) → present_at G k → present_at G l
    → over (row_of (row_slot_at G k)) street town n ≡ true → over (row_of (row_slot_at G l)) street town n ≡ true → k ≡ l

-- the record r "lies under one row, shows that row's ESN": the row in guide slot k
pub record Lies (G r : List ℕ) (k : ℕ) : Type 0 where
  pub there : present_at G k
  pub under : covers (row_of (row_slot_at G k)) r ≡ true
  pub alone : (j : ℕ) → present_at G j → covers (row_of (row_slot_at G j)) r ≡ true → j ≡ k
  pub shows : esn_of r ≡ row_esn_of (row_of (row_slot_at G k))

-- "Each held or open entry lies under one row, shows that row's ESN"
unfoldable pub AllLie : Stores → Type 0
AllLie s = (i : ℕ) → live_at s.register i → (k : ℕ) × Lies s.guide (record_of (slot_at s.register i)) k

-- what a run keeps, of the stores alone
pub record StoresKept (s : Stores) : Type 0 where
  pub numbers : OneSlot s.register
  pub houses : OneRow s.guide
  pub entries : AllLie s

-- ---- with the history: what it says of a number

-- D, and U
abbrev pub is_delete : Code → Bool
is_delete Insert = false
is_delete Change = false
is_delete Delete = true
is_delete Unlock = false
is_delete Migrate = false

abbrev pub is_unlock : Code → Bool
is_unlock Insert = false
is_unlock Change = false
is_unlock Delete = false
is_unlock Unlock = true
is_unlock Migrate = false

-- a code is there, and passes the test
abbrev pub is_coded : (Code → Bool) → Option (Code × Day) → Bool
is_coded p (Some (c, d)) = p c
is_coded p None = false

-- the record has a code that passes the test
unfoldable pub code_is : (Code → Bool) → List ℕ → Bool
code_is p r = is_coded p (filed_of r)

-- the last accepted record that passes a test
unfoldable pub newest : (List ℕ → Bool) → List Item → Option (List ℕ)
newest p [] = None
newest p (entry r ∷ h) = cond (p r) (Some r) (newest p h)
newest p (row g ∷ h) = newest p h

-- the last accepted record of number n
unfoldable pub last_of : List ℕ → List Item → Option (List ℕ)
last_of n h = newest (λ r. same_bytes (number_of r) n) h

-- the last accepted I, C or M of number n
unfoldable pub last_stored : List ℕ → List Item → Option (List ℕ)
last_stored n h = newest (λ r. same_bytes (number_of r) n && code_is stores r) h

-- a record is there, and its code passes the test
abbrev pub is_there : (Code → Bool) → Option (List ℕ) → Bool
is_there p None = false
is_there p (Some r) = code_is p r

-- the last accepted record of number n is there, and its code passes the test
unfoldable pub last_is : (Code → Bool) → List ℕ → List Item → Bool
last_is p n h = is_there p (last_of n h)

-- how many accepted records have a code that passes the test
unfoldable pub tally : (Code → Bool) → List Item → ℕ
tally p [] = 0
tally p (entry r ∷ h) = cond (code_is p r) 1 0 + tally p h
tally p (row g ∷ h) = tally p h

-- ---- with the history: what a run keeps

-- r "is the last accepted insert, change or migrate of its number, a blank ESN filled in": filled from the row in guide slot k
pub record IsLast (G : List ℕ) (h : List Item) (r : List ℕ) (k : ℕ) : Type 0 where
  pub given : List ℕ
  pub last : last_stored (number_of r) h ≡ Some given
  pub same : r ≡ shown given (row_of (row_slot_at G k))

-- each held or open entry is so, under the row that it lies under
unfoldable pub AllLast : Office → Type 0
AllLast o =
    (i : ℕ) → live_at o.stores.register i → (k : ℕ) → Lies o.stores.guide (record_of (slot_at o.stores.register i)) k
    → IsLast o.stores.guide o.history (record_of (slot_at o.stores.register i)) k

-- the number n has a slot, in a state that passes the test
pub record InState (R n : List ℕ) (p : ℕ → Bool) : Type 0 where
  pub slot : ℕ
  pub within : slot < slots R
  pub state : p (state_of (slot_at R slot)) ≡ true
  pub named : number_of (record_of (slot_at R slot)) ≡ n

-- a number is in such a state exactly if its last accepted record has such a code
unfoldable pub Exactly : Office → (ℕ → Bool) → (Code → Bool) → Type 0
Exactly o p q =
    (n : List ℕ) → (InState o.stores.register n p → last_is q n o.history ≡ true)
    × (last_is q n o.history ≡ true → InState o.stores.register n p)

-- the last accepted record of number n has a code that passes the test, and is the company's
pub record LastWas (p : Code → Bool) (n company : List ℕ) (h : List Item) : Type 0 where
  pub it : List ℕ
  pub last : last_of n h ≡ Some it
  pub coded : code_is p it ≡ true
  pub by : company_of it ≡ company

-- r was accepted after the history h, in which q is the last accepted I, C or M of its number
pub data Passed (h : List Item) (q r : List ℕ) : Type 0 where
  unlocked : code_is is_migrate r ≡ true → LastWas is_unlock (number_of r) (company_of q) h → Passed h q r
  deleted : code_is is_insert r ≡ true → LastWas is_delete (number_of r) (company_of q) h → Passed h q r

-- "It has passed between companies only by an accepted unlock and migrate, or a delete and then an insert": so wherever an accepted
-- I, C or M is of another company than the one before it, of the same number
unfoldable pub OnlyPassed : List Item → Type 0
OnlyPassed all =
    (later : List Item) (r : List ℕ) (h : List Item) (q : List ℕ) → all ≡ later ++ (entry r ∷ h) → code_is stores r ≡ true
    → last_stored (number_of r) h ≡ Some q → company_of q ≢ company_of r → Passed h q r

-- "Held plus open equals accepted inserts less accepted deletes, from empty"
unfoldable pub Counted : List ℕ → List Item → Type 0
Counted R h = count (λ i. is_live (state_of (slot_at R i))) (slots R) + tally is_delete h ≡ tally is_insert h

-- what a run keeps, with the history: a number is held exactly if its last accepted record is I, C or M, and open exactly if it is U
pub record HistoryKept (o : Office) : Type 0 where
  pub entries : AllLast o
  pub held : Exactly o is_held stores
  pub opened : Exactly o is_open is_unlock
  pub passing : OnlyPassed o.history
  pub counted : Counted o.stores.register o.history

-- ---- the demand

-- "of fixed size"
pub record Sized (n m : ℕ) (s : Stores) : Type 0 where
  pub register : length s.register ≡ n * slot_size
  pub guide : length s.guide ≡ m * row_slot_size

-- the third demand, of what a run from n and m empty slots leaves
pub record Demand3 (n m : ℕ) (o : Office) : Type 0 where
  pub sized : Sized n m o.stores
  pub stores : StoresKept o.stores
  pub history : HistoryKept o

-- both stores are sound
pub record SoundStores (s : Stores) : Type 0 where
  pub register : register_sound s.register ≡ true
  pub guide : guide_sound s.guide ≡ true

-- no file is refused by 1 or 2
unfoldable pub NoneUnsound : Stores → Type 0
NoneUnsound s =
    (f : File) → ((taken f.kind s f.bytes f.answers f.last).result.refusal ≢ 1)
    × ((taken f.kind s f.bytes f.answers f.last).result.refusal ≢ 2)

-- ---- "The dispatcher's screen": what lookup shows

-- lookup of the number n answers held (open) exactly if its last accepted record is I, C or M (U), and the slot that it names is the
-- number's entry
pub record Shows (o : Office) (n : List ℕ) (s : Seen) : Type 0 where
  pub answered : s.refusal ≡ 0
  pub held : (s.state ≡ 1 → last_is stores n o.history ≡ true) × (last_is stores n o.history ≡ true → s.state ≡ 1)
  pub opened : (s.state ≡ 2 → last_is is_unlock n o.history ≡ true) × (last_is is_unlock n o.history ≡ true → s.state ≡ 2)
  pub entry : is_live s.state ≡ true → live_at o.stores.register s.slot
      × (number_of (record_of (slot_at o.stores.register s.slot)) ≡ n)

-- any ten digits are answered so
unfoldable pub AllShown : Office → Type 0
AllShown o = (n : List ℕ) → is_number n ≡ true → Shows o n (seen o.stores.register n)

-- ---- "Last spring a number passed to a new company, and a change from the old one came in afterwards and was taken."

-- the slot of number n is held by the company
unfoldable pub held_by : List ℕ → List ℕ → List ℕ → Bool
held_by R n company =
    on_some (find_number n R) false (λ i.
    is_held (state_of (slot_at R i)) && same_bytes (company_of (record_of (slot_at R i))) company)

-- a record is turned away: answered 11, 13, 15 or 16, and the register is as it was
pub record TurnedAway (R : List ℕ) (s : Step) : Type 0 where
  pub answered : member_of s.answer (11 ∷ 13 ∷ 15 ∷ 16 ∷ []) ≡ true
  pub unchanged : s.register ≡ R

-- a change, delete or unlock of a company that does not hold the number is turned away: r, on the register R under the header h
unfoldable pub Guarded : List ℕ → List ℕ → Header → List ℕ → Type 0
Guarded R G h r = code_is is_own r ≡ true → held_by R (number_of r) (company_of r) ≡ false → TurnedAway R (applied R G h r)

-- every accepted record of number n, in this part of a history, is as P says
unfoldable pub EveryOf : List ℕ → (List ℕ → Type 0) → List Item → Type 0
EveryOf n P [] = Unit {0}
EveryOf n P (entry r ∷ h) = (number_of r ≡ n → P r) × EveryOf n P h
EveryOf n P (row g ∷ h) = EveryOf n P h

-- since y, every accepted record of its number is of its company, and so is the number's entry
pub record Holder (o : Office) (since : List Item) (y : List ℕ) : Type 0 where
  pub records : EveryOf (number_of y) (λ r. company_of r ≡ company_of y) since
  pub entries : (i : ℕ) → live_at o.stores.register i → number_of (record_of (slot_at o.stores.register i)) ≡ number_of y
      → company_of (record_of (slot_at o.stores.register i)) ≡ company_of y

-- from an accepted insert, change or migrate y on, until an unlock or delete of its number is accepted
unfoldable pub HolderKept : Office → Type 0
HolderKept o =
    (since : List Item) (y : List ℕ) (h : List Item) → o.history ≡ since ++ (entry y ∷ h) → code_is stores y ≡ true
    → EveryOf (number_of y) (λ r. code_is stores r ≡ true) since → Holder o since y

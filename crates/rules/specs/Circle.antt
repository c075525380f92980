-- The brief's second demand, as a statement: "A load file written from a register with no number twice, and taken as the next cycle
-- into an empty register of enough slots under a guide whose lowest row over each entry has its ESN, brings back every held entry but
-- for its Function and Source." 2026-01: in either version. Proved in `proofs/RoundTrip`: round_trip; and run_fit, that after any run from
-- empty stores the register and its own guide are fit for it.
-- Assumes nothing.
use Rattle.std.specs.Prelude.{ℕ, ◌*◌, ◌≤◌, ◌<◌, ◌≡◌, ◌≢◌, List, ◌++◌, true, length, take, drop, get_or, replicate, Some}
use Rattle.layout.specs.Tables.{data_record, start_of, function, source}
use Rattle.layout.specs.Counters.{given_cycle, is_next_of}
use Rattle.layout.specs.Fields.{number_of, esn_of, row_esn_of, date_of}
use Rattle.versions.specs.declared.Version.{Version}
use Rattle.rules.specs.declared.Kind.TheVariants.{Data}
use Rattle.rules.specs.Walks.{count}
use Rattle.rules.specs.Slots.{slot_size, slot_at, state_of, slot_day, record_of, is_held, row_slot_at, row_of, guide_sound}
use Rattle.rules.specs.Records.{find_row}
use Rattle.rules.specs.Takes.{Outcome, taken}
use Rattle.rules.specs.Loads.{entry_at, entries_in, loaded}
use Rattle.rules.specs.Demands.{live_at}

-- "a register with no number twice": among its held and open slots
unfoldable pub OneEntry : List ℕ → Type 0
OneEntry R =
    (i j : ℕ) → live_at R i → live_at R j → number_of (record_of (slot_at R i)) ≡ number_of (record_of (slot_at R j)) → i ≡ j

-- the lowest row over r is in guide slot k, and has the ESN of r
pub record Zoned (G r : List ℕ) (k : ℕ) : Type 0 where
  pub lowest : find_row r G ≡ Some k
  pub zone : esn_of r ≡ row_esn_of (row_of (row_slot_at G k))

-- "a guide whose lowest row over each entry has its ESN"
unfoldable pub AllZoned : List ℕ → List ℕ → Type 0
AllZoned R G = (i : ℕ) → live_at R i → (k : ℕ) × Zoned G (record_of (slot_at R i)) k

-- a register and a guide that the round trip asks for
pub record Fit (R G : List ℕ) : Type 0 where
  pub numbers : OneEntry R
  pub zones : AllZoned R G

-- the load file of R is written, and taken under the guide G into n empty slots, "as the next cycle"
pub record Trip (v : Version) (R G date company : List ℕ) (c : ℕ) (out answers : List ℕ) (last n : ℕ) : Type 0 where
  pub fit : Fit R G
  pub written : (loaded v R date company c out).result.refusal ≡ 0
  pub guide : guide_sound G ≡ true
  pub some : 1 ≤ n
  pub few : n ≤ 4096
  pub enough : entries_in R ≤ n
  pub room : entries_in R ≤ length answers
  pub next : is_next_of (given_cycle last) (given_cycle c) ≡ true

-- the file: the bytes written
abbrev pub file_of : Version → List ℕ → List ℕ → List ℕ → ℕ → List ℕ → List ℕ
file_of v R date company c out = take (loaded v R date company c out).result.bytes (loaded v R date company c out).output

-- what taking it gives
abbrev pub trip_of : Version → List ℕ → List ℕ → List ℕ → List ℕ → ℕ → List ℕ → List ℕ → ℕ → ℕ → Outcome
trip_of v R G date company c out answers last n =
    taken (Data v) (record { register = replicate (n * slot_size) 0; guide = G }) (file_of v R date company c out) answers last

-- the entry s is back in the slot b: held, under the date in its record, every byte of the record but for its Function and Source
pub record Back (s b : List ℕ) : Type 0 where
  pub state : state_of b ≡ 1
  pub dated : date_of (record_of s) ≡ Some (slot_day b)
  pub day : is_held (state_of s) ≡ true → slot_day b ≡ slot_day s
  pub coded : get_or (record_of b) (start_of data_record function) 0 ≡ 73
  pub marked : get_or (record_of b) (start_of data_record source) 0 ≡ 67
  pub bytes : (j : ℕ) → j ≢ start_of data_record function → j ≢ start_of data_record source
      → get_or (record_of b) j 0 ≡ get_or (record_of s) j 0

-- taken with refusal 0 and all answers 0; entry k is back in slot k, and every other slot is free
pub record Returned (R before : List ℕ) (c n : ℕ) (o : Outcome) : Type 0 where
  pub refusal : o.result.refusal ≡ 0
  pub records : o.result.records ≡ entries_in R
  pub done : o.result.done ≡ entries_in R
  pub last : o.result.last ≡ c
  pub answers : o.answers ≡ replicate (entries_in R) 0 ++ drop (entries_in R) before
  pub sized : length o.stores.register ≡ n * slot_size
  pub back : (i : ℕ) → live_at R i → Back (slot_at R i) (slot_at o.stores.register (count (entry_at R) i))
  pub free : (k : ℕ) → entries_in R ≤ k → k < n → slot_at o.stores.register k ≡ replicate slot_size 0

unfoldable pub RoundTrip : Type 0
RoundTrip =
    (v : Version) (R G date company : List ℕ) (c : ℕ) (out answers : List ℕ) (last n : ℕ) → Trip v R G date company c out answers last n
    → Returned R answers c n (trip_of v R G date company c out answers last n)

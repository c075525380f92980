-- The conversion is not empty: the register that the run of `Witness` leaves, its one day counted as before, is converted and is that
-- register again; so what `convert_answered` says of a conversion that is done, it says of this one. The last day that has a reading, the
-- day after it, a second conversion with and without a held slot, and no register, beside it. A run that leaves an open number meets what
-- `convert_keeps` and `held_once` ask for: its register is sound by both readings. All is computed. Assumes nothing.
use mathlib.Core.Path.{◌≡◌, refl}
use mathlib.Core.Bool.{false}
use mathlib.Core.List.{List, [], ◌∷◌, ◌++◌}
use Prim.Native.Nat.{ℕ}
use native.Mathlib.Omega.{arith}
use Rattle.calendar.specs.Former.{former_of}
use Rattle.versions.specs.declared.Version.TheVariants.{Two}
use Rattle.rules.specs.declared.Kind.TheVariants.{Data, Guide}
use Rattle.rules.specs.Slots.{slots, slot_at, state_of, slot_day, is_held, restated, unsound_by, register_sound_by}
use Rattle.rules.specs.Converts.{late_at, converted_slot, converted_to, Conversion, conversion, ConvertDone, ConvertsAnswer, ConvertKeeps, HeldOnce}
use Rattle.rules.specs.Demands.{File, Office, start, run, StoresKept}
use Rattle.rules.proofs.Keep.{demand3}
use Rattle.rules.proofs.KeepSound.{run_sound}
use Rattle.rules.proofs.ConvertLaws.{convert_answered, convert_keeps, held_once}
use Rattle.witnesses.proofs.Witness.{opening, closing, line, guide_file, files, seen as run_seen}

-- the register of one slot that the run leaves: held, its day 10957, its record of 010100
abbrev register : List ℕ
register = (run files (start 1 1)).stores.register

-- the same with another state and day
abbrev with : ℕ → ℕ → List ℕ
with state day = restated state (record { 0 = day }) register

-- what is returned, and the day of the slot
abbrev told : Conversion → List ℕ
told c = c.result.refusal ∷ c.result.slot ∷ (slot_day (slot_at c.register 0)).0 ∷ []

unfoldable pub seen : List (List ℕ)
unfolding run_seen former_of restated unsound_by register_sound_by late_at converted_slot converted_to conversion
seen =
    told (conversion (with 1 0))
    ∷ told (conversion (with 3 25567))
    ∷ told (conversion (with 3 25568))
    ∷ told (conversion register)
    ∷ told (conversion (with 2 10957))
    ∷ told (conversion [])
    ∷ []

pub witness : seen
    ≡ (0 ∷ 0 ∷ 10957 ∷ [])  -- held on 010100, day 0 before
    ∷ (0 ∷ 0 ∷ 36524 ∷ [])  -- resting since the last day that has a reading
    ∷ (28 ∷ 0 ∷ 25568 ∷ [])  -- and since the day after it
    ∷ (1 ∷ 0 ∷ 10957 ∷ [])  -- a second conversion, with a held slot,
    ∷ (0 ∷ 0 ∷ 21914 ∷ [])  -- and with an open one, which is not told
    ∷ (1 ∷ 0 ∷ 0 ∷ [])  -- no register
    ∷ []
unfolding seen
witness = refl

-- the register of the run again
pub again : (conversion (with 1 0)).register ≡ register
unfolding seen
again = refl

pub done : ConvertDone (with 1 0) (conversion (with 1 0)).register
unfolding seen ConvertsAnswer
done = (convert_answered (with 1 0)).done refl

-- ---- a run that leaves an open number

-- the row, and I and U of A
abbrev opens : List File
opens =
    record { kind = Guide; bytes = guide_file; answers = 1 ∷ []; last = 0 }
    ∷ record { kind = Data Two; bytes = opening ++ (line 73 65 ++ (line 85 65 ++ closing 50)); answers = 1 ∷ 1 ∷ []; last = 0 }
    ∷ []

abbrev office : Office
office = run opens (start 1 1)

abbrev old : List ℕ
old = office.stores.register

-- what the third demand says of its stores is so after the conversion
pub keeps : StoresKept (record { register = (conversion old).register; guide = office.stores.guide })
unfolding seen ConvertKeeps
keeps = convert_keeps old office.stores.guide refl (demand3 1 1 opens).stores

-- and sound by both readings, it has no held slot
pub not_held : is_held (state_of (slot_at old 0)) ≡ false
unfolding seen HeldOnce
not_held =
    held_once old refl (run_sound 1 1 (omega arith) (omega arith) (omega arith) (omega arith) opens).register 0
    (let e : slots old ≡ 1 = refl in omega arith)

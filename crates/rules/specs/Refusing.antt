-- What a caller is told of each refusal: its number, the place and position of 9, and the slot of 27 and of 28. The steps' definitions
-- speak of numbers, and of a `Refusal`.
-- Assumes nothing.
use Rattle.std.specs.Prelude.{ℕ, Result, Ok, Err}
use Rattle.rules.specs.declared.Refusal.{Refusal}
use Rattle.rules.specs.declared.refusing.Refused.{Refused}
use Rattle.rules.specs.declared.refusing.Refused.TheVariants.{Register, Guide, FileLength, AnswersShort, Header, Cycle, Trailer, Count, FieldRule, NoNumber, OutputShort, LoadHeader, NoV1, NoReading, NoText, Label, LabelTwice, Value, NoTaggedForm}

abbrev pub refusal_number : Refused → ℕ
refusal_number Register = 1
refusal_number Guide = 2
refusal_number FileLength = 3
refusal_number AnswersShort = 4
refusal_number Header = 5
refusal_number Cycle = 6
refusal_number Trailer = 7
refusal_number Count = 8
refusal_number (FieldRule place position) = 9
refusal_number NoNumber = 10
refusal_number OutputShort = 25
refusal_number LoadHeader = 26
refusal_number (NoV1 slot) = 27
refusal_number (NoReading slot) = 28
refusal_number NoText = 33
refusal_number Label = 34
refusal_number LabelTwice = 35
refusal_number Value = 36
refusal_number NoTaggedForm = 37

-- "number, record place and position (both 0 except in 9 ..)"
abbrev pub refusal_place : Refused → ℕ
refusal_place (FieldRule place position) = place
refusal_place _ = 0

abbrev pub refusal_position : Refused → ℕ
refusal_position (FieldRule place position) = position
refusal_position _ = 0

abbrev pub refusal_of : Refused → Refusal
refusal_of r = record { number = refusal_number r; place = refusal_place r; position = refusal_position r }

-- 27: "with the lowest such entry's slot"; 28: "reported by its slot"; 0 in the others
abbrev pub refusal_slot : Refused → ℕ
refusal_slot (NoV1 slot) = slot
refusal_slot (NoReading slot) = slot
refusal_slot _ = 0

-- what a check says, as it is told
abbrev pub told : {A : Type 0} → Result A Refused → Result A Refusal
told (Ok a) = Ok a
told (Err r) = Err (refusal_of r)

-- the number of a refusal, 0 where nothing is refused; and the slot that is told
abbrev pub number_told : {A : Type 0} → Result A Refused → ℕ
number_told (Ok a) = 0
number_told (Err r) = refusal_number r

abbrev pub slot_told : {A : Type 0} → Result A Refused → ℕ
slot_told (Ok a) = 0
slot_told (Err r) = refusal_slot r

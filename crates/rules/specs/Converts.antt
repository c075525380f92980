-- 2026-02: "Registers written before are converted once, by adding 10957 to each used slot's day; a stored day above 25567 has no
-- reading now and is reported by its slot. Refusals: 28 for that conversion, after 1 by the old reading, nothing changed." Behind it
-- what is proved of it in `proofs/ConvertLaws`, for every register: convert_answered, convert_keeps, held_once, order_stays,
-- distance_stays, one_convert.
-- Assumes nothing.
use Rattle.std.specs.Prelude.{ℕ, zero, suc, ◌+◌, ◌<◌, ◌≡◌, ◌≢◌, List, [], ◌∷◌, Bool, true, false, ◌&&◌, cond, length, Some}
use Rattle.text.specs.Text.{part, member_of, on_some}
use Rattle.calendar.specs.declared.Day.{Day}
use Rattle.calendar.specs.declared.Reading.TheVariants.{Former}
use Rattle.calendar.specs.Calendar.{is_before, is_past}
use Rattle.calendar.specs.Former.{anew}
use Rattle.rules.specs.declared.Converted.{Converted}
use Rattle.rules.specs.Walks.{find}
use Rattle.rules.specs.Slots.{slots, slot_at, with_slot, state_of, slot_day, record_of, is_held, is_used, restated, register_sound, register_sound_by}
use Rattle.rules.specs.Demands.{StoresKept}

-- ---- the conversion

-- "a stored day above 25567 has no reading now": that of a used slot
abbrev pub is_late : List ℕ → Bool
is_late s = is_used (state_of s) && on_some (anew (slot_day s)) true (λ day. false)

unfoldable pub late_at : List ℕ → ℕ → Bool
late_at R k = is_late (slot_at R k)

-- "by adding 10957 to each used slot's day"
unfoldable pub converted_slot : List ℕ → List ℕ
converted_slot s = cond (is_used (state_of s)) (on_some (anew (slot_day s)) s (λ day. restated (state_of s) day s)) s

-- the register with its first i slots converted
unfoldable pub converted_to : List ℕ → ℕ → List ℕ
converted_to R zero = R
converted_to R (suc i) = with_slot (converted_to R i) i (converted_slot (slot_at (converted_to R i) i))

-- what is returned, and the register afterwards
pub record Conversion : Type 0 where
  pub result : Converted
  pub register : List ℕ

-- a refusal: "nothing changed"
abbrev pub refused_conversion : ℕ → ℕ → List ℕ → Conversion
refused_conversion refusal slot R = record { result = record { refusal = refusal; slot = slot }; register = R }

abbrev pub done_conversion : List ℕ → Conversion
done_conversion R = record { result = record { refusal = 0; slot = 0 }; register = converted_to R (slots R) }

-- 1 | "by the old reading": register length or a slot unsound
-- 28 | a used slot's day "has no reading now": the lowest such slot
unfoldable pub conversion : List ℕ → Conversion
conversion R =
    cond (register_sound_by Former R)
    (on_some (find (late_at R) (slots R)) (done_conversion R) (λ k. refused_conversion 28 k R))
    (refused_conversion 1 0 R)

-- what converting a register promises: the result, and the register at exit
abbrev pub Converts : List ℕ → Converted → List ℕ → Type 0
Converts R result register = (result ≡ (conversion R).result) × (register ≡ (conversion R).register)

-- ---- the first demand: it is answered

abbrev pub convert_numbers : List ℕ
convert_numbers = 0 ∷ 1 ∷ 28 ∷ []

-- k is the lowest slot whose day has no reading
pub record LowestLate (R : List ℕ) (k : ℕ) : Type 0 where
  pub within : k < slots R
  pub late : late_at R k ≡ true
  pub lowest : (j : ℕ) → j < k → late_at R j ≡ false

-- slot b is slot s with its day moved, if it is used, and nothing else
pub record Moved (s b : List ℕ) : Type 0 where
  pub unused : is_used (state_of s) ≡ false → b ≡ s
  pub state : state_of b ≡ state_of s
  pub day : is_used (state_of s) ≡ true → (slot_day b).0 ≡ (slot_day s).0 + 10957
  pub zeros : part 5 3 b ≡ part 5 3 s
  pub line : record_of b ≡ record_of s

-- the register R was converted to S: every slot is moved, and S is sound as dates are read now
pub record ConvertDone (R S : List ℕ) : Type 0 where
  pub former : register_sound_by Former R ≡ true
  pub none : (k : ℕ) → k < slots R → late_at R k ≡ false
  pub moved : (k : ℕ) → k < slots R → Moved (slot_at R k) (slot_at S k)
  pub sound : register_sound S ≡ true

-- it is refused by 1 or 28, or done; it is done exactly where neither hits
pub record ConvertAnswered (R : List ℕ) (c : Conversion) : Type 0 where
  pub number : member_of c.result.refusal convert_numbers ≡ true
  pub refused : c.result.refusal ≢ 0 → c.register ≡ R
  pub unsound : c.result.refusal ≡ 1 → register_sound_by Former R ≡ false
  pub late : c.result.refusal ≡ 28 → LowestLate R c.result.slot
  pub untold : c.result.refusal ≢ 28 → c.result.slot ≡ 0
  pub done : c.result.refusal ≡ 0 → ConvertDone R c.register
  pub converted : register_sound_by Former R ≡ true → ((k : ℕ) → k < slots R → late_at R k ≡ false) → c.result.refusal ≡ 0
  pub sized : length c.register ≡ length R

unfoldable pub ConvertsAnswer : Type 0
ConvertsAnswer = (R : List ℕ) → ConvertAnswered R (conversion R)

-- ---- the third demand: what it says of the stores alone stays so

unfoldable pub ConvertKeeps : Type 0
ConvertKeeps =
    (R G : List ℕ) → (conversion R).result.refusal ≡ 0 → StoresKept (record { register = R; guide = G })
    → StoresKept (record { register = (conversion R).register; guide = G })

-- ---- "converted once": a register with a held slot is sound by one reading at most, so a second conversion of it is refused by 1, and
-- so are the takes and the load file of one that was not converted. One without a held slot may be sound by both

unfoldable pub HeldOnce : Type 0
HeldOnce =
    (R : List ℕ) → register_sound_by Former R ≡ true → register_sound R ≡ true
    → (k : ℕ) → k < slots R → is_held (state_of (slot_at R k)) ≡ false

-- ---- days keep their order and their distance, so 11, 17, 20 and 26 decide as before

unfoldable pub OrderStays : Type 0
OrderStays =
    (d e x y : Day) → anew d ≡ Some x → anew e ≡ Some y → is_before x y ≡ is_before d e

unfoldable pub DistanceStays : Type 0
DistanceStays =
    (d e x y : Day) (n : ℕ) → anew d ≡ Some x → anew e ≡ Some y → is_past x n y ≡ is_past d n e

-- ---- "Show that the promise admits one outcome"

unfoldable pub OneConvert : Type 0
OneConvert = (R : List ℕ) (a b : Converted) (S T : List ℕ) → Converts R a S → Converts R b T → (a ≡ b) × (S ≡ T)

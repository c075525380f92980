-- 2026-12: the value of a label, and the bytes of the record that it stands for.
-- Assumes nothing.
use Rattle.std.specs.Prelude.{ℕ, List, [], ◌∷◌, ◌++◌, Bool, ◌&&◌, ◌||◌, cond, leb, eqb, length, get_or}
use Rattle.text.specs.declared.Class.TheVariants.{Digit}
use Rattle.text.specs.Text.{all_in, blank, same_bytes, trim_of, part, spaces, put_at}
use Rattle.tag_rules.specs.Tags.{plain, ten, calendar_date, postal}

-- a form, and how many bytes of the record it is for; each row of the table is so (`all_shaped`)
abbrev pub shaped : ℕ → ℕ → Bool
shaped form n =
    eqb form plain || ((eqb form ten && eqb n 10) || ((eqb form calendar_date && eqb n 6) || (eqb form postal && eqb n 9)))

-- MMDDYY of CCYY-MM-DD
abbrev pub turned : List ℕ → List ℕ
turned v = get_or v 5 0 ∷ get_or v 6 0 ∷ get_or v 8 0 ∷ get_or v 9 0 ∷ get_or v 2 0 ∷ get_or v 3 0 ∷ []

-- reading: the n bytes that a value stands for; spaces behind it, or only spaces where it is too long
unfoldable pub spread : ℕ → ℕ → List ℕ → List ℕ
spread form n v =
    cond (eqb form calendar_date) (put_at 0 (turned v) (spaces n))
    (cond (eqb form postal) (put_at 5 (part 6 4 v) (put_at 0 (part 0 5 v) (spaces n)))
    (put_at 0 v (spaces n)))

-- "YY 70 to 99 means 19YY and 00 to 69 means 20YY": by the first digit of YY
abbrev pub is_nineteen : ℕ → Bool
is_nineteen b = leb 55 b

abbrev pub century : ℕ → List ℕ
century b = cond (is_nineteen b) (49 ∷ 57 ∷ []) (50 ∷ 48 ∷ [])

-- writing: the value for the bytes f, "written without trailing spaces"
unfoldable pub worded : ℕ → List ℕ → List ℕ
worded form f =
    cond (eqb form calendar_date) (century (get_or f 4 0) ++ (part 4 2 f ++ (45 ∷ (part 0 2 f ++ (45 ∷ part 2 2 f)))))
    (cond (eqb form postal) (part 0 5 f ++ cond (blank (part 5 4 f)) [] (45 ∷ part 5 4 f))
    (cond (eqb form ten) f
    (trim_of f)))

-- ten digits, the six of a date, or the five or nine of Zip with Zip+4
unfoldable pub filled : ℕ → List ℕ → Bool
filled form f =
    cond (eqb form postal) (all_in Digit (part 0 5 f) && (blank (part 5 4 f) || all_in Digit (part 5 4 f)))
    (all_in Digit f)

-- 37: "Zip with Zip+4 isn't blank, five digits or five and four, or the main number isn't blank or ten digits"
unfoldable pub formed : ℕ → List ℕ → Bool
formed form f = eqb form plain || (blank f || filled form f)

-- 36: "value too long or with no Version 2 form": a plain value is no longer than its field; any other stands for digits, and is what
-- would be written for them
unfoldable pub fits : ℕ → ℕ → List ℕ → Bool
fits form n v =
    cond (eqb form plain) (leb (length v) n)
    (filled form (spread form n v) && same_bytes (worded form (spread form n v)) v)

-- how many bytes a value for n bytes may have
abbrev pub longest : ℕ → ℕ → ℕ
longest form n = cond (eqb form calendar_date || eqb form postal) 10 n

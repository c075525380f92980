-- The answers other than 0: the number that the tables give to each.
-- Assumes nothing.
use Rattle.std.specs.Prelude.{ℕ, Result, Ok, Err}
use Rattle.rules.specs.declared.answering.Undone.{Undone}
use Rattle.rules.specs.declared.answering.Undone.TheVariants.{AfterHeader, AlreadyThere, NotThere, StillHeld, Open, OtherCompany, TooEarly, NoRow, OtherEsn, NoSlot, Clash, GuideFull, NoSuchRow, RowInUse}

abbrev pub undone_number : Undone → ℕ
undone_number AfterHeader = 11
undone_number AlreadyThere = 12
undone_number NotThere = 13
undone_number StillHeld = 14
undone_number Open = 15
undone_number OtherCompany = 16
undone_number TooEarly = 17
undone_number NoRow = 18
undone_number OtherEsn = 19
undone_number NoSlot = 20
undone_number Clash = 21
undone_number GuideFull = 22
undone_number NoSuchRow = 23
undone_number RowInUse = 24

-- the answer of a step that may fail: 0 where it does not
abbrev pub as_answer : {A : Type 0} → Result A Undone → ℕ
as_answer (Ok a) = 0
as_answer (Err why) = undone_number why

-- A record of either version, widened: it has 512 bytes, and keeps its rules. This is all that the proofs above know of Version 1.
-- Assumes nothing.
use mathlib.Core.Path.{◌≡◌}
use mathlib.Core.List.{List}
use Prim.Native.Nat.{ℕ}
use lib.ListN.{length}
use Rattle.versions.specs.declared.Version.{Version}
use Rattle.versions.specs.declared.Version.TheVariants.{One, Two}
use Rattle.layout.specs.Tables.{data_record}
use Rattle.layout.specs.Fields.{function_of}
use Rattle.layout.specs.Rules.{is_lax, record_fault}
use Rattle.versions.proofs.VersionLaws.{wide_length, wide_fault, function_wide}
use Rattle.rules.specs.declared.Kind.TheVariants.{Data}
use Rattle.rules.specs.Takes.{shape_of, line_fault}
use Rattle.rules.proofs.SlotLaws.{Whole}

-- what is applied has 512 bytes
pub wide_whole : (v : Version) (l : List ℕ) → length l ≡ (shape_of (Data v)).line → Whole ((shape_of (Data v)).wide l)
wide_whole One l h = wide_length l
wide_whole Two l h = h

-- and a record of good form is one of good form when it is widened
pub wide_good : (v : Version) (l : List ℕ) → length l ≡ (shape_of (Data v)).line → line_fault (Data v) l ≡ 0
    → record_fault data_record ((shape_of (Data v)).wide l) ≡ 0
unfolding record_fault
wide_good One l h e = rw (function_wide l h) (wide_fault (is_lax (function_of l)) l e)
wide_good Two l h e = e

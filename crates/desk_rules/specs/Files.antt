-- The files that an input takes at the desk, and what its answers tell of them.
-- Assumes nothing.
use Rattle.std.specs.Prelude.{ℕ, zero, suc, List, [], ◌∷◌, ◌++◌, cond, eqb, length, drop, get_or, replicate}
use Rattle.versions.specs.declared.Version.TheVariants.{Two}
use Rattle.rules.specs.declared.Kind.TheVariants.{Data, Guide}
use Rattle.rules.specs.Takes.{Stores, Outcome, line_at, taken}
use Rattle.rules.specs.History.{Item, item_of}
use Rattle.rules.specs.Demands.{File}
use Rattle.desk_rules.specs.Hex.{bytes_in}
use Rattle.desk_rules.specs.Desk.{Desk, empty_desk, most_answers, is_readable, has_stopped, fed, fed_all}

-- ---- the files

-- the collection, as a file of either kind
abbrev pub guide_file : Desk → File
guide_file d = record { kind = Guide; bytes = d.collection; answers = replicate most_answers 0; last = d.guide_last }

abbrev pub data_file : Desk → File
data_file d = record { kind = Data Two; bytes = d.collection; answers = replicate most_answers 0; last = d.data_last }

-- "`02` take as guide file; `03` take as data file"; no other frame takes one
unfoldable pub frame_files : Desk → ℕ → List ℕ → List File
frame_files d code bytes =
    cond (eqb code 2) (cond (eqb (length bytes) 0) (guide_file d ∷ []) [])
    (cond (eqb code 3) (cond (eqb (length bytes) 0) (data_file d ∷ []) [])
    [])

-- a line that can't be read takes none
unfoldable pub line_files : Desk → List File
line_files d = cond (is_readable d.line) (frame_files d (get_or (bytes_in d.line) 0 0) (drop 1 (bytes_in d.line))) []

-- a byte of input, and the end of input, take that of the line that they end
unfoldable pub byte_files : Desk → ℕ → List File
byte_files d b = cond (has_stopped d) [] (cond (eqb b 10) (line_files d) [])

unfoldable pub end_files : Desk → List File
end_files d = cond (has_stopped d) [] (cond (eqb (length d.line) 0) [] (line_files d))

-- any number of bytes, each on the desk that the one before it left
unfoldable pub files_from : Desk → List ℕ → List File
files_from d [] = []
files_from d (b ∷ s) = byte_files d b ++ files_from (fed d b).desk s

-- the files of an input, and those of an input that has ended
abbrev pub files_of : List ℕ → List File
files_of input = files_from empty_desk input

abbrev pub files_ended : List ℕ → List File
files_ended input = files_of input ++ end_files (fed_all empty_desk input).desk

-- ---- what was answered 0

-- what taking a file gives
abbrev pub outcome : File → Stores → Outcome
outcome f s = taken f.kind s f.bytes f.answers f.last

-- of its first i records or rows those answered 0, the newest first, before the past
unfoldable pub done_to : File → List ℕ → List Item → ℕ → List Item
done_to f answers past zero = past
done_to f answers past (suc i) =
    cond (eqb (get_or answers i 0) 0)
    (item_of f.kind (line_at f.kind f.bytes i) ∷ done_to f answers past i)
    (done_to f answers past i)

-- by the answers that `take_said` writes; a refused file has none
unfoldable pub done_of : File → Outcome → List Item → List Item
done_of f o past = cond (eqb o.result.refusal 0) (done_to f o.answers past o.result.records) past

-- of any number of files
unfoldable pub done_in : List File → Stores → List Item → List Item
done_in [] s past = past
done_in (f ∷ fs) s past = done_in fs (outcome f s).stores (done_of f (outcome f s) past)

-- What a frame does at the desk, and what acting on the bench promises.
-- Assumes nothing.
use Rattle.std.specs.Prelude.{ℕ, ◌≡◌, List, Option, None, Some}
use Rattle.desk_rules.specs.Desk.{Desk, Reply, unread, collecting, taking_guide, taking_data, looking}
use Rattle.desk_rules.specs.Served.{bench_of, Lays}
use Rattle.desk_lines.specs.declared.bench.Bench.{Bench}
use Rattle.desk_lines.specs.declared.frames.Frame.{Frame}
use Rattle.desk_lines.specs.declared.frames.Frame.TheVariants.{Collect, TakeGuide, TakeData, Look}

-- what is no frame can't be read
abbrev pub acted : Desk → Option Frame → Reply
acted d None = unread d
acted d (Some (Collect bytes)) = collecting d bytes.now
acted d (Some TakeGuide) = taking_guide d
acted d (Some TakeData) = taking_data d
acted d (Some (Look number)) = looking d number.now

-- each part is still the one that was lent
abbrev pub IsSameLoan : Bench → Bench → Type 0
IsSameLoan before after =
    (after.register.ghost_name ≡ before.register.ghost_name)
    × ((after.guide.ghost_name ≡ before.guide.ghost_name)
    × ((after.collection.ghost_name ≡ before.collection.ghost_name)
    × (after.out.ghost_name ≡ before.out.ghost_name)))

-- with a line, and the line that it is afterwards, the bench has what the definition lays out, and so many bytes are said
abbrev pub Acts : (Desk → Reply) → Bench → List ℕ → Bench → List ℕ → ℕ → Type 0
Acts act before line after new_line said =
    Lays act before.marks
    (bench_of before.register.now before.guide.now before.collection.now line before.out.now)
    (record { marks = after.marks; said = said })
    (bench_of after.register.now after.guide.now after.collection.now new_line after.out.now)

-- The desk in the bytes that a program lends: where they hold it, and what a byte of input leaves in each.
-- Assumes nothing.
use Rattle.std.specs.Prelude.{ℕ, ◌+◌, ◌≡◌, List, ◌++◌, Bool, true, ◌&&◌, cond, leb, length, take, drop}
use Rattle.desk_rules.specs.declared.Marks.{Marks}
use Rattle.desk_rules.specs.declared.Fed.{Fed}
use Rattle.desk_rules.specs.Desk.{Desk, Reply, most_collected, most_typed, most_lines}

-- the lent bytes
pub record Bench : Type 0 where
  pub register : List ℕ
  pub guide : List ℕ
  pub collection : List ℕ
  pub line : List ℕ
  pub out : List ℕ

abbrev pub bench_of : List ℕ → List ℕ → List ℕ → List ℕ → List ℕ → Bench
bench_of register guide collection line out =
    record { register = register; guide = guide; collection = collection; line = line; out = out }

-- the longest reply: 325 lines of nine bytes, and one of eleven
abbrev pub most_said : ℕ
most_said = 2936

-- so many bytes of collection, line and output are room for all that a desk may hold and say, and the marks lie within it
unfoldable pub has_room : Marks → ℕ → ℕ → ℕ → Bool
has_room m collection line out =
    (leb most_collected collection && (leb (most_typed + 1) line && leb most_said out))
    && (leb m.collected most_collected && (leb m.typed (most_typed + 1) && leb m.lines most_lines))

abbrev pub is_ready : Marks → Bench → Bool
is_ready m b = has_room m (length b.collection) (length b.line) (length b.out)

-- the desk that they hold
unfoldable pub desk_of : Marks → Bench → Desk
desk_of m b =
    record {
      stores = record { register = b.register; guide = b.guide };
      guide_last = m.guide;
      data_last = m.register;
      collection = take m.collected b.collection;
      line = take m.typed b.line;
      lines = m.lines;
    }

unfoldable pub marks_of : Desk → Marks
marks_of d =
    record {
      lines = d.lines;
      typed = length d.line;
      collected = length d.collection;
      guide = d.guide_last;
      register = d.data_last;
    }

-- the bytes of l at the start of s; those behind stay
abbrev pub over : List ℕ → List ℕ → List ℕ
over l s = l ++ drop (length l) s

-- what is returned, and the lent bytes afterwards
pub record Served : Type 0 where
  pub result : Fed
  pub bench : Bench

-- the desk and what it says, in the lent bytes
unfoldable pub laid_out : Reply → Bench → Served
laid_out r b =
    record {
      result = record { marks = marks_of r.desk; said = length r.said };
      bench = record {
        register = r.desk.stores.register;
        guide = r.desk.stores.guide;
        collection = over r.desk.collection b.collection;
        line = over r.desk.line b.line;
        out = over r.said b.out;
      };
    }

-- where there is too little room, nothing is done
abbrev pub unserved : Marks → Bench → Served
unserved m b = record { result = record { marks = m; said = 0 }; bench = b }

unfoldable pub served : (Desk → Reply) → Marks → Bench → Served
served act m b = cond (is_ready m b) (laid_out (act (desk_of m b)) b) (unserved m b)

-- what is returned, and each lent buffer at exit, are as they are to be
abbrev pub Holds : Served → Fed → Bench → Type 0
Holds s result after =
    (result ≡ s.result)
    × ((after.register ≡ s.bench.register)
    × ((after.guide ≡ s.bench.guide)
    × ((after.collection ≡ s.bench.collection)
    × ((after.line ≡ s.bench.line)
    × (after.out ≡ s.bench.out)))))

-- what feeding a byte, and ending the input, promises
abbrev pub Serves : (Desk → Reply) → Marks → Bench → Fed → Bench → Type 0
Serves act m b result after = Holds (served act m b) result after

-- what a step of it promises where there is room
abbrev pub Laid : (Desk → Reply) → Marks → Bench → Fed → Bench → Type 0
Laid act m b result after = Holds (laid_out (act (desk_of m b)) b) result after

abbrev pub Lays : (Desk → Reply) → Marks → Bench → Fed → Bench → Type 0
Lays act m b result after = is_ready m b ≡ true → Laid act m b result after

-- what a writer promises: how many bytes it wrote, and that they stand at the start of the output
abbrev pub Writes : List ℕ → List ℕ → ℕ → List ℕ → Type 0
Writes said out n after = (n ≡ length said) × (after ≡ over said out)

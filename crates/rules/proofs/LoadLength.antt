-- The length of a load file: header and trailer have 200 bytes each, and each entry's record 512.
-- Assumes nothing.
use mathlib.Core.Path.{◌≡◌, refl, sym, ap, ◌∙◌}
use native.Mathlib.Nat.{zero-mul, add-mul}
use Rattle.versions.specs.declared.Version.{Version}
use Rattle.versions.specs.declared.Version.TheVariants.{One, Two}
use Rattle.versions.specs.Versions.{narrow_of}
use Rattle.versions.proofs.VersionLaws.{narrow_length}
use Rattle.rules.specs.declared.Kind.TheVariants.{Data}
use Rattle.rules.specs.Takes.{shape_of}
use mathlib.Core.Bool.{Bool, true, false, cond}
use mathlib.Core.List.{List, [], ◌++◌}
use Prim.Native.Nat.{ℕ, zero, suc, ◌+◌, ◌*◌, ◌≤◌}
use native.Mathlib.Omega.{arith}
use lib.Dec.{leb}
use lib.ListN.{length, drop, length-append, length-replicate}
use lib.Seq.{drop_at}
use borrow.Author.Tests.{leb-true}
use Rattle.text.specs.Text.{put_at}
use Rattle.layout.specs.Fields.{for_load}
use Rattle.layout.specs.Frames.{frame_with, header_with, trailer_with}
use Rattle.rules.specs.Walks.{count}
use Rattle.rules.specs.Slots.{slots, slot_at, record_of}
use Rattle.rules.specs.Loads.{entry_at, entries_in, lines_to, header_for, trailer_for, load_file, load_size}
use Rattle.rules.proofs.PlaceLaws.{mid_length}
use Rattle.rules.proofs.SlotLaws.{Whole, put_is, whole_at}

-- bytes put over others leave the length, whether they fit or not
pub put_length : (i : ℕ) (b s : List ℕ) → length (put_at i b s) ≡ length s
unfolding put_at
put_length i b s = go (leb (i + length b) (length s)) refl
  where
    go : (v : Bool) → leb (i + length b) (length s) ≡ v → length (put_at i b s) ≡ length s
    go true q =
        let h = leb-true (i + length b) (length s) q in
        ap length (put_is i (length b) b s refl h) ∙ mid_length s b i (length b) h refl
    go false q = rw q

-- a header or a trailer has the bytes that are asked for
pub frame_length : (letters date company counter : List ℕ) (m : ℕ) → length (frame_with letters date company counter m) ≡ m
unfolding frame_with
frame_length letters date company counter m = simp (put_length, length-replicate)

pub header_length : (v : Version) (date company : List ℕ) (c : ℕ) → length (header_for v date company c) ≡ (shape_of (Data v)).frame
unfolding header_for header_with
header_length v date company c = simp frame_length

pub trailer_length : (v : Version) (date company : List ℕ) (n : ℕ) → length (trailer_for v date company n) ≡ (shape_of (Data v)).frame
unfolding trailer_for trailer_with
trailer_length v date company n = simp frame_length

-- a record to be loaded is as long as the record
pub for_length : (r : List ℕ) → length (for_load r) ≡ length r
unfolding for_load
for_length r = simp put_length

-- the line of a record has the bytes of its version
pub line_whole : (v : Version) (r : List ℕ) → Whole r → length (narrow_of v (for_load r)) ≡ (shape_of (Data v)).line
line_whole One r h = narrow_length (for_load r)
line_whole Two r h = for_length r ∙ h

-- the lines of the first i slots have so many bytes for each entry
pub lines_length : (v : Version) (R : List ℕ) (i : ℕ) → i ≤ slots R → length (lines_to v R i) ≡ count (entry_at R) i * (shape_of (Data v)).line
unfolding lines_to count
lines_length v R zero h = sym (zero-mul (shape_of (Data v)).line)
lines_length v R (suc i) h =
    rw length-append (go _ (line_whole v (record_of (slot_at R i)) (whole_at R i h)) (entry_at R i) (lines_length v R i (omega arith)))
  where
    go : (x : List ℕ) → length x ≡ (shape_of (Data v)).line → (b : Bool)
        → length (lines_to v R i) ≡ count (entry_at R) i * (shape_of (Data v)).line
        → length (lines_to v R i) + length (cond b x []) ≡ (count (entry_at R) i + cond b 1 0) * (shape_of (Data v)).line
    go x l true ih = omega (arith, ih, l, add-mul (count (entry_at R) i) 1 (shape_of (Data v)).line)
    go x l false ih = omega (arith, ih, add-mul (count (entry_at R) i) 0 (shape_of (Data v)).line)

-- the load file has as many bytes as its size says
pub load_length : (v : Version) (R date company : List ℕ) (c : ℕ) → length (load_file v R date company c) ≡ load_size v R
unfolding load_file load_size entries_in
load_length v R date company c =
    simp (length-append, header_length, trailer_length) (omega (arith, lines_length v R (slots R) (omega arith)))

-- so the bytes behind it are those that stood there
pub load_rest : (v : Version) (R date company : List ℕ) (c : ℕ) (out : List ℕ)
    → drop (load_size v R) (load_file v R date company c ++ drop (load_size v R) out) ≡ drop (load_size v R) out
load_rest v R date company c out =
    drop_at (load_file v R date company c) (drop (load_size v R) out) (load_size v R) (load_length v R date company c)

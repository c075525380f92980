-- A run that mixes versions is not empty: behind the run of `Witness` comes a Version 1 file of cycle 2, a C of B, and is taken. Beside it
-- stand the same file lent as Version 2, one with a code that Version 1 has not, and the load file in Version 1, before and after an
-- entry that does not fit. All is computed. Assumes nothing.
use mathlib.Core.Path.{◌≡◌, refl}
use mathlib.Core.List.{List, [], ◌∷◌, ◌++◌}
use Prim.Native.Nat.{ℕ}
use lib.ListN.{length, take, drop, replicate}
use Rattle.text.specs.Text.{spaces}
use Rattle.layout.specs.Fields.{function_of, esn_of}
use Rattle.versions.specs.declared.Version.TheVariants.{One, Two}
use Rattle.versions.specs.Versions.{widen_to, widened, narrow_to, narrowed, tail_blank, narrows}
use Rattle.rules.specs.declared.Kind.TheVariants.{Data}
use Rattle.rules.specs.Slots.{slot_at, state_of, record_of}
use Rattle.rules.specs.Takes.{taken}
use Rattle.rules.specs.Loads.{Load, loaded}
use Rattle.rules.specs.Demands.{File, start, run}
use Rattle.witnesses.proofs.Witness.{day, company, files, numbers, seen as run_seen}

-- header of cycle n, and trailer of one record, in Version 1
abbrev opening : ℕ → List ℕ
opening n = 85 ∷ 72 ∷ 76 ∷ 32 ∷ 32 ∷ (day ++ (78 ∷ (spaces 49 ++ (n ∷ (spaces 97 ++ (42 ∷ []))))))

abbrev closing : List ℕ
closing = 85 ∷ 84 ∷ 76 ∷ 32 ∷ 32 ∷ (day ++ (78 ∷ (spaces 57 ++ (49 ∷ (spaces 89 ++ (42 ∷ []))))))

-- the record of `Witness` in Version 1, of B: the first of its 13 Reserved bytes is g
abbrev line : ℕ → ℕ → List ℕ
line c g =
    c ∷ (replicate 10 49 ++ (49 ∷ (spaces 15 ++ (65 ∷ (spaces 45 ++ (67 ∷ (spaces 31 ++ (84 ∷ 88 ∷ (spaces 52 ++ (49 ∷ 48 ∷
    (spaces 29 ++ (day ++ (spaces 4 ++ (66 ∷ (spaces 25 ++ (g ∷ (spaces 12 ++ (42 ∷ []))))))))))))))))))

-- a file of cycle 2 with one record
abbrev narrow_file : ℕ → List ℕ
narrow_file c = opening 50 ++ (line c 82 ++ closing)

-- the run of `Witness`, and a Version 1 file behind it
abbrev pub mixed : List File
mixed = files ++ (record { kind = Data One; bytes = narrow_file 67; answers = 1 ∷ []; last = 1 } ∷ [])

-- the same register with a byte where Version 1 has none: the last of Reserved
abbrev wider : List ℕ → List ℕ
wider R = take 518 R ++ (82 ∷ drop 519 R)

abbrev written : Load → List ℕ
written l =
    let t = l.result in
    t.refusal ∷ t.bytes ∷ t.entries ∷ t.slot ∷ []

unfoldable pub seen : List (List ℕ)
unfolding run_seen widen_to widened narrow_to narrowed tail_blank narrows
seen =
    let o = run files (start 1 1) in
    let t = taken (Data One) o.stores (narrow_file 67) (1 ∷ []) 1 in
    let e = run mixed (start 1 1) in
    let R = e.stores.register in
    let s = slot_at R 0 in
    t.answers
    ∷ numbers t.result
    ∷ (length e.history ∷ [])
    ∷ (state_of s ∷ function_of (record_of s) ∷ (esn_of (record_of s) ++ take 2 (drop 354 (record_of s))))
    ∷ numbers (taken (Data Two) o.stores (narrow_file 67) (1 ∷ []) 1).result
    ∷ numbers (taken (Data One) o.stores (narrow_file 85) (1 ∷ []) 1).result
    ∷ written (loaded One R day company 1 (spaces 560))
    ∷ written (loaded One R day company 1 (spaces 559))
    ∷ written (loaded One (wider R) day company 1 [])
    ∷ written (loaded Two (wider R) day company 1 (spaces 912))
    ∷ []

pub witness : seen
    ≡ (0 ∷ [])  -- the C is taken
    ∷ (0 ∷ 0 ∷ 0 ∷ 1 ∷ 1 ∷ 0 ∷ 2 ∷ [])  -- 1 record, done, last cycle 2
    ∷ (6 ∷ [])  -- the history has one item more
    ∷ (1 ∷ 67 ∷ 56 ∷ 51 ∷ 32 ∷ 32 ∷ 32 ∷ 32 ∷ 82 ∷ [])  -- held, stored as C under ESN 83; Reserved begins behind the blank TAR
    ∷ (3 ∷ 0 ∷ 0 ∷ 0 ∷ 0 ∷ 0 ∷ 1 ∷ [])  -- as Version 2 its length is wrong
    ∷ (9 ∷ 1 ∷ 1 ∷ 0 ∷ 0 ∷ 0 ∷ 1 ∷ [])  -- a U is refused by 9 at its first byte
    ∷ (0 ∷ 560 ∷ 1 ∷ 0 ∷ [])  -- the load file in Version 1 has one entry,
    ∷ (25 ∷ 0 ∷ 0 ∷ 0 ∷ [])  -- is refused where it does not fit,
    ∷ (27 ∷ 0 ∷ 0 ∷ 0 ∷ [])  -- and before that, with slot 0, where the entry does not;
    ∷ (0 ∷ 912 ∷ 1 ∷ 0 ∷ [])  -- which Version 2 writes
    ∷ []
unfolding seen
witness = refl

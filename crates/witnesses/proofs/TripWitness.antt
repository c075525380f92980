-- The round trip is not empty, in either version: what the run of `VersionWitness` leaves, one slot held by B, is written as a load file
-- of cycle 2 and taken into an empty slot. Assumes nothing.
use mathlib.Core.Path.{◌≡◌, refl, ap}
use mathlib.Core.List.{List, [], ◌∷◌, ◌++◌}
use Prim.Native.Nat.{ℕ, ◌≤◌}
use native.Mathlib.Omega.{arith}
use lib.ListN.{take, get_or, replicate}
use Rattle.layout.specs.Fields.{function_of, esn_of, company_of}
use Rattle.versions.specs.declared.Version.{Version}
use Rattle.versions.specs.declared.Version.TheVariants.{One, Two}
use Rattle.rules.specs.Slots.{slot_at, state_of, record_of}
use Rattle.rules.specs.Takes.{Stores}
use Rattle.rules.specs.Loads.{entries_in, loaded}
use Rattle.rules.specs.Demands.{start, run}
use Rattle.rules.specs.Circle.{Trip, Returned, RoundTrip, trip_of}
use Rattle.rules.proofs.KeepSound.{run_sound}
use Rattle.rules.proofs.RoundTrip.{round_trip, run_fit}
use Rattle.witnesses.proofs.Witness.{day, company}
use Rattle.witnesses.proofs.VersionWitness.{mixed, seen as run_seen}

-- the stores that the run leaves
abbrev stores : Stores
stores = (run mixed (start 1 1)).stores

-- room for the file
abbrev out : List ℕ
out = replicate 912 0

-- whether the file is refused, and how many entries it has; what taking it returns; and of the slot that it fills the state, the
-- Function, the ESN and the first letter of the Company ID
pub seen : Version → List ℕ
unfolding run_seen
seen v =
    let l = (loaded v stores.register day company 2 out).result in
    let o = trip_of v stores.register stores.guide day company 2 out (1 ∷ []) 1 1 in
    let s = slot_at o.stores.register 0 in
    l.refusal ∷ l.entries ∷ o.result.refusal ∷ o.result.done ∷ o.result.last ∷ o.answers
    ++ (state_of s ∷ function_of (record_of s) ∷ (esn_of (record_of s) ++ take 1 (company_of (record_of s))))

-- one entry is written, and taken with answer 0: held by B under ESN 83, with Function `I`
pub witness : (v : Version) → seen v ≡ 0 ∷ 1 ∷ 0 ∷ 1 ∷ 2 ∷ 0 ∷ 1 ∷ 73 ∷ 56 ∷ 51 ∷ 32 ∷ 32 ∷ 32 ∷ 66 ∷ []
unfolding seen
witness One = refl
witness Two = refl

-- so all that the round trip asks for holds here
pub trip : (v : Version) → Trip v stores.register stores.guide day company 2 out (1 ∷ []) 1 1
unfolding seen
trip v =
    record {
      fit = run_fit mixed 1 1;
      written = ap (λ l. get_or l 0 0) (witness v);
      guide = (run_sound 1 1 (omega arith) (omega arith) (omega arith) (omega arith) mixed).guide;
      some = omega arith;
      few = omega arith;
      enough = few_entries;
      room = few_entries;
      next = refl;
    }
  where
    few_entries : entries_in stores.register ≤ 1
    few_entries = let e : entries_in stores.register ≡ 1 = refl in omega arith

-- and the entry comes back
pub returned : (v : Version)
    → Returned stores.register (1 ∷ []) 2 1 (trip_of v stores.register stores.guide day company 2 out (1 ∷ []) 1 1)
unfolding RoundTrip
returned v = round_trip v stores.register stores.guide day company 2 out (1 ∷ []) 1 1 (trip v)

-- 2026-03, "Look before we load": "Taking becomes two calls: one tests all that refusals 1 to 9 test and changes nothing, the other
-- applies. Applying tests again." Applying is `taken` of Takes, to the byte. Statements: what the two calls have to do with one another.
-- Proved in `proofs/CheckLaws`, for all inputs: two_calls, all_foretold, length_alone.
-- Assumes nothing.
use Rattle.std.specs.Prelude.{ℕ, ◌≡◌, List, cond, eqb, length}
use Rattle.layout.specs.Counters.{given_cycle}
use Rattle.rules.specs.declared.Kind.{Kind}
use Rattle.rules.specs.declared.Taken.{Taken}
use Rattle.rules.specs.Takes.{Stores, Outcome, lines_in, checked, on_checked, refused_file, taken}

-- ---- the check

-- "A good check returns n": nothing is done, and the last cycle is as given, for nothing was taken
abbrev pub passed_file : Kind → List ℕ → ℕ → Taken
passed_file k f last =
    record { refusal = 0; place = 0; position = 0; records = lines_in k f; done = 0; undone = 0; last = last }

-- "one tests all that refusals 1 to 9 test": the tests of `taken`, in their order; "Refusals: unchanged, in both calls"
unfoldable pub foretold : Kind → Stores → List ℕ → List ℕ → ℕ → Taken
foretold k s f answers last =
    on_checked (checked k s f (length answers) (given_cycle last))
    (λ h. passed_file k f last)
    (λ r. (refused_file r s answers last).result)

-- what checking a file promises; "and changes nothing": every buffer is lent to be read, so none is named at exit
abbrev pub Checks : Kind → List ℕ → List ℕ → List ℕ → List ℕ → ℕ → Taken → Type 0
Checks k R G f answers last result = result ≡ foretold k (record { register = R; guide = G }) f answers last

-- ---- "checking followed at once by applying on the same bytes equals what it did"

-- both calls; a refused check is the end
unfoldable pub checked_then_applied : Kind → Stores → List ℕ → List ℕ → ℕ → Outcome
checked_then_applied k s f answers last =
    cond (eqb (foretold k s f answers last).refusal 0)
    (taken k s f answers last)
    (record { result = foretold k s f answers last; stores = s; answers = answers })

unfoldable pub TwoCalls : Type 0
TwoCalls =
    (k : Kind) (s : Stores) (f answers : List ℕ) (last : ℕ)
    → checked_then_applied k s f answers last ≡ taken k s f answers last

-- ---- what a check says of applying the same bytes at once

pub record Foretells (given : ℕ) (c t : Taken) : Type 0 where
  pub refusal : c.refusal ≡ t.refusal
  pub place : c.place ≡ t.place
  pub position : c.position ≡ t.position
  pub records : c.records ≡ t.records
  pub done : c.done ≡ 0
  pub undone : c.undone ≡ 0
  pub last : c.last ≡ given

unfoldable pub AllForetold : Type 0
AllForetold =
    (k : Kind) (s : Stores) (f answers : List ℕ) (last : ℕ)
    → Foretells last (foretold k s f answers last) (taken k s f answers last).result

-- of the answers buffer, which refusal 4 tests, only the length counts
unfoldable pub LengthAlone : Type 0
LengthAlone =
    (k : Kind) (s : Stores) (f answers others : List ℕ) (last : ℕ) → length answers ≡ length others
    → foretold k s f answers last ≡ foretold k s f others last

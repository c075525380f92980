-- The check and the apply of a file. Both go by what the nine tests say, so each law is a case split on that: where they refuse, both
-- are the refused file; where they say good, the check is the passed file and the apply the applied one, which has as many records.
-- Assumes nothing.
use Rattle.std.specs.Prelude.{Result, Ok, Err}
use mathlib.Core.Path.{◌≡◌, refl, sym}
use mathlib.Core.List.{List}
use Prim.Native.Nat.{ℕ, ◌<◌}
use native.Mathlib.Omega.{arith}
use lib.ListN.{length}
use borrow.Author.Tests.{ne_eqb}
use Rattle.layout.specs.declared.frame.Header.{Header}
use Rattle.layout.specs.Counters.{given_cycle}
use Rattle.rules.specs.declared.Kind.{Kind}
use Rattle.rules.specs.declared.Refusal.{Refusal}
use Rattle.rules.specs.Takes.{Stores, checked, refused_file, applied_file, taken}
use Rattle.rules.specs.Checks.{passed_file, foretold, checked_then_applied, TwoCalls, Foretells, AllForetold, LengthAlone}
use Rattle.rules.proofs.TakeLaws.{refused_is, good_is, refused_number}

module _ (k : Kind) (s : Stores) (f answers : List ℕ) (last : ℕ) where
  -- what the nine tests say
  abbrev tested : Result Header Refusal
  tested = checked k s f (length answers) (given_cycle last)

  -- where they refuse, a check returns what the refused file returns
  pub check_refused : (r : Refusal) → tested ≡ Err r → foretold k s f answers last ≡ (refused_file r s answers last).result
  unfolding foretold
  check_refused r e = rw e refl

  -- where they say good, it returns the number of lines
  pub check_good : (h : Header) → tested ≡ Ok h → foretold k s f answers last ≡ passed_file k f last
  unfolding foretold
  check_good h e = rw e refl

-- a refusal's number is not 0: a refused check is the end, and what it returns is what the refused file returns
pub two_calls : TwoCalls
unfolding TwoCalls checked_then_applied refused_file
two_calls k s f answers last = go (tested k s f answers last) refl
  where
    go : (c : Result Header Refusal) → tested k s f answers last ≡ c → checked_then_applied k s f answers last ≡ taken k s f answers last
    go (Ok h) e = rw (check_good k s f answers last h e) refl
    go (Err r) e =
        let n : 0 < r.number = rw (refused_is k s f answers last r e) at (refused_number k s f answers last r e) in
        rw (check_refused k s f answers last r e, ne_eqb r.number 0 (omega arith)) (sym (refused_is k s f answers last r e))

pub all_foretold : AllForetold
unfolding AllForetold refused_file applied_file
all_foretold k s f answers last = go (tested k s f answers last) refl
  where
    go : (c : Result Header Refusal) → tested k s f answers last ≡ c
        → Foretells last (foretold k s f answers last) (taken k s f answers last).result
    go (Ok h) e =
        rw (check_good k s f answers last h e, good_is k s f answers last h e)
        (record { refusal = refl; place = refl; position = refl; records = refl; done = refl; undone = refl; last = refl })
    go (Err r) e =
        rw (check_refused k s f answers last r e, refused_is k s f answers last r e)
        (record { refusal = refl; place = refl; position = refl; records = refl; done = refl; undone = refl; last = refl })

-- the tests are given the length of the answers buffer, and a refused file returns nothing of it
pub length_alone : LengthAlone
unfolding LengthAlone foretold refused_file
length_alone k s f answers others last e = rw e refl

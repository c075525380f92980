-- How large the refusal and the number of records are that a take answers with.
-- Assumes nothing.
use Rattle.rules.specs.declared.Refusal.{Refusal}
use Rattle.std.specs.Prelude.{Result, Ok, Err}
use mathlib.Core.Path.{◌≡◌, refl, sym, subst}
use mathlib.Core.List.{List}
use Prim.Native.Nat.{ℕ, zero, suc, ◌≤◌}
use native.Mathlib.Omega.{arith}
use lib.ListN.{length, replicate, length-replicate}
use Rattle.layout.specs.declared.frame.Header.{Header}
use Rattle.layout.specs.declared.counter.Cycle.{Cycle}
use Rattle.layout.specs.Counters.{given_cycle}
use Rattle.rules.specs.declared.Kind.{Kind}
use Rattle.versions.specs.declared.Version.TheVariants.{Two}
use Rattle.rules.specs.declared.Kind.TheVariants.{Data, Guide}
use Rattle.rules.specs.declared.Taken.{Taken}
use Rattle.rules.specs.Takes.{Stores, lines_in, checked, line_applied, after, refused_file, applied_file, taken}
use Rattle.rules.proofs.GoodLaws.{checked_by, good_room}
use Rattle.rules.proofs.TakeLaws.{refused_is, good_is, refused_stores, good_stores}
use Rattle.desk_rules.specs.Desk.{most_answers}

-- what the checks say is good, or has a number of one digit
abbrev OneDigit : Result Header Refusal → Type 0
OneDigit (Ok h) = Unit {0}
OneDigit (Err r) = r.number ≤ 9

one_digit_lem : (k : Kind) (s : Stores) (f : List ℕ) (room : ℕ) (last : Cycle) → OneDigit (checked k s f room last)
one_digit_lem k s f room last =
    checked_by OneDigit k s f room last (λ e. omega arith) (λ e. omega arith) (omega arith) (omega arith) (omega arith) (omega arith)
    (omega arith) (omega arith) (λ i b. omega arith) (λ h g. tt)

-- the refusal fits a byte, and there are as many records as there is room for
pub taken_small : (k : Kind) (s : Stores) (f answers : List ℕ) (last : ℕ)
    → ((taken k s f answers last).result.refusal ≤ 9) × ((taken k s f answers last).result.records ≤ length answers)
unfolding refused_file applied_file
taken_small k s f answers last = go (checked k s f (length answers) (given_cycle last)) refl
  where
    go : (c : Result Header Refusal) → checked k s f (length answers) (given_cycle last) ≡ c
        → ((taken k s f answers last).result.refusal ≤ 9) × ((taken k s f answers last).result.records ≤ length answers)
    go (Ok h) e = rw (good_is k s f answers last h e) (omega arith, good_room k s f (length answers) (given_cycle last) h e)
    go (Err r) e =
        rw (refused_is k s f answers last r e)
        (subst OneDigit e (one_digit_lem k s f (length answers) (given_cycle last)), omega arith)

-- what the desk says of a take fits its frames
pub taken_fits : (k : Kind) (s : Stores) (f : List ℕ) (last : ℕ) {t : Taken} {n : ℕ}
    → t ≡ (taken k s f (replicate most_answers 0) last).result → n ≡ length (replicate {A = ℕ} most_answers 0)
    → ((t.refusal ≤ 255) × (t.records ≤ most_answers)) × (t.records ≤ n)
taken_fits k s f last e l =
    let b = taken_small k s f (replicate most_answers 0) last in
    let n = length-replicate {A = ℕ} most_answers 0 in
    rw (e, l, n) ((omega arith, omega arith), omega arith)

-- ---- a guide file leaves the register, a data file the guide

abbrev other : Kind → Stores → List ℕ
other Guide s = s.register
other (Data v) s = s.guide

after_other : (k : Kind) (h : Header) (f : List ℕ) (s : Stores) (i : ℕ) → other k (after k h f s i) ≡ other k s
unfolding after line_applied
after_other k h f s zero = refl
after_other Guide h f s (suc i) = after_other Guide h f s i
after_other (Data v) h f s (suc i) = after_other (Data v) h f s i

taken_other : (k : Kind) (s : Stores) (f answers : List ℕ) (last : ℕ) → other k s ≡ other k (taken k s f answers last).stores
taken_other k s f answers last = go (checked k s f (length answers) (given_cycle last)) refl
  where
    go : (c : Result Header Refusal) → checked k s f (length answers) (given_cycle last) ≡ c → other k s ≡ other k (taken k s f answers last).stores
    go (Ok h) e = rw (good_stores k s f answers last h e) (sym (after_other k h f s (lines_in k f)))
    go (Err r) e = rw (refused_stores k s f answers last r e)

pub guide_register : (s : Stores) (f answers : List ℕ) (last : ℕ) → s.register ≡ (taken Guide s f answers last).stores.register
guide_register s f answers last = taken_other Guide s f answers last

pub data_guide : (s : Stores) (f answers : List ℕ) (last : ℕ) → s.guide ≡ (taken (Data Two) s f answers last).stores.guide
data_guide s f answers last = taken_other (Data Two) s f answers last

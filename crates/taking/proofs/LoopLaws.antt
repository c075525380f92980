-- The turns of the two loops over the lines of a file, the one that checks and the one that calls a step, and what the steps come to; what
-- a good file gives them, the bound on its lines; and the count of the answers that are not 0.
-- Assumes nothing.
use Rattle.std.specs.Prelude.{Ok, Err}
use Rattle.std.specs.Int.{from_bool}
use mathlib.Core.Path.{◌≡◌, ◌∙◌, refl, sym, ap}
use mathlib.Core.Bool.{Bool, true, false, ◌&&◌, cond}
use mathlib.Core.List.{List, [], ◌∷◌, ◌++◌, append_assoc}
use Prim.Native.Nat.{ℕ, zero, suc, ◌+◌, ◌-◌, ◌%◌, ◌≤◌, ◌<◌}
use native.Mathlib.Numerals.{add-one}
use native.Mathlib.Omega.{arith}
use lib.Dec.{eqb, leb}
use lib.ListN.{length, drop, get_or, set, length-append}
use lib.Seq.{drop-cons, set_at}
use borrow.Author.Tests.{eq-eqb, ne_eqb, leb-true}
use Rattle.layout.specs.declared.frame.Header.{Header}
use Rattle.rules.specs.declared.Kind.{Kind}
use Rattle.layout.specs.declared.counter.Cycle.{Cycle}
use Rattle.rules.proofs.GoodLaws.{good_file_lem}
use Rattle.rules.specs.Takes.{Stores, checked, line_at, line_fault, lines_in, bad_line, lines_checked, line_applied, after, answer_at, answers_to, zeros_in, others_in, shape_of, edges, good_file}
use Rattle.rules.proofs.WalkLaws.{Passed, find_hit, at_most_one}
use Rattle.text.proofs.Laws.{and_right}
use Rattle.taking.specs.Steps.{Stepped}
use Rattle.rules.proofs.TakeLaws.{answers_length, zeros_more, zeros_others}

-- ---- the checks: v is the fault of line i

module _ (k : Kind) (f : List ℕ) (n i v : ℕ) (e : v ≡ line_fault k (line_at k f i)) where
  pub bad_not : v ≡ 0 → bad_line k f i ≡ false
  unfolding bad_line
  bad_not z = rw (← e, eq-eqb v 0 z)

  pub lines_bad : (h : Header) → n ≡ lines_in k f → Passed (bad_line k f) n i → i < n → (v ≡ 0 → ⊥)
      → Err (record { number = 9; place = i + 1; position = v }) ≡ lines_checked k f h
  unfolding lines_checked bad_line
  lines_bad h l p t z = rw (← l, find_hit (bad_line k f) n i p.nothing (rw (← e, ne_eqb v 0 z)) t, e)

pub lines_good : (k : Kind) (f : List ℕ) (n i : ℕ) (h : Header) → n ≡ lines_in k f → Passed (bad_line k f) n i → n ≤ i
    → Ok h ≡ lines_checked k f h
unfolding lines_checked
lines_good k f n i h l p t = let e : i ≡ n = omega (arith, p.within) in rw (← l, ← e, p.nothing)

-- ---- the loop that calls a step at each line

-- a test as a number
one_if : (b : Bool) → from_bool b ≡ cond b 1 0
one_if true = refl
one_if false = refl

module _ {F : Type 0} (step : F → ℕ → ℕ → F → Type 0) (f : F) (old : List ℕ) (n : ℕ) where
  -- after i lines: g is left of the step, and `done` of its answers are 0
  pub record Answering (i : ℕ) (g : F) (answers : List ℕ) (done : ℕ) : Type 0 where
    pub within : i ≤ n
    pub given : List ℕ
    pub stepped : Stepped step f i given g
    pub long : length given ≡ i
    pub answered : answers ≡ given ++ drop i old
    pub counted : done ≡ zeros_in given
    pub few : done ≤ i

  pub answering_none : Answering 0 f old 0
  unfolding zeros_in
  answering_none =
      record {
        within = omega arith;
        given = [];
        stepped = (refl, refl);
        long = refl;
        answered = refl;
        counted = refl;
        few = omega arith;
      }

  pub answering_more : n ≤ length old → (i : ℕ) (e g : F) (answers : List ℕ) (done a m : ℕ) → Answering i e answers done
      → i < n → step e i a g → m ≡ done + from_bool (eqb a 0) → Answering (i + 1) g (set answers i a) m
  answering_more room i e g answers done a m u l p c =
      let b : i < length old = omega (arith, room) in
      record {
        within = omega arith;
        given = u.given ++ (a ∷ []);
        stepped = rw (add-one i) (e, u.given, a, (u.stepped, (p, refl)));
        long = rw (length-append, u.long) refl;
        answered =
            ap (λ (x : List ℕ). set x i a) (u.answered ∙ ap (λ (x : List ℕ). u.given ++ x) (drop-cons old i 0 b))
            ∙ set_at u.given (get_or old i 0) (drop (suc i) old) a i u.long
            ∙ sym (append_assoc u.given (a ∷ []) (drop (suc i) old))
            ∙ rw (add-one i) refl;
        counted = c ∙ rw (one_if (eqb a 0), u.counted) (sym (zeros_more u.given a));
        few = omega (arith, at_most_one (eqb a 0), one_if (eqb a 0), u.few);
      }

-- n steps apply the first n lines to the stores that a step holds, where each applies its line; Kept is what stays of the first one, f
module _ {F : Type 0} (step : F → ℕ → ℕ → F → Type 0) (k : Kind) (h : Header) (file : List ℕ) (s : Stores) (held : F → Stores)
    (Kept : F → F → Type 0) (f : F) where
  -- g is left of e by a step that applied line i and answered a
  pub record Applies (e g : F) (i a : ℕ) : Type 0 where
    pub kept : Kept f g
    pub answer : a ≡ (line_applied k h (line_at k file i) (held e)).answer
    pub stores : held g ≡ (line_applied k h (line_at k file i) (held e)).stores

  pub steps_apply : ((e g : F) (i a : ℕ) → Kept f e → step e i a g → Applies e g i a) → Kept f f → held f ≡ s
      → (n : ℕ) (given : List ℕ) (g : F) → Stepped step f n given g
      → Kept f g × ((given ≡ answers_to k h file s n) × (held g ≡ after k h file s n))
  unfolding after answers_to answer_at
  steps_apply each q p zero given g c = (rw c.1 q, (c.0, rw c.1 p))
  steps_apply each q p (suc i) given g c =
      let r = steps_apply each q p i c.1 c.0 c.3.0 in
      let t = each c.0 g i c.2 r.0 c.3.1.0 in
      (t.kept, (c.3.1.1 ∙ rw (r.1.0, t.answer, r.1.1) refl, t.stores ∙ rw r.1.1 refl))

-- ---- what a good file gives the loop

pub good_lines : (k : Kind) (f : List ℕ) → good_file k f ≡ true → lines_in k f ≤ 9999
unfolding good_file
good_lines k f e =
    leb-true (lines_in k f) 9999
    (and_right (eqb ((length f - edges k) % (shape_of k).line) 0) (leb (lines_in k f) 9999)
    (and_right (leb (edges k) (length f)) (eqb ((length f - edges k) % (shape_of k).line) 0 && leb (lines_in k f) 9999) e))

-- so do the checks that say good
pub few_lines : (k : Kind) (s : Stores) (f : List ℕ) (room : ℕ) (last : Cycle) (h : Header) → checked k s f room last ≡ Ok h
    → lines_in k f ≤ 9999
few_lines k s f room last h e = good_lines k f (good_file_lem k s f room last h e).long

-- the answers that are not 0 are the others
pub undone_is : (k : Kind) (h : Header) (s : Stores) (f : List ℕ) (n done : ℕ) → done ≡ zeros_in (answers_to k h f s n)
    → n - done ≡ others_in (answers_to k h f s n)
undone_is k h s f n done d = omega (arith, zeros_others (answers_to k h f s n), answers_length k h f s n)

-- Taking a file: what is not accepted leaves everything as it is; there is one answer for each line, and the history has the lines
-- answered 0. Assumes nothing.
use Rattle.std.specs.Prelude.{Option, Some, None, Result, Ok, Err}
use mathlib.Core.Path.{◌≡◌, refl, ap, subst, ◌∙◌}
use mathlib.Core.Logic.{◌≢◌}
use mathlib.Core.Bool.{Bool, true, false, cond}
use mathlib.Core.List.{List, [], ◌∷◌, ◌++◌}
use Prim.Native.Nat.{ℕ, zero, suc, ◌+◌, ◌<◌}
use native.Mathlib.Nat.{not-suc-le-zero}
use native.Mathlib.Decide.{dec_lt}
use native.Mathlib.Omega.{arith}
use lib.Dec.{eqb}
use lib.ListN.{length, get_or, length-append, get_or-append}
use lib.Seq.{get_or_at}
use borrow.Author.Tests.{eqb-true, eqb-false, eq-eqb, ne_eqb}
use Rattle.calendar.specs.declared.Day.{Day}
use Rattle.layout.specs.declared.frame.Header.{Header}
use Rattle.layout.specs.declared.counter.Cycle.{Cycle}
use Rattle.layout.specs.Counters.{given_cycle}
use Rattle.rules.specs.declared.Kind.{Kind}
use Rattle.rules.specs.declared.Kind.TheVariants.{Data, Guide}
use Rattle.rules.specs.declared.Code.{Code}
use Rattle.rules.specs.declared.Refusal.{Refusal}
use Rattle.rules.specs.Records.{filed_of, answer_of, register_after, Step, step, applied}
use Rattle.rules.specs.Rows.{row_code_of, row_answer_of, guide_after, row_applied}
use Rattle.rules.specs.Takes.{shape_of, Stores, line_at, lines_in, checked, line_applied, after, answer_at, answers_to, zeros_in, others_in, refused_file, applied_file, taken}
use Rattle.rules.proofs.View.{Took, took, RowTook, row_took}
use Rattle.rules.proofs.GoodLaws.{checked_by}
use Rattle.rules.specs.History.{Item, item_of, history_to, history_after}

-- ---- a record

-- a record whose answer is not 0 leaves the register
pub applied_not : (R G : List ℕ) (h : Header) (r : List ℕ) → (applied R G h r).answer ≢ 0 → (applied R G h r).register ≡ R
unfolding applied step
applied_not R G h r n = go (filed_of r) n
  where
    tested : (b : Bool) (x y : Step) → x.answer ≡ 0 → y.register ≡ R → (cond b x y).answer ≢ 0 → (cond b x y).register ≡ R
    tested true x y e f n = absurd (n e)
    tested false x y e f n = f

    go : (f : Option (Code × Day)) → (step R G h r f).answer ≢ 0 → (step R G h r f).register ≡ R
    go None n = refl
    go (Some (c, d)) n =
        tested (eqb (answer_of R G h r c d) 0)
        (record { answer = 0; register = register_after R G h r c d })
        (record { answer = answer_of R G h r c d; register = R })
        refl refl n

-- a record whose answer is 0 has a code and a date, and leaves what the definition of 0 says
pub record Accepted (R G : List ℕ) (h : Header) (r : List ℕ) : Type 0 where
  pub code : Code
  pub date : Day
  pub filed : filed_of r ≡ Some (code, date)
  pub answered : answer_of R G h r code date ≡ 0
  pub result : (applied R G h r).register ≡ register_after R G h r code date

pub accepted : (R G : List ℕ) (h : Header) (r : List ℕ) → (applied R G h r).answer ≡ 0 → Accepted R G h r
unfolding applied step
accepted R G h r e = go (filed_of r) refl e
  where
    tested : (c : Code) (d : Day) (b : Bool) → filed_of r ≡ Some (c, d) → eqb (answer_of R G h r c d) 0 ≡ b
        → (step R G h r (Some (c, d))).answer ≡ 0 → Accepted R G h r
    tested c d true f q e =
        record {
          code = c;
          date = d;
          filed = f;
          answered = eqb-true (answer_of R G h r c d) 0 q;
          result = rw (f, q);
        }
    tested c d false f q e = absurd (eqb-false (answer_of R G h r c d) 0 q (rw q at e))

    go : (f : Option (Code × Day)) → filed_of r ≡ f → (step R G h r f).answer ≡ 0 → Accepted R G h r
    go None q e = absurd (omega arith)
    go (Some (c, d)) q e = tested c d (eqb (answer_of R G h r c d) 0) q refl e

-- and what it did is known by the view
pub accepted_took : (R G : List ℕ) (h : Header) (r : List ℕ) (a : Accepted R G h r)
    → Took R G h r a.code a.date (applied R G h r).register
accepted_took R G h r a = rw a.result (took R G h r a.code a.date a.answered)

-- ---- a row

-- a row whose answer is not 0 leaves the guide
pub row_applied_not : (R G : List ℕ) (h : Header) (g : List ℕ) → (row_applied R G h g).answer ≢ 0 → (row_applied R G h g).guide ≡ G
unfolding row_applied
row_applied_not R G h g n = go (eqb (row_answer_of R G g (row_code_of g)) 0) refl
  where
    go : (b : Bool) → eqb (row_answer_of R G g (row_code_of g)) 0 ≡ b → (row_applied R G h g).guide ≡ G
    go true q = absurd (n (rw q))
    go false q = rw q

-- a row whose answer is 0 leaves what the definition of 0 says
pub row_accepted : (R G : List ℕ) (h : Header) (g : List ℕ) → (row_applied R G h g).answer ≡ 0
    → (row_answer_of R G g (row_code_of g) ≡ 0) × ((row_applied R G h g).guide ≡ guide_after G g (row_code_of g))
unfolding row_applied
row_accepted R G h g e = go (eqb (row_answer_of R G g (row_code_of g)) 0) refl
  where
    go : (b : Bool) → eqb (row_answer_of R G g (row_code_of g)) 0 ≡ b
        → (row_answer_of R G g (row_code_of g) ≡ 0) × ((row_applied R G h g).guide ≡ guide_after G g (row_code_of g))
    go true q = (eqb-true (row_answer_of R G g (row_code_of g)) 0 q, rw q)
    go false q = absurd (eqb-false (row_answer_of R G g (row_code_of g)) 0 q (rw q at e))

-- and what it did is known by the view
pub row_accepted_took : (R G : List ℕ) (h : Header) (g : List ℕ) → (row_applied R G h g).answer ≡ 0
    → RowTook R G g (row_code_of g) (row_applied R G h g).guide
row_accepted_took R G h g e =
    let a = row_accepted R G h g e in
    rw a.1 (row_took R G g (row_code_of g) a.0)

-- ---- a line of either kind

-- a line whose answer is not 0 leaves both stores
pub line_not : (k : Kind) (h : Header) (l : List ℕ) (s : Stores) → (line_applied k h l s).answer ≢ 0 → (line_applied k h l s).stores ≡ s
unfolding line_applied
line_not (Data v) h l s n =
    ap (λ (R : List ℕ). record { register = R; guide = s.guide }) (applied_not s.register s.guide h ((shape_of (Data v)).wide l) n)
line_not Guide h l s n = rw (row_applied_not s.register s.guide h l n)

-- so the stores after it are those before it
pub after_not : (k : Kind) (h : Header) (f : List ℕ) (s : Stores) (i : ℕ) → answer_at k h f s i ≢ 0
    → after k h f s (suc i) ≡ after k h f s i
unfolding answer_at after
after_not k h f s i n = line_not k h (line_at k f i) (after k h f s i) n

-- ---- the answers

-- one for each line
pub answers_length : (k : Kind) (h : Header) (f : List ℕ) (s : Stores) (i : ℕ) → length (answers_to k h f s i) ≡ i
unfolding answers_to
answers_length k h f s zero = refl
answers_length k h f s (suc i) = rw (length-append, answers_length k h f s i) (omega arith)

-- byte i is the answer to line i
pub answer_is : (k : Kind) (h : Header) (f : List ℕ) (s : Stores) (n i : ℕ) → i < n
    → get_or (answers_to k h f s n) i 0 ≡ answer_at k h f s i
unfolding answers_to
answer_is k h f s zero i l = absurd (not-suc-le-zero l)
answer_is k h f s (suc n) i l = go (answer_is k h f s n i) (dec_lt i n)
  where
    go : (i < n → get_or (answers_to k h f s n) i 0 ≡ answer_at k h f s i) → Dec (i < n)
        → get_or (answers_to k h f s n ++ (answer_at k h f s n ∷ [])) i 0 ≡ answer_at k h f s i
    go ih (yes m) =
        get_or-append (answers_to k h f s n) (answer_at k h f s n ∷ []) 0 i (rw (answers_length k h f s n) m) ∙ ih m
    go ih (no m) =
        let e : i ≡ n = omega arith in
        rw e (get_or_at (answers_to k h f s n) (answer_at k h f s n) [] 0 n (answers_length k h f s n))

-- each is 0 or not
pub zeros_others : (l : List ℕ) → zeros_in l + others_in l ≡ length l
unfolding zeros_in others_in
zeros_others [] = refl
zeros_others (a ∷ l) = go (eqb a 0) (zeros_others l)
  where
    go : (b : Bool) → zeros_in l + others_in l ≡ length l
        → cond b 1 0 + zeros_in l + (cond b 0 1 + others_in l) ≡ suc (length l)
    go true ih = omega arith
    go false ih = omega arith

-- the two counts of a take are the number of its lines
pub done_undone : (k : Kind) (h : Header) (f : List ℕ) (s : Stores) (i : ℕ)
    → zeros_in (answers_to k h f s i) + others_in (answers_to k h f s i) ≡ i
done_undone k h f s i = zeros_others (answers_to k h f s i) ∙ answers_length k h f s i

-- ---- the history

-- a line is in the history exactly where its answer is 0: one answered 0 is its newest item,
pub history_in : (k : Kind) (h : Header) (f : List ℕ) (s : Stores) (past : List Item) (i : ℕ) → answer_at k h f s i ≡ 0
    → history_to k h f s past (suc i) ≡ item_of k (line_at k f i) ∷ history_to k h f s past i
unfolding history_to
history_in k h f s past i e = rw (eq-eqb (answer_at k h f s i) 0 e)

-- and one not answered 0 adds nothing
pub history_out : (k : Kind) (h : Header) (f : List ℕ) (s : Stores) (past : List Item) (i : ℕ) → answer_at k h f s i ≢ 0
    → history_to k h f s past (suc i) ≡ history_to k h f s past i
unfolding history_to
history_out k h f s past i n = rw (ne_eqb (answer_at k h f s i) 0 n)

-- one answer more
pub zeros_more : (l : List ℕ) (a : ℕ) → zeros_in (l ++ (a ∷ [])) ≡ zeros_in l + cond (eqb a 0) 1 0
unfolding zeros_in
zeros_more [] a = omega arith
zeros_more (b ∷ l) a = rw (zeros_more l a) (omega arith)

-- a file adds as many lines to the history as it has answers of 0
pub history_length : (k : Kind) (h : Header) (f : List ℕ) (s : Stores) (past : List Item) (i : ℕ)
    → length (history_to k h f s past i) ≡ zeros_in (answers_to k h f s i) + length past
unfolding history_to answers_to zeros_in
history_length k h f s past zero = omega arith
history_length k h f s past (suc i) =
    rw zeros_more (go (eqb (answer_at k h f s i) 0) (history_length k h f s past i))
  where
    go : (b : Bool) → length (history_to k h f s past i) ≡ zeros_in (answers_to k h f s i) + length past
        → length (cond b (item_of k (line_at k f i) ∷ history_to k h f s past i) (history_to k h f s past i))
        ≡ zeros_in (answers_to k h f s i) + cond b 1 0 + length past
    go true ih = omega arith
    go false ih = omega arith

-- ---- a refusal has a number

-- what the checks say is good, or has a number that is not 0
abbrev Numbered : Result Header Refusal → Type 0
Numbered (Ok h) = Unit {0}
Numbered (Err r) = 0 < r.number

-- so is what the checks of a file say
numbered : (k : Kind) (s : Stores) (f : List ℕ) (room : ℕ) (last : Cycle) → Numbered (checked k s f room last)
numbered k s f room last =
    checked_by Numbered k s f room last (λ e. omega arith) (λ e. omega arith) (omega arith) (omega arith) (omega arith) (omega arith)
    (omega arith) (omega arith) (λ i b. omega arith) (λ h g. tt)

-- ---- a file

module _ (k : Kind) (s : Stores) (f answers : List ℕ) (last : ℕ) where
  -- the checks refuse it
  module _ (r : Refusal) (e : checked k s f (length answers) (given_cycle last) ≡ Err r) where
    -- what a refused file returns and leaves
    pub refused_is : taken k s f answers last ≡ refused_file r s answers last
    unfolding taken
    refused_is = rw e

    -- it leaves the stores
    pub refused_stores : (taken k s f answers last).stores ≡ s
    unfolding refused_file
    refused_stores = rw refused_is

    -- and the answers
    pub refused_answers : (taken k s f answers last).answers ≡ answers
    unfolding refused_file
    refused_answers = rw refused_is

    -- and adds nothing to the history
    pub refused_history : (past : List Item) → history_after k s f (length answers) last past ≡ past
    unfolding history_after
    refused_history past = rw e

  -- it passes the checks
  module _ (h : Header) (e : checked k s f (length answers) (given_cycle last) ≡ Ok h) where
    -- each of its lines is applied
    pub good_is : taken k s f answers last ≡ applied_file k h s f answers
    unfolding taken
    good_is = rw e

    -- it leaves what its last line left
    pub good_stores : (taken k s f answers last).stores ≡ after k h f s (lines_in k f)
    unfolding applied_file
    good_stores = rw good_is

    -- and adds the lines answered 0
    pub good_history : (past : List Item) → history_after k s f (length answers) last past ≡ history_to k h f s past (lines_in k f)
    unfolding history_after
    good_history past = rw e

  -- a file is refused exactly if the number returned is not 0
  pub refused_number : (r : Refusal) → checked k s f (length answers) (given_cycle last) ≡ Err r
      → 0 < (taken k s f answers last).result.refusal
  unfolding refused_file
  refused_number r e = rw (refused_is r e) (subst Numbered e (numbered k s f (length answers) (given_cycle last)))

  pub good_number : (h : Header) → checked k s f (length answers) (given_cycle last) ≡ Ok h
      → (taken k s f answers last).result.refusal ≡ 0
  unfolding applied_file
  good_number h e = rw (good_is h e)

  -- so a file with a number other than 0 leaves stores and answers
  pub not_taken : (taken k s f answers last).result.refusal ≢ 0
      → ((taken k s f answers last).stores ≡ s) × ((taken k s f answers last).answers ≡ answers)
  not_taken n = go (checked k s f (length answers) (given_cycle last)) refl
    where
      go : (c : Result Header Refusal) → checked k s f (length answers) (given_cycle last) ≡ c
          → ((taken k s f answers last).stores ≡ s) × ((taken k s f answers last).answers ≡ answers)
      go (Ok h) e = absurd (n (good_number h e))
      go (Err r) e = (refused_stores r e, refused_answers r e)

-- What a history says, if each record in it was allowed by the last of its number before it: which state a number is in, and that
-- it passes between companies only by U and M, or by D and I. Assumes nothing.
use Rattle.std.proofs.lemmas.Option.{none-some, same_Some}
use Rattle.std.specs.Prelude.{Option, Some, None}
use mathlib.Core.Path.{◌≡◌, refl, sym, ap, ◌∙◌}
use mathlib.Core.Logic.{◌≢◌}
use mathlib.Core.Bool.{Bool, true, false, not, ◌&&◌, cond}
use mathlib.Core.List.{List, [], ◌∷◌, ◌++◌}
use Prim.Native.Nat.{ℕ}
use Rattle.text.specs.Text.{same_bytes}
use Rattle.text.proofs.Laws.{same_true}
use Rattle.calendar.specs.declared.Day.{Day}
use Rattle.layout.specs.Fields.{number_of, company_of}
use Rattle.rules.specs.declared.Code.{Code}
use Rattle.rules.specs.declared.Code.TheVariants.{Insert, Change, Delete, Unlock, Migrate}
use Rattle.rules.specs.Slots.{is_held, is_open, is_live}
use Rattle.rules.specs.Records.{filed_of, is_insert, is_migrate, is_own, stores, state_after}
use Rattle.rules.specs.History.{Item, entry, row}
use Rattle.rules.specs.Demands.{is_delete, is_unlock, is_coded, code_is, newest, last_of, last_stored, is_there, LastWas, Passed, unlocked, deleted, OnlyPassed}
use Rattle.rules.proofs.WalkLaws.{clash-bool}
use Rattle.rules.proofs.View.{allowed}
use Rattle.rules.proofs.KeepHistory.{own_of_keeps, state_by, state_left, code_is_lem, stored_other, stored_keeps, ByHolder, Allowed, Lawful}

-- ---- the state that the last record left

-- a test of the state that is one of the code
left_by : (p : ℕ → Bool) (q : Code → Bool) → ((c : Code) → p (state_after c) ≡ q c) → p 0 ≡ false
    → (o : Option (List ℕ)) → p (state_left o) ≡ is_there q o
unfolding code_is
left_by p q each none_left None = none_left
left_by p q each none_left (Some r) = go (filed_of r)
  where
    go : (f : Option (Code × Day)) → p (state_by f) ≡ is_coded q f
    go (Some (c, d)) = each c
    go None = none_left

-- held exactly if it was I, C or M
pub held_is : (o : Option (List ℕ)) → is_held (state_left o) ≡ is_there stores o
held_is o = left_by is_held stores each refl o
  where
    each : (c : Code) → is_held (state_after c) ≡ stores c
    each Insert = refl
    each Change = refl
    each Delete = refl
    each Unlock = refl
    each Migrate = refl

-- open exactly if it was U
pub open_is : (o : Option (List ℕ)) → is_open (state_left o) ≡ is_there is_unlock o
open_is o = left_by is_open is_unlock each refl o
  where
    each : (c : Code) → is_open (state_after c) ≡ is_unlock c
    each Insert = refl
    each Change = refl
    each Delete = refl
    each Unlock = refl
    each Migrate = refl

-- ---- passing

-- an older history was lawful too
pub lawful_tail : (later h : List Item) → Lawful (later ++ h) → Lawful h
unfolding Lawful
lawful_tail [] h l = l
lawful_tail (entry x ∷ later) h l = lawful_tail later h l.1
lawful_tail (row g ∷ later) h l = lawful_tail later h l

-- a number of which nothing was accepted has nothing stored
none_stored : (n : List ℕ) (h : List Item) → last_of n h ≡ None → last_stored n h ≡ None
unfolding last_of last_stored newest
none_stored n [] e = refl
none_stored n (row g ∷ h) e = none_stored n h e
none_stored n (entry x ∷ h) e = go (same_bytes (number_of x) n) (code_is stores x) e (λ f. none_stored n h f)
  where
    go : (b c : Bool) → cond b (Some x) (last_of n h) ≡ None → (last_of n h ≡ None → last_stored n h ≡ None)
        → cond (b && c) (Some x) (last_stored n h) ≡ None
    go true c e ih = absurd (none-some x (sym e))
    go false c e ih = ih e

-- what is accepted has a code
last_filed : (n : List ℕ) (h : List Item) (u : List ℕ) → Lawful h → last_of n h ≡ Some u
    → (c : Code) × (d : Day) × (filed_of u ≡ Some (c, d))
unfolding Lawful last_of newest
last_filed n [] u l e = absurd (none-some u e)
last_filed n (row g ∷ h) u l e = last_filed n h u l e
last_filed n (entry x ∷ h) u l e = go (λ f. last_filed n h u l.1 f) (same_bytes (number_of x) n) e
  where
    go : (last_of n h ≡ Some u → (c : Code) × (d : Day) × (filed_of u ≡ Some (c, d))) → (b : Bool)
        → cond b (Some x) (last_of n h) ≡ Some u → (c : Code) × (d : Day) × (filed_of u ≡ Some (c, d))
    go ih true e = (l.0.code, l.0.date, rw (same_Some x u e) at l.0.filed)
    go ih false e = ih e

-- a U or D that is the last of its number is by the company of the last stored
by_holder : (n : List ℕ) (h : List Item) (u q : List ℕ) → Lawful h → last_of n h ≡ Some u → code_is stores u ≡ false
    → last_stored n h ≡ Some q → company_of u ≡ company_of q
unfolding Lawful last_of last_stored newest
by_holder n [] u q l e s m = absurd (none-some u e)
by_holder n (row g ∷ h) u q l e s m = by_holder n h u q l e s m
by_holder n (entry x ∷ h) u q l e s m = go (λ f g. by_holder n h u q l.1 f s g) (same_bytes (number_of x) n) refl e
  where
    go : (last_of n h ≡ Some u → last_stored n h ≡ Some q → company_of u ≡ company_of q) → (b : Bool)
        → same_bytes (number_of x) n ≡ b → cond b (Some x) (last_of n h) ≡ Some u → company_of u ≡ company_of q
    go ih true f e =
        let i : x ≡ u = same_Some x u e in
        let k : code_is stores x ≡ false = rw i s in
        let a = l.0 in
        let o = a.holder (own_of_keeps a.code (sym (code_is_lem x a.code a.date a.filed stores) ∙ k)) in
        let m' : last_stored n h ≡ Some q = sym (stored_keeps n x h k) ∙ m in
        let v : last_stored n h ≡ Some o.before = rw (same_true (number_of x) n f) at o.last in
        let w : o.before ≡ q = same_Some o.before q (sym v ∙ m') in
        sym (ap company_of i) ∙ sym o.holder ∙ ap company_of w
    go ih false f e = ih e (sym (stored_other n x h f) ∙ m)

-- U and D store nothing
keeps_unlock : (r : List ℕ) → code_is is_unlock r ≡ true → code_is stores r ≡ false
unfolding code_is
keeps_unlock r t = go (filed_of r) t
  where
    go : (f : Option (Code × Day)) → is_coded is_unlock f ≡ true → is_coded stores f ≡ false
    go (Some (Insert, d)) t = clash-bool t refl
    go (Some (Change, d)) t = clash-bool t refl
    go (Some (Delete, d)) t = refl
    go (Some (Unlock, d)) t = refl
    go (Some (Migrate, d)) t = clash-bool t refl
    go None t = refl

-- a number that is open was unlocked by the company of the last stored
was_unlocked : (n : List ℕ) (h : List Item) (q : List ℕ) → Lawful h → last_stored n h ≡ Some q
    → is_open (state_left (last_of n h)) ≡ true → LastWas is_unlock n (company_of q) h
was_unlocked n h q l m s = go (last_of n h) refl (sym (open_is (last_of n h)) ∙ s)
  where
    go : (o : Option (List ℕ)) → last_of n h ≡ o → is_there is_unlock o ≡ true → LastWas is_unlock n (company_of q) h
    go None e t = clash-bool t refl
    go (Some u) e t = record { it = u; last = e; coded = t; by = by_holder n h u q l e (keeps_unlock u t) m }

-- a number that is absent or resting, and of which something was stored, was deleted by the company of the last stored
was_deleted : (n : List ℕ) (h : List Item) (q : List ℕ) → Lawful h → last_stored n h ≡ Some q
    → not (is_live (state_left (last_of n h))) ≡ true → LastWas is_delete n (company_of q) h
was_deleted n h q l m s = go (last_of n h) refl s
  where
    it : (u : List ℕ) (c : Code) (d : Day) → last_of n h ≡ Some u → filed_of u ≡ Some (c, d)
        → not (is_live (state_after c)) ≡ true → LastWas is_delete n (company_of q) h
    it u Insert d e f t = clash-bool t refl
    it u Change d e f t = clash-bool t refl
    it u Unlock d e f t = clash-bool t refl
    it u Migrate d e f t = clash-bool t refl
    it u Delete d e f t =
        record {
          it = u;
          last = e;
          coded = code_is_lem u Delete d f is_delete;
          by = by_holder n h u q l e (code_is_lem u Delete d f stores) m;
        }

    go : (o : Option (List ℕ)) → last_of n h ≡ o → not (is_live (state_left o)) ≡ true → LastWas is_delete n (company_of q) h
    go None e t = absurd (none-some q (sym (none_stored n h e) ∙ m))
    go (Some u) e t = let f = last_filed n h u l e in it u f.0 f.1 e f.2 (rw f.2 at t)

-- an accepted I, C or M of another company than the one before it
pass : (r : List ℕ) (h : List Item) (q : List ℕ) → Allowed h r → Lawful h → code_is stores r ≡ true
    → last_stored (number_of r) h ≡ Some q → company_of q ≢ company_of r → Passed h q r
pass r h q a l s m n = go a.code a.date a.filed a.state a.holder
  where
    go : (c : Code) (d : Day) → filed_of r ≡ Some (c, d) → allowed c (state_left (last_of (number_of r) h)) ≡ true
        → (is_own c ≡ true → ByHolder h r) → Passed h q r
    go Insert d f t w = deleted (code_is_lem r Insert d f is_insert) (was_deleted (number_of r) h q l m t)
    go Change d f t w =
        let o = w refl in
        absurd (n (sym (ap company_of (same_Some o.before q (sym o.last ∙ m))) ∙ o.holder))
    go Delete d f t w = clash-bool s (code_is_lem r Delete d f stores)
    go Unlock d f t w = clash-bool s (code_is_lem r Unlock d f stores)
    go Migrate d f t w = unlocked (code_is_lem r Migrate d f is_migrate) (was_unlocked (number_of r) h q l m t)

-- passing between companies, in any lawful history
pub only_passed : (all : List Item) → Lawful all → OnlyPassed all
unfolding OnlyPassed Lawful
only_passed all law later r h q e s m n =
    let l = lawful_tail later (entry r ∷ h) (rw e at law) in
    pass r h q l.0 l.1 s m n

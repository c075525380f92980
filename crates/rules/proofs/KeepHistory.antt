-- What an accepted record keeps, with the history: what each slot holds is what was last stored, and in the state that the last
-- accepted record left; each accepted record was allowed by the last one of its number; held plus open. Assumes nothing.
use Rattle.std.specs.Prelude.{Option, Some, None}
use mathlib.Core.Path.{◌≡◌, refl, sym, ap, ◌∙◌}
use mathlib.Core.Logic.{◌≢◌}
use mathlib.Core.Bool.{Bool, true, false, not, ◌&&◌, cond}
use mathlib.Core.List.{List, [], ◌∷◌}
use Prim.Native.Nat.{ℕ, ◌+◌}
use native.Mathlib.Omega.{arith}
use Rattle.text.specs.Text.{same_bytes}
use Rattle.text.proofs.Laws.{same_true, same_refl}
use Rattle.calendar.specs.declared.Day.{Day}
use Rattle.layout.specs.declared.frame.Header.{Header}
use Rattle.layout.specs.Fields.{number_of, company_of, esn_of, has_esn, row_esn_of, with_esn}
use Rattle.rules.specs.declared.Code.{Code}
use Rattle.rules.specs.declared.Code.TheVariants.{Insert, Change, Delete, Unlock, Migrate}
use Rattle.rules.specs.Walks.{count}
use Rattle.rules.specs.Slots.{slots, slot_at, state_of, record_of, is_used, is_live, row_slot_at, row_of}
use Rattle.rules.specs.Records.{filed_of, is_insert, is_own, stores, state_after, shown}
use Rattle.rules.specs.History.{Item, entry, row}
use Rattle.rules.specs.Demands.{used_at, OneSlot, is_delete, code_is, newest, last_of, last_stored, tally, InState, Counted}
use Rattle.rules.proofs.WalkLaws.{clash-bool, count_change}
use Rattle.rules.proofs.SlotLaws.{Whole, whole_row_at}
use Rattle.rules.proofs.EsnLaws.{esn_shown, number_shown, company_shown}
use Rattle.rules.proofs.View.{allowed, Place, own, new, Content, stored, kept, Took}
use Rattle.rules.proofs.KeepStores.{used_after, live_held, live_open, After, at_it, elsewhere, takes, content_ok, same_slots, after, used_before, other}

-- ---- codes and states

-- what stores nothing is the holder's own
pub own_of_keeps : (c : Code) → stores c ≡ false → is_own c ≡ true
own_of_keeps Insert h = sym h
own_of_keeps Change h = refl
own_of_keeps Delete h = refl
own_of_keeps Unlock h = refl
own_of_keeps Migrate h = sym h

-- one entry more where the code is I, one less where it is D
balance : (c : Code) (b : ℕ) → allowed c b ≡ true
    → cond (is_live (state_after c)) 1 0 + cond (is_delete c) 1 0 ≡ cond (is_live b) 1 0 + cond (is_insert c) 1 0
balance Insert b h = go (is_live b) h
  where
    go : (x : Bool) → not x ≡ true → ◌≡◌ {A = ℕ} 1 (cond x 1 0 + 1)
    go true e = clash-bool e refl
    go false e = refl
balance Change b h = rw (live_held b h) refl
balance Delete b h = rw (live_held b h) refl
balance Unlock b h = rw (live_held b h) refl
balance Migrate b h = rw (live_open b h) refl

-- the state that an accepted record leaves its number in
abbrev pub state_by : Option (Code × Day) → ℕ
state_by (Some (c, d)) = state_after c
state_by None = 0

-- so it is for the last record of a number; one of which there is none is absent
abbrev pub state_left : Option (List ℕ) → ℕ
state_left None = 0
state_left (Some r) = state_by (filed_of r)

-- what a test says of a record, it says of its code
pub code_is_lem : (r : List ℕ) (c : Code) (d : Day) → filed_of r ≡ Some (c, d) → (p : Code → Bool) → code_is p r ≡ p c
unfolding code_is
code_is_lem r c d e p = rw e

-- ---- what one record more does to a history

module _ (n r : List ℕ) (h : List Item) where
  -- it is the last of its number
  pub last_same : number_of r ≡ n → last_of n (entry r ∷ h) ≡ Some r
  unfolding last_of newest
  last_same e = rw (e, same_refl n) refl

  -- the last of another number stays
  pub last_other : same_bytes (number_of r) n ≡ false → last_of n (entry r ∷ h) ≡ last_of n h
  unfolding last_of newest
  last_other e = rw e refl

  -- an I, C or M is the last stored of its number
  pub stored_same : number_of r ≡ n → code_is stores r ≡ true → last_stored n (entry r ∷ h) ≡ Some r
  unfolding last_stored newest
  stored_same e s = rw (e, same_refl n, s) refl

  -- the last stored of another number stays
  pub stored_other : same_bytes (number_of r) n ≡ false → last_stored n (entry r ∷ h) ≡ last_stored n h
  unfolding last_stored newest
  stored_other e = rw e refl

  -- and after a U or D that of every number stays
  pub stored_keeps : code_is stores r ≡ false → last_stored n (entry r ∷ h) ≡ last_stored n h
  unfolding last_stored newest
  stored_keeps s = go (same_bytes (number_of r) n)
    where
      go : (b : Bool) → cond (b && code_is stores r) (Some r) (last_stored n h) ≡ last_stored n h
      go true = rw s refl
      go false = refl

-- ---- what every step keeps

-- a record with another ESN, if its own is blank; `shown` is this with the row's
abbrev pub filled_with : List ℕ → List ℕ → List ℕ
filled_with given e = cond (has_esn given) given (with_esn e given)

-- what an entry shows is the record with the ESN that it shows
filled_esn : (r g : List ℕ) → esn_of (shown r g) ≡ row_esn_of g → shown r g ≡ filled_with r (esn_of (shown r g))
unfolding shown
filled_esn r g z = ap (filled_with r) (sym z)

-- a used slot holds the last that was stored for its number
pub record Told (h : List Item) (r : List ℕ) : Type 0 where
  pub given : List ℕ
  pub last : last_stored (number_of r) h ≡ Some given
  pub same : r ≡ filled_with given (esn_of r)
  pub holder : company_of given ≡ company_of r

-- so it is for every used slot
unfoldable pub AllTold : List ℕ → List Item → Type 0
AllTold R h = (i : ℕ) → used_at R i → Told h (record_of (slot_at R i))

-- its state is that which the last record of its number left
unfoldable pub AllState : List ℕ → List Item → Type 0
AllState R h = (i : ℕ) → used_at R i → state_left (last_of (number_of (record_of (slot_at R i))) h) ≡ state_of (slot_at R i)

-- a number that the history leaves held or open has a slot
unfoldable pub AllKept : List ℕ → List Item → Type 0
AllKept R h = (n : List ℕ) → is_live (state_left (last_of n h)) ≡ true → InState R n is_used

-- r is of the company of the last stored record of its number
pub record ByHolder (h : List Item) (r : List ℕ) : Type 0 where
  pub before : List ℕ
  pub last : last_stored (number_of r) h ≡ Some before
  pub holder : company_of before ≡ company_of r

-- r was allowed by the last record of its number before it, and is of the holder's company if it is C, D or U
pub record Allowed (h : List Item) (r : List ℕ) : Type 0 where
  pub code : Code
  pub date : Day
  pub filed : filed_of r ≡ Some (code, date)
  pub state : allowed code (state_left (last_of (number_of r) h)) ≡ true
  pub holder : is_own code ≡ true → ByHolder h r

-- so it is for each record of a history
unfoldable pub Lawful : List Item → Type 0
Lawful [] = Unit {0}
Lawful (entry r ∷ h) = Allowed h r × Lawful h
Lawful (row g ∷ h) = Lawful h

-- ---- a data record r with code c and date d was accepted after the history past, and S is the register after it

module _ (R G : List ℕ) (h : Header) (r : List ℕ) (c : Code) (d : Day) (S : List ℕ) (k : Whole r) (t : Took R G h r c d S) (past : List Item) (filed : filed_of r ≡ Some (c, d)) where
  -- each slot is in the state that the history says
  pub keep_state : OneSlot R → AllState R past → AllState S (entry r ∷ past)
  unfolding AllState
  keep_state one st j u = go (after R G h r c d S k t j)
    where
      go : After R S c t.content t.index j
          → state_left (last_of (number_of (record_of (slot_at S j))) (entry r ∷ past)) ≡ state_of (slot_at S j)
      go (elsewhere x y) =
          let v = used_before R G h r c d S k t j y u in
          rw (y, last_other (number_of (record_of (slot_at R j))) r past (other R G h r c d S k t one j v x)) (st j v)
      go (at_it a b x) =
          rw (x, b, last_same (number_of t.content) r past (sym (content_ok R G h r c d S k t).1), filed) refl

  -- each slot holds what the history says
  pub keep_told : OneSlot R → AllTold R past → AllTold S (entry r ∷ past)
  unfolding AllTold
  keep_told one told j u = go (after R G h r c d S k t j) t.place t.what
    where
      go : After R S c t.content t.index j → Place R r c d t.index → Content R G r c t.index t.content
          → Told (entry r ∷ past) (record_of (slot_at S j))
      go (elsewhere x y) p w =
          let v = used_before R G h r c d S k t j y u in
          let o = told j v in
          rw y (record {
            given = o.given;
            last = stored_other (number_of (record_of (slot_at R j))) r past (other R G h r c d S k t one j v x) ∙ o.last;
            same = o.same;
            holder = o.holder;
          })
      go (at_it a b x) p (stored s i there o e q) =
          let g = row_of (row_slot_at G i) in
          let f = whole_row_at G i there.0 in
          rw (x, q) (record {
            given = r;
            last = stored_same (number_of (shown r g)) r past (sym (number_shown g r f k)) (code_is_lem r c d filed stores ∙ s);
            same = filled_esn r g (esn_shown g r f k e);
            holder = sym (company_shown g r f k);
          })
      go (at_it a b x) (own v n y w l) (kept s q) =
          let o = told t.index v in
          rw (x, q) (record {
            given = o.given;
            last = stored_keeps (number_of (record_of (slot_at R t.index))) r past (code_is_lem r c d filed stores ∙ s) ∙ o.last;
            same = o.same;
            holder = o.holder;
          })
      go (at_it a b x) (new n y f) (kept s q) = clash-bool refl (rw n at s)

  -- the slot that was written has the number
  in_slot : InState S (number_of r) is_used
  in_slot = go (after R G h r c d S k t t.index)
    where
      go : After R S c t.content t.index t.index → InState S (number_of r) is_used
      go (at_it a b x) =
          record {
            slot = t.index;
            within = rw (same_slots R G h r c d S k t) t.fits;
            state = rw b (used_after c);
            named = ap number_of x ∙ (content_ok R G h r c d S k t).1;
          }
      go (elsewhere x y) = absurd (x refl)

  -- a number that the history leaves held or open has a slot
  pub keep_kept : AllState R past → AllKept R past → AllKept S (entry r ∷ past)
  unfolding AllState AllKept
  keep_kept st kp n u = go (same_bytes (number_of r) n) refl
    where
      stays : same_bytes (number_of r) n ≡ false → is_live (state_left (last_of n past)) ≡ true → (o : InState R n is_used)
          → Place R r c d t.index → After R S c t.content t.index o.slot → InState S n is_used
      stays e v o p (elsewhere x y) =
          record {
            slot = o.slot;
            within = rw (same_slots R G h r c d S k t) o.within;
            state = rw y o.state;
            named = rw y o.named;
          }
      stays e v o (own w m a z l) (at_it b x y) = clash-bool (rw (← o.named, b, m) (same_refl (number_of r))) e
      stays e v o (new m z f) (at_it b x y) =
          clash-bool v (rw (← o.named, st o.slot (o.within, o.state), b) z)

      go : (b : Bool) → same_bytes (number_of r) n ≡ b → InState S n is_used
      go true e = rw (same_true (number_of r) n e) at in_slot
      go false e =
          let v : is_live (state_left (last_of n past)) ≡ true = rw (last_other n r past e) at u in
          let o = kp n v in
          stays e v o t.place (after R G h r c d S k t o.slot)

  -- the record was allowed by the last one of its number
  pub keep_lawful : AllState R past → AllTold R past → AllKept R past → Lawful past → Lawful (entry r ∷ past)
  unfolding AllState AllTold AllKept Lawful
  keep_lawful st told kp law = go t.place
    where
      dead : ((j : ℕ) → used_at R j → number_of (record_of (slot_at R j)) ≢ number_of r) → (b : Bool)
          → is_live (state_left (last_of (number_of r) past)) ≡ b → not (is_live (state_left (last_of (number_of r) past))) ≡ true
      dead f true e = let o = kp (number_of r) e in absurd (f o.slot (o.within, o.state) o.named)
      dead f false e = rw e refl

      go : Place R r c d t.index → Allowed past r × Lawful past
      go (own u n a w l) =
          let o = told t.index u in (
            record {
              code = c;
              date = d;
              filed = filed;
              state = rw (← n, st t.index u) a;
              holder = λ x. record { before = o.given; last = rw n at o.last; holder = o.holder ∙ w x };
            },
            law,
          )
      go (new e b f) = (
        record {
          code = c;
          date = d;
          filed = filed;
          state = rw e (dead f (is_live (state_left (last_of (number_of r) past))) refl);
          holder = λ x. clash-bool (rw e at x) refl;
        },
        law,
      )

  -- held plus open
  pub keep_counted : Counted R past → Counted S (entry r ∷ past)
  unfolding Counted tally
  keep_counted n = go (after R G h r c d S k t t.index)
    where
      same : (j : ℕ) → j ≢ t.index → is_live (state_of (slot_at S j)) ≡ is_live (state_of (slot_at R j))
      same j x = go (after R G h r c d S k t j)
        where
          go : After R S c t.content t.index j → is_live (state_of (slot_at S j)) ≡ is_live (state_of (slot_at R j))
          go (at_it a b y) = absurd (x a)
          go (elsewhere a y) = rw y refl

      go : After R S c t.content t.index t.index → Counted S (entry r ∷ past)
      go (elsewhere x y) = absurd (x refl)
      go (at_it a b x) =
          let p : ℕ → Bool = λ j. is_live (state_of (slot_at R j)) in
          let q : ℕ → Bool = λ j. is_live (state_of (slot_at S j)) in
          let z : count q (slots R) + cond (p t.index) 1 0 ≡ count p (slots R) + cond (is_live (state_after c)) 1 0 =
          rw b at (count_change p q t.index (slots R) t.fits same) in
          rw (same_slots R G h r c d S k t, code_is_lem r c d filed is_delete, code_is_lem r c d filed is_insert)
          (omega (arith, balance c (state_of (slot_at R t.index)) (takes R G h r c d S k t)))

-- ---- a guide row was accepted: it says nothing of any number

module _ (R g : List ℕ) (past : List Item) where
  -- what each slot holds is the last stored
  pub told_row : AllTold R past → AllTold R (row g ∷ past)
  unfolding AllTold last_stored newest
  told_row all i u =
      let o = all i u in
      record { given = o.given; last = o.last; same = o.same; holder = o.holder }

  -- its state is that which the last record left
  pub state_row : AllState R past → AllState R (row g ∷ past)
  unfolding AllState last_of newest
  state_row all = all

  -- a number held or open has a slot
  pub kept_row : AllKept R past → AllKept R (row g ∷ past)
  unfolding AllKept last_of newest
  kept_row all = all

  -- each record was allowed
  pub lawful_row : Lawful past → Lawful (row g ∷ past)
  unfolding Lawful
  lawful_row law = law

  -- held plus open
  pub counted_row : Counted R past → Counted R (row g ∷ past)
  unfolding Counted tally
  counted_row c = c

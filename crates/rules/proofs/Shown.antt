-- What lookup shows after any run: a number's state by the history, and the number's entry.
-- Assumes nothing.
use Rattle.std.specs.Prelude.{Option, Some, None}
use mathlib.Core.Path.{◌≡◌, refl, sym, ◌∙◌}
use mathlib.Core.Bool.{Bool, true}
use mathlib.Core.List.{List}
use Prim.Native.Nat.{ℕ, ◌*◌, ◌≤◌}
use lib.ListN.{replicate, length-replicate}
use borrow.Author.Tests.{eqb-true}
use Rattle.text.specs.Text.{same_bytes, on_some}
use Rattle.text.proofs.Laws.{and_left, and_right, same_true}
use Rattle.layout.specs.Fields.{number_of}
use Rattle.rules.specs.declared.Code.{Code}
use Rattle.rules.specs.Walks.{find}
use Rattle.rules.specs.Slots.{good_length, slots, slot_at, state_of, record_of, is_held, is_open, is_used, is_live}
use Rattle.rules.specs.Records.{stores, has_number, find_number, state_in}
use Rattle.rules.specs.Lookups.{seen_in, seen}
use Rattle.rules.specs.Demands.{File, Office, start, run, OneSlot, is_unlock, last_is, InState, Exactly, Demand3, Shows, AllShown}
use Rattle.rules.proofs.WalkLaws.{clash-bool, find_some}
use Rattle.rules.proofs.SlotLaws.{empty_sound}
use Rattle.rules.proofs.View.{absent}
use Rattle.rules.proofs.KeepStores.{used_live, live_held, live_open}
use Rattle.rules.proofs.Keep.{demand3}
use Rattle.rules.proofs.KeepSound.{slots_sound, same_good}

-- ---- a register of good length, and a number of ten digits

-- a test that only used slots pass
module _ (R n : List ℕ) (p : ℕ → Bool) (used : (b : ℕ) → p b ≡ true → is_used b ≡ true) where
  -- where the state shown passes it, the slot shown is the number's, and does
  its : p (seen_in R n).state ≡ true → (s : InState R n p) × (s.slot ≡ (seen_in R n).slot)
  unfolding seen_in find_number has_number
  its h = go (find (has_number n R) (slots R)) refl h
    where
      go : (o : Option ℕ) → find (has_number n R) (slots R) ≡ o → p (state_in R o) ≡ true
          → (s : InState R n p) × (s.slot ≡ on_some o 0 (λ i. i))
      go (Some i) e h =
          let t = find_some (has_number n R) (slots R) i e in
          let s = number_of (record_of (slot_at R i)) in (
            record {
              slot = i;
              within = t.0;
              state = h;
              named = same_true s n (and_right (is_used (state_of (slot_at R i))) (same_bytes s n) t.1);
            },
            refl,
          )
      go None e h = clash-bool (used 0 h) refl

  -- where no number has two slots, the state shown passes it if some slot of the number does
  only_its : OneSlot R → InState R n p → p (seen_in R n).state ≡ true
  unfolding seen_in find_number has_number OneSlot
  only_its one s = go (find (has_number n R) (slots R)) refl
    where
      go : (o : Option ℕ) → find (has_number n R) (slots R) ≡ o → p (state_in R (find (has_number n R) (slots R))) ≡ true
      go (Some i) e =
          let t = find_some (has_number n R) (slots R) i e in
          let u = is_used (state_of (slot_at R i)) in
          let m = number_of (record_of (slot_at R i)) in
          let z : i ≡ s.slot =
          one i s.slot (t.0, and_left u (same_bytes m n) t.1) (s.within, used (state_of (slot_at R s.slot)) s.state)
          (same_true m n (and_right u (same_bytes m n) t.1) ∙ sym s.named) in
          rw (e, z) s.state
      go None e = absurd (absent R n e s.slot (s.within, used (state_of (slot_at R s.slot)) s.state) s.named)

-- ---- after a run

-- the state shown passes a test exactly if the last accepted record has such a code
shown_exactly : (o : Office) (n : List ℕ) (p : ℕ → Bool) (c : Code → Bool) → ((b : ℕ) → p b ≡ true → is_live b ≡ true)
    → OneSlot o.stores.register → Exactly o p c
    → (p (seen_in o.stores.register n).state ≡ true → last_is c n o.history ≡ true)
    × (last_is c n o.history ≡ true → p (seen_in o.stores.register n).state ≡ true)
unfolding Exactly
shown_exactly o n p c live one ex =
    let R = o.stores.register in
    let used : (b : ℕ) → p b ≡ true → is_used b ≡ true = λ b h. used_live b (live b h) in
    ((λ h. (ex n).0 (its R n p used h).0), (λ e. only_its R n p used one ((ex n).1 e)))

-- what the demand says, lookup shows
shows : (k m : ℕ) (o : Office) (n : List ℕ) → Demand3 k m o → Shows o n (seen_in o.stores.register n)
unfolding seen_in
shows k m o n d =
    let R = o.stores.register in
    let b = (seen_in R n).state in
    let h = shown_exactly o n is_held stores live_held d.stores.numbers d.history.held in
    let u = shown_exactly o n is_open is_unlock live_open d.stores.numbers d.history.opened in
    record {
      answered = refl;
      held = ((λ e. h.0 (rw e)), (λ l. eqb-true b 1 (h.1 l)));
      opened = ((λ e. u.0 (rw e)), (λ l. eqb-true b 2 (u.1 l)));
      entry = λ l. let i = its R n is_live used_live l in rw (← i.1) ((i.0.within, i.0.state), i.0.named);
    }

-- the register has the length that lookup asks for
run_long : (files : List File) (n m : ℕ) → 1 ≤ n → n ≤ 4096 → good_length 520 (run files (start n m)).stores.register ≡ true
run_long files n m a b =
    let R = (run files (start n m)).stores.register in
    let E : List ℕ = replicate (n * 520) 0 in
    same_good 520 E R ((demand3 n m files).sized.register ∙ sym (length-replicate (n * 520) 0))
    (slots_sound E (empty_sound n a b)).long

-- after any run of files from n and m empty slots, lookup shows each number as the history says, and its entry
pub run_shows : (files : List File) (n m : ℕ) → 1 ≤ n → n ≤ 4096 → AllShown (run files (start n m))
unfolding AllShown seen
run_shows files n m a b x e =
    rw (run_long files n m a b, e) (shows n m (run files (start n m)) x (demand3 n m files))

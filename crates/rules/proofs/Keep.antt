-- The third demand: what every accepted line keeps, over a file, over a run of files from empty stores; and the demand from it.
-- Assumes nothing.
use Rattle.rules.specs.declared.Refusal.{Refusal}
use Rattle.text.specs.Text.{on_some}
use Rattle.std.specs.Prelude.{Option, Some, None, Result, Ok, Err}
use mathlib.Core.Path.{◌≡◌, refl, sym, ap, ◌∙◌}
use mathlib.Core.Bool.{Bool, true, false}
use mathlib.Core.List.{List, [], ◌∷◌}
use Prim.Native.Nat.{ℕ, zero, suc, ◌*◌, ◌≤◌}
use native.Mathlib.Decide.{ℕ_discrete}
use native.Mathlib.Omega.{arith}
use lib.ListN.{length, replicate, length-replicate}
use borrow.Author.Tests.{eq-eqb, ne_eqb}
use Rattle.layout.specs.declared.frame.Header.{Header}
use Rattle.layout.specs.Counters.{given_cycle}
use Rattle.layout.specs.Fields.{house_of, street_of, place_of}
use Rattle.rules.proofs.WideLaws.{wide_whole}
use Rattle.rules.specs.declared.Kind.{Kind}
use Rattle.rules.specs.declared.Kind.TheVariants.{Data, Guide}
use Rattle.rules.specs.declared.Code.{Code}
use Rattle.rules.specs.Walks.{count}
use Rattle.rules.specs.Slots.{slots, slot_at, state_of, record_of, is_held, is_open, is_used, is_live, row_slot_at, row_of}
use Rattle.rules.specs.Covers.{over, covers}
use Rattle.rules.specs.Records.{applied, stores, shown}
use Rattle.rules.specs.Rows.{row_code_of, row_applied}
use Rattle.rules.specs.Takes.{Stores, shape_of, lines_in, good_file, line_at, checked, line_applied, after, answer_at}
use Rattle.rules.specs.History.{Item, item_of, history_to}
use Rattle.rules.specs.Demands.{File, Office, start, taking, run, present_at, OneSlot, OneRow, AllLie, StoresKept, is_unlock, newest, last_of, is_there, last_is, tally, AllLast, Exactly, Counted, HistoryKept, Sized, Demand3}
use Rattle.rules.proofs.WalkLaws.{clash-bool}
use Rattle.rules.proofs.SlotLaws.{empty_slot, empty_row_slot}
use Rattle.rules.proofs.ClashLaws.{covers_over}
use Rattle.rules.proofs.Passing.{held_is, open_is, only_passed}
use Rattle.rules.proofs.TakeLaws.{accepted, accepted_took, row_accepted_took, line_not, refused_stores, refused_history, good_stores, good_history}
use Rattle.rules.proofs.GoodLaws.{good_file_lem, line_long}
use Rattle.rules.proofs.KeepStores.{used_live, live_held, live_open, AllUnder, same_length, keep_one, keep_under, same_guide_length, keep_row, keep_under_row}
use Rattle.rules.proofs.KeepHistory.{state_left, filled_with, AllTold, AllState, AllKept, Lawful, keep_told, keep_state, keep_kept, keep_lawful, keep_counted, told_row, state_row, kept_row, lawful_row, counted_row}

-- ---- what is kept

-- of the stores, of the history, and of both
pub record Kept (n m : ℕ) (o : Office) : Type 0 where
  pub sized : Sized n m o.stores
  pub one_slot_lem : OneSlot o.stores.register
  pub one_row : OneRow o.stores.guide
  pub all_under : AllUnder o.stores.register o.stores.guide
  pub all_told : AllTold o.stores.register o.history
  pub all_state : AllState o.stores.register o.history
  pub all_kept : AllKept o.stores.register o.history
  pub lawful : Lawful o.history
  pub counted : Counted o.stores.register o.history

-- stores and a history
abbrev office : Stores → List Item → Office
office s past = record { stores = s; history = past }

-- by a line that is answered 0
keep_line : {n m : ℕ} (k : Kind) (h : Header) (l : List ℕ) (s : Stores) (past : List Item) → length l ≡ (shape_of k).line
    → (line_applied k h l s).answer ≡ 0 → Kept n m (office s past)
    → Kept n m (office (line_applied k h l s).stores (item_of k l ∷ past))
unfolding line_applied
keep_line (Data v) h l s past x e p =
    let r = (shape_of (Data v)).wide l in
    let w = wide_whole v l x in
    let R = s.register in
    let G = s.guide in
    let S = (applied R G h r).register in
    let a = accepted R G h r e in
    let c = a.code in
    let d = a.date in
    let t = accepted_took R G h r a in
    record {
      sized = record { register = same_length R G h r c d S w t ∙ p.sized.register; guide = p.sized.guide };
      one_slot_lem = keep_one R G h r c d S w t p.one_slot_lem;
      one_row = p.one_row;
      all_under = keep_under R G h r c d S w t p.all_under;
      all_told = keep_told R G h r c d S w t past a.filed p.one_slot_lem p.all_told;
      all_state = keep_state R G h r c d S w t past a.filed p.one_slot_lem p.all_state;
      all_kept = keep_kept R G h r c d S w t past a.filed p.all_state p.all_kept;
      lawful = keep_lawful R G h r c d S w t past a.filed p.all_state p.all_told p.all_kept p.lawful;
      counted = keep_counted R G h r c d S w t past a.filed p.counted;
    }
keep_line Guide h g s past w e p =
    let R = s.register in
    let G = s.guide in
    let K = (row_applied R G h g).guide in
    let t = row_accepted_took R G h g e in
    record {
      sized = record { register = p.sized.register; guide = same_guide_length R G g (row_code_of g) K w t ∙ p.sized.guide };
      one_slot_lem = p.one_slot_lem;
      one_row = keep_row R G g (row_code_of g) K w t p.one_row;
      all_under = keep_under_row R G g (row_code_of g) K w t p.all_under;
      all_told = told_row R g past p.all_told;
      all_state = state_row R g past p.all_state;
      all_kept = kept_row R g past p.all_kept;
      lawful = lawful_row R g past p.lawful;
      counted = counted_row R g past p.counted;
    }

-- by the first i lines of a file of good length
keep_lines : {n m : ℕ} (k : Kind) (h : Header) (f : List ℕ) (s : Stores) (past : List Item) (i : ℕ) → good_file k f ≡ true
    → i ≤ lines_in k f → Kept n m (office s past) → Kept n m (office (after k h f s i) (history_to k h f s past i))
unfolding after history_to answer_at
keep_lines k h f s past zero g l p = p
keep_lines {n} {m} k h f s past (suc i) g l p =
    go (keep_lines k h f s past i g (omega arith) p) (ℕ_discrete (answer_at k h f s i) 0)
  where
    go : Kept n m (office (after k h f s i) (history_to k h f s past i)) → Dec (answer_at k h f s i ≡ 0)
        → Kept n m (office (after k h f s (suc i)) (history_to k h f s past (suc i)))
    go q (yes e) =
        rw (eq-eqb (answer_at k h f s i) 0 e)
        (keep_line k h (line_at k f i) (after k h f s i) (history_to k h f s past i) (line_long k f i g l) e q)
    go q (no e) = rw (ne_eqb (answer_at k h f s i) 0 e, line_not k h (line_at k f i) (after k h f s i) e) q

-- by a file, taken or refused
keep_file : {n m : ℕ} (f : File) (o : Office) → Kept n m o → Kept n m (taking f o)
unfolding taking
keep_file {n} {m} f o p = go (checked f.kind o.stores f.bytes (length f.answers) (given_cycle f.last)) refl
  where
    go : (c : Result Header Refusal) → checked f.kind o.stores f.bytes (length f.answers) (given_cycle f.last) ≡ c
        → Kept n m (taking f o)
    go (Ok h) e =
        let k = f.kind in
        let s = o.stores in
        let b = f.bytes in
        let a = f.answers in
        let g = good_file_lem k s b (length a) (given_cycle f.last) h e in
        rw (good_stores k s b a f.last h e, good_history k s b a f.last h e)
        (keep_lines k h b s o.history (lines_in k b) g.long (omega arith) p)
    go (Err r) e =
        let k = f.kind in
        let s = o.stores in
        let b = f.bytes in
        let a = f.answers in
        rw (refused_stores k s b a f.last r e, refused_history k s b a f.last r e) p

-- by a run
keep_run : {n m : ℕ} (fs : List File) (o : Office) → Kept n m o → Kept n m (run fs o)
unfolding run
keep_run [] o p = p
keep_run (f ∷ fs) o p = keep_run fs (taking f o) (keep_file f o p)

-- ---- it holds of empty stores

-- a test that holds nowhere counts nothing
none_counted : (p : ℕ → Bool) (n : ℕ) → ((i : ℕ) → p i ≡ false) → count p n ≡ 0
unfolding count
none_counted p zero f = refl
none_counted p (suc n) f = rw (f n) (omega (arith, none_counted p n f))

-- there is no slot in use, no row and no record
kept_start : (n m : ℕ) → Kept n m (start n m)
unfolding start OneSlot OneRow AllUnder AllTold AllState AllKept Lawful Counted last_of newest tally
kept_start n m =
    let R : List ℕ = replicate (n * 520) 0 in
    record {
      sized = record { register = length-replicate (n * 520) 0; guide = length-replicate (m * 208) 0 };
      one_slot_lem = λ i j u v e. clash-bool u.1 (no_use i);
      one_row = λ k l a b x u v y z. clash-bool u.1 (empty_row_slot (m * 208) k);
      all_under = λ i u. clash-bool u.1 (no_entry i);
      all_told = λ i u. clash-bool u.1 (no_use i);
      all_state = λ i u. clash-bool u.1 (no_use i);
      all_kept = λ k u. clash-bool u refl;
      lawful = tt;
      counted = omega (arith, none_counted (λ i. is_live (state_of (slot_at R i))) (slots R) no_entry);
    }
  where
    no_use : (i : ℕ) → is_used (state_of (slot_at (replicate (n * 520) 0) i)) ≡ false
    no_use i = rw (empty_slot (n * 520) i) refl

    no_entry : (i : ℕ) → is_live (state_of (slot_at (replicate (n * 520) 0) i)) ≡ false
    no_entry i = rw (empty_slot (n * 520) i) refl

-- after any run from empty stores
pub kept : (n m : ℕ) (files : List File) → Kept n m (run files (start n m))
kept n m files = keep_run files (start n m) (kept_start n m)

-- ---- the demand

-- no record is covered by two rows
one_cover : (G r : List ℕ) → OneRow G → (j k : ℕ) → present_at G j → present_at G k
    → covers (row_of (row_slot_at G j)) r ≡ true → covers (row_of (row_slot_at G k)) r ≡ true → j ≡ k
unfolding OneRow
one_cover G r one j k u v x y =
    go (house_of r) (sym (covers_over (row_of (row_slot_at G j)) r) ∙ x) (sym (covers_over (row_of (row_slot_at G k)) r) ∙ y)
  where
    go : (o : Option ℕ) → on_some o false (λ n. over (row_of (row_slot_at G j)) (street_of r) (place_of r) n) ≡ true
        → on_some o false (λ n. over (row_of (row_slot_at G k)) (street_of r) (place_of r) n) ≡ true → j ≡ k
    go (Some n) x y = one j k (street_of r) (place_of r) n u v x y
    go None x y = clash-bool x refl

module _ {n m : ℕ} (o : Office) (p : Kept n m o) where
  -- the register, the guide and the history
  abbrev R : List ℕ
  R = o.stores.register

  abbrev G : List ℕ
  G = o.stores.guide

  abbrev H : List Item
  H = o.history

  -- of the stores alone
  stores_kept : StoresKept o.stores
  unfolding AllUnder AllLie
  stores_kept =
      record {
        numbers = p.one_slot_lem;
        houses = p.one_row;
        entries = λ i u.
            let l = p.all_under i u in (
              l.row,
              record {
                there = l.there;
                under = l.under;
                alone = λ j v c. one_cover G (record_of (slot_at R i)) p.one_row j l.row v l.there c l.under;
                shows = l.shows;
              },
            );
      }

  -- each entry is the last I, C or M
  all_last : AllLast o
  unfolding AllTold AllLast shown
  all_last i u k l =
      let t = p.all_told i (u.0, used_live (state_of (slot_at R i)) u.1) in
      record { given = t.given; last = t.last; same = t.same ∙ ap (filled_with t.given) l.shows }

  -- a number is in a state exactly if the history says so
  exactly : (q : ℕ → Bool) (c : Code → Bool) → ((b : ℕ) → q b ≡ true → is_live b ≡ true)
      → ((x : Option (List ℕ)) → q (state_left x) ≡ is_there c x) → Exactly o q c
  unfolding Exactly AllState AllKept last_is
  exactly q c live is x = (
    (λ s.
        let b = state_of (slot_at R s.slot) in
        sym (is (last_of x H)) ∙ ap (λ y. q (state_left (last_of y H))) (sym s.named)
        ∙ ap q (p.all_state s.slot (s.within, used_live b (live b s.state))) ∙ s.state),
    (λ e.
        let t : q (state_left (last_of x H)) ≡ true = is (last_of x H) ∙ e in
        let s = p.all_kept x (live (state_left (last_of x H)) t) in
        record {
          slot = s.slot;
          within = s.within;
          state = ap q (sym (p.all_state s.slot (s.within, s.state))) ∙ ap (λ y. q (state_left (last_of y H))) s.named ∙ t;
          named = s.named;
        }),
  )

  -- with the history
  history_kept : HistoryKept o
  history_kept =
      record {
        entries = all_last;
        held = exactly is_held stores live_held held_is;
        opened = exactly is_open is_unlock live_open open_is;
        passing = only_passed o.history p.lawful;
        counted = p.counted;
      }

-- DEMAND 3: after any run of files, taken or refused, from n and m empty slots
pub demand3 : (n m : ℕ) (files : List File) → Demand3 n m (run files (start n m))
demand3 n m files =
    let p = kept n m files in
    record { sized = p.sized; stores = stores_kept (run files (start n m)) p; history = history_kept (run files (start n m)) p }

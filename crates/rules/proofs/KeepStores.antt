-- What an accepted record or row keeps, of the stores alone: their lengths, one slot for a number, one row for a house number on a
-- street, each entry under a row whose ESN it shows. Assumes nothing.
use Rattle.std.specs.Prelude.{Option}
use mathlib.Core.Path.{◌≡◌, refl, sym, ap, ◌∙◌}
use mathlib.Core.Logic.{◌≢◌}
use mathlib.Core.Bool.{Bool, true, false, ◌||◌}
use mathlib.Core.List.{List}
use Prim.Native.Nat.{ℕ, ◌<◌}
use native.Mathlib.Decide.{ℕ_discrete}
use lib.ListN.{length}
use lib.Dec.{eqb}
use borrow.Author.Tests.{eqb-true}
use Rattle.text.specs.Text.{same_bytes}
use Rattle.text.proofs.Laws.{same_true}
use Rattle.calendar.specs.declared.Day.{Day}
use Rattle.layout.specs.declared.frame.Header.{Header}
use Rattle.layout.specs.Fields.{number_of, esn_of, row_esn_of}
use Rattle.rules.specs.declared.Code.{Code}
use Rattle.rules.specs.declared.Code.TheVariants.{Insert, Change, Delete, Unlock, Migrate}
use Rattle.rules.specs.declared.RowCode.{RowCode}
use Rattle.rules.specs.Slots.{slots, slot_at, state_of, record_of, slot_of, is_held, is_open, is_used, is_live, row_slots, row_slot_at, with_row_slot, is_present, row_of, row_slot_of, free_row_slot}
use Rattle.rules.specs.Covers.{over, covers}
use Rattle.rules.specs.Records.{stores, state_after}
use Rattle.rules.specs.Demands.{used_at, live_at, present_at, OneSlot, OneRow}
use Rattle.rules.proofs.WalkLaws.{clash-bool}
use Rattle.rules.proofs.SlotLaws.{Whole, WholeRow, state_slot, record_slot, length_slot, whole_at, slot_same, slot_other, length_with, slots_with, row_slot, length_row_slot, free_absent, length_free, vacant_absent, whole_row_at, row_slot_same, row_slot_other, length_with_row, row_slots_with}
use Rattle.rules.proofs.EsnLaws.{whole_shown, esn_shown, number_shown, covers_shown}
use Rattle.rules.proofs.ClashLaws.{clash_no}
use Rattle.rules.proofs.View.{allowed, Place, own, new, Content, stored, kept, Took, RowTook, added, removed}

-- ---- codes and states

-- each code leaves a used slot
pub used_after : (c : Code) → is_used (state_after c) ≡ true
used_after Insert = refl
used_after Change = refl
used_after Delete = refl
used_after Unlock = refl
used_after Migrate = refl

-- an entry is a used slot
pub used_live : (b : ℕ) → is_live b ≡ true → is_used b ≡ true
used_live b h = go (eqb b 1) refl h
  where
    go : (x : Bool) → eqb b 1 ≡ x → x || eqb b 2 ≡ true → is_used b ≡ true
    go true e h = rw (eqb-true b 1 e)
    go false e h = rw (eqb-true b 2 h)

-- a held slot is an entry
pub live_held : (b : ℕ) → is_held b ≡ true → is_live b ≡ true
live_held b h = rw h

-- an open slot is an entry
pub live_open : (b : ℕ) → is_open b ≡ true → is_live b ≡ true
live_open b h = rw (eqb-true b 2 h)

-- a code that stores nothing finds an entry
live_of_keeps : (c : Code) (b : ℕ) → stores c ≡ false → allowed c b ≡ true → is_live b ≡ true
live_of_keeps Insert b k h = clash-bool refl k
live_of_keeps Change b k h = clash-bool refl k
live_of_keeps Delete b k h = live_held b h
live_of_keeps Unlock b k h = live_held b h
live_of_keeps Migrate b k h = clash-bool refl k

-- bytes that differ are not the same
pub differ : (x y : List ℕ) → x ≢ y → same_bytes x y ≡ false
differ x y n = go (same_bytes x y) refl
  where
    go : (b : Bool) → same_bytes x y ≡ b → same_bytes x y ≡ false
    go true e = absurd (n (same_true x y e))
    go false e = e

-- ---- an entry lies under a row, and shows its ESN; that it lies under no other follows from OneRow

pub record LiesUnder (G r : List ℕ) : Type 0 where
  pub row : ℕ
  pub there : present_at G row
  pub under : covers (row_of (row_slot_at G row)) r ≡ true
  pub shows : esn_of r ≡ row_esn_of (row_of (row_slot_at G row))

-- so it is for every entry
unfoldable pub AllUnder : List ℕ → List ℕ → Type 0
AllUnder R G = (i : ℕ) → live_at R i → LiesUnder G (record_of (slot_at R i))

-- ---- a data record r with code c and date d was accepted, and S is the register after it

-- what slot j holds after the step: it is the one that was written, or it is as it was
pub data After (R S : List ℕ) (c : Code) (content : List ℕ) (i j : ℕ) : Type 0 where
  at_it : j ≡ i → state_of (slot_at S j) ≡ state_after c → record_of (slot_at S j) ≡ content → After R S c content i j
  elsewhere : j ≢ i → slot_at S j ≡ slot_at R j → After R S c content i j

module _ (R G : List ℕ) (h : Header) (r : List ℕ) (c : Code) (d : Day) (S : List ℕ) (k : Whole r) (t : Took R G h r c d S) where
  -- the code was one that the slot's state takes
  pub takes : allowed c (state_of (slot_at R t.index)) ≡ true
  takes = go t.place
    where
      go : Place R r c d t.index → allowed c (state_of (slot_at R t.index)) ≡ true
      go (own u n a w l) = a
      go (new e b f) = rw (e, b) refl

  -- what was written has 512 bytes and the record's number
  pub content_ok : Whole t.content × (number_of t.content ≡ number_of r)
  content_ok = go t.place t.what
    where
      go : Place R r c d t.index → Content R G r c t.index t.content
          → Whole t.content × (number_of t.content ≡ number_of r)
      go p (stored s i there u e q) =
          let g = row_of (row_slot_at G i) in
          let f = whole_row_at G i there.0 in
          (ap length q ∙ whole_shown g r f k, ap number_of q ∙ number_shown g r f k)
      go (own u n a w l) (kept s q) = (ap length q ∙ whole_at R t.index u.0, ap number_of q ∙ n)
      go (new e b f) (kept s q) = clash-bool refl (rw e at s)

  -- the slot that was written
  slot : List ℕ
  slot = slot_of (state_after c) d t.content

  -- it has 520 bytes
  slot_long : length slot ≡ 520
  unfolding slot
  slot_long = length_slot (state_after c) d t.content content_ok.0

  -- the register is as long
  pub same_length : length S ≡ length R
  unfolding slot
  same_length = rw t.result (length_with R t.index t.fits slot slot_long)

  -- and has as many slots
  pub same_slots : slots S ≡ slots R
  unfolding slot
  same_slots = rw t.result (slots_with R t.index t.fits slot slot_long)

  -- the slot that was written is read back
  pub slot_it : slot_at S t.index ≡ slot_of (state_after c) d t.content
  unfolding slot
  slot_it = rw t.result (slot_same R t.index t.fits slot slot_long)

  -- the others are as they were
  pub slot_else : (j : ℕ) → j ≢ t.index → slot_at S j ≡ slot_at R j
  unfolding slot
  slot_else j n = rw t.result (slot_other R t.index t.fits slot slot_long j n)

  -- each slot is the one that was written, or is as it was
  pub after : (j : ℕ) → After R S c t.content t.index j
  after j = go (ℕ_discrete j t.index)
    where
      go : Dec (j ≡ t.index) → After R S c t.content t.index j
      go (yes e) =
          at_it e (rw (e, slot_it) (state_slot (state_after c) d t.content))
          (rw (e, slot_it) (record_slot (state_after c) d t.content content_ok.0))
      go (no n) = elsewhere n (slot_else j n)

  -- what stands elsewhere stood there before
  pub used_before : (j : ℕ) → slot_at S j ≡ slot_at R j → used_at S j → used_at R j
  used_before j y u = (rw same_slots at u.0, rw y at u.1)

  -- and so did an entry
  pub live_before : (j : ℕ) → slot_at S j ≡ slot_at R j → live_at S j → live_at R j
  live_before j y u = (rw same_slots at u.0, rw y at u.1)

  -- the number's slot, if it has one, is the one that was written
  pub only : OneSlot R → (j : ℕ) → used_at R j → number_of (record_of (slot_at R j)) ≡ number_of r → j ≡ t.index
  unfolding OneSlot
  only one j u e = go t.place
    where
      go : Place R r c d t.index → j ≡ t.index
      go (own v n a w l) = one j t.index u v (e ∙ sym n)
      go (new i b f) = absurd (f j u e)

  -- no other slot has the record's number
  pub other : OneSlot R → (j : ℕ) → used_at R j → j ≢ t.index
      → same_bytes (number_of r) (number_of (record_of (slot_at R j))) ≡ false
  other one j u n = differ (number_of r) (number_of (record_of (slot_at R j))) (λ e. n (only one j u (sym e)))

  -- one slot for a number
  pub keep_one : OneSlot R → OneSlot S
  unfolding OneSlot
  keep_one one i j u v e = go (after i) (after j)
    where
      go : After R S c t.content t.index i → After R S c t.content t.index j → i ≡ j
      go (at_it a b x) (at_it p q y) = a ∙ sym p
      go (at_it a b x) (elsewhere p y) =
          let z = sym e ∙ ap number_of x ∙ content_ok.1 in
          absurd (p (only one j (used_before j y v) (sym (ap (λ s. number_of (record_of s)) y) ∙ z)))
      go (elsewhere p y) (at_it a b x) =
          let z = e ∙ ap number_of x ∙ content_ok.1 in
          absurd (p (only one i (used_before i y u) (sym (ap (λ s. number_of (record_of s)) y) ∙ z)))
      go (elsewhere p y) (elsewhere a b) = one i j (used_before i y u) (used_before j b v) (rw (y, b) at e)

  -- each entry under a row
  pub keep_under : AllUnder R G → AllUnder S G
  unfolding AllUnder
  keep_under all j u = go (after j) t.place t.what
    where
      go : After R S c t.content t.index j → Place R r c d t.index → Content R G r c t.index t.content
          → LiesUnder G (record_of (slot_at S j))
      go (elsewhere x y) p w = rw y (all j (live_before j y u))
      go (at_it a b x) p (stored s i there o e q) =
          let g = row_of (row_slot_at G i) in
          let f = whole_row_at G i there.0 in
          rw (x, q) (record {
            row = i;
            there = there;
            under = covers_shown g r f k g ∙ o;
            shows = esn_shown g r f k e;
          })
      go (at_it a b x) p (kept s q) =
          rw (x, q) (all t.index (t.fits, live_of_keeps c (state_of (slot_at R t.index)) s takes))

-- ---- a guide row was written or cleared: K is G with s in guide slot k

pub data RowAfter (G K s : List ℕ) (k j : ℕ) : Type 0 where
  row_it : j ≡ k → row_slot_at K j ≡ s → RowAfter G K s k j
  row_else : j ≢ k → row_slot_at K j ≡ row_slot_at G j → RowAfter G K s k j

module _ (G K s : List ℕ) (k : ℕ) (f : k < row_slots G) (e : length s ≡ 208) (q : K ≡ with_row_slot G k s) where
  -- the guide is as long
  pub put_length : length K ≡ length G
  put_length = rw q (length_with_row G k f s e)

  -- and has as many slots
  pub put_slots : row_slots K ≡ row_slots G
  put_slots = rw q (row_slots_with G k f s e)

  -- each guide slot is the one that was written, or is as it was
  pub row_after : (j : ℕ) → RowAfter G K s k j
  row_after j = go (ℕ_discrete j k)
    where
      go : Dec (j ≡ k) → RowAfter G K s k j
      go (yes x) = row_it x (rw (q, x) (row_slot_same G k f s e))
      go (no x) = row_else x (rw q (row_slot_other G k f s e j x))

  -- a row that stands elsewhere stood there before
  there_before : (j : ℕ) → row_slot_at K j ≡ row_slot_at G j → present_at K j → present_at G j
  there_before j y u = (rw put_slots at u.0, rw y at u.1)

  -- no house number has the new row and another
  put_one : ((l : ℕ) → present_at G l → is_present s ≡ true → (a b : List ℕ) (n : ℕ)
      → over (row_of (row_slot_at G l)) a b n ≡ true → over (row_of s) a b n ≡ true → ⊥)
      → OneRow G → OneRow K
  unfolding OneRow
  put_one apart one i j a b n u v x y = go (row_after i) (row_after j)
    where
      go : RowAfter G K s k i → RowAfter G K s k j → i ≡ j
      go (row_it p o) (row_it z w) = p ∙ sym z
      go (row_it p o) (row_else z w) = absurd (apart j (there_before j w v) (rw o at u.1) a b n (rw w at y) (rw o at x))
      go (row_else p o) (row_it z w) = absurd (apart i (there_before i o u) (rw w at v.1) a b n (rw o at x) (rw w at y))
      go (row_else p o) (row_else z w) = one i j a b n (there_before i o u) (there_before j w v) (rw o at x) (rw w at y)

  -- no entry lies under what was at k: each stays under its row
  put_under : (R : List ℕ) → ((i : ℕ) → live_at R i → (l : LiesUnder G (record_of (slot_at R i))) → l.row ≢ k)
      → AllUnder R G → AllUnder R K
  unfolding AllUnder
  put_under R off all i u = go (all i u) (row_after (all i u).row)
    where
      go : (l : LiesUnder G (record_of (slot_at R i))) → RowAfter G K s k l.row → LiesUnder K (record_of (slot_at R i))
      go l (row_it x y) = absurd (off i u l x)
      go l (row_else x y) =
          record {
            row = l.row;
            there = (rw put_slots l.there.0, rw y l.there.1);
            under = rw y l.under;
            shows = rw y l.shows;
          }

-- ---- a guide row g with code c was accepted, and K is the guide after it

module _ (R G g : List ℕ) (c : Option RowCode) (K : List ℕ) (w : WholeRow g) where
  -- the guide is as long
  pub same_guide_length : RowTook R G g c K → length K ≡ length G
  same_guide_length (added i k l v p e) = put_length G K (row_slot_of g) k l (length_row_slot g w) e
  same_guide_length (removed i k l v p e) = put_length G K free_row_slot k l.0 length_free e

  -- one row for a house number on a street
  pub keep_row : RowTook R G g c K → OneRow G → OneRow K
  keep_row (added i k l v p e) one =
      put_one G K (row_slot_of g) k l (length_row_slot g w) e
      (λ j u z a b n x y. clash_no (row_of (row_slot_at G j)) g (p j u) a b n x (rw (row_slot g w) at y)) one
  keep_row (removed i k l v p e) one =
      put_one G K free_row_slot k l.0 length_free e (λ j u z a b n x y. clash-bool z free_absent) one

  -- each entry under a row
  pub keep_under_row : RowTook R G g c K → AllUnder R G → AllUnder R K
  keep_under_row (added i k l v p e) all =
      put_under G K (row_slot_of g) k l (length_row_slot g w) e R
      (λ i u o q. clash-bool o.there.1 (rw q (vacant_absent (row_slot_at G k) v))) all
  keep_under_row (removed i k l v p e) all =
      put_under G K free_row_slot k l.0 length_free e R (λ i u o q. clash-bool o.under (rw q (p i u))) all

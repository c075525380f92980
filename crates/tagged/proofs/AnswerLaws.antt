-- What reading and writing a tagged text tell, answer by answer: every refusal writes nothing.
-- Assumes nothing.
use mathlib.Core.Path.{◌≡◌, refl, sym, ap, ◌∙◌}
use mathlib.Core.Bool.{Bool, true, false, not, cond}
use mathlib.Core.List.{List, [], ◌∷◌, ◌++◌}
use Prim.Native.Nat.{ℕ, ◌+◌, ◌-◌, ◌≤◌, ◌<◌}
use native.Mathlib.Omega.{arith}
use lib.Dec.{leb, ltb, eqb}
use lib.ListN.{length, take, drop}
use lib.Seq.{take_at}
use borrow.Author.Tests.{leb-true, lt-ltb, le-ltb, ne_eqb}
use Rattle.text.specs.Text.{part, put_at}
use Rattle.text.proofs.Laws.{and_left}
use Rattle.layout.specs.Tables.{data_record}
use Rattle.layout.specs.Rules.{record_fault}
use Rattle.rules.specs.Walks.{first}
use Rattle.rules.proofs.WalkLaws.{clash-bool, positive, numbers_in, first_in, first_append}
use Rattle.rules.proofs.SlotLaws.{put_is}
use Rattle.tag_rules.specs.declared.Tagged.{Tagged}
use Rattle.tag_rules.specs.Reading.{is_framed, body_of, pairs_of, Draft, all_taken, blank_draft, draft_of, read_refusal, text_read, ReadsText}
use Rattle.tag_rules.specs.Writing.{tagged_of, has_form, write_refusal, text_written, WritesText}
use Rattle.tag_rules.proofs.TextAnswers.{line_long}
use Rattle.tag_rules.proofs.Orders.{refusal_by, told, read_is}

abbrev pub refusal : ℕ → ℕ → Tagged
refusal n position = record { refusal = n; position = position; bytes = 0 }

-- ---- of a text that is read

module _ (s out : List ℕ) (b : Bool) (e : b ≡ is_framed s) where
  pub frame_refused : (t : Tagged) → b ≡ false → t ≡ refusal 33 0 → ReadsText s out t out
  unfolding text_read read_refusal first
  frame_refused t n q = rw (q, ← e, n) (refl, refl)

  module _ (f : b ≡ true) where
    framed : is_framed s ≡ true
    framed = sym e ∙ f

    pub frame_long : 4 ≤ length s
    unfolding is_framed
    frame_long = leb-true 4 (length s) (and_left (leb 4 (length s)) _ framed)

    -- the draft of the pairs between the frame, and the number of what is noted in it
    module _ (w : Draft) (g : w ≡ all_taken (pairs_of (take (length s - 1 - 3) (drop 3 s))) blank_draft) (n : ℕ)
        (h : n ≡ first ((w.notes.unknown, 34) ∷ (w.notes.twice, 35) ∷ (w.notes.unfit, 36) ∷ [])) where
      draft_is : w ≡ draft_of s
      unfolding draft_of body_of
      draft_is = let z : length s - 1 - 3 ≡ length s - 4 = omega arith in g ∙ rw z refl

      reads : (t : Tagged) (o : List ℕ) → (t ≡ (told w out).result) × (o ≡ (told w out).output) → ReadsText s out t o
      reads t o p = rw (read_is s out framed, ← draft_is) p

      abbrev noted : List (Bool × ℕ)
      noted = (w.notes.unknown, 34) ∷ (w.notes.twice, 35) ∷ (w.notes.unfit, 36) ∷ []

      abbrev behind : List (Bool × ℕ)
      behind = (not (eqb (record_fault data_record w.line) 0), 9) ∷ (ltb (length out) 512, 25) ∷ []

      -- it decides, where it is not 0
      number_is : refusal_by w (length out) ≡ cond (eqb n 0) (first behind) n
      unfolding positive
      number_is = first_append noted behind refl ∙ rw (← h) refl

      not_nine : eqb n 9 ≡ false
      unfolding numbers_in
      not_nine =
          let m = first_in (0 ∷ 34 ∷ 35 ∷ 36 ∷ []) noted refl refl in
          ne_eqb n 9 (λ z. clash-bool m (rw (← h, z) refl))

      pub note_refused : (t : Tagged) → (n ≡ 0 → ⊥) → t ≡ refusal n 0 → ReadsText s out t out
      note_refused t z q = reads t out (rw (q, number_is, ne_eqb n 0 z, ne_eqb n 0 z, not_nine) (refl, refl))

      module _ (z : n ≡ 0) (x : ℕ) (y : x ≡ record_fault data_record w.line) where
        pub field_refused : (t : Tagged) → (x ≡ 0 → ⊥) → t ≡ refusal 9 x → ReadsText s out t out
        unfolding first
        field_refused t i q = reads t out (rw (q, number_is, z, ← y, ne_eqb x 0 i) (refl, refl))

        module _ (v : x ≡ 0) where
          pub short_refused : (t : Tagged) → length out < 512 → t ≡ refusal 25 0 → ReadsText s out t out
          unfolding first
          short_refused t i q = reads t out (rw (q, number_is, z, ← y, v, lt-ltb (length out) 512 i) (refl, refl))

          pub text_read_lem : (o : List ℕ) → 512 ≤ length out → o ≡ put_at 0 w.line out
              → ReadsText s out (record { refusal = 0; position = 0; bytes = 512 }) o
          unfolding first
          text_read_lem o i p =
              let long : length w.line ≡ 512 = ap (λ (x : Draft). length x.line) draft_is ∙ line_long s out in
              reads (record { refusal = 0; position = 0; bytes = 512 }) o
              (rw (number_is, z, ← y, v, le-ltb (length out) 512 i) (refl, p ∙ put_is 0 512 w.line out long i))

-- ---- of a record that is written

-- the bytes at the front of those that b was written over
front_is : (b s t : List ℕ) (e : ℕ) → e ≡ 0 + length b → t ≡ take 0 s ++ (b ++ drop (0 + length b) s) → part 0 (e - 0) t ≡ b
front_is b s t e h now =
    let z : e - 0 ≡ length b = omega (arith, h) in
    rw (z, now) (take_at b (drop (0 + length b) s) (length b) refl)

module _ (r out : List ℕ) where
  pub length_refused : (t : Tagged) → (length r ≡ 512 → ⊥) → t ≡ refusal 9 0 → WritesText r out t out
  unfolding text_written write_refusal first
  length_refused t n q = rw (q, ne_eqb (length r) 512 n) (refl, refl)

  module _ (l : length r ≡ 512) (f : ℕ) (e : f ≡ record_fault data_record r) where
    pub fault_refused : (t : Tagged) → (f ≡ 0 → ⊥) → t ≡ refusal 9 f → WritesText r out t out
    unfolding text_written write_refusal first
    fault_refused t n q = rw (q, l, ← e, ne_eqb f 0 n) (refl, refl)

    module _ (z : f ≡ 0) (b : Bool) (g : b ≡ has_form r) where
      pub form_refused : (t : Tagged) → b ≡ false → t ≡ refusal 37 0 → WritesText r out t out
      unfolding text_written write_refusal first
      form_refused t n q = rw (q, l, ← e, z, ← g, n) (refl, refl)

      module _ (y : b ≡ true) (line new : List ℕ) (n : ℕ) (x : (n ≡ 0 + length (tagged_of r))
          × (new ≡ take 0 line ++ (tagged_of r ++ drop (0 + length (tagged_of r)) line))) where
        pub room_refused : (t : Tagged) → length out < n → t ≡ refusal 25 0 → WritesText r out t out
        unfolding text_written write_refusal first
        room_refused t h q = rw (q, l, ← e, z, ← g, y, lt-ltb (length out) (length (tagged_of r)) (omega (arith, x.0))) (refl, refl)

        pub text_written_lem : (o : List ℕ) → n ≤ length out → o ≡ put_at 0 (part 0 (n - 0) new) out
            → WritesText r out (record { refusal = 0; position = 0; bytes = n }) o
        unfolding text_written write_refusal first
        text_written_lem o h p =
            let m : n ≡ length (tagged_of r) = omega (arith, x.0) in
            rw (p, front_is (tagged_of r) line new n x.0 x.1, m, l, ← e, z, ← g, y, le-ltb (length out) (length (tagged_of r)) (omega arith)) (
              refl,
              put_is 0 (length (tagged_of r)) (tagged_of r) out refl (omega arith),
            )

-- "Reading accepts any order": two neighbouring pairs change places. With different labels the drafts are the same, as their rows lie
-- apart; with the same label both drafts note it twice, so what they hold in its row is never looked at. What comes behind keeps that:
-- notes and labels seen do not depend on the record. Assumes nothing.
use Rattle.std.specs.Prelude.{Some}
use mathlib.Core.Path.{◌≡◌, refl, sym, ap, ◌∙◌}
use mathlib.Core.Logic.{◌≢◌, ◌⊎◌, inl, inr}
use mathlib.Core.Bool.{Bool, true, false, ◌||◌, not, cond}
use mathlib.Core.List.{List, [], ◌∷◌, ◌++◌, append_assoc, append-nil}
use Prim.Native.Nat.{ℕ, ◌<◌}
use native.Mathlib.Decide.{ℕ_discrete}
use native.Mathlib.Omega.{arith}
use lib.Dec.{ltb, eqb}
use lib.ListN.{length, drop, get_or}
use lib.Seq.{set_comm}
use Rattle.text.specs.declared.Class.TheVariants.{Unbarred}
use Rattle.text.specs.Text.{all_in, put_at}
use Rattle.text.proofs.Laws.{or_left, or_right}
use Rattle.layout.specs.Tables.{data_record}
use Rattle.layout.specs.Rules.{record_fault}
use Rattle.rules.specs.Walks.{first}
use Rattle.tag_rules.specs.declared.Notes.{Notes}
use Rattle.tag_rules.specs.Tags.{span_at, span_size, form_at, span_of}
use Rattle.tag_rules.specs.Forms.{spread, fits}
use Rattle.tag_rules.specs.Reading.{is_framed, body_of, parted, pairs_of, tag_of, value_in, Draft, label_noted, pair_taken, all_taken, blank_draft, draft_of, read_refusal, TextOutcome, refused_text, text_read}
use Rattle.tag_rules.specs.Promises.{joined, text_of, AnyOrder}
use Rattle.tag_rules.proofs.PairLaws.{parted_append, parted_one, taken_append}
use Rattle.tag_rules.proofs.TileLaws.{all_same}
use Rattle.tag_rules.proofs.LineLaws.{put_long, put_row, put_other}
use Rattle.tag_rules.proofs.DraftLaws.{Tag, unknown, known, tag_is, took_unknown, took_known, spread_length, Sized, sized_all, sized_blank, seen_now, seen_other}
use Rattle.tag_rules.proofs.ReadsBack.{body_is, framed}

-- ---- the pairs of a text

-- what stands behind each `|`
abbrev behind : List (List ℕ) → List ℕ
behind [] = []
behind (p ∷ ps) = 124 ∷ (p ++ behind ps)

abbrev pub parted_all : List (List ℕ) → List (List ℕ)
parted_all [] = []
parted_all (p ∷ ps) = parted p ++ parted_all ps

joined_is : (ps : List (List ℕ)) → joined ps ≡ behind ps ++ (10 ∷ [])
joined_is [] = refl
joined_is (p ∷ ps) =
    ap (λ (x : List ℕ). 124 ∷ (p ++ x)) (joined_is ps) ∙ ap (λ (x : List ℕ). 124 ∷ x) (sym (append_assoc p (behind ps) (10 ∷ [])))

begins : (ps : List (List ℕ)) → (behind ps ≡ []) ⊎ ((t : List ℕ) × (behind ps ≡ 124 ∷ t))
begins [] = inl refl
begins (p ∷ ps) = inr (p ++ behind ps, refl)

pairs_are : (ps : List (List ℕ)) → pairs_of (behind ps) ≡ parted_all ps
pairs_are [] = refl
pairs_are (p ∷ []) = ap parted (append-nil p) ∙ sym (append-nil (parted p))
pairs_are (p ∷ q ∷ ps) = parted_append p (q ++ behind ps) ∙ ap (λ (x : List (List ℕ)). parted p ++ x) (pairs_are (q ∷ ps))

parted_all_lem : (ps qs : List (List ℕ)) → parted_all (ps ++ qs) ≡ parted_all ps ++ parted_all qs
parted_all_lem [] qs = refl
parted_all_lem (p ∷ ps) qs =
    ap (λ (x : List (List ℕ)). parted p ++ x) (parted_all_lem ps qs) ∙ sym (append_assoc (parted p) (parted_all ps) (parted_all qs))

pub text_framed : (ps : List (List ℕ)) → is_framed (text_of ps) ≡ true
text_framed ps = ap (λ (x : List ℕ). is_framed (68 ∷ 65 ∷ 84 ∷ x)) (joined_is ps) ∙ framed (behind ps) (begins ps)

pub text_draft : (ps : List (List ℕ)) → draft_of (text_of ps) ≡ all_taken (parted_all ps) blank_draft
unfolding draft_of
text_draft ps =
    ap (λ (x : List ℕ). all_taken (pairs_of (body_of (68 ∷ 65 ∷ 84 ∷ x))) blank_draft) (joined_is ps)
    ∙ ap (λ (x : List ℕ). all_taken (pairs_of x) blank_draft) (body_is (behind ps) (begins ps))
    ∙ ap (λ (x : List (List ℕ)). all_taken x blank_draft) (pairs_are ps)

-- ---- two drafts that are read alike: the same, or both with a label twice

record Alike (v w : Draft) : Type 0 where
  notes : v.notes ≡ w.notes
  seen : v.seen ≡ w.seen
  line : (v.line ≡ w.line) ⊎ (w.notes.twice ≡ true)

-- a label twice stays so
twice_stays : (p : List ℕ) (w : Draft) → w.notes.twice ≡ true → (pair_taken p w).notes.twice ≡ true
twice_stays p w t = go (tag_is p)
  where
    go : Tag p → (pair_taken p w).notes.twice ≡ true
    go (unknown e) = rw (took_unknown p w e) t
    go (known k h e) = rw (took_known p w k e) (or_left w.notes.twice (eqb (get_or w.seen k 0) 1) t)

alike_pair : (p : List ℕ) (v w : Draft) → Alike v w → Alike (pair_taken p v) (pair_taken p w)
alike_pair p v w a = go (tag_is p)
  where
    over : (k : ℕ) → (v.line ≡ w.line) ⊎ (w.notes.twice ≡ true)
        → let b = spread (form_at k) (span_size k) (value_in p) in
        (put_at (span_at k) b v.line ≡ put_at (span_at k) b w.line) ⊎ ((w.notes.twice || eqb (get_or w.seen k 0) 1) ≡ true)
    over k (inl e) = inl (ap (put_at (span_at k) (spread (form_at k) (span_size k) (value_in p))) e)
    over k (inr t) = inr (or_left w.notes.twice (eqb (get_or w.seen k 0) 1) t)

    go : Tag p → Alike (pair_taken p v) (pair_taken p w)
    go (unknown e) =
        rw (took_unknown p v e, took_unknown p w e) (record { notes = rw a.notes refl; seen = a.seen; line = a.line })
    go (known k h e) =
        rw (took_known p v k e, took_known p w k e)
        (record { notes = rw (a.notes, a.seen) refl; seen = rw a.seen refl; line = over k a.line })

alike_all : (ps : List (List ℕ)) (v w : Draft) → Alike v w → Alike (all_taken ps v) (all_taken ps w)
unfolding all_taken
alike_all [] v w a = a
alike_all (p ∷ ps) v w a = alike_all ps (pair_taken p v) (pair_taken p w) (alike_pair p v w a)

-- ---- two neighbouring pairs

or_swap : (a b c : Bool) → ((a || b) || c) ≡ ((a || c) || b)
or_swap true b c = refl
or_swap false true true = refl
or_swap false true false = refl
or_swap false false true = refl
or_swap false false false = refl

-- what is noted of one label twice
noted_again : (a f g : Bool) (n : Notes) → label_noted true g (label_noted a f n) ≡ label_noted true f (label_noted a g n)
noted_again a f g n = rw (or_swap n.unfit (not f) (not g)) refl

-- and of two labels
noted_swap : (a b f g : Bool) (n : Notes) → label_noted b g (label_noted a f n) ≡ label_noted a f (label_noted b g n)
noted_swap a b f g n = rw (or_swap n.twice a b, or_swap n.unfit (not f) (not g)) refl

-- two rows that are not the same one may be written in either order
puts_swap : (l b c : List ℕ) (j k : ℕ) → length l ≡ 512 → j < 28 → k < 28 → j ≢ k → length b ≡ span_size j → length c ≡ span_size k
    → put_at (span_at k) c (put_at (span_at j) b l) ≡ put_at (span_at j) b (put_at (span_at k) c l)
puts_swap l b c j k z hj hk n eb ec = all_same left right (put_long x c k lx ik ec) (put_long y b j ly ij eb) row
  where
    ij : j < 32
    ij = omega arith

    ik : k < 32
    ik = omega arith

    x : List ℕ
    x = put_at (span_at j) b l

    y : List ℕ
    y = put_at (span_at k) c l

    left : List ℕ
    left = put_at (span_at k) c x

    right : List ℕ
    right = put_at (span_at j) b y

    lx : length x ≡ 512
    lx = put_long l b j z ij eb

    ly : length y ≡ 512
    ly = put_long l c k z ik ec

    row : (i : ℕ) → i < 32 → span_of i left ≡ span_of i right
    row i h = go (ℕ_discrete i k) (ℕ_discrete i j)
      where
        go : Dec (i ≡ k) → Dec (i ≡ j) → span_of i left ≡ span_of i right
        go (yes e) d =
            let other : i ≢ j = λ f. n (sym f ∙ e) in
            let one : span_of i left ≡ c = rw e (put_row x c k lx ik ec) in
            let two : span_of i y ≡ c = rw e (put_row l c k z ik ec) in
            one ∙ sym (put_other y b j ly ij eb i h other ∙ two)
        go (no e) (yes f) =
            let one : span_of i right ≡ b = rw f (put_row y b j ly ij eb) in
            let two : span_of i x ≡ b = rw f (put_row l b j z ij eb) in
            put_other x c k lx ik ec i h e ∙ two ∙ sym one
        go (no e) (no f) =
            put_other x c k lx ik ec i h e ∙ put_other l b j z ij eb i h f
            ∙ sym (put_other y b j ly ij eb i h f ∙ put_other l c k z ik ec i h e)

swapped : (p q : List ℕ) (w : Draft) → Sized w → Alike (pair_taken q (pair_taken p w)) (pair_taken p (pair_taken q w))
swapped p q w z = go (tag_is p) (tag_is q)
  where
    -- the same label: seen by the first, noted twice by the second
    same : (k : ℕ) → k < 28 → tag_of p ≡ Some k → tag_of q ≡ Some k → Alike (pair_taken q (pair_taken p w)) (pair_taken p (pair_taken q w))
    same k h e f =
        let s = seen_now k (value_in p) w z h in
        rw (took_known q (pair_taken p w) k f, took_known p (pair_taken q w) k e, took_known p w k e, took_known q w k f, s)
        (record {
          notes =
              noted_again (eqb (get_or w.seen k 0) 1) (fits (form_at k) (span_size k) (value_in p))
              (fits (form_at k) (span_size k) (value_in q)) w.notes;
          seen = refl;
          line = inr (or_right (w.notes.twice || eqb (get_or w.seen k 0) 1) true refl);
        })

    other : (j k : ℕ) → j < 28 → k < 28 → j ≢ k → tag_of p ≡ Some j → tag_of q ≡ Some k
        → Alike (pair_taken q (pair_taken p w)) (pair_taken p (pair_taken q w))
    other j k hj hk n e f =
        let s = seen_other j k (value_in p) w (λ d. n (sym d)) in
        let t = seen_other k j (value_in q) w n in
        rw (took_known q (pair_taken p w) k f, took_known p (pair_taken q w) j e, took_known p w j e, took_known q w k f, s, t)
        (record {
          notes =
              noted_swap (eqb (get_or w.seen j 0) 1) (eqb (get_or w.seen k 0) 1) (fits (form_at j) (span_size j) (value_in p))
              (fits (form_at k) (span_size k) (value_in q)) w.notes;
          seen = set_comm w.seen j k _ _ n;
          line = inl
              (puts_swap w.line (spread (form_at j) (span_size j) (value_in p)) (spread (form_at k) (span_size k) (value_in q)) j k z.line
              hj hk n (spread_length (form_at j) (span_size j) (value_in p)) (spread_length (form_at k) (span_size k) (value_in q)));
        })

    go : Tag p → Tag q → Alike (pair_taken q (pair_taken p w)) (pair_taken p (pair_taken q w))
    go (unknown e) (unknown f) =
        rw (took_unknown q (pair_taken p w) f, took_unknown p (pair_taken q w) e, took_unknown p w e, took_unknown q w f)
        (record { notes = refl; seen = refl; line = inl refl })
    go (unknown e) (known k h f) =
        rw (took_known q (pair_taken p w) k f, took_unknown p (pair_taken q w) e, took_unknown p w e, took_known q w k f)
        (record { notes = refl; seen = refl; line = inl refl })
    go (known j h e) (unknown f) =
        rw (took_unknown q (pair_taken p w) f, took_known p (pair_taken q w) j e, took_known p w j e, took_unknown q w f)
        (record { notes = refl; seen = refl; line = inl refl })
    go (known j hj e) (known k hk f) = pick (ℕ_discrete j k)
      where
        pick : Dec (j ≡ k) → Alike (pair_taken q (pair_taken p w)) (pair_taken p (pair_taken q w))
        pick (yes d) = same k hk (rw d at e) f
        pick (no d) = other j k hj hk d e f

-- ---- the outcome

-- that of a text, by its draft
abbrev pub refusal_table : Draft → ℕ → List (Bool × ℕ)
refusal_table w room =
    (w.notes.unknown, 34) ∷ (w.notes.twice, 35) ∷ (w.notes.unfit, 36) ∷ (not (eqb (record_fault data_record w.line) 0), 9)
    ∷ (ltb room 512, 25) ∷ []

abbrev pub refusal_by : Draft → ℕ → ℕ
refusal_by w room = first (refusal_table w room)

abbrev pub told : Draft → List ℕ → TextOutcome
told w out =
    cond (eqb (refusal_by w (length out)) 0)
    (record { result = record { refusal = 0; position = 0; bytes = 512 }; output = w.line ++ drop 512 out })
    (refused_text (refusal_by w (length out)) (record_fault data_record w.line) out)

pub read_is : (s out : List ℕ) → is_framed s ≡ true → text_read s out ≡ told (draft_of s) out
unfolding text_read read_refusal first
read_is s out e = rw e refl

-- a label twice is 34 or 35, whatever the record holds
told_alike : (v w : Draft) (out : List ℕ) → Alike v w → told v out ≡ told w out
unfolding first
told_alike v w out a = rw a.notes (go a.line)
  where
    twice : (b : Bool)
        → let n : ℕ = cond b 34 35 in
        cond (eqb n 0)
        (record { result = record { refusal = 0; position = 0; bytes = 512 }; output = v.line ++ drop 512 out })
        (refused_text n (record_fault data_record v.line) out)
        ≡ cond (eqb n 0)
        (record { result = record { refusal = 0; position = 0; bytes = 512 }; output = w.line ++ drop 512 out })
        (refused_text n (record_fault data_record w.line) out)
    twice true = refl
    twice false = refl

    go : (v.line ≡ w.line) ⊎ (w.notes.twice ≡ true)
        → told (record { notes = w.notes; seen = v.seen; line = v.line }) out ≡ told w out
    go (inl e) = rw e refl
    go (inr t) = rw t (twice w.notes.unknown)

-- two pairs without `|` among the others
two_drafted : (ps qs : List (List ℕ)) (p q : List ℕ) → all_in Unbarred p ≡ true → all_in Unbarred q ≡ true
    → draft_of (text_of (ps ++ (p ∷ q ∷ qs))) ≡ all_taken (parted_all qs) (pair_taken q (pair_taken p (all_taken (parted_all ps) blank_draft)))
unfolding all_taken
two_drafted ps qs p q a b =
    let pair : parted p ++ (parted q ++ parted_all qs) ≡ p ∷ q ∷ parted_all qs = rw (parted_one p a, parted_one q b) refl in
    text_draft (ps ++ (p ∷ q ∷ qs))
    ∙ ap (λ (x : List (List ℕ)). all_taken x blank_draft) (parted_all_lem ps (p ∷ q ∷ qs))
    ∙ taken_append (parted_all ps) (parted p ++ (parted q ++ parted_all qs)) blank_draft
    ∙ ap (λ (x : List (List ℕ)). all_taken x (all_taken (parted_all ps) blank_draft)) pair

pub any_order : AnyOrder
unfolding AnyOrder
any_order ps qs p q out a b =
    read_is (text_of (ps ++ (p ∷ q ∷ qs))) out (text_framed (ps ++ (p ∷ q ∷ qs)))
    ∙ told_alike (draft_of (text_of (ps ++ (p ∷ q ∷ qs)))) (draft_of (text_of (ps ++ (q ∷ p ∷ qs)))) out alike
    ∙ sym (read_is (text_of (ps ++ (q ∷ p ∷ qs))) out (text_framed (ps ++ (q ∷ p ∷ qs))))
  where
    before : Draft
    before = all_taken (parted_all ps) blank_draft

    alike : Alike (draft_of (text_of (ps ++ (p ∷ q ∷ qs)))) (draft_of (text_of (ps ++ (q ∷ p ∷ qs))))
    alike =
        rw (two_drafted ps qs p q a b, two_drafted ps qs q p b a)
        (alike_all (parted_all qs) (pair_taken q (pair_taken p before)) (pair_taken p (pair_taken q before))
        (swapped p q before (sized_all (parted_all ps) blank_draft sized_blank)))

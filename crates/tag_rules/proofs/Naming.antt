-- A text that is refused by 34 or 36 has a pair that alone is refused so. What is noted of a text was noted at one of its pairs; that
-- pair's label, or its value, is noted again where it stands alone, and nothing else is. Assumes nothing.
use Rattle.std.proofs.lemmas.Bool.{not-true}
use Rattle.std.specs.Prelude.{Some, None}
use mathlib.Core.Path.{◌≡◌, refl, sym, ap, subst, ◌∙◌}
use mathlib.Core.Logic.{◌≢◌, ◌⊎◌, inl, inr}
use mathlib.Core.Bool.{Bool, true, false, ◌||◌}
use mathlib.Core.List.{List, [], ◌∷◌, ◌++◌}
use Prim.Native.Nat.{ℕ}
use native.Mathlib.Omega.{arith}
use lib.Dec.{eqb}
use lib.ListN.{length}
use borrow.Author.Tests.{eqb-true}
use Rattle.text.specs.declared.Class.TheVariants.{Unbarred}
use Rattle.text.specs.Text.{all_in}
use Rattle.layout.specs.Tables.{data_record}
use Rattle.layout.specs.Rules.{record_fault}
use Rattle.rules.specs.Walks.{first}
use Rattle.rules.proofs.WalkLaws.{decided, clash-bool, hit_by, first_hit}
use Rattle.tag_rules.specs.declared.Notes.{Notes}
use Rattle.tag_rules.specs.Tags.{span_size, form_at}
use Rattle.tag_rules.specs.Forms.{fits}
use Rattle.tag_rules.specs.Reading.{tag_of, value_in, Draft, pair_taken, all_taken, blank_draft, draft_of, TextOutcome, text_read}
use Rattle.tag_rules.specs.Promises.{text_of, AllUnbarred, Named, NamesPair}
use Rattle.tag_rules.proofs.PairLaws.{parted_one}
use Rattle.tag_rules.proofs.DraftLaws.{Tag, unknown, known, tag_is, took_unknown, took_known}
use Rattle.tag_rules.proofs.BackLaws.{zeros}
use Rattle.tag_rules.proofs.Orders.{parted_all, text_framed, text_draft, refusal_table, refusal_by, read_is}
use Rattle.tag_rules.proofs.TextAnswers.{refusal_is, or_first}

-- ---- the pair at which something was noted first

record First (f : Notes → Bool) (ps : List (List ℕ)) : Type 0 where
  pair : List ℕ
  before : List (List ℕ)
  behind : List (List ℕ)
  among : ps ≡ before ++ (pair ∷ behind)
  draft : Draft
  not_yet : f draft.notes ≡ false
  now : f (pair_taken pair draft).notes ≡ true

first_noted : (f : Notes → Bool) (ps : List (List ℕ)) (w : Draft) → f w.notes ≡ false → f (all_taken ps w).notes ≡ true → First f ps
unfolding all_taken
first_noted f [] w n e = clash-bool e n
first_noted f (p ∷ ps) w n e = go (first_noted f ps (pair_taken p w)) (decided (f (pair_taken p w).notes))
  where
    go : (f (pair_taken p w).notes ≡ false → f (all_taken ps (pair_taken p w)).notes ≡ true → First f ps)
        → (f (pair_taken p w).notes ≡ true) ⊎ (f (pair_taken p w).notes ≡ false) → First f (p ∷ ps)
    go later (inl q) = record { pair = p; before = []; behind = ps; among = refl; draft = w; not_yet = n; now = q }
    go later (inr q) =
        let t = later q e in
        record {
          pair = t.pair;
          before = p ∷ t.before;
          behind = t.behind;
          among = ap (λ (x : List (List ℕ)). p ∷ x) t.among;
          draft = t.draft;
          not_yet = t.not_yet;
          now = t.now;
        }

-- it has a label that is not taken
noted_unknown : (p : List ℕ) (w : Draft) → w.notes.unknown ≡ false → (pair_taken p w).notes.unknown ≡ true → tag_of p ≡ None
noted_unknown p w n e = go (tag_is p)
  where
    go : Tag p → tag_of p ≡ None
    go (unknown q) = q
    go (known k h q) = clash-bool (rw (took_known p w k q) at e) n

-- or a value that does not fit
record Unfit (p : List ℕ) : Type 0 where
  row : ℕ
  tag : tag_of p ≡ Some row
  misfit : fits (form_at row) (span_size row) (value_in p) ≡ false

noted_unfit : (p : List ℕ) (w : Draft) → w.notes.unfit ≡ false → (pair_taken p w).notes.unfit ≡ true → Unfit p
noted_unfit p w n e = go (tag_is p)
  where
    go : Tag p → Unfit p
    go (unknown q) = clash-bool (rw (took_unknown p w q) at e) n
    go (known k h q) =
        record { row = k; tag = q; misfit = not-true (fits (form_at k) (span_size k) (value_in p)) (rw (took_known p w k q, n) at e) }

-- ---- the text of a pair alone, and of all

-- pairs without `|` are the parts of their text
parted_same : (ps : List (List ℕ)) → AllUnbarred ps → parted_all ps ≡ ps
parted_same [] a = refl
parted_same (p ∷ ps) a = rw (parted_one p a.0, parted_same ps a.1) refl

refused_by : (ps : List (List ℕ)) (out : List ℕ) → AllUnbarred ps
    → (text_read (text_of ps) out).result.refusal ≡ refusal_by (all_taken ps blank_draft) (length out)
refused_by ps out a =
    let w : Draft = draft_of (text_of ps) in
    let same : w ≡ all_taken ps blank_draft = text_draft ps ∙ ap (λ (x : List (List ℕ)). all_taken x blank_draft) (parted_same ps a) in
    ap (λ (o : TextOutcome). o.result.refusal) (read_is (text_of ps) out (text_framed ps))
    ∙ refusal_is out w.line (refusal_by w (length out)) (record_fault data_record w.line) 512
    ∙ ap (λ (x : Draft). refusal_by x (length out)) same

alone_unknown : (p : List ℕ) (room : ℕ) → tag_of p ≡ None → refusal_by (all_taken (p ∷ []) blank_draft) room ≡ 34
unfolding all_taken first
alone_unknown p room e = rw (took_unknown p blank_draft e) refl

alone_unfit : (p : List ℕ) (room : ℕ) → Unfit p → refusal_by (all_taken (p ∷ []) blank_draft) room ≡ 36
unfolding all_taken first
alone_unfit p room u = rw (took_known p blank_draft u.row u.tag, u.misfit, zeros 28 u.row) refl

-- ---- one of the pairs

among_clean : (qs rs : List (List ℕ)) (p : List ℕ) → AllUnbarred (qs ++ (p ∷ rs)) → all_in Unbarred p ≡ true
among_clean [] rs p a = a.0
among_clean (q ∷ qs) rs p a = among_clean qs rs p a.1

module _ (ps : List (List ℕ)) (out : List ℕ) (a : AllUnbarred ps) where
  abbrev walk : Draft
  walk = all_taken ps blank_draft

  -- that pair, if it is refused by n where it stands alone
  named : (f : Notes → Bool) (n : ℕ) (t : First f ps) → refusal_by (all_taken (t.pair ∷ []) blank_draft) (length out) ≡ n → Named ps n out
  named f n t e =
      let clean = among_clean t.before t.behind t.pair (subst AllUnbarred t.among a) in
      record {
        pair = t.pair;
        before = t.before;
        behind = t.behind;
        among = t.among;
        alone = refused_by (t.pair ∷ []) out (clean, tt) ∙ e;
      }

  -- a number that the walk's refusal has was noted
  hit : (n : ℕ) (b : Bool) → n ≢ 0 → hit_by n (refusal_table walk (length out)) ≡ (b || false) → refusal_by walk (length out) ≡ n → b ≡ true
  hit n b z h e = or_first b (sym h ∙ first_hit n (refusal_table walk (length out)) z e)

pub names_pair : NamesPair
unfolding NamesPair hit_by
names_pair ps n out a m e = go (eqb 34 n) refl (eqb 36 n) refl m
  where
    is : refusal_by (all_taken ps blank_draft) (length out) ≡ n
    is = sym (refused_by ps out a) ∙ e

    go : (b : Bool) → eqb 34 n ≡ b → (c : Bool) → eqb 36 n ≡ c → b || (c || false) ≡ true → Named ps n out
    go true p c q m =
        let z : 34 ≡ n = eqb-true 34 n p in
        let noted = hit ps out a 34 (all_taken ps blank_draft).notes.unknown (λ e. omega arith) refl (is ∙ sym z) in
        let t = first_noted (λ x. x.unknown) ps blank_draft refl noted in
        named ps out a (λ x. x.unknown) n t
        (alone_unknown t.pair (length out) (noted_unknown t.pair t.draft t.not_yet t.now) ∙ z)
    go false p true q m =
        let z : 36 ≡ n = eqb-true 36 n q in
        let noted = hit ps out a 36 (all_taken ps blank_draft).notes.unfit (λ e. omega arith) refl (is ∙ sym z) in
        let t = first_noted (λ x. x.unfit) ps blank_draft refl noted in
        named ps out a (λ x. x.unfit) n t
        (alone_unfit t.pair (length out) (noted_unfit t.pair t.draft t.not_yet t.now) ∙ z)
    go false p false q m = clash-bool m refl

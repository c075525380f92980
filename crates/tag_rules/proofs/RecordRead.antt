-- What was read: a record of 512 bytes that keeps every field rule, so it stands in a file like any other; and it can be written, as
-- each of its rows holds what a value stands for that fits, or nothing. Assumes nothing.
use Rattle.std.proofs.lemmas.Bool.{not-false}
use Rattle.std.specs.Prelude.{Some}
use mathlib.Core.Path.{◌≡◌, refl, ap, ◌∙◌}
use mathlib.Core.Bool.{Bool, true, false, ◌&&◌, ◌||◌, not, cond}
use mathlib.Core.List.{List, [], ◌∷◌, ◌++◌}
use Prim.Native.Nat.{ℕ, zero, suc, ◌+◌, ◌≤◌, ◌<◌}
use native.Mathlib.Decide.{ℕ_discrete}
use native.Mathlib.Omega.{arith}
use lib.Dec.{leb, eqb}
use lib.ListN.{length, take, drop, get_or}
use lib.Seq.{take_at}
use Rattle.text.specs.declared.Class.TheVariants.{Unbarred}
use Rattle.text.specs.Text.{in_class, all_in, blank, same_bytes, part, spaces, put_at}
use Rattle.text.proofs.Laws.{and_left, and_right, or_right}
use Rattle.text.proofs.PartLaws.{all_take, all_drop, all_part}
use Rattle.text.proofs.DigitLaws.{all_append}
use Rattle.calendar.proofs.DayLaws.{every_at}
use Rattle.layout.specs.Tables.{data_record}
use Rattle.layout.specs.Rules.{record_fault}
use Rattle.versions.specs.declared.Version.TheVariants.{Two}
use Rattle.rules.specs.declared.Kind.TheVariants.{Data}
use Rattle.rules.specs.Takes.{lines_in, line_at, bad_line, lines_checked}
use Rattle.rules.proofs.WalkLaws.{clash-bool, find_nowhere}
use Rattle.tag_rules.specs.Tags.{plain, calendar_date, postal, span_at, span_size, form_at, span_of}
use Rattle.tag_rules.specs.Forms.{turned, spread, worded, filled, formed, fits}
use Rattle.tag_rules.specs.Reading.{body_of, parted, pushed, pairs_of, tag_of, value_in, Draft, pair_taken, all_taken, blank_line, blank_draft, draft_of, read_refusal, text_read}
use Rattle.tag_rules.specs.Writing.{is_bare, unformed_at, has_form}
use Rattle.tag_rules.specs.Promises.{AllUnbarred, WasRead, NoneNoted, ReadsAnswer, ReadsGood, InFile, ReadsWritable, WritesAnswer}
use Rattle.tag_rules.proofs.LineLaws.{put_row, put_other}
use Rattle.tag_rules.proofs.DraftLaws.{Tag, unknown, known, tag_is, took_unknown, took_known, spread_length, Sized, sized_pair, sized_blank}
use Rattle.tag_rules.proofs.TextAnswers.{line_long, none_read, reads_answer, writes_answer}
use Rattle.tag_rules.proofs.RoomLaws.{text_most_lem}

-- ---- the record

module _ (r : List ℕ) (w : WasRead r) where
  noted : NoneNoted w.text w.out
  unfolding ReadsAnswer
  noted = (reads_answer w.text w.out).1.0 w.done

  -- it is the draft's
  pub line_is : r ≡ (draft_of w.text).line
  unfolding text_read
  line_is =
      let z : read_refusal w.text (length w.out) ≡ 0 = none_read w.text w.out noted in
      w.is ∙ rw z (take_at (draft_of w.text).line (drop 512 w.out) 512 (line_long w.text w.out))

pub reads_good : ReadsGood
unfolding ReadsGood
reads_good r w = (ap length (line_is r w) ∙ line_long w.text w.out, ap (record_fault data_record) (line_is r w) ∙ (noted r w).good)

-- ---- a file of such records

pub in_file : InFile
unfolding InFile lines_checked bad_line ReadsGood
in_file f h g =
    let k = Data Two in
    rw (find_nowhere (bad_line k f) (lines_in k f) (λ i l. rw (reads_good (line_at k f i) (g i l)).1 refl)) refl

-- ---- no `|` in it

-- neither in the pairs
parted_clean : (s : List ℕ) → AllUnbarred (parted s)
parted_clean [] = (refl, tt)
parted_clean (b ∷ s) = go (eqb b 124) refl (parted s) (parted_clean s)
  where
    go : (v : Bool) → eqb b 124 ≡ v → (ps : List (List ℕ)) → AllUnbarred ps → AllUnbarred (cond v ([] ∷ ps) (pushed b ps))
    go true e ps a = (refl, a)
    go false e [] a = (rw e refl, tt)
    go false e (p ∷ ps) a = (rw e a.0, a.1)

pairs_clean : (s : List ℕ) → AllUnbarred (pairs_of s)
pairs_clean [] = tt
pairs_clean (b ∷ s) = parted_clean s

-- nor in what is put together of them
byte_clean : (s : List ℕ) (i : ℕ) → all_in Unbarred s ≡ true → in_class Unbarred (get_or s i 0) ≡ true
byte_clean [] i e = refl
byte_clean (b ∷ s) zero e = and_left (in_class Unbarred b) (all_in Unbarred s) e
byte_clean (b ∷ s) (suc i) e = byte_clean s i (and_right (in_class Unbarred b) (all_in Unbarred s) e)

spaces_clean : (n : ℕ) → all_in Unbarred (spaces n) ≡ true
spaces_clean zero = refl
spaces_clean (suc n) = spaces_clean n

put_clean : (i : ℕ) (b s : List ℕ) → all_in Unbarred b ≡ true → all_in Unbarred s ≡ true → all_in Unbarred (put_at i b s) ≡ true
unfolding put_at
put_clean i b s e f = go (leb (i + length b) (length s))
  where
    go : (v : Bool) → all_in Unbarred (cond v (take i s ++ (b ++ drop (i + length b) s)) s) ≡ true
    go true =
        all_append Unbarred (take i s) (b ++ drop (i + length b) s) (all_take Unbarred i s f)
        (all_append Unbarred b (drop (i + length b) s) e (all_drop Unbarred (i + length b) s f))
    go false = f

spread_clean : (form n : ℕ) (v : List ℕ) → all_in Unbarred v ≡ true → all_in Unbarred (spread form n v) ≡ true
unfolding spread
spread_clean form n v e = go (eqb form calendar_date) (eqb form postal)
  where
    date : all_in Unbarred (turned v) ≡ true
    date = rw (byte_clean v 5 e, byte_clean v 6 e, byte_clean v 8 e, byte_clean v 9 e, byte_clean v 2 e, byte_clean v 3 e) refl

    go : (a b : Bool)
        → all_in Unbarred
        (cond a (put_at 0 (turned v) (spaces n))
        (cond b (put_at 5 (part 6 4 v) (put_at 0 (part 0 5 v) (spaces n))) (put_at 0 v (spaces n))))
        ≡ true
    go true b = put_clean 0 (turned v) (spaces n) date (spaces_clean n)
    go false true =
        put_clean 5 (part 6 4 v) (put_at 0 (part 0 5 v) (spaces n)) (all_part Unbarred 6 4 v e)
        (put_clean 0 (part 0 5 v) (spaces n) (all_part Unbarred 0 5 v e) (spaces_clean n))
    go false false = put_clean 0 v (spaces n) e (spaces_clean n)

-- ---- its rows

-- a value that fits stands for bytes that have a tagged form
fits_formed : (form n : ℕ) (v : List ℕ) → fits form n v ≡ true → formed form (spread form n v) ≡ true
unfolding fits formed
fits_formed form n v = go (eqb form plain)
  where
    f : List ℕ
    f = spread form n v

    go : (b : Bool) → cond b (leb (length v) n) (filled form f && same_bytes (worded form f) v) ≡ true
        → b || (blank f || filled form f) ≡ true
    go true e = refl
    go false e = or_right (blank f) (filled form f) (and_left (filled form f) (same_bytes (worded form f) v) e)

-- after any pairs: no `|`; the rows without a label are as before; and, if all values fit, each row of a label has a tagged form
record Kept (w : Draft) : Type 0 where
  sized : Sized w
  clean : all_in Unbarred w.line ≡ true
  bare : (k : ℕ) → 28 ≤ k → k < 32 → span_of k w.line ≡ span_of k blank_line
  forms : w.notes.unfit ≡ false → (k : ℕ) → k < 28 → formed (form_at k) (span_of k w.line) ≡ true

neither : (a b : Bool) → a || b ≡ false → (a ≡ false) × (b ≡ false)
neither true b e = clash-bool refl e
neither false b e = (refl, e)

kept_pair : (p : List ℕ) → all_in Unbarred p ≡ true → (w : Draft) → Kept w → Kept (pair_taken p w)
kept_pair p c w t = go (tag_is p)
  where
    -- a pair of label k
    taken : (k : ℕ) → k < 28 → tag_of p ≡ Some k → Kept (pair_taken p w)
    taken k h e =
        let b : List ℕ = spread (form_at k) (span_size k) (value_in p) in
        let long : length b ≡ span_size k = spread_length (form_at k) (span_size k) (value_in p) in
        let z = rw (took_known p w k e) at (sized_pair p w t.sized) in
        rw (took_known p w k e)
        (record {
          sized = z;
          clean = put_clean (span_at k) b w.line (spread_clean (form_at k) (span_size k) (value_in p) (all_drop Unbarred 3 p c)) t.clean;
          bare = λ j l m. put_other w.line b k t.sized.line (omega arith) long j m (λ f. omega arith) ∙ t.bare j l m;
          forms = λ u j m.
              let n = neither w.notes.unfit (not (fits (form_at k) (span_size k) (value_in p))) u in
              form (ℕ_discrete j k) m n.0 (not-false (fits (form_at k) (span_size k) (value_in p)) n.1);
        })
      where
        form : {j : ℕ} → Dec (j ≡ k) → j < 28 → w.notes.unfit ≡ false → fits (form_at k) (span_size k) (value_in p) ≡ true
            → formed (form_at j) (span_of j (put_at (span_at k) (spread (form_at k) (span_size k) (value_in p)) w.line)) ≡ true
        form {j} (yes q) m u f =
            let b : List ℕ = spread (form_at k) (span_size k) (value_in p) in
            let row = put_row w.line b k t.sized.line (omega arith) (spread_length (form_at k) (span_size k) (value_in p)) in
            rw (q, row) (fits_formed (form_at k) (span_size k) (value_in p) f)
        form {j} (no q) m u f =
            let b : List ℕ = spread (form_at k) (span_size k) (value_in p) in
            let long : length b ≡ span_size k = spread_length (form_at k) (span_size k) (value_in p) in
            rw (put_other w.line b k t.sized.line (omega arith) long j (omega arith) q) (t.forms u j m)

    go : Tag p → Kept (pair_taken p w)
    go (unknown e) =
        let z = rw (took_unknown p w e) at (sized_pair p w t.sized) in
        rw (took_unknown p w e) (record { sized = z; clean = t.clean; bare = t.bare; forms = t.forms })
    go (known k h e) = taken k h e

kept_all : (ps : List (List ℕ)) → AllUnbarred ps → (w : Draft) → Kept w → Kept (all_taken ps w)
unfolding all_taken
kept_all [] a w t = t
kept_all (p ∷ ps) a w t = kept_all ps a.1 (pair_taken p w) (kept_pair p a.0 w t)

kept_blank : Kept blank_draft
unfolding formed
kept_blank =
    record {
      sized = sized_blank;
      clean = refl;
      bare = λ k l m. refl;
      forms = λ u k m. every_at (λ k. formed (form_at k) (span_of k blank_line)) 28 k refl m;
    }

kept : (s : List ℕ) → Kept (draft_of s)
unfolding draft_of
kept s = kept_all (pairs_of (body_of s)) (pairs_clean (body_of s)) blank_draft kept_blank

-- so it has a tagged form
line_formed : (s : List ℕ) → (draft_of s).notes.unfit ≡ false → has_form (draft_of s).line ≡ true
unfolding has_form is_bare unformed_at
line_formed s u =
    let k = kept s in
    rw (
      k.clean,
      k.bare 28 (omega arith) (omega arith),
      k.bare 29 (omega arith) (omega arith),
      k.bare 30 (omega arith) (omega arith),
      find_nowhere (unformed_at (draft_of s).line) 28 (λ i l. rw (k.forms u i l) refl),
    )
    refl

pub reads_writable : ReadsWritable
unfolding ReadsWritable ReadsGood WritesAnswer
reads_writable r text w h =
    let good = reads_good r w in
    (writes_answer r text).1.1
    (record {
      long = good.0;
      good = good.1;
      form = ap has_form (line_is r w) ∙ line_formed w.text (noted r w).fit;
      room = omega (arith, text_most_lem r good.0);
    })

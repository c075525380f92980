-- Every text and every record is answered: the table's first hit is one of its numbers, what is refused leaves the output as it was, and
-- what is done is the table's every test failed. Assumes nothing.
use Rattle.std.proofs.lemmas.Bool.{not-true, not-false}
use mathlib.Core.Path.{◌≡◌, refl, sym, ◌∙◌}
use mathlib.Core.Logic.{◌≢◌}
use mathlib.Core.Bool.{Bool, true, false, ◌&&◌, ◌||◌, not, cond}
use mathlib.Core.List.{List, [], ◌∷◌, ◌++◌}
use Prim.Native.Nat.{ℕ, ◌≤◌}
use native.Mathlib.Omega.{arith}
use lib.Dec.{eqb}
use lib.ListN.{length, drop}
use lib.Seq.{drop_at}
use borrow.Author.Tests.{eqb-true, eqb-false, eq-eqb, ltb-false, le-ltb}
use Rattle.text.specs.Text.{member_of}
use Rattle.text.proofs.Laws.{or_right}
use Rattle.layout.specs.Tables.{data_record}
use Rattle.layout.specs.Rules.{record_fault}
use Rattle.versions.specs.declared.Version.TheVariants.{Two}
use Rattle.rules.specs.declared.Kind.TheVariants.{Data}
use Rattle.rules.specs.Answered.{starts_in}
use Rattle.rules.specs.Walks.{first}
use Rattle.rules.proofs.WalkLaws.{clash-bool, AllFail, positive, first_zero, numbers_in, first_in, hit_by, first_hit}
use Rattle.rules.proofs.FaultLaws.{line_fault_starts}
use Rattle.tag_rules.specs.Reading.{is_framed, pairs_of, body_of, draft_of, blank_draft, read_table, read_refusal, TextOutcome, refused_text, text_read}
use Rattle.tag_rules.specs.Writing.{tagged_of, write_table, write_refusal, fault_of, text_written}
use Rattle.tag_rules.specs.Promises.{TextAnswered, NoneNoted, ReadsAnswer, Writable, WritesAnswer, OneRead, OneWrite}
use Rattle.tag_rules.proofs.DraftLaws.{sized_all, sized_blank}
use Rattle.tag_rules.proofs.ReadsBack.{writable}

-- ---- an outcome: what is done, or what is refused by n

module _ (out text : List ℕ) (n pos bytes : ℕ) where
  abbrev done : TextOutcome
  done = record { result = record { refusal = 0; position = 0; bytes = bytes }; output = text ++ drop bytes out }

  abbrev outcome : TextOutcome
  outcome = cond (eqb n 0) done (refused_text n pos out)

  pub refusal_is : outcome.result.refusal ≡ n
  refusal_is = go (eqb n 0) refl
    where
      go : (b : Bool) → eqb n 0 ≡ b → (cond b done (refused_text n pos out)).result.refusal ≡ n
      go true e = sym (eqb-true n 0 e)
      go false e = refl

  module _ (numbers positions : List ℕ) (member : member_of n numbers ≡ true) (place : n ≡ 9 → member_of pos positions ≡ true)
      (long : length text ≡ bytes) (room : n ≡ 0 → bytes ≤ length out) where
    pub answered : TextAnswered numbers positions out outcome
    answered = go (eqb n 0) refl
      where
        untold : (b : Bool) → eqb n 9 ≡ b → n ≢ 9 → cond b pos 0 ≡ 0
        untold true e h = absurd (h (eqb-true n 9 e))
        untold false e h = refl

        go : (b : Bool) → eqb n 0 ≡ b → TextAnswered numbers positions out (cond b done (refused_text n pos out))
        go true e =
            let z = eqb-true n 0 e in
            record {
              number = rw z at member;
              refused = λ h. absurd (h refl);
              unplaced = λ h. refl;
              placed = λ h. absurd (omega arith);
              within = room z;
              rest = drop_at text (drop bytes out) bytes long;
            }
        go false e =
            record {
              number = member;
              refused = λ h. (refl, refl);
              unplaced = untold (eqb n 9) refl;
              placed = λ h. rw (eq-eqb n 9 h) (place h);
              within = omega arith;
              rest = refl;
            }

-- a fault that is told is at a field's first byte
fault_placed : (r : List ℕ) → not (eqb (record_fault data_record r) 0) ≡ true
    → member_of (record_fault data_record r) (starts_in data_record) ≡ true
fault_placed r e = line_fault_starts (Data Two) r (eqb-false (record_fault data_record r) 0 (not-true (eqb (record_fault data_record r) 0) e))

pub or_first : (b : Bool) → (b || false) ≡ true → b ≡ true
or_first true e = refl
or_first false e = e

-- ---- reading

module _ (s out : List ℕ) where
  abbrev number : ℕ
  number = read_refusal s (length out)

  pub line_long : length (draft_of s).line ≡ 512
  unfolding draft_of
  line_long = (sized_all (pairs_of (body_of s)) blank_draft sized_blank).line

  read_member : member_of number (0 ∷ 9 ∷ 25 ∷ 33 ∷ 34 ∷ 35 ∷ 36 ∷ []) ≡ true
  unfolding read_refusal numbers_in
  read_member = first_in (0 ∷ 9 ∷ 25 ∷ 33 ∷ 34 ∷ 35 ∷ 36 ∷ []) (read_table s (length out) (draft_of s)) refl refl

  read_none : number ≡ 0 → NoneNoted s out
  unfolding read_refusal AllFail positive
  read_none e =
      let f = first_zero (read_table s (length out) (draft_of s)) refl e in
      let fault = record_fault data_record (draft_of s).line in
      record {
        framed = not-false (is_framed s) f.0;
        known = f.1.0;
        once = f.1.1.0;
        fit = f.1.1.1.0;
        good = eqb-true fault 0 (not-false (eqb fault 0) f.1.1.1.1.0);
        room = ltb-false (length out) 512 f.1.1.1.1.1.0;
      }

  pub none_read : NoneNoted s out → number ≡ 0
  unfolding read_refusal first
  none_read t = rw (t.framed, t.known, t.once, t.fit, t.good, le-ltb (length out) 512 t.room) refl

  read_placed : number ≡ 9 → member_of (record_fault data_record (draft_of s).line) (starts_in data_record) ≡ true
  unfolding read_refusal hit_by
  read_placed e =
      fault_placed (draft_of s).line
      (or_first (not (eqb (record_fault data_record (draft_of s).line) 0))
      (first_hit 9 (read_table s (length out) (draft_of s)) (λ z. omega arith) e))

pub reads_answer : ReadsAnswer
unfolding ReadsAnswer text_read
reads_answer s out = (
  answered out (draft_of s).line (number s out) (record_fault data_record (draft_of s).line) 512 (0 ∷ 9 ∷ 25 ∷ 33 ∷ 34 ∷ 35 ∷ 36 ∷ [])
      (starts_in data_record) (read_member s out) (read_placed s out) (line_long s out) (λ z. (read_none s out z).room),
  (λ e. read_none s out (sym is ∙ e), λ t. is ∙ none_read s out t),
)
  where
    is : (text_read s out).result.refusal ≡ number s out
    is = refusal_is out (draft_of s).line (number s out) (record_fault data_record (draft_of s).line) 512

-- ---- writing

module _ (r out : List ℕ) where
  abbrev told : ℕ
  told = write_refusal r (length out)

  write_member : member_of told (0 ∷ 9 ∷ 25 ∷ 37 ∷ []) ≡ true
  unfolding write_refusal numbers_in
  write_member = first_in (0 ∷ 9 ∷ 25 ∷ 37 ∷ []) (write_table r (length out)) refl refl

  writable_written : Writable r out → told ≡ 0
  unfolding write_refusal first
  writable_written t = rw (t.long, t.good, t.form, le-ltb (length out) (length (tagged_of r)) t.room) refl

  write_placed : told ≡ 9 → member_of (fault_of r) (0 ∷ starts_in data_record) ≡ true
  unfolding write_refusal hit_by
  write_placed e =
      go (eqb (length r) 512) (eqb (record_fault data_record r) 0) refl
      (or_first (not (eqb (length r) 512 && eqb (record_fault data_record r) 0))
      (first_hit 9 (write_table r (length out)) (λ z. omega arith) e))
    where
      go : (a b : Bool) → eqb (record_fault data_record r) 0 ≡ b → not (a && b) ≡ true
          → member_of (cond a (record_fault data_record r) 0) (0 ∷ starts_in data_record) ≡ true
      go false b q h = refl
      go true true q h = clash-bool h refl
      go true false q h =
          or_right (eqb 0 (record_fault data_record r)) (member_of (record_fault data_record r) (starts_in data_record))
          (fault_placed r (rw q refl))

pub writes_answer : WritesAnswer
unfolding WritesAnswer text_written
writes_answer r out = (
  answered out (tagged_of r) (told r out) (fault_of r) (length (tagged_of r)) (0 ∷ 9 ∷ 25 ∷ 37 ∷ []) (0 ∷ starts_in data_record)
      (write_member r out) (write_placed r out) refl (λ z. (writable r out z).room),
  (λ e. writable r out (sym is ∙ e), λ t. is ∙ writable_written r out t),
)
  where
    is : (text_written r out).result.refusal ≡ told r out
    is = refusal_is out (tagged_of r) (told r out) (fault_of r) (length (tagged_of r))

-- ---- one outcome

pub one_read : OneRead
unfolding OneRead
one_read s out a b c d p q = (p.0 ∙ sym q.0, p.1 ∙ sym q.1)

pub one_write : OneWrite
unfolding OneWrite
one_write r out a b c d p q = (p.0 ∙ sym q.0, p.1 ∙ sym q.1)

-- What a pair leaves of a draft, by its label: one that is not taken is noted and nothing else; one that is taken is seen, and its value
-- is put into its row. So no pair changes how many bytes there are. Assumes nothing.
use Rattle.std.specs.Prelude.{Option, Some, None}
use mathlib.Core.Path.{◌≡◌, refl, ap, ◌∙◌}
use mathlib.Core.Logic.{◌≢◌}
use mathlib.Core.Bool.{Bool, true, false, cond}
use mathlib.Core.List.{List, [], ◌∷◌}
use Prim.Native.Nat.{ℕ, ◌<◌}
use native.Mathlib.Omega.{arith}
use lib.Dec.{eqb}
use lib.ListN.{length, get_or, length-set, length-replicate}
use lib.Seq.{get_or-set_same, get_or-set_other}
use Rattle.text.specs.Text.{part, spaces, put_at}
use Rattle.rules.proofs.WalkLaws.{find_some}
use Rattle.rules.proofs.LoadLength.{put_length}
use Rattle.tag_rules.specs.Tags.{calendar_date, postal, span_at, span_size, form_at}
use Rattle.tag_rules.specs.Forms.{turned, spread}
use Rattle.tag_rules.specs.Reading.{is_label, tag_of, value_in, Draft, unknown_taken, label_taken, pair_taken, all_taken, blank_draft}

-- ---- the label of a pair

pub data Tag (p : List ℕ) : Type 0 where
  unknown : tag_of p ≡ None → Tag p
  known : (k : ℕ) → k < 28 → tag_of p ≡ Some k → Tag p

pub tag_is : (p : List ℕ) → Tag p
unfolding tag_of
tag_is p = go (tag_of p) refl
  where
    go : (o : Option ℕ) → tag_of p ≡ o → Tag p
    go None e = unknown e
    go (Some k) e = known k (find_some (is_label p) 28 k e).0 e

-- ---- what it leaves

module _ (p : List ℕ) (w : Draft) where
  pub took_unknown : tag_of p ≡ None → pair_taken p w ≡ unknown_taken w
  unfolding pair_taken
  took_unknown e = rw e refl

  pub took_known : (k : ℕ) → tag_of p ≡ Some k → pair_taken p w ≡ label_taken k (value_in p) w
  unfolding pair_taken
  took_known k e = rw e refl

-- ---- how many bytes there are

-- a value stands for as many bytes as its row has
pub spread_length : (form n : ℕ) (v : List ℕ) → length (spread form n v) ≡ n
unfolding spread
spread_length form n v = go (eqb form calendar_date) (eqb form postal)
  where
    long : length (spaces n) ≡ n
    long = length-replicate {A = ℕ} n 32

    go : (a b : Bool)
        → length
        (cond a (put_at 0 (turned v) (spaces n))
        (cond b (put_at 5 (part 6 4 v) (put_at 0 (part 0 5 v) (spaces n))) (put_at 0 v (spaces n))))
        ≡ n
    go true b = put_length 0 (turned v) (spaces n) ∙ long
    go false true = put_length 5 (part 6 4 v) (put_at 0 (part 0 5 v) (spaces n)) ∙ put_length 0 (part 0 5 v) (spaces n) ∙ long
    go false false = put_length 0 v (spaces n) ∙ long

-- a byte for each label, and those of a record
pub record Sized (w : Draft) : Type 0 where
  pub seen : length w.seen ≡ 28
  pub line : length w.line ≡ 512

pub sized_pair : (p : List ℕ) (w : Draft) → Sized w → Sized (pair_taken p w)
sized_pair p w z = go (tag_is p)
  where
    go : Tag p → Sized (pair_taken p w)
    go (unknown e) = rw (took_unknown p w e) (record { seen = z.seen; line = z.line })
    go (known k h e) =
        rw (took_known p w k e)
        (record {
          seen = length-set w.seen k _ ∙ z.seen;
          line = put_length (span_at k) (spread (form_at k) (span_size k) (value_in p)) w.line ∙ z.line;
        })

pub sized_all : (ps : List (List ℕ)) (w : Draft) → Sized w → Sized (all_taken ps w)
unfolding all_taken
sized_all [] w z = z
sized_all (p ∷ ps) w z = sized_all ps (pair_taken p w) (sized_pair p w z)

pub sized_blank : Sized blank_draft
sized_blank = record { seen = refl; line = refl }

-- ---- which labels were seen

-- a label is seen when it was taken
pub seen_now : (k : ℕ) (v : List ℕ) (w : Draft) → Sized w → k < 28 → eqb (get_or (label_taken k v w).seen k 0) 1 ≡ true
seen_now k v w z h = ap (λ (x : ℕ). eqb x 1) (get_or-set_same w.seen k _ 0 (omega (arith, z.seen)))

-- and no other
pub seen_other : (j k : ℕ) (v : List ℕ) (w : Draft) → k ≢ j → get_or (label_taken j v w).seen k 0 ≡ get_or w.seen k 0
seen_other j k v w n = get_or-set_other w.seen j k _ 0 n

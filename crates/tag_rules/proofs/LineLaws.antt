-- A value put into its row: the row then has it, and the other rows are as they were. Assumes nothing.
use mathlib.Core.Path.{◌≡◌, refl, ap, ◌∙◌}
use mathlib.Core.Logic.{◌≢◌}
use mathlib.Core.Bool.{Bool, true, false, ◌||◌}
use mathlib.Core.List.{List, ◌++◌}
use Prim.Native.Nat.{ℕ, ◌+◌, ◌≤◌, ◌<◌}
use native.Mathlib.Omega.{arith}
use lib.Dec.{leb}
use lib.ListN.{length, take, drop}
use borrow.Author.Tests.{leb-true}
use Rattle.text.specs.Text.{part, put_at}
use Rattle.rules.proofs.PlaceLaws.{mid_length, mid_same, mid_before, mid_after}
use Rattle.rules.proofs.SlotLaws.{put_is}
use Rattle.tag_rules.specs.Tags.{span_at, span_size, span_of}
use Rattle.tag_rules.proofs.TagLaws.{span_in, span_clear}

module _ (l b : List ℕ) (k : ℕ) (w : length l ≡ 512) (h : k < 32) (e : length b ≡ span_size k) where
  room : span_at k + span_size k ≤ length l
  room = omega (arith, span_in k h)

  is : put_at (span_at k) b l ≡ take (span_at k) l ++ (b ++ drop (span_size k) (drop (span_at k) l))
  is = put_is (span_at k) (span_size k) b l e room

  pub put_long : length (put_at (span_at k) b l) ≡ 512
  put_long = ap length is ∙ mid_length l b (span_at k) (span_size k) room e ∙ w

  pub put_row : span_of k (put_at (span_at k) b l) ≡ b
  put_row = ap (part (span_at k) (span_size k)) is ∙ mid_same l b (span_at k) (span_size k) room e

  pub put_other : (j : ℕ) → j < 32 → j ≢ k → span_of j (put_at (span_at k) b l) ≡ span_of j l
  put_other j i n = ap (part (span_at j) (span_size j)) is ∙ go (leb (span_at j + span_size j) (span_at k)) refl (span_clear k j h i n)
    where
      go : (v : Bool) → leb (span_at j + span_size j) (span_at k) ≡ v → (v || leb (span_at k + span_size k) (span_at j)) ≡ true
          → part (span_at j) (span_size j) (take (span_at k) l ++ (b ++ drop (span_size k) (drop (span_at k) l)))
          ≡ part (span_at j) (span_size j) l
      go true q t = mid_before l b (span_at k) (span_size k) room e (span_at j) (span_size j) (leb-true (span_at j + span_size j) (span_at k) q)
      go false q t = mid_after l b (span_at k) (span_size k) room e (span_at j) (span_size j) (leb-true (span_at k + span_size k) (span_at j) t)

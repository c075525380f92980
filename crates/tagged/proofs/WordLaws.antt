-- Two labels are the same as numbers exactly if they are the same, since their letters are bytes.
-- Assumes nothing.
use Rattle.std.proofs.Common.{◌≡◌, ℕ, zero, suc, ◌+◌, ◌*◌, ◌<◌, ◌⊎◌, inl, inr, true, false, List, [], ◌∷◌, None, get_or, length, drop, refl, sym, ap, ◌∙◌, nat_eq, w32, leb, arith, length-take}
use Rattle.std.specs.Int.{from_le_bytes}
use Rattle.std.proofs.lemmas.Nat.{le_bytes_4}
use Rattle.std.proofs.lemmas.List.{get_or_past, get_or-take, get_or-drop}
use native.Mathlib.Decide.{ℕ_discrete, dec_lt}
use borrow.Author.Tests.{eq-eqb, ne_eqb, leb-false}
use Rattle.text.specs.Text.{same_bytes}
use Rattle.text.proofs.Laws.{same_true, same_refl}
use Rattle.rules.specs.Walks.{find}
use Rattle.rules.proofs.WalkLaws.{decided, find_none}
use Rattle.tag_rules.specs.Tags.{labels, label_at}

-- the letters of the labels are bytes, and so are four that are
no_high : find (λ i. leb 256 (get_or labels i 0)) 84 ≡ None
unfolding find
no_high = refl

letters_low : (i : ℕ) → get_or labels i 0 < 256
letters_low i = go (dec_lt i 84)
  where
    go : Dec (i < 84) → get_or labels i 0 < 256
    go (yes h) = leb-false 256 (get_or labels i 0) (find_none (λ i. leb 256 (get_or labels i 0)) 84 no_high i h)
    go (no h) = let e : get_or labels i 0 ≡ 0 = get_or_past labels i 0 (omega arith) in omega (arith, e)

pub label_low : (k i : ℕ) → get_or (124 ∷ label_at k) i 0 < 256
label_low k zero = omega arith
label_low k (suc i) = go (dec_lt i 3)
  where
    go : Dec (i < 3) → get_or (label_at k) i 0 < 256
    go (yes h) =
        let e : get_or (label_at k) i 0 ≡ get_or labels (3 * k + i) 0 =
        get_or-take 3 (drop (3 * k) labels) i 0 h ∙ get_or-drop (3 * k) labels i 0 in
        omega (arith, e, letters_low (3 * k + i))
    go (no h) =
        let l = length-take 3 (drop (3 * k) labels) in
        let e : get_or (label_at k) i 0 ≡ 0 = get_or_past (label_at k) i 0 (omega (arith, l)) in
        omega (arith, e)

pub four_low : (a b c d : ℕ) → a < 256 → b < 256 → c < 256 → d < 256 → (i : ℕ)
    → get_or (a ∷ b ∷ c ∷ d ∷ []) i 0 < 256
four_low a b c d p q r s zero = p
four_low a b c d p q r s (suc zero) = q
four_low a b c d p q r s (suc (suc zero)) = r
four_low a b c d p q r s (suc (suc (suc zero))) = s
four_low a b c d p q r s (suc (suc (suc (suc i)))) = omega arith

abbrev pub word : List ℕ → ℕ
word s = from_le_bytes w32 s

module _ (s t : List ℕ) (m : length s ≡ 4) (n : length t ≡ 4)
    (h : (i : ℕ) → get_or s i 0 < 256) (j : (i : ℕ) → get_or t i 0 < 256) where
  pub same_word : nat_eq (word s) (word t) ≡ same_bytes s t
  same_word = go (ℕ_discrete (word s) (word t)) (decided (same_bytes s t))
    where
      go : Dec (word s ≡ word t) → (same_bytes s t ≡ true) ⊎ (same_bytes s t ≡ false)
          → nat_eq (word s) (word t) ≡ same_bytes s t
      go (yes e) d =
          let same : s ≡ t = sym (le_bytes_4 s (word s) m h refl) ∙ le_bytes_4 t (word s) n j e in
          eq-eqb (word s) (word t) e ∙ sym (ap (λ (x : List ℕ). same_bytes x t) same ∙ same_refl t)
      go (no e) (inl d) = absurd (e (ap word (same_true s t d)))
      go (no e) (inr d) = ne_eqb (word s) (word t) e ∙ sym d

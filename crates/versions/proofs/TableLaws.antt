-- A record that is written field by field: each field of a table starts where those before it end (`begins`), so that field k of what is
-- written is what was written k-th, blanks behind. Widened and narrowed records are written so, by one table each, and every law of their
-- bytes is one of these, cited for both. What the tables themselves are asked is computed (`all_to`) and read off by k (all_to_lem).
-- Assumes nothing.
use mathlib.Core.Path.{◌≡◌, refl, sym, ap, ◌∙◌}
use mathlib.Core.Bool.{Bool, true, false, ◌&&◌, ◌||◌}
use mathlib.Core.List.{List, [], ◌∷◌, ◌++◌, append-nil, append_assoc}
use Prim.Native.Nat.{ℕ, zero, suc, ◌+◌, ◌-◌, ◌≤◌, ◌<◌, min}
use native.Mathlib.Omega.{arith}
use native.Mathlib.Decide.{dec_lt}
use lib.Dec.{leb, ltb, eqb}
use lib.ListN.{length, take, drop, get_or, length-append, length-take, length-replicate, replicate-append-replicate}
use lib.Seq.{take_at, drop_at, take-add}
use borrow.Author.Tests.{eqb-true, leb-true, ltb-true, le-leb}
use Rattle.text.specs.Text.{part, put_at, spaces}
use Rattle.text.proofs.Laws.{and_left, and_right}
use Rattle.layout.specs.Tables.{code, first_code, data_record, narrow_record, start_of, size_of, field}
use Rattle.layout.proofs.LineLaws.{part_long}
use Rattle.versions.specs.declared.Version.{Version}
use Rattle.versions.specs.declared.Version.TheVariants.{One, Two}
use Rattle.versions.specs.Versions.{table_of, move_to, moved, widened, narrowed}
use Rattle.versions.specs.Versions.{fields, position_of, rule_of, all_to, end_of, begins, trails, alone, shares_rule, shares}
use Rattle.versions.specs.Versions.{filled, widen_to, narrow_to}
use Rattle.versions.specs.Versions.{data_begins, narrow_begins, data_ends, same_fields}

-- ---- what is computed of a table

-- a test that every number below n passes
pub all_to_lem : (p : ℕ → Bool) (n k : ℕ) → all_to p n ≡ true → k < n → p k ≡ true
all_to_lem p zero k h l = absurd (omega arith)
all_to_lem p (suc n) k h l = go (λ m. all_to_lem p n k (and_left (all_to p n) (p n) h) m) (dec_lt k n)
  where
    go : (k < n → p k ≡ true) → Dec (k < n) → p k ≡ true
    go ih (yes m) = ih m
    go ih (no m) = let e : k ≡ n = omega arith in rw e (and_right (all_to p n) (p n) h)

-- positions count from 1
pub placed : (v : Version) (k : ℕ) → k < fields → 1 ≤ position_of (table_of v) k
placed v k l = leb-true 1 (position_of (table_of v) k) (all_to_lem (λ k. leb 1 (position_of (table_of v) k)) fields k (all v) l)
  where
    all : (v : Version) → all_to (λ k. leb 1 (position_of (table_of v) k)) fields ≡ true
    all One = refl
    all Two = refl

-- the numbers of n fields from field j on in a row; number k of all fields is that of field k
abbrev pub in_row : (ℕ → ℕ) → ℕ → ℕ → List ℕ
in_row f zero j = []
in_row f (suc n) j = f j ∷ in_row f n (suc j)

in_row_lem : (f : ℕ → ℕ) (n j k : ℕ) → k < n → get_or (in_row f n j) k 0 ≡ f (j + k)
in_row_lem f zero j k l = absurd (omega arith)
in_row_lem f (suc n) j zero l = let e : j ≡ j + 0 = omega arith in ap f e
in_row_lem f (suc n) j (suc k) l = let e : suc j + k ≡ j + suc k = omega arith in in_row_lem f n (suc j) k (omega arith) ∙ ap f e

pub number_at : (f : ℕ → ℕ) (k : ℕ) → k < fields → get_or (in_row f fields 0) k 0 ≡ f k
number_at f k l = let e : 0 + k ≡ k = omega arith in in_row_lem f fields 0 k l ∙ ap f e

-- field k starts where those before it end
starts : (t : List ℕ) → all_to (begins t) fields ≡ true → (k : ℕ) → k < fields → start_of t k ≡ end_of t k
starts t b k l = eqb-true (start_of t k) (end_of t k) (all_to_lem (begins t) fields k b l)

-- and ends no later than any field behind it
end_within : (t : List ℕ) (k n : ℕ) → k < n → end_of t k + size_of t k ≤ end_of t n
unfolding end_of
end_within t k zero l = absurd (omega arith)
end_within t k (suc n) l = go (λ m. end_within t k n m) (dec_lt k n)
  where
    go : (k < n → end_of t k + size_of t k ≤ end_of t n) → Dec (k < n) → end_of t k + size_of t k ≤ end_of t n + size_of t n
    go ih (yes m) = omega (arith, ih m)
    go ih (no m) = let e : k ≡ n = omega arith in rw e (omega arith)

field_within : (t : List ℕ) → all_to (begins t) fields ≡ true → (k : ℕ) → k < fields
    → start_of t k + size_of t k ≤ end_of t fields
field_within t b k l = rw (starts t b k l) (end_within t k fields l)

-- so the first n bytes of it are there, in a record that has all fields
pub bytes_there : (t : List ℕ) → all_to (begins t) fields ≡ true → (k n : ℕ) (r : List ℕ) → k < fields → n ≤ size_of t k
    → end_of t fields ≤ length r → length (part (start_of t k) n r) ≡ n
bytes_there t b k n r l m h =
    let e = field_within t b k l in
    part_long r (start_of t k) n (omega arith) (omega arith)

-- the rule of field k looks at its own bytes alone, and is the same in both versions but for the codes
pub rule_shared : (k : ℕ) → k < fields
    → (alone (rule_of data_record k) ≡ true)
    × (shares_rule (size_of data_record k) (rule_of data_record k) (size_of narrow_record k) (rule_of narrow_record k) ≡ true)
rule_shared k l =
    let a = alone (rule_of data_record k) in
    let b = shares_rule (size_of data_record k) (rule_of data_record k) (size_of narrow_record k) (rule_of narrow_record k) in
    let h = all_to_lem shares fields k same_fields l in
    (and_left a b h, and_right a b h)

-- so none is longer in Version 1
no_longer : (n r m q : ℕ) → shares_rule n r m q ≡ true → m ≤ n
no_longer n r m q h = go (eqb m n) refl h
  where
    go : (b : Bool) → eqb m n ≡ b
        → ((b && (eqb q r || (eqb q first_code && eqb r code))) || (ltb m n && (eqb q r && trails m r))) ≡ true → m ≤ n
    go true e h = omega (arith, eqb-true m n e)
    go false e h = omega (arith, ltb-true m n (and_left (ltb m n) (eqb q r && trails m r) h))

pub shorter : (k : ℕ) → k < fields → size_of narrow_record k ≤ size_of data_record k
shorter k l =
    no_longer (size_of data_record k) (rule_of data_record k) (size_of narrow_record k) (rule_of narrow_record k) (rule_shared k l).1

-- where a field's bytes of Version 1 end in Version 2
pub tail_start : (k : ℕ) → k < fields → start_of data_record k + size_of narrow_record k ≤ 512
tail_start k l =
    let e = data_ends in
    omega (arith, shorter k l, field_within data_record data_begins k l)

-- ---- a field, blanks behind

-- it has n bytes, and is the field alone where that has them
pub filled_length : (n : ℕ) (f : List ℕ) → length f ≤ n → length (filled n f) ≡ n
filled_length n f h = rw (length-append, length-replicate) (omega arith)

pub filled_whole : (n : ℕ) (f : List ℕ) → length f ≡ n → filled n f ≡ f
filled_whole n f h = let z : n - length f ≡ 0 = omega arith in rw z (append-nil f)

-- it is what a field put over blanks gives, behind the bytes a
put_filled : (a f : List ℕ) (i n m : ℕ) → length a ≡ i → length f ≤ n → i + n ≤ m
    → put_at i f (a ++ spaces (m - i)) ≡ (a ++ filled n f) ++ spaces (m - (i + n))
unfolding put_at
put_filled a f i n m h l b =
    let x = spaces (n - length f) ++ spaces (m - (i + n)) in
    let e : length f + ((n - length f) + (m - (i + n))) ≡ m - i = omega arith in
    let c : a ++ spaces (m - i) ≡ (a ++ spaces (length f)) ++ x =
    rw (append_assoc, replicate-append-replicate, replicate-append-replicate, e) refl in
    let d : length (a ++ spaces (length f)) ≡ i + length f = rw (length-append, length-replicate) (omega arith) in
    let o : i + length f ≤ length (a ++ spaces (m - i)) = rw (length-append, length-replicate) (omega arith) in
    let p = take_at a (spaces (m - i)) i h in
    let q : drop (i + length f) (a ++ spaces (m - i)) ≡ x =
    ap (drop (i + length f)) c ∙ drop_at (a ++ spaces (length f)) x (i + length f) d in
    rw (le-leb (i + length f) (length (a ++ spaces (m - i))) o, p, q) (simp append_assoc)

-- ---- a record written by the table t: w k is its first k fields, of which field k has the bytes y k and blanks behind

pub record Written (t : List ℕ) (w y : ℕ → List ℕ) : Type 0 where
  pub begun : all_to (begins t) fields ≡ true
  pub none : w 0 ≡ []
  pub more : (k : ℕ) → w (suc k) ≡ w k ++ filled (size_of t k) (y k)
  pub fits : (k : ℕ) → k < fields → length (y k) ≤ size_of t k

module _ {t : List ℕ} {w y : ℕ → List ℕ} (v : Written t w y) where
  -- its first k fields have the bytes that the table says
  pub written_length : (k : ℕ) → k ≤ fields → length (w k) ≡ end_of t k
  unfolding end_of
  written_length zero l = ap length v.none
  written_length (suc k) l =
      let e = filled_length (size_of t k) (y k) (v.fits k l) in
      rw (v.more k, length-append, written_length k (omega arith), e) refl

  -- the fields before field k, its own bytes, and those behind it
  split : (k n : ℕ) → k < n → (rest : List ℕ) × (w n ≡ w k ++ (filled (size_of t k) (y k) ++ rest))
  split k zero l = absurd (omega arith)
  split k (suc n) l = go (λ m. split k n m) (dec_lt k n)
    where
      go : (k < n → (rest : List ℕ) × (w n ≡ w k ++ (filled (size_of t k) (y k) ++ rest))) → Dec (k < n)
          → (rest : List ℕ) × (w (suc n) ≡ w k ++ (filled (size_of t k) (y k) ++ rest))
      go ih (yes m) =
          let s = ih m in
          let x = filled (size_of t n) (y n) in
          (s.0 ++ x, v.more n ∙ ap (λ z. z ++ x) s.1 ∙ simp append_assoc)
      go ih (no m) = let z : n ≡ k = omega arith in ([], v.more n ∙ rw (z, append-nil) refl)

  -- field k, read by the table, is what was written
  pub written_field : (k : ℕ) → k < fields → field t k (w fields) ≡ filled (size_of t k) (y k)
  written_field k l =
      let x = filled (size_of t k) (y k) in
      let s = split k fields l in
      let a = written_length k (omega arith) ∙ sym (starts t v.begun k l) in
      ap (field t k) s.1
      ∙ ap (take (size_of t k)) (drop_at (w k) (x ++ s.0) (start_of t k) a)
      ∙ take_at x s.0 (size_of t k) (filled_length (size_of t k) (y k) (v.fits k l))

  -- where each is the field of a record r, the whole is r
  pub written_back : (r : List ℕ) → ((k : ℕ) → k < fields → filled (size_of t k) (y k) ≡ field t k r)
      → (k : ℕ) → k ≤ fields → w k ≡ take (end_of t k) r
  unfolding end_of
  written_back r same zero l = v.none
  written_back r same (suc k) l =
      let e = ap (λ j. part j (size_of t k) r) (starts t v.begun k l) in
      rw (v.more k, same k l, written_back r same k (omega arith), e) (sym (take-add (end_of t k) (size_of t k) r))

  -- field k put over the blanks behind the first k fields, in a record of m bytes
  pub written_put : (k m : ℕ) → k < fields → end_of t fields ≡ m → {out : List ℕ} → out ≡ w k ++ spaces (m - end_of t k)
      → put_at (start_of t k) (y k) out ≡ w (suc k) ++ spaces (m - end_of t (suc k))
  unfolding end_of
  written_put k m l e inv =
      let i = starts t v.begun k l in
      let a = written_length k (omega arith) in
      let b : end_of t k + size_of t k ≤ m = omega (arith, end_within t k fields l) in
      rw (v.more k, inv, i) (put_filled (w k) (y k) (end_of t k) (size_of t k) m a (v.fits k l) b)

  -- a record written with the same fields is the same
  pub written_same : {w' y' : ℕ → List ℕ} → Written t w' y' → ((k : ℕ) → k < fields → y k ≡ y' k)
      → (k : ℕ) → k ≤ fields → w k ≡ w' k
  written_same o same zero l = v.none ∙ sym o.none
  written_same o same (suc k) l = rw (v.more k, o.more k, same k l, written_same o same k (omega arith)) refl

-- ---- the two of them

pub wide_written : (r : List ℕ) → Written data_record (widen_to r) (λ k. field narrow_record k r)
unfolding widen_to
wide_written r =
    record {
      begun = data_begins;
      none = refl;
      more = λ k. refl;
      fits = λ k l. rw length-take (omega (arith, shorter k l));
    }

pub narrow_written : (r : List ℕ)
    → Written narrow_record (narrow_to r) (λ k. part (start_of data_record k) (size_of narrow_record k) r)
unfolding narrow_to
narrow_written r =
    record {
      begun = narrow_begins;
      none = refl;
      more = λ k. refl;
      fits = λ k l. rw length-take (omega arith);
    }

-- ---- and both, from one version to another

pub moved_written : (v u : Version) (r : List ℕ)
    → Written (table_of u) (move_to (table_of v) (table_of u) r)
    (λ k. part (start_of (table_of v) k) (min (size_of (table_of v) k) (size_of (table_of u) k)) r)
unfolding move_to
moved_written v u r =
    record {
      begun = begun u;
      none = refl;
      more = λ k. refl;
      fits = λ k l. rw length-take (omega arith);
    }
  where
    begun : (u : Version) → all_to (begins (table_of u)) fields ≡ true
    begun One = narrow_begins
    begun Two = data_begins

pub moved_wide : (r : List ℕ) → moved narrow_record data_record r ≡ widened r
unfolding widened
moved_wide r =
    let same = λ (k : ℕ) (l : k < fields).
    let e : min (size_of narrow_record k) (size_of data_record k) ≡ size_of narrow_record k = omega (arith, shorter k l) in
    ap (λ n. part (start_of narrow_record k) n r) e in
    written_same (moved_written One Two r) (wide_written r) same fields (omega arith)

pub moved_narrow : (r : List ℕ) → moved data_record narrow_record r ≡ narrowed r
unfolding narrowed
moved_narrow r =
    let same = λ (k : ℕ) (l : k < fields).
    let e : min (size_of data_record k) (size_of narrow_record k) ≡ size_of narrow_record k = omega (arith, shorter k l) in
    ap (λ n. part (start_of data_record k) n r) e in
    written_same (moved_written Two One r) (narrow_written r) same fields (omega arith)

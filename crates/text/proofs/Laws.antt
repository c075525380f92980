-- turn and ended, the two laws of every loop that walks a list from the front: its invariant is that a definition f says of what is left
-- at i what is asked, `f (drop i s) ≡ v`, as `f s`. Where a byte is left, f says it of that byte and the rest; where none is left, of [].
-- With them the laws of and and or, of two lists that are the same, of the run of a class, and what a lent part is.
-- Assumes nothing.
use mathlib.Core.Path.{◌≡◌, ◌∙◌, refl, sym, ap}
use mathlib.Core.Bool.{Bool, true, false, ◌&&◌, ◌||◌, cond}
use mathlib.Core.List.{List, [], ◌∷◌, ◌++◌}
use Prim.Native.Nat.{ℕ, zero, suc, ◌+◌, ◌-◌, ◌^◌, ◌≤◌, ◌<◌}
use native.Mathlib.Nat.{pow-le-pow_right, add-sub_cancel_left}
use native.Mathlib.Omega.{arith}
use native.Mathlib.Numerals.{add-one}
use lib.Dec.{lit≤, eqb, eqb-zero-suc, eqb-suc-suc}
use lib.ListN.{length, take, drop, get_or, length-take, length-drop, length-replicate, replicate-append-replicate, drop_of_length-le}
use lib.Seq.{drop-cons, take-length, take-nil, take_all, drop-drop, take_at, drop_at}
use borrow.Author.Tests.{eqb-true, eq-eqb, le-leb, lt-leb}
use Rattle.std.specs.List.{list_all}
use Rattle.std.specs.Prelude.{Option, Some, None}
use Rattle.text.specs.Text.{in_class, all_in, run_of, member_of, all_of, same_bytes, part, eight_same, put_at, spaces, digits, among_spaces, on_some}
use Rattle.text.specs.declared.Class.{Class}

-- what holds of what is made of a value, and of what stands where there is none
pub on_some_lem : {A B : Type 0} (P : B → Type 0) (o : Option A) (x : B) (k : A → B)
    → (o ≡ None → P x) → ((a : A) → o ≡ Some a → P (k a)) → P (on_some o x k)
on_some_lem P (Some a) x k p q = q a refl
on_some_lem P None x k p q = p refl

-- both tests, of the two
pub and_left : (a b : Bool) → (a && b) ≡ true → a ≡ true
and_left true b h = refl
and_left false b h = h

pub and_right : (a b : Bool) → (a && b) ≡ true → b ≡ true
and_right true b h = h
and_right false b h = let z : ◌≡◌ {A = ℕ} 0 1 = cc in absurd (omega arith)

pub and_false : (a : Bool) → (a && false) ≡ false
and_false true = refl
and_false false = refl

-- one of two suffices
pub or_left : (a b : Bool) → a ≡ true → (a || b) ≡ true
or_left a b h = rw h

pub or_right : (a b : Bool) → b ≡ true → (a || b) ≡ true
or_right true b h = refl
or_right false b h = h

pub left_at : (s : List ℕ) (i : ℕ) → i < length s → drop i s ≡ get_or s i 0 ∷ drop (i + 1) s
left_at s i h = rw (add-one, drop-cons s i 0)

module _ {A : Type 0} (f : List ℕ → A) (s : List ℕ) (i : ℕ) {v : A} where
  pub turn : i < length s → f (drop i s) ≡ v → f (get_or s i 0 ∷ drop (i + 1) s) ≡ v
  turn h inv = sym (ap f (left_at s i h)) ∙ inv

  pub ended : length s ≤ i → f (drop i s) ≡ v → f [] ≡ v
  ended h inv = sym (ap f (drop_of_length-le s h)) ∙ inv

-- a smaller power of ten
pub small_power : (i k : ℕ) → i ≤ k → 10 ^ i ≤ 10 ^ k
small_power i k h = pow-le-pow_right (lit≤ tt) h

-- a part from i to i + n, as the code takes it
pub part_is : (s : List ℕ) (i n : ℕ) → take ((i + n) - i) (drop i s) ≡ take n (drop i s)
part_is s i n = rw add-sub_cancel_left

-- a part from i to the end
pub rest_is : (s : List ℕ) (i : ℕ) → take (length s - i) (drop i s) ≡ drop i s
rest_is s i = rw (← length-drop i s) (take-length (drop i s))

-- the test of bytes is the equality of the lists
pub same_true : (s t : List ℕ) → same_bytes s t ≡ true → s ≡ t
same_true [] [] h = refl
same_true [] (b ∷ t) h = let z : ◌≡◌ {A = ℕ} 0 1 = cc in absurd (omega arith)
same_true (a ∷ s) [] h = let z : ◌≡◌ {A = ℕ} 0 1 = cc in absurd (omega arith)
same_true (a ∷ s) (b ∷ t) h =
    let e : a ≡ b = eqb-true a b (and_left (eqb a b) (same_bytes s t) h) in
    let r : s ≡ t = same_true s t (and_right (eqb a b) (same_bytes s t) h) in
    cc

pub same_refl : (s : List ℕ) → same_bytes s s ≡ true
same_refl [] = refl
same_refl (a ∷ s) = rw (eq-eqb a a refl) (same_refl s)

-- parts of different lengths are not the same, nor are parts that differ in a part
pub same_lengths : (s t : List ℕ) → (length t ≡ length s → ⊥) → false ≡ same_bytes s t
same_lengths s t n = go (same_bytes s t) refl
  where
    go : (v : Bool) → same_bytes s t ≡ v → false ≡ v
    go true e = absurd (n (ap length (sym (same_true s t e))))
    go false e = refl

pub same_part_not : (s t : List ℕ) (i n : ℕ) → same_bytes (part i n s) (part i n t) ≡ false → same_bytes s t ≡ false
same_part_not s t i n h = go (same_bytes s t) refl
  where
    go : (v : Bool) → same_bytes s t ≡ v → v ≡ false
    go true e = sym (same_refl (part i n s)) ∙ ap (λ x. same_bytes (part i n s) (part i n x)) (same_true s t e) ∙ h
    go false e = refl

-- eight bytes that are there and not the same tell two lists apart
pub eight_not : (s t : List ℕ) (i : ℕ) → i + 8 ≤ length s → i + 8 ≤ length t → eight_same i s t ≡ false → same_bytes s t ≡ false
unfolding eight_same
eight_not s t i p q h =
    same_part_not s t i 8 (rw (le-leb (i + 8) (length s) p, le-leb (i + 8) (length t) q) at h)

-- behind n bytes that are the same, the rest decides
same_past : (n : ℕ) (s t : List ℕ) → same_bytes (take n s) (take n t) ≡ true → same_bytes (drop n s) (drop n t) ≡ same_bytes s t
same_past zero s t h = refl
same_past (suc n) [] [] h = refl
same_past (suc n) [] (b ∷ t) h = let z : ◌≡◌ {A = ℕ} 0 1 = cc in absurd (omega arith)
same_past (suc n) (a ∷ s) [] h = let z : ◌≡◌ {A = ℕ} 0 1 = cc in absurd (omega arith)
same_past (suc n) (a ∷ s) (b ∷ t) h =
    rw (and_left (eqb a b) (same_bytes (take n s) (take n t)) h)
    (same_past n s t (and_right (eqb a b) (same_bytes (take n s) (take n t)) h))

pub same_many : (s t : List ℕ) (i n : ℕ) {v : Bool} → same_bytes (drop i s) (drop i t) ≡ v → same_bytes (part i n s) (part i n t) ≡ true
    → same_bytes (drop (i + n) s) (drop (i + n) t) ≡ v
same_many s t i n inv e = rw (← drop-drop n i s, ← drop-drop n i t) (same_past n (drop i s) (drop i t) e ∙ inv)

-- the run of a class: it has no more bytes than there are, it ends at a byte that is not of it, and goes past one that is
pub run_most : (k : Class) (s : List ℕ) → run_of k s ≤ length s
run_most k [] = omega arith
run_most k (b ∷ s) = go (run_most k s) (in_class k b)
  where
    go : run_of k s ≤ length s → (v : Bool) → cond v (suc (run_of k s)) 0 ≤ suc (length s)
    go ih true = omega arith
    go ih false = omega arith

pub run_ends : (k : Class) (b : ℕ) (s : List ℕ) → in_class k b ≡ false → run_of k (b ∷ s) ≡ 0
run_ends k b s e = rw e

pub run_past : (k : Class) (b : ℕ) (s : List ℕ) → in_class k b ≡ true → run_of k (b ∷ s) ≡ run_of k s + 1
run_past k b s e = rw e (omega arith)

-- the end of the run of a class at a byte that is not of it
module _ (k : Class) (s : List ℕ) (i : ℕ) {v : ℕ} (inv : i + run_of k (drop i s) ≡ v) where
  pub run_stop : i < length s → in_class k (get_or s i 0) ≡ false → i ≡ v
  run_stop h e = let t = rw e at (turn (λ x. i + run_of k x) s i h inv) in omega arith

-- what is of a class from end to end
pub run_whole : (k : Class) (s : List ℕ) → eqb (run_of k s) (length s) ≡ all_in k s
run_whole k [] = refl
run_whole k (b ∷ s) = go (run_whole k s) (in_class k b)
  where
    go : eqb (run_of k s) (length s) ≡ all_in k s → (v : Bool)
        → eqb (cond v (suc (run_of k s)) 0) (suc (length s)) ≡ (v && all_in k s)
    go ih true = eqb-suc-suc (run_of k s) (length s) ∙ ih
    go ih false = eqb-zero-suc (length s)

-- each byte of the set
pub all_of_is : (set s : List ℕ) → list_all (λ b. member_of b set) s ≡ all_of set s
all_of_is set [] = refl
all_of_is set (b ∷ s) = rw (all_of_is set s)

-- a part that runs past the end
pub part_short : (s : List ℕ) (i n : ℕ) → length s ≤ i + n → part i n s ≡ drop i s
part_short s i n h = take_all n (drop i s) (simp length-drop (omega arith))

-- what does not fit is not put
-- a part that was lent and filled whole
pub put_whole : (i : ℕ) (b s : List ℕ) → i + length b ≤ length s
    → take i s ++ (b ++ drop (i + length b - i) (drop i s)) ≡ put_at i b s
unfolding put_at
put_whole i b s h = rw (le-leb _ _ h, add-sub_cancel_left, drop-drop)

pub put_not : (i : ℕ) (b s : List ℕ) → length s < i + length b → s ≡ put_at i b s
unfolding put_at
put_not i b s h = rw (lt-leb _ _ h)

-- a part past the end
pub part_none : (s : List ℕ) (i n : ℕ) → length s < i → [] ≡ part i n s
part_none s i n h = sym (ap (take n) (drop_of_length-le s {i = i} (omega arith)) ∙ take-nil n)

-- spaces, in two
take_spaces : (a m : ℕ) → a ≤ m → take a (spaces m) ≡ spaces a
take_spaces a m h =
    let e : m ≡ a + (m - a) = omega arith in
    ap (λ x. take a (spaces x)) e
    ∙ ap (take a) (sym (replicate-append-replicate a (m - a) 32))
    ∙ take_at (spaces a) (spaces (m - a)) a (length-replicate a 32)

drop_spaces : (a m : ℕ) → a ≤ m → drop a (spaces m) ≡ spaces (m - a)
drop_spaces a m h =
    let e : m ≡ a + (m - a) = omega arith in
    ap (λ x. drop a (spaces x)) e
    ∙ ap (drop a) (sym (replicate-append-replicate a (m - a) 32))
    ∙ drop_at (spaces a) (spaces (m - a)) a (length-replicate a 32)

-- digits written over spaces
pub among_spaces_lem : (a w n m : ℕ) (s d : List ℕ) → a + w ≤ m → s ≡ spaces m → d ≡ digits (length (take (a + w - a) (drop a s))) n
    → take a s ++ (d ++ drop (a + w - a) (drop a s)) ≡ among_spaces a w n m
unfolding among_spaces
among_spaces_lem a w n m s d h f e =
    let k : length s ≡ m = ap length f ∙ length-replicate m 32 in
    let l : length (take (a + w - a) (drop a s)) ≡ w = simp (add-sub_cancel_left, length-take, length-drop) (omega arith) in
    let b : drop (a + w - a) (drop a s) ≡ spaces (m - (a + w)) =
    rw (add-sub_cancel_left, drop-drop) (ap (drop (a + w)) f ∙ drop_spaces (a + w) m h) in
    let t : take a s ≡ spaces a = ap (take a) f ∙ take_spaces a m (omega arith) in
    let g : d ≡ digits w n = e ∙ ap (λ x. digits x n) l in
    cc

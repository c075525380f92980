-- Two rows clash exactly if some house number of one street in one place is covered by both; the same row has the same numbers.
-- Assumes nothing.
use Rattle.std.specs.Prelude.{Option, Some, None}
use mathlib.Core.Path.{◌≡◌, refl, sym, ap, ◌∙◌}
use mathlib.Core.Logic.{◌⊎◌, inl, inr}
use mathlib.Core.Bool.{Bool, true, false, ◌&&◌, ◌||◌}
use mathlib.Core.List.{List}
use Prim.Native.Nat.{ℕ, ◌+◌, ◌%◌, ◌≤◌, min, max}
use native.Mathlib.Decide.{ℕ_discrete}
use native.Mathlib.Omega.{arith}
use lib.Dec.{leb, eqb}
use borrow.Author.Tests.{leb-true, le-leb, eqb-true}
use Rattle.text.specs.Text.{same_bytes, on_some}
use Rattle.text.proofs.Laws.{and_left, and_right, or_left, or_right, same_true, same_refl}
use Rattle.layout.specs.Fields.{house_of, street_of, place_of, row_street_of, row_place_of, low_of, high_of, parity_of, allows, row_esn_of, same_esn}
use Rattle.rules.specs.Covers.{hits, over, covers, same_street, both_allow, meet_from, meets, clash, Shared, ClashExactly, equal_numbers, same_row, SameAlike}
use Rattle.rules.proofs.WalkLaws.{decided, clash-bool}

-- ---- numbers in two ranges

-- a parity allows all numbers that are odd or even alike
pub allows_alike : (p m n : ℕ) → m % 2 ≡ n % 2 → allows p m ≡ allows p n
unfolding allows
allows_alike p m n e = rw e

-- the test of one number
both_of : (p q high n : ℕ) → n ≤ high → allows p n ≡ true → allows q n ≡ true → leb n high && both_allow p q n ≡ true
both_of p q high n h a b = rw (le-leb n high h, a, b)

-- where a number from low to high is of both parities, low is one, or low + 1
pub near : (p q low high n : ℕ) → low ≤ n → n ≤ high → allows p n ≡ true → allows q n ≡ true → meet_from p q high low ≡ true
unfolding meet_from
near p q low high n h k a b = go (ℕ_discrete (low % 2) (n % 2))
  where
    go : Dec (low % 2 ≡ n % 2) → meet_from p q high low ≡ true
    go (yes e) =
        or_left _ (leb (low + 1) high && both_allow p q (low + 1))
        (both_of p q high low (omega arith) (allows_alike p low n e ∙ a) (allows_alike q low n e ∙ b))
    go (no e) =
        let d : (low + 1) % 2 ≡ n % 2 = omega arith in
        let l : low + 1 ≤ high = omega arith in
        or_right (leb low high && both_allow p q low) _
        (both_of p q high (low + 1) l (allows_alike p (low + 1) n d ∙ a) (allows_alike q (low + 1) n d ∙ b))

-- a number from low to high that both parities allow
record Both (p q low high : ℕ) : Type 0 where
  number : ℕ
  above : low ≤ number
  below : number ≤ high
  by_p : allows p number ≡ true
  by_q : allows q number ≡ true

-- the number that passes that test
both_at : (p q low high n : ℕ) → low ≤ n → leb n high && both_allow p q n ≡ true → Both p q low high
both_at p q low high n h e =
    let v = and_right (leb n high) (both_allow p q n) e in
    record {
      number = n;
      above = h;
      below = leb-true n high (and_left (leb n high) (both_allow p q n) e);
      by_p = and_left (allows p n) (allows q n) v;
      by_q = and_right (allows p n) (allows q n) v;
    }

-- low or low + 1, where they meet
both : (p q low high : ℕ) → meet_from p q high low ≡ true → Both p q low high
unfolding meet_from
both p q low high e = go (leb low high && both_allow p q low) refl e
  where
    go : (b : Bool) → leb low high && both_allow p q low ≡ b → b || (leb (low + 1) high && both_allow p q (low + 1)) ≡ true
        → Both p q low high
    go true f e = both_at p q low high low (omega arith) f
    go false f e = both_at p q low high (low + 1) (omega arith) e

-- ---- a row's numbers

-- the row has two ends, and n lies between them and is of its parity
pub record Hit (g : List ℕ) (n : ℕ) : Type 0 where
  pub low : ℕ
  pub high : ℕ
  pub is_low : low_of g ≡ Some low
  pub is_high : high_of g ≡ Some high
  pub above : low ≤ n
  pub below : n ≤ high
  pub allowed : allows (parity_of g) n ≡ true

-- that is what it is for a row to have n
pub hit_of : (g : List ℕ) (n : ℕ) → hits g n ≡ true → Hit g n
unfolding hits
hit_of g n e = go (low_of g) refl (high_of g) refl e
  where
    go : (a : Option ℕ) → low_of g ≡ a → (b : Option ℕ) → high_of g ≡ b
        → on_some a false (λ low. on_some b false (λ high. leb low n && (leb n high && allows (parity_of g) n))) ≡ true → Hit g n
    go (Some low) p (Some high) q e =
        let t = leb n high && allows (parity_of g) n in
        let v = and_right (leb low n) t e in
        record {
          low = low;
          high = high;
          is_low = p;
          is_high = q;
          above = leb-true low n (and_left (leb low n) t e);
          below = leb-true n high (and_left (leb n high) (allows (parity_of g) n) v);
          allowed = and_right (leb n high) (allows (parity_of g) n) v;
        }
    go (Some low) p None q e = clash-bool e refl
    go None p b q e = clash-bool e refl

pub hits_of : (g : List ℕ) (n : ℕ) → Hit g n → hits g n ≡ true
unfolding hits
hits_of g n t =
    rw (t.is_low, t.is_high, le-leb t.low n t.above, le-leb n t.high t.below) t.allowed

-- two rows meet exactly if they have a number in common: they meet if both have n,
meets_all : (g h : List ℕ) (n : ℕ) → hits g n ≡ true → hits h n ≡ true → meets g h ≡ true
unfolding meets
meets_all g h n u v =
    let x = hit_of g n u in
    let y = hit_of h n v in
    rw (x.is_low, x.is_high, y.is_low, y.is_high)
    (near (parity_of g) (parity_of h) (max x.low y.low) (min x.high y.high) n (omega arith) (omega arith) x.allowed y.allowed)

-- and if they meet, both have some n
meets_one : (g h : List ℕ) → meets g h ≡ true → (n : ℕ) × (hits g n ≡ true) × (hits h n ≡ true)
unfolding meets
meets_one g h e = go (low_of g) refl (high_of g) refl (low_of h) refl (high_of h) refl e
  where
    go : (x : Option ℕ) → low_of g ≡ x → (y : Option ℕ) → high_of g ≡ y → (z : Option ℕ) → low_of h ≡ z → (w : Option ℕ) → high_of h ≡ w
        → on_some x false (λ a. on_some y false (λ b. on_some z false (λ c. on_some w false (λ d. meet_from (parity_of g) (parity_of h) (min b d) (max a c))))) ≡ true
        → (n : ℕ) × (hits g n ≡ true) × (hits h n ≡ true)
    go (Some a) p (Some b) q (Some c) r (Some d) s e =
        let m = both (parity_of g) (parity_of h) (max a c) (min b d) e in
        let k : max a c ≤ m.number = m.above in
        let l : m.number ≤ min b d = m.below in (
          m.number,
          hits_of g m.number (record { low = a; high = b; is_low = p; is_high = q; above = omega arith; below = omega arith; allowed = m.by_p }),
          hits_of h m.number (record { low = c; high = d; is_low = r; is_high = s; above = omega arith; below = omega arith; allowed = m.by_q }),
        )
    go (Some a) p (Some b) q (Some c) r None s e = clash-bool e refl
    go (Some a) p (Some b) q None r w s e = clash-bool e refl
    go (Some a) p None q z r w s e = clash-bool e refl
    go None p y q z r w s e = clash-bool e refl

-- ---- a row over a house number

-- street and place are the row's, and it has n
pub record Over (g s t : List ℕ) (n : ℕ) : Type 0 where
  pub street : row_street_of g ≡ s
  pub town : row_place_of g ≡ t
  pub hit : hits g n ≡ true

-- that is what it is for a row to stand over n
pub over_is : (g s t : List ℕ) (n : ℕ) → over g s t n ≡ true → Over g s t n
unfolding over
over_is g s t n e =
    let a = same_bytes (row_street_of g) s in
    let b = same_bytes (row_place_of g) t in
    let v = and_right a (b && hits g n) e in
    record {
      street = same_true (row_street_of g) s (and_left a (b && hits g n) e);
      town = same_true (row_place_of g) t (and_left b (hits g n) v);
      hit = and_right b (hits g n) v;
    }

pub over_of : (g s t : List ℕ) (n : ℕ) → Over g s t n → over g s t n ≡ true
unfolding over
over_of g s t n o = rw (o.street, o.town, same_refl s, same_refl t) o.hit

-- a row covers a record exactly if it stands over its house number
pub covers_over : (g r : List ℕ) → covers g r ≡ on_some (house_of r) false (λ n. over g (street_of r) (place_of r) n)
unfolding covers over
covers_over g r = go (house_of r)
  where
    -- a record with no house number is covered by none
    none : (a b : Bool) → a && (b && false) ≡ false
    none true true = refl
    none true false = refl
    none false b = refl

    go : (x : Option ℕ)
        → same_bytes (row_street_of g) (street_of r) && (same_bytes (row_place_of g) (place_of r) && on_some x false (λ n. hits g n))
        ≡ on_some x false (λ n. same_bytes (row_street_of g) (street_of r) && (same_bytes (row_place_of g) (place_of r) && hits g n))
    go (Some n) = refl
    go None = none (same_bytes (row_street_of g) (street_of r)) (same_bytes (row_place_of g) (place_of r))

-- ---- the two laws

-- rows that do not clash cover no house number both
pub clash_no : (g h : List ℕ) → clash g h ≡ false → (s t : List ℕ) (n : ℕ) → over g s t n ≡ true → over h s t n ≡ true → ⊥
unfolding clash same_street
clash_no g h c s t n u v =
    let x = over_is g s t n u in
    let y = over_is h s t n v in
    let a : same_bytes (row_street_of g) (row_street_of h) ≡ true = rw (x.street, y.street) (same_refl s) in
    let b : same_bytes (row_place_of g) (row_place_of h) ≡ true = rw (x.town, y.town) (same_refl t) in
    clash-bool (meets_all g h n x.hit y.hit) (rw (a, b) at c)

-- rows that clash cover some house number both
pub clash_yes : (g h : List ℕ) → clash g h ≡ true
    → (n : ℕ) × (over g (row_street_of g) (row_place_of g) n ≡ true) × (over h (row_street_of g) (row_place_of g) n ≡ true)
unfolding clash same_street
clash_yes g h c =
    let a = same_bytes (row_street_of g) (row_street_of h) in
    let b = same_bytes (row_place_of g) (row_place_of h) in
    let e = and_left (a && b) (meets g h) c in
    let s = same_true (row_street_of g) (row_street_of h) (and_left a b e) in
    let t = same_true (row_place_of g) (row_place_of h) (and_right a b e) in
    let m = meets_one g h (and_right (a && b) (meets g h) c) in (
      m.0,
      over_of g (row_street_of g) (row_place_of g) m.0 (record { street = refl; town = refl; hit = m.1 }),
      over_of h (row_street_of g) (row_place_of g) m.0 (record { street = sym s; town = sym t; hit = m.2 }),
    )

-- no record is covered by two rows that do not clash
pub clash_covers : (g h : List ℕ) → clash g h ≡ false → (r : List ℕ) → covers g r ≡ true → covers h r ≡ true → ⊥
clash_covers g h c r u v = go (house_of r) (sym (covers_over g r) ∙ u) (sym (covers_over h r) ∙ v)
  where
    go : (x : Option ℕ) → on_some x false (λ n. over g (street_of r) (place_of r) n) ≡ true
        → on_some x false (λ n. over h (street_of r) (place_of r) n) ≡ true → ⊥
    go (Some n) u v = clash_no g h c (street_of r) (place_of r) n u v
    go None u v = clash-bool u refl

-- two rows clash exactly if a house number is over both: the one that clash_yes finds, and any by clash_no
pub clash_exactly : ClashExactly
unfolding ClashExactly
clash_exactly g h = (
  λ e.
      let m = clash_yes g h e in
      record { street = row_street_of g; town = row_place_of g; number = m.0; first = m.1; second = m.2 },
  λ s. go s (decided (clash g h)),
)
  where
    go : Shared g h → (clash g h ≡ true) ⊎ (clash g h ≡ false) → clash g h ≡ true
    go s (inl e) = e
    go s (inr e) = absurd (clash_no g h e s.street s.town s.number s.first s.second)

-- ---- the order of two rows, and a row with itself

-- rows that clash do so in the other order
clash_turned : (g h : List ℕ) → clash g h ≡ true → clash h g ≡ true
unfolding ClashExactly
clash_turned g h e =
    let s = (clash_exactly g h).0 e in
    (clash_exactly h g).1
    (record { street = s.street; town = s.town; number = s.number; first = s.second; second = s.first })

-- it does not matter which row comes first
pub clash_sym : (g h : List ℕ) → clash g h ≡ clash h g
clash_sym g h = go (decided (clash g h)) (decided (clash h g))
  where
    go : (clash g h ≡ true) ⊎ (clash g h ≡ false) → (clash h g ≡ true) ⊎ (clash h g ≡ false) → clash g h ≡ clash h g
    go (inl a) b = a ∙ sym (clash_turned g h a)
    go (inr a) (inl b) = clash-bool (clash_turned h g b) a
    go (inr a) (inr b) = a ∙ sym b

-- a row that covers a number at all clashes with itself
pub clash_self : (g : List ℕ) (n : ℕ) → hits g n ≡ true → clash g g ≡ true
unfolding ClashExactly
clash_self g n e =
    let o = over_of g (row_street_of g) (row_place_of g) n (record { street = refl; town = refl; hit = e }) in
    (clash_exactly g g).1 (record { street = row_street_of g; town = row_place_of g; number = n; first = o; second = o })

-- and a row of good form does: its low end is at most its high end, and of its parity
pub clash_itself : (g : List ℕ) (a b : ℕ) → low_of g ≡ Some a → high_of g ≡ Some b → a ≤ b → allows (parity_of g) a ≡ true
    → clash g g ≡ true
clash_itself g a b p q h e =
    clash_self g a
    (hits_of g a (record { low = a; high = b; is_low = p; is_high = q; above = omega arith; below = h; allowed = e }))

-- ---- the same row

-- fields that are equal as numbers are read alike
equal_read : (a b : Option ℕ) → equal_numbers a b ≡ true → a ≡ b
equal_read (Some m) (Some n) e = ap Some (eqb-true m n e)
equal_read (Some m) None e = clash-bool e refl
equal_read None b e = clash-bool e refl

-- so are both ends of the same row, and its street fields, parity and ESN are equal bytes
pub same_alike : SameAlike
unfolding SameAlike same_row same_street over hits
same_alike g h e =
    let a = same_street g h in
    let b = equal_numbers (low_of g) (low_of h) in
    let c = equal_numbers (high_of g) (high_of h) in
    let p = eqb (parity_of g) (parity_of h) in
    let z = same_esn (row_esn_of g) (row_esn_of h) in
    let s = and_left a (b && (c && (p && z))) e in
    let v = and_right a (b && (c && (p && z))) e in
    let w = and_right b (c && (p && z)) v in
    let x = and_right c (p && z) w in
    let street = same_true (row_street_of g) (row_street_of h)
    (and_left (same_bytes (row_street_of g) (row_street_of h)) (same_bytes (row_place_of g) (row_place_of h)) s) in
    let town = same_true (row_place_of g) (row_place_of h)
    (and_right (same_bytes (row_street_of g) (row_street_of h)) (same_bytes (row_place_of g) (row_place_of h)) s) in
    let low = equal_read (low_of g) (low_of h) (and_left b (c && (p && z)) v) in
    let high = equal_read (high_of g) (high_of h) (and_left c (p && z) w) in
    let parity = eqb-true (parity_of g) (parity_of h) (and_left p z x) in
    record {
      numbers = λ st t n. rw (street, town, low, high, parity) refl;
      zone = same_true (row_esn_of g) (row_esn_of h) (and_right p z x);
    }

-- A file that passes the checks: the stores are sound, each of its lines has its length and keeps the field rules.
-- Assumes nothing.
use Rattle.std.proofs.lemmas.Bool.{not-true, not-false}
use Rattle.rules.specs.declared.Refusal.{Refusal}
use Rattle.std.specs.Prelude.{Some, None, Result, Ok, Err}
use mathlib.Core.Path.{◌≡◌, refl, ap, subst}
use mathlib.Core.Logic.{◌≢◌}
use mathlib.Core.Bool.{Bool, true, false, ◌&&◌, not, cond}
use mathlib.Core.List.{List}
use Prim.Native.Nat.{ℕ, ◌+◌, ◌*◌, ◌-◌, ◌/◌, ◌%◌, ◌≤◌, ◌<◌}
use native.Mathlib.Nat.{mul-le-mul_right, suc-mul, div-add-mod'}
use native.Mathlib.Omega.{arith}
use lib.Dec.{leb, eqb}
use lib.ListN.{length}
use borrow.Author.Tests.{eqb-true, eqb-false, leb-true, le-leb, eq-eqb}
use Rattle.text.proofs.Laws.{and_left, and_right}
use Rattle.layout.specs.declared.frame.Header.{Header}
use Rattle.layout.specs.declared.counter.Cycle.{Cycle}
use Rattle.layout.specs.Tables.{header_table, trailer_table}
use Rattle.layout.specs.Counters.{is_next_of, is_count}
use Rattle.layout.specs.Frames.{header_of, trailer_of}
use Rattle.rules.specs.declared.Kind.{Kind}
use Rattle.rules.specs.Walks.{find}
use Rattle.rules.specs.Slots.{register_sound, guide_sound}
use Rattle.rules.specs.Answered.{NoneHits}
use Rattle.rules.specs.Takes.{Stores, shape_of, edges, line_fault, lines_in, good_file, header_line, trailer_line, line_at, refuse, bad_line, lines_checked, trailer_checked, frame_checked, checked}
use Rattle.text.proofs.Laws.{on_some_lem}
use Rattle.rules.proofs.WalkLaws.{find_some, find_none, find_nowhere}
use Rattle.rules.proofs.PlaceLaws.{part_length}

-- what is known of a file that passes, whatever its room and its cycle were
pub record GoodFile (k : Kind) (s : Stores) (f : List ℕ) : Type 0 where
  pub register : register_sound s.register ≡ true
  pub guide : guide_sound s.guide ≡ true
  pub long : good_file k f ≡ true
  pub lines : (i : ℕ) → i < lines_in k f → line_fault k (line_at k f i) ≡ 0

-- ---- what the checks say, case by case: P is so of it, if P is so of each refusal and of a good file

module _ (P : Result Header Refusal → Type 0) where
  -- of what is made of a test
  on_test : (b : Bool) (x y : Result Header Refusal) → (b ≡ true → P x) → (b ≡ false → P y) → P (cond b x y)
  on_test true x y p q = p refl
  on_test false x y p q = q refl

-- no line is bad where none is found
lines_good : (k : Kind) (f : List ℕ) → find (bad_line k f) (lines_in k f) ≡ None
    → (i : ℕ) → i < lines_in k f → line_fault k (line_at k f i) ≡ 0
unfolding bad_line
lines_good k f e i h =
    eqb-true (line_fault k (line_at k f i)) 0
    (not-false (eqb (line_fault k (line_at k f i)) 0) (find_none (bad_line k f) (lines_in k f) e i h))

-- line i is bad where it is found
pub record BadLine (k : Kind) (f : List ℕ) (i : ℕ) : Type 0 where
  pub within : i < lines_in k f
  pub fault : line_fault k (line_at k f i) ≢ 0

line_bad : (k : Kind) (f : List ℕ) (i : ℕ) → find (bad_line k f) (lines_in k f) ≡ Some i → BadLine k f i
unfolding bad_line
line_bad k f i e =
    let t = find_some (bad_line k f) (lines_in k f) i e in
    record {
      within = t.0;
      fault = eqb-false (line_fault k (line_at k f i)) 0 (not-true (eqb (line_fault k (line_at k f i)) 0) t.1);
    }

-- of what the checks of a file say
pub checked_by : (P : Result Header Refusal → Type 0) (k : Kind) (s : Stores) (f : List ℕ) (room : ℕ) (last : Cycle)
    → (register_sound s.register ≡ false → P (refuse 1)) → (guide_sound s.guide ≡ false → P (refuse 2))
    → P (refuse 3) → P (refuse 4) → P (refuse 5) → P (refuse 6) → P (refuse 7) → P (refuse 8)
    → ((i : ℕ) → BadLine k f i → P (Err (record { number = 9; place = i + 1; position = line_fault k (line_at k f i) })))
    → ((h : Header) → NoneHits k s f room last h → P (Ok h)) → P (checked k s f room last)
unfolding checked frame_checked trailer_checked lines_checked
checked_by P k s f room last p1 p2 p3 p4 p5 p6 p7 p8 p9 p0 =
    on_test P (register_sound s.register) _ _ (λ a.
    on_test P (guide_sound s.guide) _ _ (λ b.
    on_test P (good_file k f) _ _ (λ c.
    on_test P (leb (lines_in k f) room) _ _ (λ d.
    on_some_lem P (header_of (header_table (shape_of k).frame) (header_line k f)) _ _ (λ o. p5) (λ h head.
    on_test P (is_next_of last h.cycle) _ _ (λ e.
    on_some_lem P (trailer_of (trailer_table (shape_of k).frame) (header_line k f) (trailer_line k f)) _ _ (λ o. p7) (λ n tail.
    on_test P (is_count n (lines_in k f)) _ _ (λ g.
    on_some_lem P (find (bad_line k f) (lines_in k f)) _ _
    (λ o.
    p0 h
    (record {
      register = a;
      guide = b;
      long = c;
      fits = leb-true (lines_in k f) room d;
      head = head;
      next = e;
      count = n;
      tail = tail;
      counted = g;
      lines = lines_good k f o;
    }))
    (λ i o. p9 i (line_bad k f i o)))
    (λ e. p8)))
    (λ e. p6)))
    (λ e. p4))
    (λ e. p3))
    p2)
    p1

-- ---- a file that passes

-- P is so of the header that the checks say is good
abbrev IfGood : (Header → Type 0) → Result Header Refusal → Type 0
IfGood P (Ok h) = P h
IfGood P (Err r) = Unit {0}

-- where the checks say good, none of the nine tests hits
pub good_passed : (k : Kind) (s : Stores) (f : List ℕ) (room : ℕ) (last : Cycle) (h : Header) → checked k s f room last ≡ Ok h
    → NoneHits k s f room last h
good_passed k s f room last h e =
    subst (IfGood (NoneHits k s f room last)) e
    (checked_by (IfGood (NoneHits k s f room last)) k s f room last (λ x. tt) (λ x. tt) tt tt tt tt tt tt (λ i b. tt) (λ x g. g))

-- and where none hits, they say good: each test is passed, and no line is found
pub passed_good : (k : Kind) (s : Stores) (f : List ℕ) (room : ℕ) (last : Cycle) (h : Header) → NoneHits k s f room last h
    → checked k s f room last ≡ Ok h
unfolding checked frame_checked trailer_checked lines_checked bad_line
passed_good k s f room last h p =
    rw (
      p.register,
      p.guide,
      p.long,
      le-leb (lines_in k f) room p.fits,
      p.head,
      p.next,
      p.tail,
      p.counted,
      find_nowhere (bad_line k f) (lines_in k f) (λ i l. ap not (eq-eqb (line_fault k (line_at k f i)) 0 (p.lines i l))),
    ) refl

-- of a file that passes
pub good_file_lem : (k : Kind) (s : Stores) (f : List ℕ) (room : ℕ) (last : Cycle) (h : Header) → checked k s f room last ≡ Ok h
    → GoodFile k s f
good_file_lem k s f room last h e =
    let g = good_passed k s f room last h e in
    record { register = g.register; guide = g.guide; long = g.long; lines = g.lines }

-- it has room for its answers
pub good_room : (k : Kind) (s : Stores) (f : List ℕ) (room : ℕ) (last : Cycle) (h : Header) → checked k s f room last ≡ Ok h → lines_in k f ≤ room
good_room k s f room last h e = (good_passed k s f room last h e).fits

-- a file of good length has header, whole lines and trailer
pub file_long : (k : Kind) (f : List ℕ) → good_file k f ≡ true → length f ≡ edges k + lines_in k f * (shape_of k).line
unfolding good_file lines_in
file_long k f e =
    let n : ℕ = length f - edges k in
    let l : ℕ = (shape_of k).line in
    let a = leb (edges k) (length f) in
    let b = eqb (n % l) 0 in
    let c = leb (n / l) 9999 in
    let p = leb-true (edges k) (length f) (and_left a (b && c) e) in
    let q = eqb-true (n % l) 0 (and_left b c (and_right a (b && c) e)) in
    omega (arith, div-add-mod' n l)

-- so each line is whole
pub line_long : (k : Kind) (f : List ℕ) (i : ℕ) → good_file k f ≡ true → i < lines_in k f → length (line_at k f i) ≡ (shape_of k).line
unfolding line_at
line_long k f i e h =
    let l : ℕ = (shape_of k).line in
    part_length ((shape_of k).frame + i * l) l f (omega (arith, file_long k f e, mul-le-mul_right l h, suc-mul i l))

-- The program over the definition: each call starts where the one before ended, and what is written is what the definition says.
-- Assumes nothing.
use mathlib.Core.Path.{◌≡◌, ◌∙◌, refl, sym}
use mathlib.Core.Bool.{true}
use mathlib.Core.List.{List, [], ◌∷◌, ◌++◌, append_assoc}
use Prim.Native.Nat.{ℕ, ◌+◌, ◌≤◌}
use native.Mathlib.Omega.{arith}
use lib.ListN.{length, drop, length-append, length-drop}
use lib.Seq.{take-append_seam}
use Rattle.desk_rules.specs.declared.Marks.{Marks}
use Rattle.desk_rules.specs.Desk.{Desk, Reply, empty_desk, most_collected, most_typed, fed, ended, fed_all, written}
use Rattle.desk_rules.specs.Served.{Bench, bench_of, most_said, has_room, is_ready, desk_of, marks_of, over, laid_out, Served, served}
use Rattle.desk_rules.specs.Kept.{Stays, wrote, all_wrote, ProgramWrites, OneServed}
use Rattle.desk_rules.proofs.DeskLaws.{room, room_is, collected_is, typed_is, served_ready}
use Rattle.desk_rules.proofs.KeptLaws.{Small, small_fed, small_ended}

-- ---- a reply, laid out

module _ (r : Reply) (b : Bench) where
  -- the bytes hold its desk
  pub laid_desk : desk_of (laid_out r b).result.marks (laid_out r b).bench ≡ r.desk
  unfolding desk_of laid_out marks_of
  laid_desk =
      rw (
        take-append_seam r.desk.collection (drop (length r.desk.collection) b.collection),
        take-append_seam r.desk.line (drop (length r.desk.line) b.line),
      )

  -- and what it says
  pub laid_said : wrote (laid_out r b) ≡ r.said
  unfolding laid_out
  laid_said = take-append_seam r.said (drop (length r.said) b.out)

-- the room does not shrink
over_long : (l s : List ℕ) → length s ≤ length (over l s)
over_long l s = simp (length-append, length-drop) (omega arith)

laid_ready : (m : Marks) (r : Reply) (b : Bench) → Small r.desk → is_ready m b ≡ true → is_ready (laid_out r b).result.marks (laid_out r b).bench ≡ true
unfolding laid_out marks_of
laid_ready m r b s ready =
    let o = room m (length b.collection) (length b.line) (length b.out) ready in
    let c = over_long r.desk.collection b.collection in
    let l = over_long r.desk.line b.line in
    let w = over_long r.said b.out in
    room_is (marks_of r.desk) (length (over r.desk.collection b.collection)) (length (over r.desk.line b.line)) (length (over r.said b.out))
    (record {
      collection = omega arith;
      line = omega arith;
      out = omega arith;
      collected = s.collected;
      typed = s.typed;
      lines = s.lines;
    })

-- a ready desk holds no more than there is room for
ready_small : (m : Marks) (b : Bench) → is_ready m b ≡ true → Small (desk_of m b)
unfolding desk_of
ready_small m b ready =
    let o = room m (length b.collection) (length b.line) (length b.out) ready in
    record {
      collected = rw (collected_is m b.register b.guide b.collection b.line b.out ready) o.collected;
      typed = rw (typed_is m b.register b.guide b.collection b.line b.out ready) o.typed;
      lines = o.lines;
    }

-- ---- a call

stays : (act : Desk → Reply) (m : Marks) (b : Bench) → is_ready m b ≡ true → Small (act (desk_of m b)).desk → Stays act m b
stays act m b ready s =
    rw (served_ready act m b refl ready) (laid_ready m (act (desk_of m b)) b s ready, (laid_desk (act (desk_of m b)) b, laid_said (act (desk_of m b)) b))

pub fed_stays : (m : Marks) (b : Bench) (x : ℕ) → is_ready m b ≡ true → Stays (λ d. fed d x) m b
fed_stays m b x ready = stays (λ d. fed d x) m b ready (small_fed (desk_of m b) x (ready_small m b ready))

pub ended_stays : (m : Marks) (b : Bench) → is_ready m b ≡ true → Stays ended m b
ended_stays m b ready = stays ended m b ready (small_ended (desk_of m b) (ready_small m b ready))

-- ---- all calls

pub all_wrote_lem : (m : Marks) (b : Bench) (input : List ℕ) → is_ready m b ≡ true
    → all_wrote m b input ≡ (fed_all (desk_of m b) input).said ++ (ended (fed_all (desk_of m b) input).desk).said
unfolding all_wrote fed_all
all_wrote_lem m b [] ready = (ended_stays m b ready).1.1
all_wrote_lem m b (x ∷ input) ready =
    let s = fed_stays m b x ready in
    let v : Served = served (λ d. fed d x) m b in
    let h = rw s.1.0 at (all_wrote_lem v.result.marks v.bench input s.0) in
    rw (s.1.1, h) (sym (append_assoc (fed (desk_of m b) x).said (fed_all (fed (desk_of m b) x).desk input).said (ended (fed_all (fed (desk_of m b) x).desk input).desk).said))

empty_desk_lem : (C l out : List ℕ) → desk_of (marks_of empty_desk) (bench_of empty_desk.stores.register empty_desk.stores.guide C l out) ≡ empty_desk
unfolding desk_of marks_of empty_desk
empty_desk_lem C l out = refl

pub empty_ready : (c l o : ℕ) → most_collected ≤ c → most_typed + 1 ≤ l → most_said ≤ o → has_room (marks_of empty_desk) c l o ≡ true
unfolding marks_of empty_desk
empty_ready c l o p q r =
    room_is (marks_of empty_desk) c l o
    (record { collection = p; line = q; out = r; collected = omega arith; typed = omega arith; lines = omega arith })

pub program_writes : (C l out input : List ℕ) → ProgramWrites C l out input
unfolding written
program_writes C l out input c k o =
    let b : Bench = bench_of empty_desk.stores.register empty_desk.stores.guide C l out in
    let ready : is_ready (marks_of empty_desk) b ≡ true = empty_ready (length C) (length l) (length out) c k o in
    rw (empty_desk_lem C l out) at (all_wrote_lem (marks_of empty_desk) b input ready)

-- ---- one outcome

same : (a c : Bench) → a.register ≡ c.register → a.guide ≡ c.guide → a.collection ≡ c.collection → a.line ≡ c.line → a.out ≡ c.out → a ≡ c
same a c r g k l o =
    let e : bench_of a.register a.guide a.collection a.line a.out ≡ bench_of c.register c.guide c.collection c.line c.out = cc in
    e

pub one_served : (act : Desk → Reply) (m : Marks) (b : Bench) → OneServed act m b
one_served act m b r s a c p q = (
  p.0 ∙ sym q.0,
  same a c (p.1.0 ∙ sym q.1.0) (p.1.1.0 ∙ sym q.1.1.0) (p.1.1.1.0 ∙ sym q.1.1.1.0)
      (p.1.1.1.1.0 ∙ sym q.1.1.1.1.0) (p.1.1.1.1.1 ∙ sym q.1.1.1.1.1),
)

-- The desk in the lent bytes: what readiness gives, and what each step of the code leaves is the definition's reply, laid out.
-- Assumes nothing.
use mathlib.Core.Path.{◌≡◌, ◌∙◌, refl, sym}
use mathlib.Core.Logic.{◌≢◌}
use mathlib.Core.Bool.{Bool, true, false, ◌&&◌}
use mathlib.Core.List.{List, ◌++◌, append-nil, append_assoc}
use Prim.Native.Nat.{ℕ, ◌+◌, ◌≤◌, ◌<◌}
use native.Mathlib.Omega.{arith}
use native.Mathlib.Numerals.{add-one}
use native.Mathlib.Decide.{dec_le}
use lib.Dec.{leb}
use lib.ListN.{length, take, drop, get_or, set, length-append, take-append-drop, replicate}
use lib.Seq.{length-take-le, take_all, drop-length, append_snoc, set_split}
use borrow.Author.Tests.{leb-true, leb-false, le-leb, lt-leb, eq-eqb, ne_eqb}
use Rattle.text.specs.Text.{put_at}
use Rattle.text.proofs.Laws.{and_left, and_right}
use Rattle.rules.specs.declared.Taken.{Taken}
use Rattle.versions.specs.declared.Version.TheVariants.{Two}
use Rattle.rules.specs.Takes.{TakesData, TakesGuide}
use Rattle.desk_rules.proofs.TakenLaws.{guide_register, data_guide}
use Rattle.desk_rules.specs.declared.Marks.{Marks}
use Rattle.desk_rules.specs.Hex.{bytes_in}
use Rattle.desk_rules.specs.Desk.{Desk, Reply, most_collected, most_typed, most_lines, most_answers, silent, unread, is_readable, line_read, next_line, line_ended, typed, stops_after, fed, ended, take_said, collecting, taking_guide, taking_data, framed}
use Rattle.desk_rules.specs.Served.{Bench, bench_of, most_said, has_room, is_ready, desk_of, marks_of, over, laid_out, served, unserved, Holds, Laid, Writes}

-- ---- room

pub record Room (m : Marks) (c l o : ℕ) : Type 0 where
  pub collection : most_collected ≤ c
  pub line : most_typed + 1 ≤ l
  pub out : most_said ≤ o
  pub collected : m.collected ≤ most_collected
  pub typed : m.typed ≤ most_typed + 1
  pub lines : m.lines ≤ most_lines

pub room : (m : Marks) (c l o : ℕ) → has_room m c l o ≡ true → Room m c l o
unfolding has_room
room m c l o t =
    let p : Bool = leb most_collected c in
    let q : Bool = leb (most_typed + 1) l && leb most_said o in
    let v : Bool = leb m.collected most_collected in
    let w : Bool = leb m.typed (most_typed + 1) && leb m.lines most_lines in
    let e = and_left (p && q) (v && w) t in
    let f = and_right (p && q) (v && w) t in
    record {
      collection = leb-true most_collected c (and_left p q e);
      line = leb-true (most_typed + 1) l (and_left (leb (most_typed + 1) l) (leb most_said o) (and_right p q e));
      out = leb-true most_said o (and_right (leb (most_typed + 1) l) (leb most_said o) (and_right p q e));
      collected = leb-true m.collected most_collected (and_left v w f);
      typed = leb-true m.typed (most_typed + 1) (and_left (leb m.typed (most_typed + 1)) (leb m.lines most_lines) (and_right v w f));
      lines = leb-true m.lines most_lines (and_right (leb m.typed (most_typed + 1)) (leb m.lines most_lines) (and_right v w f));
    }

pub room_is : (m : Marks) (c l o : ℕ) → Room m c l o → has_room m c l o ≡ true
unfolding has_room
room_is m c l o r =
    rw (
      le-leb most_collected c r.collection,
      le-leb (most_typed + 1) l r.line,
      le-leb most_said o r.out,
      le-leb m.collected most_collected r.collected,
      le-leb m.typed (most_typed + 1) r.typed,
      le-leb m.lines most_lines r.lines,
    )

-- the line is counted, and there is room still
abbrev pub next_marks : Marks → Marks
next_marks m = record { lines = m.lines + 1; typed = 0; collected = m.collected; guide = m.guide; register = m.register }

pub next_ready : (m : Marks) (c l o : ℕ) → has_room m c l o ≡ true → m.lines < most_lines → has_room (next_marks m) c l o ≡ true
next_ready m c l o t h =
    let r = room m c l o t in
    room_is (next_marks m) c l o
    (record { collection = r.collection; line = r.line; out = r.out; collected = r.collected; typed = omega arith; lines = omega arith })

-- ---- a desk that stays

-- what stood at the start is written there again
pub over_same : (n : ℕ) (l : List ℕ) → l ≡ over (take n l) l
over_same n l = go (dec_le n (length l))
  where
    go : Dec (n ≤ length l) → l ≡ over (take n l) l
    go (yes h) = rw (length-take-le n l h) (sym (take-append-drop n l))
    go (no h) = rw (take_all n l (omega arith), drop-length l) (sym (append-nil l))

module _ (m : Marks) (R G C l out : List ℕ) (ready : is_ready m (bench_of R G C l out) ≡ true) where
  -- of a ready desk, so much is collected and typed as the marks say
  pub collected_is : length (take m.collected C) ≡ m.collected
  collected_is = let r = room m (length C) (length l) (length out) ready in length-take-le m.collected C (omega arith)

  pub typed_is : length (take m.typed l) ≡ m.typed
  typed_is = let r = room m (length C) (length l) (length out) ready in length-take-le m.typed l (omega arith)

  -- nothing is done but said
  pub said_laid : (said o : List ℕ) (n : ℕ) → Writes said out n o
      → Holds (laid_out (record { desk = desk_of m (bench_of R G C l out); said = said }) (bench_of R G C l out)) (record { marks = m; said = n }) (bench_of R G C l o)
  unfolding laid_out desk_of marks_of
  said_laid said o n w =
      (rw (collected_is, typed_is, ← w.0), (refl, (refl, (over_same m.collected C, (over_same m.typed l, w.1)))))

  -- the bytes are collected
  pub collect_laid : (bytes c : List ℕ) → m.collected + length bytes ≤ most_collected → c ≡ put_at m.collected bytes C
      → Holds (laid_out (collecting (desk_of m (bench_of R G C l out)) bytes) (bench_of R G C l out))
      (record {
        marks = record { lines = m.lines; typed = m.typed; collected = m.collected + length bytes; guide = m.guide; register = m.register };
        said = 0;
      })
      (bench_of R G c l out)
  unfolding collecting laid_out desk_of marks_of put_at
  collect_laid bytes c h e =
      let r = room m (length C) (length l) (length out) ready in
      let k : m.collected + length bytes ≤ length C = omega arith in
      let f : c ≡ take m.collected C ++ (bytes ++ drop (m.collected + length bytes) C) = rw (le-leb (m.collected + length bytes) (length C) k) at e in
      rw (collected_is, le-leb (m.collected + length bytes) most_collected h) (
        rw (length-append, collected_is, typed_is),
        (
          refl,
          (
            refl,
            (
              rw (length-append, collected_is, append_assoc) f,
              (over_same m.typed l, refl),
            ),
          ),
        ),
      )

  -- there is no room for them
  pub collect_not : (bytes : List ℕ) → most_collected < m.collected + length bytes
      → collecting (desk_of m (bench_of R G C l out)) bytes ≡ unread (desk_of m (bench_of R G C l out))
  unfolding collecting desk_of
  collect_not bytes h = rw (collected_is, lt-leb (m.collected + length bytes) most_collected h)

  -- a take: t is what it answers, a are the answers, and n bytes are said
  module _ (t : Taken) (a o : List ℕ) (n : ℕ) (w : Writes (take_said t a) out n o) where
    pub guide_laid : (g : List ℕ) → TakesGuide R G (take m.collected C) (replicate most_answers 0) m.guide t g a
        → Holds (laid_out (taking_guide (desk_of m (bench_of R G C l out))) (bench_of R G C l out))
        (record { marks = record { lines = m.lines; typed = m.typed; collected = 0; guide = t.last; register = m.register }; said = n })
        (bench_of R g C l o)
    unfolding taking_guide laid_out desk_of marks_of
    guide_laid g q =
        rw (← q.0, ← q.1.1) (
          rw (typed_is, w.0),
          (
            guide_register (record { register = R; guide = G }) (take m.collected C) (replicate most_answers 0) m.guide,
            (q.1.0, (refl, (over_same m.typed l, w.1))),
          ),
        )

    pub data_laid : (g : List ℕ) → TakesData Two R G (take m.collected C) (replicate most_answers 0) m.register t g a
        → Holds (laid_out (taking_data (desk_of m (bench_of R G C l out))) (bench_of R G C l out))
        (record { marks = record { lines = m.lines; typed = m.typed; collected = 0; guide = m.guide; register = t.last }; said = n })
        (bench_of g G C l o)
    unfolding taking_data laid_out desk_of marks_of
    data_laid g q =
        rw (← q.0, ← q.1.1) (
          rw (typed_is, w.0),
          (
            q.1.0,
            (
              data_guide (record { register = R; guide = G }) (take m.collected C) (replicate most_answers 0) m.register,
              (refl, (over_same m.typed l, w.1)),
            ),
          ),
        )

  -- a character is typed
  pub type_laid : (b : ℕ) → m.typed ≤ most_typed
      → Laid (λ d. silent (typed d b)) m (bench_of R G C l out)
      (record {
        marks = record { lines = m.lines; typed = m.typed + 1; collected = m.collected; guide = m.guide; register = m.register };
        said = 0;
      })
      (bench_of R G C (set l m.typed b) out)
  unfolding typed laid_out desk_of marks_of
  type_laid b h =
      let r = room m (length C) (length l) (length out) ready in
      let k : m.typed < length l = omega arith in
      rw (typed_is, le-leb m.typed most_typed h) (
        rw (length-append, collected_is, typed_is),
        (
          refl,
          (
            refl,
            (
              over_same m.collected C,
              (
                rw (length-append, typed_is, append_snoc, add-one) (set_split l m.typed b k),
                refl,
              ),
            ),
          ),
        ),
      )

  -- the line is too long
  pub type_not : (b : ℕ) → most_typed < m.typed → typed (desk_of m (bench_of R G C l out)) b ≡ desk_of m (bench_of R G C l out)
  unfolding typed desk_of
  type_not b h = rw (typed_is, lt-leb m.typed most_typed h)

-- ---- a line, read or not

module _ (m : Marks) (R G C l out : List ℕ) {v : Bool} (e : v ≡ is_readable (take m.typed l)) where
  pub ended_read : v ≡ true → line_ended (desk_of m (bench_of R G C l out))
      ≡ framed (desk_of (next_marks m) (bench_of R G C l out)) (get_or (bytes_in (take m.typed l)) 0 0) (drop 1 (bytes_in (take m.typed l)))
  unfolding line_ended line_read next_line desk_of
  ended_read t = rw (← e, t)

  pub ended_not : v ≡ false → line_ended (desk_of m (bench_of R G C l out)) ≡ unread (desk_of (next_marks m) (bench_of R G C l out))
  unfolding line_ended line_read next_line desk_of
  ended_not t = rw (← e, t)

-- ---- a byte, and the end

-- v is whether the desk has stopped
pub goes_on : (lines : ℕ) {v : Bool} → v ≡ stops_after lines → v ≡ false → lines < most_lines
goes_on lines e f = leb-false most_lines lines (sym e ∙ f)

module _ (m : Marks) (R G C l out : List ℕ) {v : Bool} (e : v ≡ stops_after m.lines) where
  pub fed_stopped : (b : ℕ) → v ≡ true → fed (desk_of m (bench_of R G C l out)) b ≡ silent (desk_of m (bench_of R G C l out))
  unfolding fed desk_of
  fed_stopped b t = rw (← e, t)

  pub fed_newline : (b : ℕ) → v ≡ false → b ≡ 10 → fed (desk_of m (bench_of R G C l out)) b ≡ line_ended (desk_of m (bench_of R G C l out))
  unfolding fed desk_of
  fed_newline b f n = rw (← e, f, eq-eqb b 10 n)

  pub fed_typed : (b : ℕ) → v ≡ false → b ≢ 10 → fed (desk_of m (bench_of R G C l out)) b ≡ silent (typed (desk_of m (bench_of R G C l out)) b)
  unfolding fed desk_of
  fed_typed b f n = rw (← e, f, ne_eqb b 10 n)

  pub ended_stopped : v ≡ true → ended (desk_of m (bench_of R G C l out)) ≡ silent (desk_of m (bench_of R G C l out))
  unfolding ended desk_of
  ended_stopped t = rw (← e, t)

  pub ended_empty : v ≡ false → m.typed ≡ 0 → ended (desk_of m (bench_of R G C l out)) ≡ silent (desk_of m (bench_of R G C l out))
  unfolding ended desk_of
  ended_empty f z = rw (← e, f, z)

  pub ended_line : is_ready m (bench_of R G C l out) ≡ true → v ≡ false → m.typed ≢ 0
      → ended (desk_of m (bench_of R G C l out)) ≡ line_ended (desk_of m (bench_of R G C l out))
  unfolding ended desk_of
  ended_line ready f n = rw (← e, f, typed_is m R G C l out ready, ne_eqb m.typed 0 n)

-- ---- what is served

module _ (act : Desk → Reply) (m : Marks) (b : Bench) {v : Bool} (e : v ≡ is_ready m b) where
  pub served_ready : v ≡ true → served act m b ≡ laid_out (act (desk_of m b)) b
  unfolding served
  served_ready t = rw (← e, t)

  pub served_not : v ≡ false → served act m b ≡ unserved m b
  unfolding served
  served_not t = rw (← e, t)

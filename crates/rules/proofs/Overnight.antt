-- What a good check of the evening is worth in the morning. Of the nine tests only the first two look at the stores and only the sixth at
-- the last cycle; a good check found the stores sound, and whatever is taken or refused leaves them so (sound_files). So only the sixth can
-- hit, and with the same last cycle it does not. Another file that was taken after the same last cycle has the next cycle, which is this
-- file's too, and no cycle is its own next: then the sixth hits.
-- Assumes nothing.
use Rattle.std.specs.Prelude.{Option, Some, None}
use mathlib.Core.Path.{◌≡◌, refl, sym, ◌∙◌}
use mathlib.Core.Bool.{Bool, true, false, cond}
use mathlib.Core.List.{List, [], ◌∷◌}
use Prim.Native.Nat.{ℕ, ◌+◌}
use native.Mathlib.Omega.{arith}
use lib.Dec.{ltb, eqb}
use lib.ListN.{length}
use borrow.Author.Tests.{eqb-true, ne_eqb, le-leb}
use Rattle.text.specs.Text.{member_of, on_some}
use Rattle.layout.specs.declared.frame.Header.{Header}
use Rattle.layout.specs.declared.counter.Cycle.{Cycle}
use Rattle.layout.specs.Counters.{given_cycle, next_of, is_next_of}
use Rattle.rules.specs.declared.Kind.{Kind}
use Rattle.rules.specs.Takes.{Stores, lines_in, refuse, frame_checked, checked, refused_file, taken}
use Rattle.rules.specs.Demands.{run, SoundStores}
use Rattle.rules.specs.Answered.{NoneHits, TakesAnswer, ChecksAnswer, Morning, Overnight}
use Rattle.rules.proofs.WalkLaws.{clash-bool}
use Rattle.rules.proofs.TakeLaws.{refused_is}
use Rattle.rules.proofs.Answers.{take_answered, check_answered}
use Rattle.rules.proofs.KeepSound.{sound_files}

-- ---- cycles

-- two cycles that are both the next after the last one are the same
one_next : (last c d : Cycle) → is_next_of last c ≡ true → is_next_of last d ≡ true → c.0 ≡ d.0
one_next last c d = go (next_of last)
  where
    go : (t : Option Cycle) → on_some t false (λ n. eqb n.0 c.0) ≡ true → on_some t false (λ n. eqb n.0 d.0) ≡ true → c.0 ≡ d.0
    go (Some n) p q = sym (eqb-true n.0 c.0 p) ∙ eqb-true n.0 d.0 q
    go None p q = clash-bool p refl

-- no cycle is its own next: the one after c is c + 1, the one after 999999 is 1
not_own_next : (c d : Cycle) → c.0 ≡ d.0 → is_next_of c d ≡ false
not_own_next c d e = go (ltb c.0 999999) (eqb c.0 999999) refl
  where
    go : (l m : Bool) → eqb c.0 999999 ≡ m
        → on_some {A = Cycle} (cond l (Some (record { 0 = c.0 + 1 })) (cond m (Some (record { 0 = 1 })) None)) false
        (λ n. eqb n.0 d.0) ≡ false
    go true m q = ne_eqb (c.0 + 1) d.0 (omega arith)
    go false true q = let x = eqb-true c.0 999999 q in ne_eqb 1 d.0 (omega arith)
    go false false q = refl

-- ---- the stores of the morning

module _ (k : Kind) (s m : Stores) (f answers : List ℕ) (last : ℕ) (h : Header)
    (p : NoneHits k s f (length answers) (given_cycle last) h) (sound : SoundStores m) where
  -- with a last cycle that its own follows, none of the nine hits
  none_hits : (now : ℕ) → is_next_of (given_cycle now) h.cycle ≡ true → NoneHits k m f (length answers) (given_cycle now) h
  none_hits now e =
      record {
        register = sound.register;
        guide = sound.guide;
        long = p.long;
        fits = p.fits;
        head = p.head;
        next = e;
        count = p.count;
        tail = p.tail;
        counted = p.counted;
        lines = p.lines;
      }

  not_refused : (now : ℕ) → is_next_of (given_cycle now) h.cycle ≡ true → (taken k m f answers now).result.refusal ≡ 0
  unfolding TakesAnswer
  not_refused now e = (take_answered k m f answers now).taken h (none_hits now e)

  -- with any other, the sixth is the first to hit
  six_hits : (now : ℕ) → is_next_of (given_cycle now) h.cycle ≡ false → checked k m f (length answers) (given_cycle now) ≡ refuse 6
  unfolding checked frame_checked
  six_hits now e =
      rw (sound.register, sound.guide, p.long, le-leb (lines_in k f) (length answers) p.fits, p.head, e) refl

  by_six : (now : ℕ) → is_next_of (given_cycle now) h.cycle ≡ false → (taken k m f answers now).result.refusal ≡ 6
  unfolding refused_file
  by_six now e = rw (refused_is k m f answers now _ (six_hits now e)) refl

  none_or_six : (now : ℕ) (b : Bool) → is_next_of (given_cycle now) h.cycle ≡ b
      → member_of (taken k m f answers now).result.refusal (0 ∷ 6 ∷ []) ≡ true
  none_or_six now true e = rw (not_refused now e) refl
  none_or_six now false e = rw (by_six now e) refl

  -- what another file has left is its cycle, the next after the same last cycle, and so this file's own
  morning : Morning k m f answers last
  unfolding TakesAnswer
  morning =
      record {
        only = λ now. none_or_six now (is_next_of (given_cycle now) h.cycle) refl;
        applied = not_refused last p.next;
        overtaken = λ j t g a x.
            let (i, d) = (take_answered j t g a last).done x in
            by_six _ (not_own_next _ _ (d.last ∙ one_next (given_cycle last) i.cycle h.cycle d.passed.next p.next));
      }

pub overnight : Overnight
unfolding Overnight ChecksAnswer
overnight k o files f answers last e =
    let c = (check_answered k o.stores f answers last).passed e in
    let p = c.1 in
    morning k o.stores (run files o).stores f answers last c.0 p
    (sound_files files o (record { register = p.register; guide = p.guide }))

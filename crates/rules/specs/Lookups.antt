-- 01, "Lookup": what is answered for a number, and the one number that it is packed into.
-- Assumes nothing.
use Rattle.std.specs.Prelude.{ℕ, ◌+◌, ◌*◌, ◌≡◌, List, Bool, ◌&&◌, cond, eqb, length}
use Rattle.text.specs.declared.Class.TheVariants.{Digit}
use Rattle.text.specs.Text.{all_in, on_some}
use Rattle.rules.specs.declared.Seen.{Seen}
use Rattle.rules.specs.Walks.{walked}
use Rattle.rules.specs.Slots.{slot_size, slots, good_length}
use Rattle.rules.specs.Records.{has_number, find_number, state_in}

-- "that ten digits are given"
unfoldable pub is_number : List ℕ → Bool
is_number n = eqb (length n) 10 && all_in Digit n

-- "a refusal gives 0 for each"
abbrev pub unseen : ℕ → Seen
unseen refusal = record { refusal = refusal; state = 0; slot = 0; looked = 0 }

-- "state (0 if absent), slot (from 0; 0 if absent), and the slots looked at: slot number + 1 if found, all slots if not": "The slot
-- shown is the lowest used one with that number"
unfoldable pub seen_in : List ℕ → List ℕ → Seen
seen_in R n =
    record {
      refusal = 0;
      state = state_in R (find_number n R);
      slot = on_some (find_number n R) 0 (λ i. i);
      looked = walked (has_number n R) (slots R);
    }

-- "Lookup tests only the register's length (1), then that ten digits are given (10)"
unfoldable pub seen : List ℕ → List ℕ → Seen
seen R n = cond (good_length slot_size R) (cond (is_number n) (seen_in R n) (unseen 10)) (unseen 1)

-- the slots looked at in bits 0 to 15, the slot in 16 to 31, the state in 32 to 35, the refusal in 36 to 39
unfoldable pub packed : Seen → ℕ
packed s = s.looked + (s.slot * 65536 + (s.state * 4294967296 + s.refusal * 68719476736))

-- what `hakkiyolu_lookup` promises
abbrev pub LooksUp : List ℕ → List ℕ → ℕ → Type 0
LooksUp R n answer = answer ≡ packed (seen R n)

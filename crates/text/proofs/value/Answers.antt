-- A turn comes behind at most 8 digits, so small_power keeps n * 10 + 9 in 32 bits.
use native.Mathlib.Omega.{arith}
use Rattle.text.proofs.Laws.{small_power}
use Rattle.text.proofs.value.Goals as goal

pub overflow_mul-n : goal.overflow_mul-n
overflow_mul-n c = omega (arith, small_power c.loop-b.b-index 8 (omega arith))

pub overflow_add-n : goal.overflow_add-n
overflow_add-n c = omega (arith, small_power c.loop-b.b-index 8 (omega arith))

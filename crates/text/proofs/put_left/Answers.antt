-- width_of promises the width that left_digits compares with the length: where it fits, put_among_spaces from 0 is its first arm; else s
-- stays, its second.
use borrow.Author.Tests.{le-leb, lt-leb}
use Rattle.text.specs.Text.{left_digits}
use Rattle.text.proofs.put_left.Goals as goal

pub returns-then-w-s : goal.returns-then-w-s
unfolding left_digits
returns-then-w-s c =
    let if1 = c.if-w-s in
    let width_of_lem = c.width_of-w in
    rw (← width_of_lem.ensures.0, le-leb _ _ if1.true) c.put_among_spaces.ensures

pub returns-else-w-s : goal.returns-else-w-s
unfolding left_digits
returns-else-w-s c = rw (← c.width_of-w.ensures.0, lt-leb _ _ c.if-w-s.false)

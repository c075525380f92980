-- fill leaves nothing but spaces, and put_digits fills the w bytes from a: the spaces before, the digits and the spaces behind them make
-- among_spaces (among_spaces_lem).
use lib.ListN.{length}
use Rattle.text.proofs.Laws.{among_spaces_lem}
use Rattle.text.proofs.put_among_spaces.Goals as goal

pub returns : goal.returns
returns c =
    let put-digits = c.put_digits in
    let fill = c.fill in
    among_spaces_lem c.args.a c.args.w c.args.n (length c.args.s.now) fill.new.s
    put-digits.new.s c.requires fill.ensures put-digits.ensures

-- Other lengths decide at once (same_lengths). same_many goes past equal words; behind them each byte decides, or is passed.
use mathlib.Core.Path.{◌≡◌, ◌∙◌, sym}
use mathlib.Core.Bool.{true}
use borrow.Author.Rules.{rules}
use Rattle.text.proofs.Laws.{same_lengths, same_many}
use Rattle.text.proofs.same.Goals as goal

pub returns-then-b-n : goal.returns-then-b-n
returns-then-b-n c = same_lengths c.args.a.now c.args.b.now c.if-b-n.true

pub loop-i-preserved : goal.loop-i-preserved
loop-i-preserved c =
    let loop = c.loop-i in
    let word : c.are_words_same.result ≡ true = search rules in (
      search rules,
      search rules,
      same_many c.args.a.now c.args.b.now loop.i 8 loop.invariant.2 (sym c.are_words_same.ensures ∙ word),
    )

-- An even number of characters are whole bytes where all of them are digits (even_digits), an odd number never are (odd_length).
use Rattle.std.proofs.Common.{◌≡◌, ◌≢◌, ◌%◌, ◌∙◌, sym, length, rules, tests}
use Rattle.std.proofs.lemmas.Iterator.{YieldsList-from_slice}
use Rattle.std.proofs.lemmas.Iterator.Search.{all_from_yields_List}
use Rattle.std.specs.Char.{is_ascii_hexdigit}
use Rattle.hexadecimal.proofs.PairLaws.{even_digits, odd_length}
use Rattle.hexadecimal.proofs.is_hex.Goals as goal

pub returns-then-is_multiple_of : goal.returns-then-is_multiple_of
returns-then-is_multiple_of c =
    let line = c.args.line.now in
    let digits = all_from_yields_List is_ascii_hexdigit _ _ c.all.result c.all.ensures.ran (YieldsList-from_slice line cc)
    (λ x b q k. search (rules, tests)) in
    let even : length line % 2 ≡ 0 = search rules in
    digits ∙ even_digits line even

pub returns-else-is_multiple_of : goal.returns-else-is_multiple_of
returns-else-is_multiple_of c =
    let line = c.args.line.now in
    let odd : length line % 2 ≢ 0 = search rules in
    c.if-is_multiple_of.false ∙ sym (odd_length line odd)

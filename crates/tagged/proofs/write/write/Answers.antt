-- No text is longer than 452 bytes (text_most_lem).
use borrow.Author.Rules.{rules}
use Rattle.tag_rules.proofs.RoomLaws.{text_most_lem}
use Rattle.tagged.proofs.write.write.Goals as goal

pub overflow_cast-result : goal.overflow_cast-result
overflow_cast-result c =
    let h = text_most_lem c.args.rec.now c.if-rec-ne-RECORD_SIZE.false in
    search rules

-- Six bytes are there, so each of them is a byte of the parts of two that the definition puts together (date_worded); century promises
-- the first two.
use Rattle.tagged.proofs.FormLaws.{date_worded}
use Rattle.tagged.proofs.form.date_of.Goals as goal

pub returns : goal.returns
returns c =
    let f = c.args.f.now in
    date_worded f c.century-cc.result c.requires c.century-cc.ensures

-- run promises the run of spaces, and it is as long as the field exactly if every byte is a space (run_whole).
use Rattle.text.specs.declared.Class.TheVariants.{Space}
use Rattle.text.proofs.Laws.{run_whole}
use Rattle.text.proofs.is_rest_blank.Goals as goal

pub returns : goal.returns
returns c = rw c.run.ensures.0 (run_whole Space c.args.f.now)

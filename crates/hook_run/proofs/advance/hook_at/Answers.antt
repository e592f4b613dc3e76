use Rattle.hook_run.proofs.AdvanceLemmas.{name-fits}
use Rattle.hook_run.proofs.advance.hook_at.Goals as goal

pub returns-clause-fits : goal.returns-clause-fits
returns-clause-fits c = name-fits c.args.course.now c.args.place c.index.result.now c.requires c.index.ensures

use Rattle.hook_run.specs.Parts.{all_parts}
use Rattle.hook_run.proofs.ReusedLemmas.{served-or-started}
use Rattle.hook_run.proofs.laws.each_part_is_served_or_started.Goals as goal

pub returns : goal.returns
returns g c = λ from to config ask tree out over.
    served-or-started ask.reuse from.remembered to.remembered (all_parts over.trace) over.answered.started over.answered.starts

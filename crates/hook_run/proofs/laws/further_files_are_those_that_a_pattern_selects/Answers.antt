use Rattle.hook_run.proofs.FurtherLawLemmas.{selected-further}
use Rattle.hook_run.proofs.laws.further_files_are_those_that_a_pattern_selects.Goals as goal

pub returns : goal.returns
returns c = selected-further

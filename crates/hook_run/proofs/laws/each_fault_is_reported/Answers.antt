use Rattle.hook_run.proofs.FaultLemmas.{faults-reported}
use Rattle.hook_run.proofs.laws.each_fault_is_reported.Goals as goal

pub returns : goal.returns
returns c = faults-reported

use Rattle.hook_run.proofs.UnseenEditLemmas.{run-alike}
use Rattle.hook_run.proofs.laws.an_unseen_edit_changes_no_result.Goals as goal

pub returns : goal.returns
returns c = run-alike

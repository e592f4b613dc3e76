use Rattle.repository_text.proofs.StatusLemmas.{status-equal}
use Rattle.repository_text.proofs.laws.equal_trees_have_no_status.Goals as goal

pub returns : goal.returns
returns c = status-equal

use Rattle.repository_text.proofs.PathOrderLemmas.{one-list}
use Rattle.repository_text.proofs.laws.rising_paths_are_told_by_what_they_hold.Goals as goal

pub returns : goal.returns
returns c = one-list

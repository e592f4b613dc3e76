use Rattle.repository_text.proofs.StatusLemmas.{paths-of-either}
use Rattle.repository_text.proofs.laws.status_looks_at_the_paths_of_either.Goals as goal

pub returns : goal.returns
returns c = paths-of-either

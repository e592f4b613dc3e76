use Rattle.repository_text.proofs.PathOrderLemmas.{paths-rise}
use Rattle.repository_text.proofs.laws.status_looks_at_rising_paths.Goals as goal

pub returns : goal.returns
returns c = paths-rise

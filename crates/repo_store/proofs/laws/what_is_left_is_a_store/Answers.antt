-- Each clause is a lemma.
use Rattle.repo_store.proofs.FitLemmas.{held_fit, left_versioned, left_undamaged}
use Rattle.repo_store.proofs.laws.what_is_left_is_a_store.Goals as goal

pub returns-clause-tables : goal.returns-clause-tables
returns-clause-tables c = held_fit

pub returns-clause-undamaged : goal.returns-clause-undamaged
returns-clause-undamaged c = left_undamaged

pub returns-clause-versioned : goal.returns-clause-versioned
returns-clause-versioned c = left_versioned

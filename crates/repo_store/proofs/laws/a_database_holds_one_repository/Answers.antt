-- Each clause is a lemma.
use Rattle.repo_store.proofs.AlikeLemmas.{held_alike, left_alike}
use Rattle.repo_store.proofs.laws.a_database_holds_one_repository.Goals as goal

pub returns-clause-tables : goal.returns-clause-tables
returns-clause-tables c = held_alike

pub returns-clause-trees : goal.returns-clause-trees
returns-clause-trees c = left_alike

use Rattle.repo_store.proofs.SameRowLemmas.{SameRows}
use Rattle.repo_store.proofs.differences.are_same_rows.Given as goal

abbrev pub invariant-files : goal.invariant-files
invariant-files l = SameRows l.files l.others l.index

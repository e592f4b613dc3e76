use Rattle.std.proofs.Common.{map, take}
use Rattle.store_tables.proofs.RisingLemmas.{RisesTo}
use Rattle.repo_store.specs.RowRules.{commit_number_in}
use Rattle.repo_store.proofs.from_rows.commits.commits_rise.Given as goal

abbrev pub invariant-loop-row : goal.invariant-loop-row
invariant-loop-row l = RisesTo (map commit_number_in (take l.row-index l.rows)) l.last

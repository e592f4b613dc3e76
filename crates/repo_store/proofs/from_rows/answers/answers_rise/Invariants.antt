use Rattle.std.proofs.Common.{take}
use Rattle.std.specs.Option.{option_copied}
use Rattle.repo_store.proofs.KeyOrderLemmas.{RiseTo}
use Rattle.repo_store.proofs.from_rows.answers.answers_rise.Given as goal

abbrev pub invariant-rows : goal.invariant-rows
invariant-rows l = RiseTo (option_copied l.last) (take l.row-index l.rows)

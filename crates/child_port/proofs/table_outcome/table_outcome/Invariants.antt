use Rattle.std.proofs.Common.{drop}
use Rattle.child_port.specs.declared.answer.Outcome.{Outcome}
use Rattle.child_port.specs.Tables.{TableTells}
use Rattle.child_port.proofs.table_outcome.table_outcome.Given as goal

-- what the rows from here on tell, all of them tell
abbrev pub invariant-rows : goal.invariant-rows
invariant-rows l =
    (outcome : Outcome) → TableTells (drop l.row-index l.rows) l.words l.seen outcome → TableTells l.rows l.words l.seen outcome

use Rattle.command_line.proofs.CommandLemmas.{kinds_found, rows_found}
use Rattle.command_line.proofs.command_line.matches_of.Goals as goal

pub returns-clause-rows : goal.returns-clause-rows
returns-clause-rows c = rows_found _ _ c.try_get_matches_from.result c.in_ok-hookhost.ensures c.try_get_matches_from.ensures.matches

pub returns-clause-fault : goal.returns-clause-fault
returns-clause-fault c = kinds_found _ _ c.try_get_matches_from.result c.in_ok-hookhost.ensures c.try_get_matches_from.ensures.kinds

use Rattle.command_line.proofs.CommandLemmas.{returned-first}
use Rattle.command_line.proofs.command_line.line_in.Goals as goal

pub returns-in_err-matches-clause-fault : goal.returns-in_err-matches-clause-fault
returns-in_err-matches-clause-fault c =
    returned-first _ _ c.in_err-matches.field-0.0 c.from_residual.result c.from_residual.ensures.1 c.in_err-matches.ensures.fault

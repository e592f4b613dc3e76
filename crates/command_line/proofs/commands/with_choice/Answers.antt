use Rattle.command_line.proofs.CommandLemmas.{still-local}
use Rattle.command_line.proofs.commands.with_choice.Goals as goal

pub returns-clause-local : goal.returns-clause-local
returns-clause-local c =
    still-local c.args.command c.in_ok-arg.field-0 c.in_ok-arg-2.field-0 c.in_ok-arg-3.field-0 c.flag.result c.flag-2.result c.color.result c.jobs.result
    c.arg-4.result c.in_ok-arg.ensures c.flag.ensures.local c.in_ok-arg-2.ensures c.flag-2.ensures.local c.in_ok-arg-3.ensures c.color.ensures.local
    c.arg-4.ensures c.jobs.ensures.local

use Rattle.command_line.specs.CommandLine.{most_jobs}
use Rattle.command_line.proofs.ValueLemmas.{up-to-told, up-to-untold}
use Rattle.command_line.proofs.values.jobs_from.Goals as goal

pub returns-in-Some : goal.returns-in-Some
returns-in-Some c = up-to-told most_jobs c.args.text.now c.jobs_number.result c.in-Some.jobs c.jobs_number.ensures c.in-Some.is

pub returns-in-None : goal.returns-in-None
returns-in-None c =
    up-to-untold most_jobs c.args.text.now c.jobs_number.result c.jobs_error.result c.jobs_number.ensures c.in-None.is c.jobs_error.ensures

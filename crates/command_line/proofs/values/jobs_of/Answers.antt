use Rattle.std.proofs.Common.{codes}
use Rattle.clap.specs.Words.{found_of}
use Rattle.command_line.specs.CommandLine.{most_jobs}
use Rattle.command_line.proofs.Kit.{first_value-rows}
use Rattle.command_line.proofs.ValueLemmas.{up-to-given, up-to-none}
use Rattle.command_line.proofs.values.jobs_of.Goals as goal

pub returns-in-None : goal.returns-in-None
returns-in-None c =
    up-to-none most_jobs _ _ c.get_str.result c.get_str.ensures (first_value-rows (found_of c.args.values.now) (codes "jobs")) c.in-None.is

pub returns-in-Some : goal.returns-in-Some
returns-in-Some c =
    up-to-given most_jobs _ _ c.get_str.result c.get_str.ensures (first_value-rows (found_of c.args.values.now) (codes "jobs")) c.in-Some.text
    c.jobs_from.result c.in-Some.is c.jobs_from.ensures

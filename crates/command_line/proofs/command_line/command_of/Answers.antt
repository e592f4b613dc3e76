use Rattle.clap.specs.declared.parser.matches.ArgMatches.TheViews.{out-ArgMatches}
use Rattle.command_line.proofs.CommandLemmas.{command-met}
use Rattle.command_line.proofs.command_line.command_of.Goals as goal

pub returns : goal.returns
returns c = command-met c.subcommand.result (out-ArgMatches c.args.matches.now).subcommand c.subcommand.ensures.name c.subcommand.ensures.rows

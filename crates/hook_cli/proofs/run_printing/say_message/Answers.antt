use Rattle.std.proofs.Common.{subst}
use Rattle.hook_cli.specs.declared.command_ending.CommandEnding.{CommandEnding}
use Rattle.hook_cli.specs.Printing.{IsSaid, untaken_line}
use Rattle.hook_cli.proofs.PrintingLemmas.{said-of}
use Rattle.hook_cli.proofs.run_printing.say_message.Goals as goal

pub returns : goal.returns
returns g c =
    subst
    (λ (wanted : CommandEnding). IsSaid wanted (record { held = g.O.Write.contents c.args.out.now; holds = g.O.Write.contents c.write_out.new.writer }) c.args.report.now
    (record { held = g.E.Write.contents c.args.err.now; holds = g.E.Write.contents c.ending_of.new.err }) untaken_line c.ending_of.result)
    c.ending_of_run-ending.ensures
    (said-of c.ending_of_run-ending.result c.ending_of.result c.write_out.result (record { held = g.O.Write.contents c.args.out.now; holds = g.O.Write.contents c.write_out.new.writer })
    (record { held = g.E.Write.contents c.args.err.now; holds = g.E.Write.contents c.ending_of.new.err }) c.args.report.now
    c.write_out.ensures.ok c.write_out.ensures.err c.ending_of.ensures.taken c.ending_of.ensures.untaken)

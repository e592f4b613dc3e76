use Rattle.std.specs.List.{concat}
use Rattle.hook_cli.specs.declared.command_ending.CommandEnding.TheVariants.{Failed}
use Rattle.hook_cli.proofs.PrintingLemmas.{said-of}
use Rattle.hook_cli.proofs.run_printing.say_failure.Goals as goal

pub returns : goal.returns
returns g c =
    said-of Failed c.ending_of.result c.write_reports.result (record { held = g.O.Write.contents c.args.out.now; holds = g.O.Write.contents c.write_reports.new.out })
    (record { held = g.E.Write.contents c.args.err.now; holds = g.E.Write.contents c.ending_of.new.err }) (concat c.args.reports.now)
    c.write_reports.ensures.ok c.write_reports.ensures.err c.ending_of.ensures.taken c.ending_of.ensures.untaken

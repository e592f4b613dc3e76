use Rattle.hook_cli.specs.declared.command_ending.CommandEnding.TheVariants.{Done}
use Rattle.hook_cli.proofs.PrintingLemmas.{said-of}
use Rattle.hook_cli.proofs.printing.say.Goals as goal

pub returns : goal.returns
returns g c =
    said-of Done c.ending_of.result c.write_out.result (record { held = g.O.Write.contents c.args.out.now; holds = g.O.Write.contents c.write_out.new.writer })
    (record { held = g.E.Write.contents c.args.err.now; holds = g.E.Write.contents c.ending_of.new.err }) c.args.text.now
    c.write_out.ensures.ok c.write_out.ensures.err c.ending_of.ensures.taken c.ending_of.ensures.untaken

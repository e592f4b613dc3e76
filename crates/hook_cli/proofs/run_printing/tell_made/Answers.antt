use Rattle.hook_cli.specs.declared.command_ending.CommandEnding.TheVariants.{CutOff}
use Rattle.hook_cli.proofs.RunPrintingLemmas.{told-made}
use Rattle.hook_cli.proofs.run_printing.tell_made.Goals as goal

pub returns : goal.returns
returns g c =
    told-made CutOff (record { held = g.E.Write.contents c.args.err.now; holds = g.E.Write.contents c.tell_pieces.new.err }) c.tell_pieces.result
    c.format.result.now c.args.number c.format.ensures.text c.tell_pieces.ensures

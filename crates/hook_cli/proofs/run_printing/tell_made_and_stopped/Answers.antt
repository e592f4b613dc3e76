use Rattle.hook_cli.specs.declared.command_ending.CommandEnding.TheVariants.{CutOff}
use Rattle.hook_cli.proofs.RunPrintingLemmas.{told-made-and-stopped}
use Rattle.hook_cli.proofs.run_printing.tell_made_and_stopped.Goals as goal

pub returns : goal.returns
returns g c =
    told-made-and-stopped CutOff (record { held = g.E.Write.contents c.args.err.now; holds = g.E.Write.contents c.tell_pieces.new.err })
    c.tell_pieces.result c.args.refusal.now c.args.number c.number.result c.format-made.result.now c.format-number.result.now c.name.result.now
    c.format-made.ensures.text c.format-number.ensures.text c.number.ensures c.name.ensures c.tell_pieces.ensures

use Rattle.hook_cli.specs.declared.command_ending.CommandEnding.TheVariants.{Done}
use Rattle.hook_cli.proofs.RunPrintingLemmas.{told-stopped}
use Rattle.hook_cli.proofs.run_printing.tell_stopped.Goals as goal

pub returns : goal.returns
returns g c =
    told-stopped Done (record { held = g.E.Write.contents c.args.err.now; holds = g.E.Write.contents c.tell_pieces.new.err }) c.tell_pieces.result
    c.args.refusal.now c.number.result c.format-number.result.now c.name.result.now c.format-number.ensures.text c.number.ensures c.name.ensures c.tell_pieces.ensures

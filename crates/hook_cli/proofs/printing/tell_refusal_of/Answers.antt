use Rattle.hook_cli.specs.declared.command_ending.CommandEnding.TheVariants.{Refused}
use Rattle.hook_cli.proofs.PrintingLemmas.{told-inner}
use Rattle.hook_cli.proofs.printing.tell_refusal_of.Goals as goal

pub returns : goal.returns
returns g c =
    told-inner Refused (record { held = g.E.Write.contents c.args.err.now; holds = g.E.Write.contents c.tell_pieces.new.err }) c.tell_pieces.result
    c.args.number.now c.args.name.now c.format-inner.result.now c.args.inner c.format-inner.ensures.text c.tell_pieces.ensures

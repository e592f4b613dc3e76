use Rattle.hook_cli.specs.declared.command_ending.CommandEnding.TheVariants.{Refused}
use Rattle.hook_cli.proofs.PrintingLemmas.{told-no-fixed}
use Rattle.hook_cli.proofs.printing.tell_no_fixed.Goals as goal

pub returns : goal.returns
returns g c =
    told-no-fixed Refused (record { held = g.E.Write.contents c.args.err.now; holds = g.E.Write.contents c.tell_pieces.new.err }) c.tell_pieces.result
    c.args.path.now c.tell_pieces.ensures

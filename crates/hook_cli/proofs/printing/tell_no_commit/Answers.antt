use Rattle.hook_cli.specs.declared.command_ending.CommandEnding.TheVariants.{Refused}
use Rattle.hook_cli.proofs.PrintingLemmas.{told-no-commit}
use Rattle.hook_cli.proofs.printing.tell_no_commit.Goals as goal

pub returns : goal.returns
returns g c =
    told-no-commit Refused (record { held = g.E.Write.contents c.args.err.now; holds = g.E.Write.contents c.tell_pieces.new.err }) c.tell_pieces.result
    c.format.result.now c.args.number c.format.ensures.text c.tell_pieces.ensures

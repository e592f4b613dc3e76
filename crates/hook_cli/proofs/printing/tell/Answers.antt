use Rattle.std.proofs.Common.{◌∙◌, sym}
use Rattle.hook_cli.specs.declared.command_ending.CommandEnding.TheVariants.{Refused}
use Rattle.hook_cli.proofs.PrintingLemmas.{told-plain}
use Rattle.hook_cli.proofs.printing.tell.Goals as goal

pub returns-in-None : goal.returns-in-None
returns-in-None g c =
    told-plain Refused (record { held = g.E.Write.contents c.args.err.now; holds = g.E.Write.contents c.tell_pieces.new.err }) c.tell_pieces.result
    c.args.refusal.now c.number.result c.format-number.result.now c.name-in-None.result.now c.format-number.ensures.text c.number.ensures c.name-in-None.ensures
    (sym c.inner_number.ensures ∙ c.in-None.is) c.tell_pieces.ensures

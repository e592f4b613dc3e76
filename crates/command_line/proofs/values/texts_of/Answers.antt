use Rattle.std.proofs.Common.{◌∙◌, ap}
use Rattle.clap.specs.Words.{found_of}
use Rattle.command_line.proofs.Kit.{raw_values-rows}
use Rattle.command_line.proofs.ValueLemmas.{or_none}
use Rattle.command_line.proofs.values.texts_of.Goals as goal

pub returns-in_ok-copied-in-Some : goal.returns-in_ok-copied-in-Some
returns-in_ok-copied-in-Some c =
    c.from.ensures ∙ c.in_ok-copied-in-Some.ensures
    ∙ ap or_none (c.in-Some.ensures ∙ raw_values-rows (found_of c.args.values.now) c.args.id.now)

pub returns-in-None : goal.returns-in-None
returns-in-None c =
    c.from-in-None.ensures ∙ c.new.ensures.items
    ∙ ap or_none (c.in-None.ensures ∙ raw_values-rows (found_of c.args.values.now) c.args.id.now)

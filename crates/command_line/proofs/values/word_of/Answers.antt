use Rattle.std.proofs.Common.{◌∙◌, ap, refl}
use Rattle.clap.specs.Words.{found_of}
use Rattle.command_line.proofs.Kit.{first_value-rows}
use Rattle.command_line.proofs.ValueLemmas.{text_or}
use Rattle.command_line.proofs.values.word_of.Goals as goal

pub returns : goal.returns
returns c =
    text_or c.get_str.result _ c.unwrap_or.result.now _ refl (c.get_str.ensures ∙ first_value-rows (found_of c.args.values.now) c.args.id.now)
    (ap (λ s. s.now) c.unwrap_or.ensures)

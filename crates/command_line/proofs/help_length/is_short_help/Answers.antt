use Rattle.std.specs.Prelude.{codes}
use Rattle.std.proofs.lemmas.Str.Pattern.{starts_text}
use Rattle.command_line.proofs.help_length.is_short_help.Goals as goal

pub returns : goal.returns
returns c = starts_text _ (codes "-h") c.args.word.now c.starts_with.ensures.cases

use Rattle.std.proofs.Common.{codes}
use Rattle.std.proofs.lemmas.Str.Pattern.{starts_text}
use Rattle.run_options.proofs.split_files.is_sum_option.Goals as goal

pub returns : goal.returns
returns c = starts_text c.starts_with.result (codes "--max-warnings=") c.args.word.now c.starts_with.ensures.cases

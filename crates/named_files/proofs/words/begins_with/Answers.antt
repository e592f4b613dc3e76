use Rattle.std.proofs.lemmas.Str.Pattern.{starts_text}
use Rattle.named_files.proofs.words.begins_with.Goals as goal

pub returns : goal.returns
returns c = starts_text c.starts_with.result c.args.text.now c.args.path.now c.starts_with.ensures.cases

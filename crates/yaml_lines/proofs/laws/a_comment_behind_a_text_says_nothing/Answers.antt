-- The clause is a lemma.
use Rattle.yaml_lines.proofs.QuotedTrailing.{scalar_behind}
use Rattle.yaml_lines.proofs.laws.a_comment_behind_a_text_says_nothing.Goals as goal

pub returns : goal.returns
returns c = scalar_behind

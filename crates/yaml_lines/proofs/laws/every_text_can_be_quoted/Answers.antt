-- Each clause is a lemma.
use Rattle.yaml_lines.proofs.Written.{single_written, double_written}
use Rattle.yaml_lines.proofs.laws.every_text_can_be_quoted.Goals as goal

pub returns-clause-single : goal.returns-clause-single
returns-clause-single c = single_written

pub returns-clause-double : goal.returns-clause-double
returns-clause-double c = double_written

-- Each clause is a lemma.
use Rattle.yaml_lines.proofs.Quoting.{bare_meaning, single_meaning, double_meaning}
use Rattle.yaml_lines.proofs.laws.quoting_keeps_the_text.Goals as goal

pub returns-clause-bare : goal.returns-clause-bare
returns-clause-bare c = bare_meaning

pub returns-clause-single : goal.returns-clause-single
returns-clause-single c = single_meaning

pub returns-clause-double : goal.returns-clause-double
returns-clause-double c = double_meaning

-- Each clause is a lemma.
use Rattle.yaml_lines.proofs.KeyQuoting.{plain_key, single_key, double_key}
use Rattle.yaml_lines.proofs.laws.quoting_a_key_changes_nothing.Goals as goal

pub returns-clause-bare : goal.returns-clause-bare
returns-clause-bare c = plain_key

pub returns-clause-single : goal.returns-clause-single
returns-clause-single c = single_key

pub returns-clause-double : goal.returns-clause-double
returns-clause-double c = double_key

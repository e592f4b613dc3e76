use Rattle.yaml_profile.proofs.Moved.{node_moved, whole_moved}
use Rattle.yaml_profile.proofs.laws.indenting_every_line_changes_nothing.Goals as goal

pub returns-clause-lines : goal.returns-clause-lines
returns-clause-lines c = node_moved

pub returns-clause-whole : goal.returns-clause-whole
returns-clause-whole c = whole_moved

-- Each clause is a lemma.
use Rattle.std.proofs.Common.{Some, None}
use Rattle.yaml_lines.proofs.LastValues.{item_value, empty_item_value, other_value}
use Rattle.yaml_lines.proofs.laws.a_last_value_is_that_of_the_item_or_the_entry.Goals as goal

pub returns-clause-item : goal.returns-clause-item
returns-clause-item c = item_value

pub returns-clause-empty_item : goal.returns-clause-empty_item
returns-clause-empty_item c = empty_item_value

pub returns-clause-entry : goal.returns-clause-entry
returns-clause-entry c = λ p dash entry some other is. other_value p dash (Some entry) some other is

pub returns-clause-value : goal.returns-clause-value
returns-clause-value c = λ p column some other none. other_value p (Some column) None some other none

pub returns-clause-text : goal.returns-clause-text
returns-clause-text c = λ p some other none. other_value p None None some other none

use Rattle.yaml_profile.proofs.FlowOfWords.{flow_entries}
use Rattle.yaml_profile.proofs.LinesOfEntries.{line_entries}
use Rattle.yaml_profile.proofs.TextsOfEntries.{text_of_entry_lines, text_of_entry_flow}
use Rattle.yaml_profile.proofs.laws.a_table_has_one_meaning_in_both_forms.Goals as goal

pub returns-clause-lines : goal.returns-clause-lines
returns-clause-lines c = line_entries

pub returns-clause-braces : goal.returns-clause-braces
returns-clause-braces c = flow_entries

pub returns-clause-text_of_lines : goal.returns-clause-text_of_lines
returns-clause-text_of_lines c = text_of_entry_lines

pub returns-clause-text_in_braces : goal.returns-clause-text_in_braces
returns-clause-text_in_braces c = text_of_entry_flow

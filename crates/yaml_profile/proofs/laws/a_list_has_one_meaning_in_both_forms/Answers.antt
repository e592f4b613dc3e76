-- Each clause is a lemma.
use Rattle.yaml_profile.proofs.FlowOfWords.{flow_words, flow_too_deep}
use Rattle.yaml_profile.proofs.LinesOfWords.{line_words, lines_too_deep}
use Rattle.yaml_profile.proofs.TextsOfWords.{text_of_lines, text_of_flow}
use Rattle.yaml_profile.proofs.laws.a_list_has_one_meaning_in_both_forms.Goals as goal

pub returns-clause-lines : goal.returns-clause-lines
returns-clause-lines c = line_words

pub returns-clause-brackets : goal.returns-clause-brackets
returns-clause-brackets c = flow_words

pub returns-clause-no_room_for_lines : goal.returns-clause-no_room_for_lines
returns-clause-no_room_for_lines c = lines_too_deep

pub returns-clause-no_room_for_brackets : goal.returns-clause-no_room_for_brackets
returns-clause-no_room_for_brackets c = flow_too_deep

pub returns-clause-text_of_lines : goal.returns-clause-text_of_lines
returns-clause-text_of_lines c = text_of_lines

pub returns-clause-text_in_brackets : goal.returns-clause-text_in_brackets
returns-clause-text_in_brackets c = text_of_flow

-- Each clause is a lemma.
use Rattle.yaml_lines.proofs.Literal.{margin_is, all_belong, none_ragged, clipped_text, kept_text}
use Rattle.yaml_lines.proofs.laws.a_text_in_lines_of_a_literal_block_text_is_that_text.Goals as goal

pub returns-clause-margin : goal.returns-clause-margin
returns-clause-margin c = margin_is

pub returns-clause-belong : goal.returns-clause-belong
returns-clause-belong c = all_belong

pub returns-clause-even : goal.returns-clause-even
returns-clause-even c = none_ragged

pub returns-clause-clipped : goal.returns-clause-clipped
returns-clause-clipped c = clipped_text

pub returns-clause-kept : goal.returns-clause-kept
returns-clause-kept c = kept_text

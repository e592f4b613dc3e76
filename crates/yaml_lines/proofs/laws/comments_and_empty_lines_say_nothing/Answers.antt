-- Each clause is a lemma.
use Rattle.yaml_lines.proofs.Held.{no_texts}
use Rattle.yaml_lines.proofs.Saying.{saying_places, saying_text}
use Rattle.yaml_lines.proofs.laws.comments_and_empty_lines_say_nothing.Goals as goal

pub returns-clause-lines : goal.returns-clause-lines
returns-clause-lines c = saying_places

pub returns-clause-text : goal.returns-clause-text
returns-clause-text c = saying_text

pub returns-clause-without_bars : goal.returns-clause-without_bars
returns-clause-without_bars c = λ lines none_holds. saying_text lines (no_texts lines none_holds)

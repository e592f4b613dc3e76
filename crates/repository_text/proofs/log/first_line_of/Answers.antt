use Rattle.repository_text.proofs.TextLemmas.{first_line-found, first_line-whole}
use Rattle.repository_text.proofs.log.first_line_of.Goals as goal

pub returns-in-Some : goal.returns-in-Some
returns-in-Some c = first_line-found c.args.message.now c.in-Some.end c.in-Some.ensures.0 c.in-Some.ensures.1

pub returns-in-None : goal.returns-in-None
returns-in-None c = first_line-whole c.args.message.now c.in-None.ensures

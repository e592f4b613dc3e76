use Rattle.result_book.specs.CallLemmas.{count_full, count_more, count_same}
use Rattle.result_book.proofs.laws.a_put_adds_one_or_replaces.Goals as goal

pub returns-clause-more : goal.returns-clause-more
returns-clause-more c = λ words seen answer before after step room lacks. count_more words seen answer before after step room lacks

pub returns-clause-full : goal.returns-clause-full
returns-clause-full c = λ words seen answer before after step full lacks. count_full words seen answer before after step full lacks

pub returns-clause-same : goal.returns-clause-same
returns-clause-same c = λ words seen answer old before after book step held. count_same words seen answer before after step old book.distinct book.within held

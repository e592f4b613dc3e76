use Rattle.std.proofs.Common.{subst}
use Rattle.repo_store.specs.Answers.{HaveOwnKeys}
use Rattle.repo_store.specs.ListedAnswers.{ListedAnswers}
use Rattle.repo_store.proofs.AnswerListLemmas.{keys_own}
use Rattle.repo_store.proofs.answer_list.AnswerList.len.Goals as goal

pub returns-clause-keys : goal.returns-clause-keys
returns-clause-keys c = subst (λ (l : ListedAnswers). HaveOwnKeys l.answers) c.self.view_is (keys_own c.self.inside.cache.entries c.self.invariant.keys c.len.ensures.valid.0)

use Rattle.std.proofs.Common.{◌≡◌, IfNone, IfSome, subst}
use Rattle.std.specs.List.{AllByRecursion, Contains}
use Rattle.repo_store.specs.Answers.{KeptAnswer}
use Rattle.repo_store.specs.Index.{key_of}
use Rattle.repo_store.specs.ListedAnswers.{ListedAnswers}
use Rattle.repo_store.proofs.AnswerListLemmas.{found_among, found_key, found_none}
use Rattle.repo_store.proofs.answer_list.AnswerList.find.Goals as goal

pub returns-clause-found : goal.returns-clause-found
returns-clause-found c =
    subst (λ (list : ListedAnswers). IfSome c.peek.result (λ answer. Contains list.answers answer.now)) c.self.view_is
    (found_among c.peek.result (c.args.words, c.args.seen) c.self.inside.cache.entries c.self.invariant.keys c.peek.ensures)

pub returns-clause-key : goal.returns-clause-key
returns-clause-key c = found_key c.peek.result (c.args.words, c.args.seen) c.self.inside.cache.entries c.self.invariant.keys c.peek.ensures

pub returns-clause-absent : goal.returns-clause-absent
returns-clause-absent c =
    subst (λ (list : ListedAnswers). IfNone c.peek.result (AllByRecursion (λ (answer : KeptAnswer). ¬ (key_of answer ≡ (c.args.words, c.args.seen))) list.answers)) c.self.view_is
    (found_none c.peek.result (c.args.words, c.args.seen) c.self.inside.cache.entries c.self.invariant.keys c.peek.ensures)

use Rattle.std.proofs.Common.{◌∙◌, ap, is_some}
use Rattle.repo_store.specs.declared.answer_search.FoundAnswer.{FoundAnswer}
use Rattle.repo_store.specs.AnswerRefs.{stored_answer}
use Rattle.repo_store.specs.Answers.{answer_for}
use Rattle.repo_store.specs.Shown.{Shown}
use Rattle.repo_store.proofs.StoreBookLemmas.{some_alike}
use Rattle.repo_store.proofs.store.Store.has_answer.Goals as goal

pub returns-clause-held : goal.returns-clause-held
returns-clause-held g c =
    c.is_some.ensures
    ∙ some_alike (λ (found : FoundAnswer). found.answer) stored_answer c.in_ok-found.found (answer_for c.args.words.now c.args.seen.now c.self.inside.lists.kept.answers)
    c.in_ok-found.ensures.found
    ∙ ap (λ (s : Shown g.row.S.Denot). is_some (answer_for c.args.words.now c.args.seen.now s.kept.answers)) c.self.view_is

use Rattle.std.proofs.Common.{Some, ap, sym, ◌∙◌}
use Rattle.repo_store.specs.Index.{Key}
use Rattle.repo_store.specs.ListedAnswers.{ListedAnswers}
use Rattle.repo_store.proofs.AnswerListLemmas.{first_is, same_key}
use Rattle.repo_store.proofs.KeyLemmas.{keys_decide}
use Rattle.repo_store.proofs.answer_list.AnswerList.is_first.Goals as goal

pub returns-in-Some : goal.returns-in-Some
returns-in-Some c =
    let key = c.in-Some.key.now in
    let asked : Key = (c.args.words, c.args.seen) in
    let first = first_is c.args.self.now c.self.inside.cache.entries key c.in-Some._answer.now c.self.invariant.keys (ap (λ (list : ListedAnswers). list.answers) c.self.view_is) c.in-Some.ensures in
    let decides = keys_decide key asked in
    (λ h. first ∙ ap Some (decides.0 (sym c.eq.ensures ∙ h)), λ is. c.eq.ensures ∙ decides.1 (same_key (sym first ∙ is)))

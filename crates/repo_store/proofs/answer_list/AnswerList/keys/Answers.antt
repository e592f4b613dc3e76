use Rattle.std.proofs.Common.{◌∙◌, ◌++◌, append-nil, ap, ap₂, map, sym, List}
use Rattle.std.specs.Map.{keys_of}
use Rattle.repo_store.specs.Answers.{KeptAnswer}
use Rattle.repo_store.specs.Index.{Key, key_of}
use Rattle.repo_store.specs.ListedAnswers.{ListedAnswers}
use Rattle.repo_store.proofs.AnswerListLemmas.{keys_are, keys_turned}
use Rattle.repo_store.proofs.answer_list.AnswerList.keys.Goals as goal

pub answers-init : goal.answers-init
answers-init c =
    ap₂ (λ (done : List Key) (left : List (Key × KeptAnswer)). done ++ keys_of left) c.new-keys.ensures.items (c.into_iter-key-iterator.ensures.into_iter_gives ∙ c.iter-key-items.ensures.rest)
    ∙ keys_are c.self.inside.cache.entries c.self.invariant.keys ∙ ap (λ (list : ListedAnswers). map key_of list.answers) c.self.view_is

pub returns : goal.returns
returns c =
    let all = sym (append-nil c.answers.keys.items) ∙ sym (ap (λ (left : List (Key × KeptAnswer)). c.answers.keys.items ++ keys_of left) c.in-None.ensures.steps.0) ∙ c.answers.invariant in
    c.reverse.ensures.items ∙ keys_turned c.args.self.now.answers c.answers.keys.items all

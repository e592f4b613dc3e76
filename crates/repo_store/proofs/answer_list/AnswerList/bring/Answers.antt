use Rattle.std.proofs.Common.{List}
use Rattle.lru.specs.LruCache.{promoted}
use Rattle.repo_store.specs.Answers.{KeptAnswer}
use Rattle.repo_store.specs.Index.{keys_eq}
use Rattle.repo_store.specs.ListedAnswers.{brought_answers}
use Rattle.repo_store.proofs.AnswerListLemmas.{listed_now, promoted_is, shown_now, values_now}
use Rattle.repo_store.proofs.answer_list.AnswerList.bring.Goals as goal

pub invariant_of-self : goal.invariant_of-self
invariant_of-self c =
    let old = c.self.inside.cache in
    let it = c.self.invariant in
    listed_now c.promote-there.new.self (promoted (keys_eq (c.args.words, c.args.seen)) old.entries) old.cap _ c.promote-there.ensures.entries
    (promoted_is old.entries it.keys c.len-length.ensures.valid.0 (c.args.words, c.args.seen)) c.self.inside.limit c.self.inside.next it.unbounded it.limited it.ticking

pub returns : goal.returns
returns c =
    let old = c.self.inside.cache in
    shown_now c.args.self.now _ _ c.self.inside.limit c.self.inside.next (λ (answers : List KeptAnswer). brought_answers (c.args.words, c.args.seen) answers) c.self.view_is
    (values_now c.promote-there.new.self (promoted (keys_eq (c.args.words, c.args.seen)) old.entries) old.cap _ c.promote-there.ensures.entries
    (promoted_is old.entries c.self.invariant.keys c.len-length.ensures.valid.0 (c.args.words, c.args.seen)))

use Rattle.std.proofs.Common.{List, drop}
use Rattle.repo_store.specs.Answers.{KeptAnswer}
use Rattle.repo_store.proofs.AnswerListLemmas.{dropped, listed_now, shown_now, values_now}
use Rattle.repo_store.proofs.answer_list.AnswerList.take_back.Goals as goal

pub invariant_of-self : goal.invariant_of-self
invariant_of-self c =
    let old = c.self.inside.cache in
    let it = c.self.invariant in
    listed_now c.pop_mru-first.new.self (drop 1 old.entries) old.cap _ c.pop_mru-first.ensures.entries (dropped old.entries it.keys 1) c.self.inside.limit c.self.inside.next it.unbounded it.limited
    it.ticking

pub returns : goal.returns
returns c =
    let old = c.self.inside.cache in
    shown_now c.args.self.now _ _ c.self.inside.limit c.self.inside.next (λ (answers : List KeptAnswer). drop 1 answers) c.self.view_is
    (values_now c.pop_mru-first.new.self (drop 1 old.entries) old.cap _ c.pop_mru-first.ensures.entries (dropped old.entries c.self.invariant.keys 1))

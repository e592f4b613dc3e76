use Rattle.std.proofs.Common.{ℕ, ◌-◌, ◌∙◌, List, ap, length, sym, take}
use Rattle.std.specs.Map.{values_of}
use Rattle.std.proofs.lemmas.Map.Entries.{length-values_of}
use Rattle.repo_store.specs.Answers.{KeptAnswer}
use Rattle.repo_store.proofs.AnswerListLemmas.{listed_now, shown_now, taken, values_now}
use Rattle.repo_store.proofs.answer_list.AnswerList.drop_last.Goals as goal

pub invariant_of-self : goal.invariant_of-self
invariant_of-self c =
    let old = c.self.inside.cache in
    let it = c.self.invariant in
    listed_now c.pop_lru-last.new.self (take (length old.entries - 1) old.entries) old.cap _ c.pop_lru-last.ensures.entries (taken old.entries it.keys (length old.entries - 1))
    c.self.inside.limit c.self.inside.next it.unbounded it.limited it.ticking

pub returns : goal.returns
returns c =
    let old = c.self.inside.cache in
    shown_now c.args.self.now _ _ c.self.inside.limit c.self.inside.next (λ (answers : List KeptAnswer). take (length answers - 1) answers) c.self.view_is
    (values_now c.pop_lru-last.new.self (take (length old.entries - 1) old.entries) old.cap _ c.pop_lru-last.ensures.entries (taken old.entries c.self.invariant.keys (length old.entries - 1))
    ∙ ap (λ (count : ℕ). take (count - 1) (values_of old.entries)) (sym (length-values_of old.entries)))

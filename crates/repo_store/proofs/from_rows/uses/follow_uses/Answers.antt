use Rattle.std.proofs.Common.{◌≡◌, true, false, map, reverse, IsPermutation, sym, subst, ◌∙◌}
use Rattle.std.specs.List.{AllByRecursion}
use Rattle.std.proofs.lemmas.Result.{err_from_is_err_and}
use Rattle.store_tables.specs.declared.rows.UseRow.{UseRow}
use Rattle.repo_store.specs.Bounded.{IsTick, key_of_use}
use Rattle.repo_store.specs.FromRows.{AreUsesFor}
use Rattle.repo_store.specs.Index.{key_of}
use Rattle.repo_store.specs.ListedAnswers.{ListedAnswers}
use Rattle.repo_store.specs.UsesOf.{AreUsesOf}
use Rattle.repo_store.proofs.FollowLemmas.{as_before, followed}
use Rattle.repo_store.proofs.FromRowsLemmas.{damage_of}
use Rattle.repo_store.proofs.from_rows.uses.follow_uses.Goals as goal

pub returns-in_err-next-clause-broken : goal.returns-in_err-next-clause-broken
returns-in_err-next-clause-broken c =
    let p = err_from_is_err_and c.from_residual.result c.from_residual.ensures.1 in
    rw (p.1, p.2) (damage_of (¬ AllByRecursion (λ (row : UseRow). IsTick row.tick) c.args.uses.now) (¬ AreUsesFor c.args.uses.now c.args.answers.now.answers) c.in_err-next.field-0.0
    (λ breaks it. breaks it.ticks) c.in_err-next.ensures.broken)

pub returns-then-not-have_answers-clause-broken : goal.returns-then-not-have_answers-clause-broken
returns-then-not-have_answers-clause-broken c = λ it. c.have_answers.ensures.none (λ e. let never : false ≡ true = sym c.if-not-have_answers.true ∙ e in absurd (cc)) it.keys

pub returns-clause-uses : goal.returns-clause-uses
returns-clause-uses c =
    let uses = c.args.uses.now in
    let now = c.bring_each.new.answers in
    let keys : map key_of_use uses ≡ map key_of (reverse now.answers) = c.have_keys.ensures c.if-not-have_keys.false ∙ c.as_slice.ensures.value ∙ c.in_ok-keys.ensures in
    subst (λ (l : ListedAnswers). AreUsesOf l.next uses l.answers) (sym c.set_next.ensures) (followed c.in_ok-next.next uses now.answers keys c.in_ok-next.ensures.ticks c.in_ok-next.ensures.fall)

pub returns-clause-moved : goal.returns-clause-moved
returns-clause-moved c =
    let uses = c.args.uses.now in
    let now = c.bring_each.new.answers in
    let old = c.args.answers.now.answers in
    let keys : map key_of_use uses ≡ map key_of (reverse now.answers) = c.have_keys.ensures c.if-not-have_keys.false ∙ c.as_slice.ensures.value ∙ c.in_ok-keys.ensures in
    subst (λ (l : ListedAnswers). IsPermutation l.answers old) (sym c.set_next.ensures)
    (as_before uses old now.answers (c.have_answers.ensures.count c.if-not-have_answers.false) keys c.bring_each.ensures.moved)

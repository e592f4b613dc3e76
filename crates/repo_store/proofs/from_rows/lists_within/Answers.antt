use Rattle.std.proofs.Common.{List, [], arith}
use Rattle.std.proofs.lemmas.Result.{err_from_is_err_and}
use Rattle.store_tables.specs.declared.rows.MetaRow.{MetaRow}
use Rattle.repo_store.specs.FromRows.{AreRowsWithin, AreUsesFor, tables_of_rows}
use Rattle.repo_store.specs.RowRules.{AreStoreRows}
use Rattle.repo_store.proofs.FromRowsLemmas.{damage_of}
use Rattle.repo_store.proofs.VersionLemmas.{answers_count, complete_moved, same_moved, uses_for}
use Rattle.repo_store.proofs.from_rows.lists_within.Goals as goal

pub returns-in_err-lists-clause-broken : goal.returns-in_err-lists-clause-broken
returns-in_err-lists-clause-broken c =
    let rows = c.args.rows in
    let p = err_from_is_err_and c.from_residual.result c.from_residual.ensures.1 in
    rw (p.1, p.2) (damage_of ((meta : List MetaRow) → ¬ AreStoreRows (tables_of_rows meta rows)) (¬ AreRowsWithin c.args.limit rows c.args.uses.now) c.in_err-lists.field-0.0
    (λ breaks it. breaks [] it.store)
    c.in_err-lists.ensures.broken)

pub returns-then-count_answers-limit-clause-broken : goal.returns-then-count_answers-limit-clause-broken
returns-then-count_answers-limit-clause-broken c = λ it.
    let few = it.few in
    let over = c.if-count_answers-limit.true in
    let count = c.count_answers.ensures in
    let same = answers_count c.args.rows.answers.items c.in_ok-lists.lists.kept.answers c.in_ok-lists.ensures.order in
    absurd (omega arith)

pub returns-in_err-follow_uses-clause-broken : goal.returns-in_err-follow_uses-clause-broken
returns-in_err-follow_uses-clause-broken c =
    let rows = c.args.rows in
    let uses = c.args.uses.now in
    let answers = c.in_ok-lists.lists.kept.answers in
    let p = err_from_is_err_and c.from_residual-in_err-follow_uses.result c.from_residual-in_err-follow_uses.ensures.1 in
    rw (p.1, p.2) (damage_of (¬ AreUsesFor uses answers) (¬ AreRowsWithin c.args.limit rows uses) c.in_err-follow_uses.field-0.0
    (λ breaks it. breaks (uses_for c.args.limit rows uses answers c.in_ok-lists.ensures.order it)) c.in_err-follow_uses.ensures.broken)

pub returns-clause-same : goal.returns-clause-same
returns-clause-same c = λ meta.
    same_moved (tables_of_rows meta c.args.rows) meta c.in_ok-lists.lists.kept c.follow_uses.new.self.kept.answers c.follow_uses.new.self.kept c.follow_uses.ensures.others
    (c.in_ok-lists.ensures.same meta)
    c.in_ok-follow_uses.ensures.moved

pub returns-clause-complete : goal.returns-clause-complete
returns-clause-complete c =
    let over = c.if-count_answers-limit.false in
    let count = c.count_answers.ensures in
    let old = c.in_ok-lists.lists.kept in
    complete_moved old c.args.limit c.follow_uses.new.self.kept.answers c.follow_uses.new.self.kept c.follow_uses.ensures.others c.in_ok-lists.ensures.limit (omega arith)
    (c.in_ok-lists.ensures.complete c.args.limit c.requires) c.in_ok-follow_uses.ensures.moved c.in_ok-follow_uses.ensures.keys

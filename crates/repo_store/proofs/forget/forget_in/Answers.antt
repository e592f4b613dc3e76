use Rattle.std.proofs.Common.{[], Ok, Err}
use Rattle.std.proofs.lemmas.Result.{err_from_is_err_and}
use Rattle.store_tables.specs.Tables.{without_answers}
use Rattle.store_tables.specs.Uses.{HoldsRows, without_uses}
use Rattle.store_tables.proofs.MakeLemmas.{made_then, stopped}
use Rattle.store_tables.proofs.UsesStepLemmas.{change_as_made, step_as_made}
use Rattle.repo_store.proofs.forget.forget_in.Goals as goal

pub returns-clause-made : goal.returns-clause-made
returns-clause-made g c t rows =
    let old = c.args.tx.now.conn.now in
    let mid = c.clear_answers.new.tx.conn.now in
    let new = c.clear_uses.new.tx.conn.now in
    made_then g.S.Store old mid new c.clear_uses.result (λ db. HoldsRows db t rows) (λ db. HoldsRows db (without_answers t) rows) (λ db. HoldsRows db (without_answers t) [])
    (step_as_made g.S.Store old mid (Ok tt) t rows without_answers c.in_ok-clear_answers.ensures.step)
    (change_as_made g.S.Store mid new c.clear_uses.result (without_answers t) rows without_uses c.clear_uses.ensures.step c.clear_uses.ensures.only)

pub returns-in_err-clear_answers-clause-made : goal.returns-in_err-clear_answers-clause-made
returns-in_err-clear_answers-clause-made g c t rows =
    let p = err_from_is_err_and c.from_residual.result c.from_residual.ensures.1 in
    stopped g.S.Store c.args.tx.now.conn.now c.clear_answers.new.tx.conn.now c.in_err-clear_answers.field-0.0 p.0 c.from_residual.result (λ db. HoldsRows db t rows)
    (λ db. HoldsRows db (without_answers t) rows) (λ db. HoldsRows db (without_answers t) []) p.1
    (step_as_made g.S.Store c.args.tx.now.conn.now c.clear_answers.new.tx.conn.now (Err c.in_err-clear_answers.field-0.0) t rows without_answers c.in_err-clear_answers.ensures.step)

use Rattle.std.proofs.Common.{Ok, Err}
use Rattle.std.proofs.lemmas.Result.{err_from_is_err_and}
use Rattle.store_tables.specs.Tables.{without_answer}
use Rattle.store_tables.specs.Uses.{HoldsRows, without_use}
use Rattle.store_tables.proofs.MakeLemmas.{made_then, stopped}
use Rattle.store_tables.proofs.UsesStepLemmas.{change_as_made, step_as_made}
use Rattle.repo_store.proofs.uses.drop_in.Goals as goal

pub returns-clause-made : goal.returns-clause-made
returns-clause-made g c t rows =
    let old = c.args.tx.now.conn.now in
    let mid = c.take_answer.new.tx.conn.now in
    let new = c.take_use.new.tx.conn.now in
    let words = c.args.words.now in
    let seen = c.args.seen.now in
    made_then g.S.Store old mid new c.take_use.result (λ db. HoldsRows db t rows) (λ db. HoldsRows db (without_answer words seen t) rows)
    (λ db. HoldsRows db (without_answer words seen t) (without_use words seen rows))
    (step_as_made g.S.Store old mid (Ok tt) t rows (without_answer words seen) c.in_ok-take_answer.ensures.step)
    (change_as_made g.S.Store mid new c.take_use.result (without_answer words seen t) rows (without_use words seen) c.take_use.ensures.step c.take_use.ensures.only)

pub returns-in_err-take_answer-clause-made : goal.returns-in_err-take_answer-clause-made
returns-in_err-take_answer-clause-made g c t rows =
    let p = err_from_is_err_and c.from_residual.result c.from_residual.ensures.1 in
    let words = c.args.words.now in
    let seen = c.args.seen.now in
    stopped g.S.Store c.args.tx.now.conn.now c.take_answer.new.tx.conn.now c.in_err-take_answer.field-0.0 p.0 c.from_residual.result (λ db. HoldsRows db t rows)
    (λ db. HoldsRows db (without_answer words seen t) rows) (λ db. HoldsRows db (without_answer words seen t) (without_use words seen rows)) p.1
    (step_as_made g.S.Store c.args.tx.now.conn.now c.take_answer.new.tx.conn.now (Err c.in_err-take_answer.field-0.0) t rows (without_answer words seen) c.in_err-take_answer.ensures.step)

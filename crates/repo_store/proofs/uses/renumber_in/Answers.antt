use Rattle.std.proofs.Common.{[], Ok, Err, reverse}
use Rattle.std.proofs.lemmas.Result.{err_from_is_err_and}
use Rattle.store_tables.specs.Uses.{HoldsRows, without_uses}
use Rattle.store_tables.proofs.MakeLemmas.{made_then, stopped}
use Rattle.store_tables.proofs.UsesStepLemmas.{change_as_made}
use Rattle.repo_store.specs.UsesOf.{key_rows}
use Rattle.repo_store.proofs.uses.renumber_in.Goals as goal

pub returns-clause-made : goal.returns-clause-made
returns-clause-made g c t rows =
    let old = c.args.tx.now.conn.now in
    let mid = c.clear_uses.new.tx.conn.now in
    let new = c.number_in.new.tx.conn.now in
    made_then g.S.Store old mid new c.number_in.result (λ db. HoldsRows db t rows) (λ db. HoldsRows db t []) (λ db. HoldsRows db t (key_rows (reverse c.args.keys.now)))
    (change_as_made g.S.Store old mid (Ok tt) t rows without_uses c.in_ok-clear_uses.ensures.step c.in_ok-clear_uses.ensures.only) (c.number_in.ensures.made t)

pub returns-in_err-clear_uses-clause-made : goal.returns-in_err-clear_uses-clause-made
returns-in_err-clear_uses-clause-made g c t rows =
    let p = err_from_is_err_and c.from_residual.result c.from_residual.ensures.1 in
    stopped g.S.Store c.args.tx.now.conn.now c.clear_uses.new.tx.conn.now c.in_err-clear_uses.field-0.0 p.0 c.from_residual.result (λ db. HoldsRows db t rows) (λ db. HoldsRows db t [])
    (λ db. HoldsRows db t (key_rows (reverse c.args.keys.now))) p.1
    (change_as_made g.S.Store c.args.tx.now.conn.now c.clear_uses.new.tx.conn.now (Err c.in_err-clear_uses.field-0.0) t rows without_uses c.in_err-clear_uses.ensures.step
    c.in_err-clear_uses.ensures.only)

use Rattle.std.proofs.Common.{Ok, Err, pos}
use Rattle.std.proofs.lemmas.Result.{err_from_is_err_and}
use Rattle.store_tables.specs.declared.rows.UseRow.{UseRow}
use Rattle.store_tables.specs.Uses.{HoldsRows, with_use, without_use}
use Rattle.store_tables.proofs.MakeLemmas.{made_then, stopped}
use Rattle.store_tables.proofs.UsesStepLemmas.{change_as_made}
use Rattle.repo_store.proofs.uses.use_in.Goals as goal

pub returns-clause-made : goal.returns-clause-made
returns-clause-made g c t rows =
    let old = c.args.tx.now.conn.now in
    let mid = c.take_use.new.tx.conn.now in
    let new = c.put_in.new.tx.conn.now in
    let row : UseRow = record { words = c.args.words.now; seen = c.args.seen.now; tick = pos c.args.tick } in
    let others = without_use c.args.words.now c.args.seen.now rows in
    made_then g.S.Store old mid new c.put_in.result (λ db. HoldsRows db t rows) (λ db. HoldsRows db t others) (λ db. HoldsRows db t (with_use row others))
    (change_as_made g.S.Store old mid (Ok tt) t rows (without_use c.args.words.now c.args.seen.now) c.in_ok-take_use.ensures.step c.in_ok-take_use.ensures.only) (c.put_in.ensures.made t others)

pub returns-in_err-take_use-clause-made : goal.returns-in_err-take_use-clause-made
returns-in_err-take_use-clause-made g c t rows =
    let p = err_from_is_err_and c.from_residual.result c.from_residual.ensures.1 in
    let row : UseRow = record { words = c.args.words.now; seen = c.args.seen.now; tick = pos c.args.tick } in
    let others = without_use c.args.words.now c.args.seen.now rows in
    stopped g.S.Store c.args.tx.now.conn.now c.take_use.new.tx.conn.now c.in_err-take_use.field-0.0 p.0 c.from_residual.result (λ db. HoldsRows db t rows) (λ db. HoldsRows db t others)
    (λ db. HoldsRows db t (with_use row others)) p.1
    (change_as_made g.S.Store c.args.tx.now.conn.now c.take_use.new.tx.conn.now (Err c.in_err-take_use.field-0.0) t rows (without_use c.args.words.now c.args.seen.now) c.in_err-take_use.ensures.step
    c.in_err-take_use.ensures.only)

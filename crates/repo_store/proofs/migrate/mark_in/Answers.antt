use Rattle.std.proofs.Common.{Ok, Err, pos, reverse, take}
use Rattle.std.proofs.lemmas.Result.{err_from_is_err_and}
use Rattle.sqlite.specs.Effect.{Database}
use Rattle.store_tables.specs.Tables.{AreKeyed, HoldsTables, Tables, with_meta, with_new_meta}
use Rattle.store_tables.specs.Uses.{HoldsRows}
use Rattle.store_tables.proofs.MakeLemmas.{made_then, stopped}
use Rattle.store_tables.proofs.UsesStepLemmas.{replaced_as_made, step_as_made}
use Rattle.store_faults.specs.Limits.{first_limit}
use Rattle.repo_store.specs.Rows.{limit_row, version_row}
use Rattle.repo_store.specs.UsesOf.{key_rows, without_all, without_uses_of}
use Rattle.repo_store.proofs.migrate.mark_in.Goals as goal

abbrev First : Tables → Database → Type 0
First t db = HoldsTables db t × AreKeyed (db.trees 0)

pub returns-clause-made : goal.returns-clause-made
returns-clause-made g c t =
    let old = c.args.tx.now.conn.now in
    let listed = c.list_in.new.tx.conn.now in
    let limited = c.put_meta.new.tx.conn.now in
    let new = c.replace_meta.new.tx.conn.now in
    let keys = c.args.keys.now in
    let left = without_all (take c.args.dropped keys) t in
    let rows = without_uses_of (take c.args.dropped keys) (key_rows (reverse keys)) in
    let put = with_meta (limit_row (pos first_limit)) left in
    let both = made_then g.S.Store old listed limited (Ok tt) (First t) (λ db. HoldsRows db left rows) (λ db. HoldsRows db put rows) (c.in_ok-list_in.ensures.made t)
    (step_as_made g.S.Store listed limited (Ok tt) left rows (with_meta (limit_row (pos first_limit))) c.in_ok-put_meta.ensures.step) in
    made_then g.S.Store old limited new c.replace_meta.result (First t) (λ db. HoldsRows db put rows) (λ db. HoldsRows db (with_new_meta version_row put) rows) both
    (replaced_as_made g.S.Store limited new c.replace_meta.result put rows (with_new_meta version_row) c.replace_meta.ensures.step c.replace_meta.ensures.only)

pub returns-in_err-list_in-clause-made : goal.returns-in_err-list_in-clause-made
returns-in_err-list_in-clause-made g c t =
    let p = err_from_is_err_and c.from_residual.result c.from_residual.ensures.1 in
    let keys = c.args.keys.now in
    let left = without_all (take c.args.dropped keys) t in
    let rows = without_uses_of (take c.args.dropped keys) (key_rows (reverse keys)) in
    stopped g.S.Store c.args.tx.now.conn.now c.list_in.new.tx.conn.now c.in_err-list_in.field-0.0 p.0 c.from_residual.result (First t) (λ db. HoldsRows db left rows)
    (λ db. HoldsRows db (with_new_meta version_row (with_meta (limit_row (pos first_limit)) left)) rows) p.1
    (c.in_err-list_in.ensures.made t)

pub returns-in_err-put_meta-clause-made : goal.returns-in_err-put_meta-clause-made
returns-in_err-put_meta-clause-made g c t =
    let r = c.from_residual-in_err-put_meta in
    let p = err_from_is_err_and r.result r.ensures.1 in
    let old = c.args.tx.now.conn.now in
    let listed = c.list_in.new.tx.conn.now in
    let limited = c.put_meta.new.tx.conn.now in
    let keys = c.args.keys.now in
    let left = without_all (take c.args.dropped keys) t in
    let rows = without_uses_of (take c.args.dropped keys) (key_rows (reverse keys)) in
    let put = with_meta (limit_row (pos first_limit)) left in
    stopped g.S.Store old limited c.in_err-put_meta.field-0.0 p.0 r.result (First t) (λ db. HoldsRows db put rows) (λ db. HoldsRows db (with_new_meta version_row put) rows) p.1
    (made_then g.S.Store old listed limited (Err c.in_err-put_meta.field-0.0) (First t) (λ db. HoldsRows db left rows) (λ db. HoldsRows db put rows) (c.in_ok-list_in.ensures.made t)
    (step_as_made g.S.Store listed limited (Err c.in_err-put_meta.field-0.0) left rows (with_meta (limit_row (pos first_limit))) c.in_err-put_meta.ensures.step))

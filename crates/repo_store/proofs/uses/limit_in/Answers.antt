use Rattle.std.proofs.Common.{pos}
use Rattle.std.proofs.lemmas.Result.{err_from_is_err_and}
use Rattle.store_tables.specs.Tables.{with_new_meta}
use Rattle.store_tables.specs.Uses.{HoldsRows}
use Rattle.store_tables.proofs.MakeLemmas.{made_then, stopped}
use Rattle.store_tables.proofs.UsesStepLemmas.{replaced_as_made}
use Rattle.repo_store.specs.Rows.{limit_row}
use Rattle.repo_store.specs.UsesOf.{without_all, without_uses_of}
use Rattle.repo_store.proofs.uses.limit_in.Goals as goal

pub returns-clause-made : goal.returns-clause-made
returns-clause-made g c t rows =
    let old = c.args.tx.now.conn.now in
    let mid = c.drop_all_in.new.tx.conn.now in
    let new = c.replace_meta.new.tx.conn.now in
    let left = without_all c.args.keys.now t in
    let uses = without_uses_of c.args.keys.now rows in
    made_then g.S.Store old mid new c.replace_meta.result (λ db. HoldsRows db t rows) (λ db. HoldsRows db left uses) (λ db. HoldsRows db (with_new_meta (limit_row (pos c.args.limit)) left) uses)
    (c.in_ok-drop_all_in.ensures.made t rows) (replaced_as_made g.S.Store mid new c.replace_meta.result left uses (with_new_meta (limit_row (pos c.args.limit))) c.replace_meta.ensures.step
    c.replace_meta.ensures.only)

pub returns-in_err-drop_all_in-clause-made : goal.returns-in_err-drop_all_in-clause-made
returns-in_err-drop_all_in-clause-made g c t rows =
    let p = err_from_is_err_and c.from_residual.result c.from_residual.ensures.1 in
    let left = without_all c.args.keys.now t in
    let uses = without_uses_of c.args.keys.now rows in
    stopped g.S.Store c.args.tx.now.conn.now c.drop_all_in.new.tx.conn.now c.in_err-drop_all_in.field-0.0 p.0 c.from_residual.result (λ db. HoldsRows db t rows) (λ db. HoldsRows db left uses)
    (λ db. HoldsRows db (with_new_meta (limit_row (pos c.args.limit)) left) uses) p.1
    (c.in_err-drop_all_in.ensures.made t rows)

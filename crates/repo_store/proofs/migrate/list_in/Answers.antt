use Rattle.std.proofs.Common.{[], Ok, Err, reverse, take}
use Rattle.std.proofs.lemmas.Result.{err_from_is_err_and}
use Rattle.sqlite.specs.Effect.{Database}
use Rattle.store_tables.specs.Tables.{AreKeyed, HoldsTables, Tables}
use Rattle.store_tables.specs.Uses.{HoldsRows}
use Rattle.store_tables.proofs.MakeLemmas.{made_then, stopped}
use Rattle.store_tables.proofs.UsesStepLemmas.{grown_as_made}
use Rattle.repo_store.specs.UsesOf.{key_rows, without_all, without_uses_of}
use Rattle.repo_store.proofs.migrate.list_in.Goals as goal

abbrev First : Tables → Database → Type 0
First t db = HoldsTables db t × AreKeyed (db.trees 0)

pub returns-clause-made : goal.returns-clause-made
returns-clause-made g c t =
    let old = c.args.tx.now.conn.now in
    let grown = c.make_uses.new.tx.conn.now in
    let numbered = c.number_in.new.tx.conn.now in
    let new = c.drop_all_in.new.tx.conn.now in
    let keys = c.args.keys.now in
    let out = take c.args.dropped keys in
    let rows = key_rows (reverse keys) in
    let both =
    made_then g.S.Store old grown numbered (Ok tt) (First t) (λ db. HoldsRows db t []) (λ db. HoldsRows db t rows)
    (grown_as_made g.S.Store old grown (Ok tt) t c.in_ok-make_uses.ensures.step c.in_ok-make_uses.ensures.only)
    (c.in_ok-number_in.ensures.made t) in
    made_then g.S.Store old numbered new c.drop_all_in.result (First t) (λ db. HoldsRows db t rows) (λ db. HoldsRows db (without_all out t) (without_uses_of out rows)) both
    (c.drop_all_in.ensures.made t rows)

pub returns-in_err-make_uses-clause-made : goal.returns-in_err-make_uses-clause-made
returns-in_err-make_uses-clause-made g c t =
    let p = err_from_is_err_and c.from_residual.result c.from_residual.ensures.1 in
    let out = take c.args.dropped c.args.keys.now in
    let rows = key_rows (reverse c.args.keys.now) in
    stopped g.S.Store c.args.tx.now.conn.now c.make_uses.new.tx.conn.now c.in_err-make_uses.field-0.0 p.0 c.from_residual.result (First t) (λ db. HoldsRows db t [])
    (λ db. HoldsRows db (without_all out t) (without_uses_of out rows)) p.1
    (grown_as_made g.S.Store c.args.tx.now.conn.now c.make_uses.new.tx.conn.now (Err c.in_err-make_uses.field-0.0) t c.in_err-make_uses.ensures.step c.in_err-make_uses.ensures.only)

pub returns-in_err-number_in-clause-made : goal.returns-in_err-number_in-clause-made
returns-in_err-number_in-clause-made g c t =
    let r = c.from_residual-in_err-number_in in
    let p = err_from_is_err_and r.result r.ensures.1 in
    let old = c.args.tx.now.conn.now in
    let grown = c.make_uses.new.tx.conn.now in
    let numbered = c.number_in.new.tx.conn.now in
    let out = take c.args.dropped c.args.keys.now in
    let rows = key_rows (reverse c.args.keys.now) in
    stopped g.S.Store old numbered c.in_err-number_in.field-0.0 p.0 r.result (First t) (λ db. HoldsRows db t rows) (λ db. HoldsRows db (without_all out t) (without_uses_of out rows)) p.1
    (made_then g.S.Store old grown numbered (Err c.in_err-number_in.field-0.0) (First t) (λ db. HoldsRows db t []) (λ db. HoldsRows db t rows)
    (grown_as_made g.S.Store old grown (Ok tt) t c.in_ok-make_uses.ensures.step c.in_ok-make_uses.ensures.only)
    (c.in_err-number_in.ensures.made t))

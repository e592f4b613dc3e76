use Rattle.std.proofs.Common.{[], ◌∷◌, Vec, Global}
use Rattle.std.proofs.lemmas.Result.{err_from_is_err_and}
use Rattle.sqlite_trees.specs.Tree.{Trees}
use Rattle.store_tables.specs.declared.rows.MetaRow.{MetaRow}
use Rattle.store_tables.specs.Tables.{AreKeyed, Stored, meta_cells}
use Rattle.repo_store.specs.FromRows.{AreShown, AreTablesShown}
use Rattle.repo_store.proofs.ReadingLemmas.{both_read, first_stops, part_stops, parts_read}
use Rattle.repo_store.proofs.table_rows.read_tables.Goals as goal

abbrev MetaShown : Vec MetaRow Global → Trees → Type 0
MetaShown rows trees = Stored meta_cells (1 ∷ 2 ∷ []) rows.items (trees 0)

abbrev MetaKeyed : Vec MetaRow Global → Trees → Type 0
MetaKeyed rows trees = AreKeyed (trees 0)

pub returns-in_err-meta-clause-read : goal.returns-in_err-meta-clause-read
returns-in_err-meta-clause-read g c =
    let p = err_from_is_err_and c.from_residual.result c.from_residual.ensures.1 in
    first_stops g.S.Store c.args.tx.now.conn.now c.read_meta.new.tx.conn.now _ p.0 _ c.from_residual.result AreTablesShown p.1 c.in_err-meta.ensures.read

pub returns-in_err-store-clause-read : goal.returns-in_err-store-clause-read
returns-in_err-store-clause-read g c =
    let meta = c.in_ok-meta.meta in
    let one = both_read g.S.Store c.args.tx.now.conn.now c.read_meta.new.tx.conn.now meta MetaShown MetaKeyed c.in_ok-meta.ensures.read c.in_ok-meta.ensures.keyed in
    let p = err_from_is_err_and c.from_residual-in_err-store.result c.from_residual-in_err-store.ensures.1 in
    part_stops g.S.Store c.args.tx.now.conn.now c.read_meta.new.tx.conn.now c.read_rows.new.tx.conn.now meta (λ rows trees. MetaShown rows trees × MetaKeyed rows trees) one _ p.0 AreShown
    c.from_residual-in_err-store.result AreTablesShown p.1 c.in_err-store.ensures.read

pub returns-clause-read : goal.returns-clause-read
returns-clause-read g c =
    let meta = c.in_ok-meta.meta in
    let one = both_read g.S.Store c.args.tx.now.conn.now c.read_meta.new.tx.conn.now meta MetaShown MetaKeyed c.in_ok-meta.ensures.read c.in_ok-meta.ensures.keyed in
    parts_read g.S.Store c.args.tx.now.conn.now c.read_meta.new.tx.conn.now c.read_rows.new.tx.conn.now meta (λ rows trees. MetaShown rows trees × MetaKeyed rows trees) one
    c.in_ok-store.store AreShown _ AreTablesShown c.in_ok-store.ensures.read
    (λ trees first second. record { meta = first.0; meta_keyed = first.1; store = second })

use Rattle.store_tables.specs.Schema.{no_more, store_schema}
use Rattle.repo_store.specs.FromRows.{AreTablesShown, tables_of_rows}
use Rattle.repo_store.specs.Opening.{IsFoundFirst}
use Rattle.repo_store.specs.Rows.{first_tables_of}
use Rattle.repo_store.proofs.ListedLemmas.{first_decided, listed_from, listed_obey, unread}
use Rattle.repo_store.proofs.ReadingLemmas.{reached_in}
use Rattle.repo_store.proofs.opening.read_first_in.Goals as goal

pub returns-in-Err-clause-listed : goal.returns-in-Err-clause-listed
returns-in-Err-clause-listed g c =
    unread no_more IsFoundFirst g.S.Store c.args.tx.now.conn.now c.read_tables.new.tx.conn.now c.in-Err.error AreTablesShown _ c.in-Err.ensures.read c.fault_of.ensures.why

pub returns-in-Ok-clause-listed : goal.returns-in-Ok-clause-listed
returns-in-Ok-clause-listed g c =
    let tables = c.in-Ok.tables in
    let old = c.args.tx.now.conn.now in
    let new = c.read_tables.new.tx.conn.now in
    let it = c.first_lists_of.ensures in
    listed_from store_schema IsFoundFirst g.S.Store old new (AreTablesShown tables) c.first_lists_of.result (reached_in no_more g.S.Store old new tables AreTablesShown c.in-Ok.ensures.read)
    (λ db ours live shown. first_decided tables db c.first_lists_of.result it.same it.fall it.obeys it.refused ours live shown)

pub returns-in-Ok-clause-obeys : goal.returns-in-Ok-clause-obeys
returns-in-Ok-clause-obeys g c =
    let tables = c.in-Ok.tables in
    listed_obey first_tables_of (tables_of_rows tables.meta.items tables.store) c.first_lists_of.result c.first_lists_of.ensures.same c.first_lists_of.ensures.obeys

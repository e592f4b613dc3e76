use Rattle.std.proofs.Common.{Vec, Global}
use Rattle.sqlite_trees.specs.Tree.{Trees}
use Rattle.store_tables.specs.declared.rows.UseRow.{UseRow}
use Rattle.store_tables.specs.Schema.{no_more, schema_with_uses, uses_then}
use Rattle.store_tables.specs.Uses.{HoldsUses}
use Rattle.repo_store.specs.FromRows.{AreTablesShown, tables_of_rows}
use Rattle.repo_store.specs.Opening.{IsFoundIn}
use Rattle.repo_store.specs.Rows.{tables_of}
use Rattle.repo_store.proofs.ListedLemmas.{listed_from, listed_obey, second_decided, unread, uses_read, uses_unread}
use Rattle.repo_store.proofs.ReadingLemmas.{reached_in}
use Rattle.repo_store.proofs.opening.read_second_in.Goals as goal

abbrev UsesShown : Vec UseRow Global → Trees → Type 0
UsesShown uses trees = HoldsUses trees uses.items

pub returns-in-Err-clause-listed : goal.returns-in-Err-clause-listed
returns-in-Err-clause-listed g c =
    unread (uses_then no_more) IsFoundIn g.S.Store c.args.tx.now.conn.now c.read_tables.new.tx.conn.now c.in-Err.error AreTablesShown _ c.in-Err.ensures.read c.fault_of-in-Err.ensures.why

pub returns-in-Err-read_uses_by_tick-clause-listed : goal.returns-in-Err-read_uses_by_tick-clause-listed
returns-in-Err-read_uses_by_tick-clause-listed g c =
    let tables = c.in-Ok.tables in
    let old = c.args.tx.now.conn.now in
    let mid = c.read_tables.new.tx.conn.now in
    let first = reached_in (uses_then no_more) g.S.Store old mid tables AreTablesShown c.in-Ok.ensures.read in
    uses_unread g.S.Store old mid c.read_uses_by_tick.new.tx.conn.now (AreTablesShown tables) first IsFoundIn c.in-Err-read_uses_by_tick.error UsesShown _ c.in-Err-read_uses_by_tick.ensures.read
    c.fault_of.ensures.why

pub returns-in-Ok-read_uses_by_tick-clause-listed : goal.returns-in-Ok-read_uses_by_tick-clause-listed
returns-in-Ok-read_uses_by_tick-clause-listed g c =
    let tables = c.in-Ok.tables in
    let uses = c.in-Ok-read_uses_by_tick.uses in
    let old = c.args.tx.now.conn.now in
    let mid = c.read_tables.new.tx.conn.now in
    let new = c.read_uses_by_tick.new.tx.conn.now in
    let it = c.second_lists_of.ensures in
    let first = reached_in (uses_then no_more) g.S.Store old mid tables AreTablesShown c.in-Ok.ensures.read in
    listed_from schema_with_uses IsFoundIn g.S.Store old new (λ trees. AreTablesShown tables trees × HoldsUses trees uses.items) c.second_lists_of.result
    (uses_read g.S.Store old mid new (AreTablesShown tables) first uses UsesShown c.in-Ok-read_uses_by_tick.ensures.read)
    (λ db ours live shown. second_decided tables db uses.items c.second_lists_of.result it.same it.uses it.refused ours live shown)

pub returns-in-Ok-read_uses_by_tick-clause-obeys : goal.returns-in-Ok-read_uses_by_tick-clause-obeys
returns-in-Ok-read_uses_by_tick-clause-obeys g c =
    let tables = c.in-Ok.tables in
    listed_obey tables_of (tables_of_rows tables.meta.items tables.store) c.second_lists_of.result c.second_lists_of.ensures.same c.second_lists_of.ensures.obeys

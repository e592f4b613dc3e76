use Rattle.std.proofs.Common.{◌≡◌, [], ◌∷◌, map, true, refl, subst, Vec, Global}
use Rattle.sqlite_value.specs.declared.value.Value.TheVariants.{Int}
use Rattle.sqlite_value.specs.Order.{Row, column}
use Rattle.std.proofs.lemmas.Result.{err_from_is_err_and}
use Rattle.sqlite.specs.declared.rows.Row as Rows
use Rattle.sqlite_sql.specs.Term.{col}
use Rattle.sqlite_rules.specs.Edit.{have_rowids}
use Rattle.store_tables.specs.Tables.{Stored, fix_cells}
use Rattle.store_tables.proofs.ReadLemmas.{read_fails, read_also, ids_shown, ids_number}
use Rattle.store_tables.proofs.Compiles as text
use Rattle.store_tables.proofs.reads.read_fixes.Goals as goal

pub returns-in_err-shown-clause-read : goal.returns-in_err-shown-clause-read
returns-in_err-shown-clause-read g c =
    let p = err_from_is_err_and c.from_residual.result c.from_residual.ensures.1 in
    read_fails g.S.Store c.args.tx.now.conn.now c.query_all.new.self.conn.now _ (λ (v : Vec Rows.Row Global). v.items) c.query_all.result c.query_all.ensures.ok c.query_all.ensures.err
    c.query_all.ensures.survives c.from_residual.result p.0 p.1 (λ rows trees. Stored fix_cells (1 ∷ 2 ∷ 3 ∷ []) rows.items (trees 6) × (have_rowids (trees 6) ≡ true))

pub returns-in_err-_rowids-clause-read : goal.returns-in_err-_rowids-clause-read
returns-in_err-_rowids-clause-read g c =
    let p = err_from_is_err_and c.from_residual-in_err-_rowids.result c.from_residual-in_err-_rowids.ensures.1 in
    read_fails g.S.Store c.args.tx.now.conn.now c.query_all.new.self.conn.now _ (λ (v : Vec Rows.Row Global). v.items) c.query_all.result c.query_all.ensures.ok c.query_all.ensures.err
    c.query_all.ensures.survives c.from_residual-in_err-_rowids.result p.0 p.1 (λ rows trees. Stored fix_cells (1 ∷ 2 ∷ 3 ∷ []) rows.items (trees 6) × (have_rowids (trees 6) ≡ true))

pub returns-clause-read : goal.returns-clause-read
returns-clause-read g c =
    read_also g.S.Store c.args.tx.now.conn.now c.query_all.new.self.conn.now _ (λ (v : Vec Rows.Row Global). v.items) c.query_all.result c.query_all.ensures.ok c.query_all.ensures.err
    c.query_all.ensures.survives 6 _ _ _ text.all_fixes_is c.in_ok-shown.shown c.in_ok-shown.was (λ rows. have_rowids rows ≡ true) c.decoded.result (λ rows. rows.items) fix_cells (1 ∷ 2 ∷ 3 ∷ [])
    1 (λ row. refl) c.in_ok-shown.shown.items refl
    (λ rows same. ids_number rows c.in_ok-_rowids._rowids.items (ids_shown (col 1 0 ∷ col 1 1 ∷ col 1 2 ∷ col 1 3 ∷ []) rows _ c.in_ok-_rowids._rowids.items (λ row. refl) same
    (subst (λ l. map Int c.in_ok-_rowids._rowids.items ≡ map (λ (r : Row). column r 0) l) c.deref.ensures.value c.in_ok-_rowids.ensures))) c.decoded.ensures

use Rattle.std.proofs.Common.{[], ◌∷◌, refl, Vec, Global}
use Rattle.std.proofs.lemmas.Result.{err_from_is_err_and}
use Rattle.sqlite.specs.declared.rows.Row as Rows
use Rattle.store_tables.specs.Tables.{Stored, commit_cells}
use Rattle.store_tables.proofs.ReadLemmas.{read_fails, read_ends}
use Rattle.store_tables.proofs.Compiles as text
use Rattle.store_tables.proofs.reads.read_commits.Goals as goal

pub returns-in_err-shown-clause-read : goal.returns-in_err-shown-clause-read
returns-in_err-shown-clause-read g c =
    let p = err_from_is_err_and c.from_residual.result c.from_residual.ensures.1 in
    read_fails g.S.Store c.args.tx.now.conn.now c.query_all.new.self.conn.now _ (λ (v : Vec Rows.Row Global). v.items) c.query_all.result c.query_all.ensures.ok c.query_all.ensures.err
    c.query_all.ensures.survives c.from_residual.result p.0 p.1 (λ rows trees. Stored commit_cells (0 ∷ 2 ∷ []) rows.items (trees 8))

pub returns-clause-read : goal.returns-clause-read
returns-clause-read g c =
    read_ends g.S.Store c.args.tx.now.conn.now c.query_all.new.self.conn.now _ (λ (v : Vec Rows.Row Global). v.items) c.query_all.result c.query_all.ensures.ok c.query_all.ensures.err
    c.query_all.ensures.survives 8 _ _ _ text.all_commits_is c.in_ok-shown.shown c.in_ok-shown.was c.decoded.result (λ rows. rows.items) commit_cells (0 ∷ 2 ∷ []) 0 (λ row. refl)
    c.in_ok-shown.shown.items refl c.decoded.ensures

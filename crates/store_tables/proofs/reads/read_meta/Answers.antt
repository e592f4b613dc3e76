use Rattle.std.proofs.Common.{[], ◌∷◌, refl, Vec, Global}
use Rattle.std.proofs.lemmas.Result.{err_from_is_err_and}
use Rattle.sqlite.specs.declared.rows.Row as Rows
use Rattle.store_tables.specs.Tables.{Stored, AreKeyed, meta_cells}
use Rattle.store_tables.proofs.ReadLemmas.{read_fails, read_keyed, read_weaker}
use Rattle.store_tables.proofs.Compiles as text
use Rattle.store_tables.proofs.reads.read_meta.Goals as goal

pub returns-in_err-shown-clause-read : goal.returns-in_err-shown-clause-read
returns-in_err-shown-clause-read g c =
    let p = err_from_is_err_and c.from_residual.result c.from_residual.ensures.1 in
    read_fails g.S.Store c.args.tx.now.conn.now c.query_all.new.self.conn.now _ (λ (v : Vec Rows.Row Global). v.items) c.query_all.result c.query_all.ensures.ok c.query_all.ensures.err
    c.query_all.ensures.survives c.from_residual.result p.0 p.1 (λ rows trees. Stored meta_cells (1 ∷ 2 ∷ []) rows.items (trees 0))

pub returns-clause-read : goal.returns-clause-read
returns-clause-read g c =
    read_weaker g.S.Store c.args.tx.now.conn.now c.query_all.new.self.conn.now c.decoded_apart.result (λ rows trees. Stored meta_cells (1 ∷ 2 ∷ []) rows.items (trees 0) × AreKeyed (trees 0))
    (λ rows trees. Stored meta_cells (1 ∷ 2 ∷ []) rows.items (trees 0)) (λ rows trees it. it.0)
    (read_keyed g.S.Store c.args.tx.now.conn.now c.query_all.new.self.conn.now _ (λ (v : Vec Rows.Row Global). v.items) c.query_all.result c.query_all.ensures.ok c.query_all.ensures.err
    c.query_all.ensures.survives 0 _ _ _ text.all_meta_is c.in_ok-shown.shown c.in_ok-shown.was c.decoded_apart.result (λ rows. rows.items) meta_cells (1 ∷ 2 ∷ []) (λ row. refl) (λ row. refl)
    c.in_ok-shown.shown.items refl c.decoded_apart.ensures.rows c.decoded_apart.ensures.apart)

pub returns-in_err-shown-clause-keyed : goal.returns-in_err-shown-clause-keyed
returns-in_err-shown-clause-keyed g c =
    let p = err_from_is_err_and c.from_residual.result c.from_residual.ensures.1 in
    read_fails g.S.Store c.args.tx.now.conn.now c.query_all.new.self.conn.now _ (λ (v : Vec Rows.Row Global). v.items) c.query_all.result c.query_all.ensures.ok c.query_all.ensures.err
    c.query_all.ensures.survives c.from_residual.result p.0 p.1 (λ rows trees. AreKeyed (trees 0))

pub returns-clause-keyed : goal.returns-clause-keyed
returns-clause-keyed g c =
    read_weaker g.S.Store c.args.tx.now.conn.now c.query_all.new.self.conn.now c.decoded_apart.result (λ rows trees. Stored meta_cells (1 ∷ 2 ∷ []) rows.items (trees 0) × AreKeyed (trees 0))
    (λ rows trees. AreKeyed (trees 0)) (λ rows trees it. it.1)
    (read_keyed g.S.Store c.args.tx.now.conn.now c.query_all.new.self.conn.now _ (λ (v : Vec Rows.Row Global). v.items) c.query_all.result c.query_all.ensures.ok c.query_all.ensures.err
    c.query_all.ensures.survives 0 _ _ _ text.all_meta_is c.in_ok-shown.shown c.in_ok-shown.was c.decoded_apart.result (λ rows. rows.items) meta_cells (1 ∷ 2 ∷ []) (λ row. refl) (λ row. refl)
    c.in_ok-shown.shown.items refl c.decoded_apart.ensures.rows c.decoded_apart.ensures.apart)

use Rattle.std.proofs.Common.{Vec, Global}
use Rattle.std.proofs.lemmas.Result.{err_from_is_err_and}
use Rattle.sqlite.specs.declared.rows.Row as Rows
use Rattle.store_tables.specs.Uses.{HoldsUses}
use Rattle.store_tables.proofs.UsesCompiles as text
use Rattle.store_tables.proofs.UsesReadLemmas.{uses_fail, uses_shown}
use Rattle.store_tables.proofs.uses.read_uses.Goals as goal

pub returns-in_err-shown-clause-read : goal.returns-in_err-shown-clause-read
returns-in_err-shown-clause-read g c =
    let p = err_from_is_err_and c.from_residual.result c.from_residual.ensures.1 in
    uses_fail g.S.Store c.args.tx.now.conn.now c.query_all.new.self.conn.now _ (λ (v : Vec Rows.Row Global). v.items) c.query_all.result c.query_all.ensures.ok c.query_all.ensures.err
    c.query_all.ensures.survives
    c.from_residual.result p.0 p.1 (λ rows trees. HoldsUses trees rows.items)

pub returns-clause-read : goal.returns-clause-read
returns-clause-read g c =
    uses_shown g.S.Store c.args.tx.now.conn.now c.query_all.new.self.conn.now _ (λ (v : Vec Rows.Row Global). v.items) c.query_all.result c.query_all.ensures.ok c.query_all.ensures.err
    c.query_all.ensures.survives
    _ _ text.uses_by_key_is c.in_ok-shown.shown c.in_ok-shown.was c.decoded_apart.result (λ rows. rows.items) c.decoded_apart.ensures.rows c.decoded_apart.ensures.apart

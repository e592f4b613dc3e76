use Rattle.sqlite.specs.Held.{state}
use Rattle.store_tables.specs.Schema as spec
use Rattle.store_tables.specs.Tables.{ChangesOnly, MakesIfKeyed, without_meta}
use Rattle.store_tables.proofs.OnlyLemmas as only
use Rattle.store_tables.proofs.StepLemmas.{changes}
use Rattle.store_tables.proofs.MetaLemmas.{take_meta}
use Rattle.store_tables.proofs.writes.take_meta.Goals as goal

pub returns-clause-step : goal.returns-clause-step
returns-clause-step g c =
    let old = c.args.tx.now.conn.now in
    let new = c.execute.new.self.conn.now in
    changes g.S.Store old new _ _ c.execute.result c.execute.ensures.ended (rw (c.params-to_sql.ensures) at c.execute.ensures.runs) c.execute.ensures.survives
    (MakesIfKeyed spec.meta (without_meta c.args.name.now))
    c.in_ok-execute.field-0 c.in_ok-execute.was (λ more has ran t h keyed. take_meta more (state g.S.Store old) (state g.S.Store new) t c.args.name.now _ h keyed ran)

pub returns-clause-only : goal.returns-clause-only
returns-clause-only g c =
    let old = c.args.tx.now.conn.now in
    let new = c.execute.new.self.conn.now in
    changes g.S.Store old new _ _ c.execute.result c.execute.ensures.ended (rw (c.params-to_sql.ensures) at c.execute.ensures.runs) c.execute.ensures.survives (ChangesOnly spec.meta)
    c.in_ok-execute.field-0 c.in_ok-execute.was (λ more has ran. only.take_meta more (state g.S.Store old) (state g.S.Store new) _ _ has ran)

use Rattle.sqlite.specs.Held.{state}
use Rattle.store_tables.specs.Schema.{store_with}
use Rattle.store_tables.specs.Uses.{MakesUses, ChangesUses, without_use}
use Rattle.store_tables.proofs.StepLemmas.{changes}
use Rattle.store_tables.proofs.UsesLemmas.{take_use, take_use_only, told, told_only}
use Rattle.store_tables.proofs.uses.take_use.Goals as goal

pub returns-clause-step : goal.returns-clause-step
returns-clause-step g c =
    let old = c.args.tx.now.conn.now in
    let new = c.execute.new.self.conn.now in
    let makes = without_use c.args.words.now c.args.seen.now in
    changes g.S.Store old new _ _ c.execute.result c.execute.ensures.ended (rw (c.params-to_sql.ensures, c.params-to_sql-2.ensures) at c.execute.ensures.runs) c.execute.ensures.survives
    (MakesUses makes) c.in_ok-execute.field-0 c.in_ok-execute.was
    (λ listed has ran. told (store_with listed) (state g.S.Store old).now (state g.S.Store new).now makes has
    (λ more t rows h own. take_use more (state g.S.Store old) (state g.S.Store new) t rows c.args.words.now c.args.seen.now _ h own ran))

pub returns-clause-only : goal.returns-clause-only
returns-clause-only g c =
    let old = c.args.tx.now.conn.now in
    let new = c.execute.new.self.conn.now in
    changes g.S.Store old new _ _ c.execute.result c.execute.ensures.ended (rw (c.params-to_sql.ensures, c.params-to_sql-2.ensures) at c.execute.ensures.runs) c.execute.ensures.survives ChangesUses
    c.in_ok-execute.field-0 c.in_ok-execute.was
    (λ listed has ran. told_only (store_with listed) (state g.S.Store old).now (state g.S.Store new).now has
    (λ more uses. take_use_only more (state g.S.Store old) (state g.S.Store new) c.args.words.now c.args.seen.now _ uses ran))

use Rattle.sqlite.specs.Held.{state}
use Rattle.store_tables.specs.Schema.{store_with}
use Rattle.store_tables.specs.Uses.{MakesUses, ChangesUses, without_uses}
use Rattle.store_tables.proofs.StepLemmas.{changes}
use Rattle.store_tables.proofs.UsesLemmas.{clear_uses, clear_uses_only, told, told_only}
use Rattle.store_tables.proofs.uses.clear_uses.Goals as goal

pub returns-clause-step : goal.returns-clause-step
returns-clause-step g c =
    let old = c.args.tx.now.conn.now in
    let new = c.execute.new.self.conn.now in
    let makes = without_uses in
    changes g.S.Store old new _ _ c.execute.result c.execute.ensures.ended c.execute.ensures.runs c.execute.ensures.survives (MakesUses makes) c.in_ok-execute.field-0 c.in_ok-execute.was
    (λ listed has ran. told (store_with listed) (state g.S.Store old).now (state g.S.Store new).now makes has
    (λ more t rows h own. clear_uses more (state g.S.Store old) (state g.S.Store new) t rows _ h own ran))

pub returns-clause-only : goal.returns-clause-only
returns-clause-only g c =
    let old = c.args.tx.now.conn.now in
    let new = c.execute.new.self.conn.now in
    changes g.S.Store old new _ _ c.execute.result c.execute.ensures.ended c.execute.ensures.runs c.execute.ensures.survives ChangesUses c.in_ok-execute.field-0 c.in_ok-execute.was
    (λ listed has ran. told_only (store_with listed) (state g.S.Store old).now (state g.S.Store new).now has (λ more uses. clear_uses_only more (state g.S.Store old) (state g.S.Store new) _ uses ran))

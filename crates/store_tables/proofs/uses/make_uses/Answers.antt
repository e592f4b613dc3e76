use Rattle.sqlite.specs.Held.{state}
use Rattle.store_tables.specs.Schema.{store_with}
use Rattle.store_tables.specs.Uses.{AddsUses, MakesBareUses}
use Rattle.store_tables.proofs.StepLemmas.{changes}
use Rattle.store_tables.proofs.UsesMakeLemmas.{make_uses, make_uses_only}
use Rattle.store_tables.proofs.uses.make_uses.Goals as goal

pub returns-clause-step : goal.returns-clause-step
returns-clause-step g c =
    let old = c.args.tx.now.conn.now in
    let new = c.execute.new.self.conn.now in
    changes g.S.Store old new _ _ c.execute.result c.execute.ensures.ended c.execute.ensures.runs c.execute.ensures.survives MakesBareUses c.in_ok-execute.field-0 c.in_ok-execute.was
    (λ listed has ran. make_uses (store_with listed) (state g.S.Store old) (state g.S.Store new) _ has ran)

pub returns-clause-only : goal.returns-clause-only
returns-clause-only g c =
    let old = c.args.tx.now.conn.now in
    let new = c.execute.new.self.conn.now in
    changes g.S.Store old new _ _ c.execute.result c.execute.ensures.ended c.execute.ensures.runs c.execute.ensures.survives AddsUses c.in_ok-execute.field-0 c.in_ok-execute.was
    (λ listed has ran. make_uses_only (store_with listed) (state g.S.Store old) (state g.S.Store new) _ has ran)

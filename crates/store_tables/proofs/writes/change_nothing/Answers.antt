use Rattle.sqlite.specs.Held.{state}
use Rattle.store_tables.proofs.StepLemmas.{finishes, changes}
use Rattle.store_tables.proofs.EmptyStatementLemmas.{changes_nothing, is_unchanged, keeps_all}
use Rattle.store_tables.specs.Tables.{ChangesNothing}
use Rattle.store_tables.proofs.writes.change_nothing.Goals as goal

pub returns-clause-step : goal.returns-clause-step
returns-clause-step g c =
    let old = c.args.tx.now.conn.now in
    let new = c.execute.new.self.conn.now in
    finishes g.S.Store old new _ _ c.execute.result c.execute.ensures.ended c.execute.ensures.runs c.execute.ensures.survives (λ t. t)
    c.in_ok-execute.field-0 c.in_ok-execute.was (λ more t h ran. changes_nothing more (state g.S.Store old) (state g.S.Store new) t _ h ran)
    (λ more has ran. keeps_all more (state g.S.Store old) (state g.S.Store new) _ has ran)

pub returns-clause-nothing : goal.returns-clause-nothing
returns-clause-nothing g c =
    let old = c.args.tx.now.conn.now in
    let new = c.execute.new.self.conn.now in
    changes g.S.Store old new _ _ c.execute.result c.execute.ensures.ended c.execute.ensures.runs c.execute.ensures.survives ChangesNothing
    c.in_ok-execute.field-0 c.in_ok-execute.was (λ more has ran. is_unchanged more (state g.S.Store old) (state g.S.Store new) _ has ran)

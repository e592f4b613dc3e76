use Rattle.std.proofs.Common.{arith}
use Rattle.sqlite.specs.Held.{state}
use Rattle.store_tables.specs.Schema as spec
use Rattle.store_tables.specs.Schema.{store_with}
use Rattle.store_tables.specs.Tables.{ChangesOnly, without_answer}
use Rattle.store_tables.proofs.OnlyLemmas as only
use Rattle.store_tables.proofs.StepLemmas.{finishes, changes, only_keeps_more}
use Rattle.store_tables.proofs.AnswerLemmas.{take_answer}
use Rattle.store_tables.proofs.writes.take_answer.Goals as goal

pub returns-clause-step : goal.returns-clause-step
returns-clause-step g c =
    let old = c.args.tx.now.conn.now in
    let new = c.execute.new.self.conn.now in
    finishes g.S.Store old new _ _ c.execute.result c.execute.ensures.ended (rw (c.params-to_sql.ensures, c.params-to_sql-2.ensures) at c.execute.ensures.runs) c.execute.ensures.survives
    (without_answer c.args.words.now c.args.seen.now)
    c.in_ok-execute.field-0 c.in_ok-execute.was (λ more t h ran. take_answer more (state g.S.Store old) (state g.S.Store new) t c.args.words.now c.args.seen.now _ h ran)
    (λ more has ran. only_keeps_more spec.answers more (state g.S.Store old).now (state g.S.Store new).now (omega arith)
    (only.take_answer more (state g.S.Store old) (state g.S.Store new) _ _ _ has ran))

pub returns-clause-only : goal.returns-clause-only
returns-clause-only g c =
    let old = c.args.tx.now.conn.now in
    let new = c.execute.new.self.conn.now in
    changes g.S.Store old new _ _ c.execute.result c.execute.ensures.ended (rw (c.params-to_sql.ensures, c.params-to_sql-2.ensures) at c.execute.ensures.runs) c.execute.ensures.survives
    (ChangesOnly spec.answers)
    c.in_ok-execute.field-0 c.in_ok-execute.was (λ more has ran. only.take_answer more (state g.S.Store old) (state g.S.Store new) _ _ _ has ran)

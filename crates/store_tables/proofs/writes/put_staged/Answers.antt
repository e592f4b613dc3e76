use Rattle.sqlite.specs.Held.{state}
use Rattle.std.proofs.Common.{pos, arith}
use Rattle.store_tables.specs.declared.rows.StagedRow.{StagedRow}
use Rattle.store_tables.specs.Tables.{with_staged}
use Rattle.store_tables.proofs.StepLemmas.{finishes, changes, only_keeps_more}
use Rattle.store_tables.proofs.TableLemmas.{put_staged}
use Rattle.store_tables.specs.Schema as spec
use Rattle.store_tables.specs.Schema.{store_with}
use Rattle.store_tables.specs.Tables.{ChangesOnly}
use Rattle.store_tables.proofs.OnlyLemmas as only
use Rattle.store_tables.proofs.writes.put_staged.Goals as goal

pub returns-clause-step : goal.returns-clause-step
returns-clause-step g c =
    let old = c.args.tx.now.conn.now in
    let new = c.execute.new.self.conn.now in
    let row : StagedRow = record { path = c.args.path.now; mode = pos c.args.mode; digest = c.args.digest.now } in
    finishes g.S.Store old new _ _ c.execute.result c.execute.ensures.ended (rw (c.params-to_sql.ensures, c.params-to_sql-2.ensures, c.params-to_sql-3.ensures) at c.execute.ensures.runs)
    c.execute.ensures.survives (with_staged row)
    c.in_ok-execute.field-0 c.in_ok-execute.was (λ more t h ran. put_staged more (state g.S.Store old) (state g.S.Store new) t row _ h ran)
    (λ more has ran. only_keeps_more spec.staged more (state g.S.Store old).now (state g.S.Store new).now (omega arith)
    (only.put_staged more (state g.S.Store old) (state g.S.Store new) _ _ _ _ has ran))

pub returns-clause-only : goal.returns-clause-only
returns-clause-only g c =
    let old = c.args.tx.now.conn.now in
    let new = c.execute.new.self.conn.now in
    changes g.S.Store old new _ _ c.execute.result c.execute.ensures.ended (rw (c.params-to_sql.ensures, c.params-to_sql-2.ensures, c.params-to_sql-3.ensures) at c.execute.ensures.runs)
    c.execute.ensures.survives (ChangesOnly spec.staged)
    c.in_ok-execute.field-0 c.in_ok-execute.was (λ more has ran. only.put_staged more (state g.S.Store old) (state g.S.Store new) _ _ _ _ has ran)

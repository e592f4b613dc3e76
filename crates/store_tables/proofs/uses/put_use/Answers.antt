use Rattle.store_tables.specs.declared.rows.UseRow.{UseRow}
use Rattle.std.proofs.Common.{SFits, w64, rules, to_z-of_z}
use Rattle.sqlite.specs.Held.{state}
use Rattle.store_tables.specs.Schema.{store_with}
use Rattle.store_tables.specs.Uses.{MakesUses, ChangesUses, with_use}
use Rattle.store_tables.proofs.StepLemmas.{changes}
use Rattle.store_tables.proofs.UsesLemmas.{put_use, put_use_only, told, told_only}
use Rattle.store_tables.proofs.uses.put_use.Goals as goal

pub returns-clause-step : goal.returns-clause-step
returns-clause-step g c =
    let old = c.args.tx.now.conn.now in
    let new = c.execute.new.self.conn.now in
    let fits : SFits w64 c.args.tick = search rules in
    let row : UseRow = record { words = c.args.words.now; seen = c.args.seen.now; tick = c.args.tick } in
    let makes = with_use row in
    changes g.S.Store old new _ _ c.execute.result c.execute.ensures.ended
    (rw (c.params-to_sql.ensures, c.params-to_sql-2.ensures, c.params-to_sql-3.ensures, to_z-of_z fits) at c.execute.ensures.runs) c.execute.ensures.survives (MakesUses makes)
    c.in_ok-execute.field-0 c.in_ok-execute.was
    (λ listed has ran. told (store_with listed) (state g.S.Store old).now (state g.S.Store new).now makes has
    (λ more t rows h own. put_use more (state g.S.Store old) (state g.S.Store new) t rows row _ h own ran))

pub returns-clause-only : goal.returns-clause-only
returns-clause-only g c =
    let old = c.args.tx.now.conn.now in
    let new = c.execute.new.self.conn.now in
    let fits : SFits w64 c.args.tick = search rules in
    let row : UseRow = record { words = c.args.words.now; seen = c.args.seen.now; tick = c.args.tick } in
    changes g.S.Store old new _ _ c.execute.result c.execute.ensures.ended
    (rw (c.params-to_sql.ensures, c.params-to_sql-2.ensures, c.params-to_sql-3.ensures, to_z-of_z fits) at c.execute.ensures.runs) c.execute.ensures.survives ChangesUses c.in_ok-execute.field-0
    c.in_ok-execute.was
    (λ listed has ran. told_only (store_with listed) (state g.S.Store old).now (state g.S.Store new).now has
    (λ more uses. put_use_only more (state g.S.Store old) (state g.S.Store new) row _ uses ran))

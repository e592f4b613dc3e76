use Rattle.std.proofs.Common.{pos}
use Rattle.std.proofs.lemmas.Result.{err_from_is_err_and}
use Rattle.store_tables.specs.declared.rows.MetaRow.{MetaRow}
use Rattle.store_tables.specs.Schema as spec
use Rattle.store_tables.specs.Tables.{Tables, HoldsIn, ChangesOnly, MakesIfKeyed, with_meta, with_new_meta, without_meta}
use Rattle.store_tables.proofs.MetaLemmas.{replaced}
use Rattle.store_tables.proofs.StepLemmas.{change_then, change_stops, only_then, step_as_change}
use Rattle.store_tables.proofs.writes.replace_meta.Goals as goal

pub returns-clause-step : goal.returns-clause-step
returns-clause-step g c =
    let old = c.args.tx.now.conn.now in
    let mid = c.take_meta.new.tx.conn.now in
    let new = c.put_meta.new.tx.conn.now in
    let row : MetaRow = record { name = c.args.name.now; value = pos c.args.value } in
    change_then g.S.Store old mid new c.put_meta.result (MakesIfKeyed spec.meta (without_meta row.name)) (λ listed x y. (t : Tables) → HoldsIn listed x t → HoldsIn listed y (with_meta row t))
    (MakesIfKeyed spec.meta (with_new_meta row))
    (replaced row) c.in_ok-take_meta.ensures.step (step_as_change g.S.Store mid new c.put_meta.result (with_meta row) c.put_meta.ensures.step)

pub returns-clause-only : goal.returns-clause-only
returns-clause-only g c =
    change_then g.S.Store c.args.tx.now.conn.now c.take_meta.new.tx.conn.now c.put_meta.new.tx.conn.now c.put_meta.result (ChangesOnly spec.meta) (ChangesOnly spec.meta) (ChangesOnly spec.meta)
    (only_then spec.meta) c.in_ok-take_meta.ensures.only c.put_meta.ensures.only

pub returns-in_err-take_meta-clause-step : goal.returns-in_err-take_meta-clause-step
returns-in_err-take_meta-clause-step g c =
    let p = err_from_is_err_and c.from_residual.result c.from_residual.ensures.1 in
    change_stops g.S.Store c.args.tx.now.conn.now c.take_meta.new.tx.conn.now _ p.0 c.from_residual.result _ _ p.1 c.in_err-take_meta.ensures.step

pub returns-in_err-take_meta-clause-only : goal.returns-in_err-take_meta-clause-only
returns-in_err-take_meta-clause-only g c =
    let p = err_from_is_err_and c.from_residual.result c.from_residual.ensures.1 in
    change_stops g.S.Store c.args.tx.now.conn.now c.take_meta.new.tx.conn.now _ p.0 c.from_residual.result _ _ p.1 c.in_err-take_meta.ensures.only

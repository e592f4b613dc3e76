use Rattle.std.proofs.Common.{Ok, Err, take, ◌∙◌, arith}
use Rattle.std.proofs.lemmas.Result.{err_from_is_err_and}
use Rattle.store_tables.specs.Uses.{HoldsRows}
use Rattle.store_tables.proofs.MakeLemmas.{made_then, stopped}
use Rattle.store_tables.proofs.UsesStepLemmas.{step_as_made}
use Rattle.repo_store.specs.UsesOf.{without_all, without_uses_of}
use Rattle.repo_store.proofs.UseStepLemmas.{drops_all, drops_more, in_place}
use Rattle.repo_store.proofs.uses.drop_all_in.Goals as goal

pub keys-init : goal.keys-init
keys-init g c = record {
  same_reference = c.in_ok-change_nothing.ensures.same_reference;
  made = λ t rows. step_as_made g.S.Store c.args.tx.now.conn.now c.change_nothing.new.tx.conn.now (Ok tt) t rows (λ u. u) c.in_ok-change_nothing.ensures.step;
}

pub keys-preserved : goal.keys-preserved
keys-preserved g c = record {
  same_reference = c.in_ok-drop_in.ensures.same_reference ∙ c.keys.invariant.same_reference;
  made =
      drops_more g.S.Store c.args.tx.now.conn.now c.keys.tx.conn.now c.drop_in.new.tx.conn.now c.args.keys.now c.keys.key-index _ c.keys-test.true
      (in_place c.args.keys.now c.keys.key-index _ c.keys-test.true) c.keys.invariant.made c.in_ok-drop_in.ensures.made;
}

pub returns-in_err-drop_in-clause-made : goal.returns-in_err-drop_in-clause-made
returns-in_err-drop_in-clause-made g c t rows =
    let r = c.from_residual-in_err-drop_in in
    let p = err_from_is_err_and r.result r.ensures.1 in
    let old = c.args.tx.now.conn.now in
    let mid = c.keys.tx.conn.now in
    let new = c.drop_in.new.tx.conn.now in
    let front = take c.keys.key-index c.args.keys.now in
    stopped g.S.Store old new c.in_err-drop_in.field-0.0 p.0 r.result (λ db. HoldsRows db t rows) _ (λ db. HoldsRows db (without_all c.args.keys.now t) (without_uses_of c.args.keys.now rows)) p.1
    (made_then g.S.Store old mid new (Err c.in_err-drop_in.field-0.0) (λ db. HoldsRows db t rows) (λ db. HoldsRows db (without_all front t) (without_uses_of front rows)) _
    (c.keys.invariant.made t rows)
    (c.in_err-drop_in.ensures.made (without_all front t) (without_uses_of front rows)))

pub returns-clause-made : goal.returns-clause-made
returns-clause-made g c = drops_all g.S.Store c.args.tx.now.conn.now c.keys.tx.conn.now c.args.keys.now c.keys.key-index (omega (arith, c.keys-test.false)) c.keys.invariant.made

use Rattle.std.proofs.Common.{[], ◌+◌, Ok, Err, ap, refl, reverse, take, ◌∙◌, arith}
use Rattle.std.proofs.lemmas.Result.{err_from_is_err_and}
use Rattle.store_tables.specs.Uses.{HoldsRows}
use Rattle.store_tables.proofs.MakeLemmas.{made_then, stopped}
use Rattle.store_tables.proofs.UsesStepLemmas.{step_as_made}
use Rattle.repo_store.specs.UsesOf.{key_rows}
use Rattle.repo_store.proofs.UseStepLemmas.{in_place, numbers_all, numbers_more}
use Rattle.repo_store.proofs.uses.number_in.Goals as goal

pub keys-init : goal.keys-init
keys-init g c = record {
  same_reference = c.in_ok-change_nothing.ensures.same_reference;
  counted = refl;
  few = c.in_ok-check_count.ensures;
  made = λ t. step_as_made g.S.Store c.args.tx.now.conn.now c.change_nothing.new.tx.conn.now (Ok tt) t [] (λ u. u) c.in_ok-change_nothing.ensures.step;
}

pub keys-preserved : goal.keys-preserved
keys-preserved g c = record {
  same_reference = c.in_ok-put_in.ensures.same_reference ∙ c.keys.invariant.same_reference;
  counted = ap (λ n. n + 1) c.keys.invariant.counted;
  few = c.keys.invariant.few;
  made =
      numbers_more g.S.Store c.args.tx.now.conn.now c.keys.tx.conn.now c.put_in.new.tx.conn.now c.args.keys.now c.keys.key-index _ (c.keys.tick + 1) c.keys-test.true
      (in_place c.args.keys.now c.keys.key-index _ c.keys-test.true)
      (ap (λ n. n + 1) c.keys.invariant.counted) c.keys.invariant.made c.in_ok-put_in.ensures.made;
}

pub returns-in_err-put_in-clause-made : goal.returns-in_err-put_in-clause-made
returns-in_err-put_in-clause-made g c t =
    let r = c.from_residual-in_err-put_in in
    let p = err_from_is_err_and r.result r.ensures.1 in
    let old = c.args.tx.now.conn.now in
    let mid = c.keys.tx.conn.now in
    let new = c.put_in.new.tx.conn.now in
    let before = key_rows (reverse (take c.keys.key-index c.args.keys.now)) in
    stopped g.S.Store old new c.in_err-put_in.field-0.0 p.0 r.result (λ db. HoldsRows db t []) _ (λ db. HoldsRows db t (key_rows (reverse c.args.keys.now))) p.1
    (made_then g.S.Store old mid new (Err c.in_err-put_in.field-0.0) (λ db. HoldsRows db t []) (λ db. HoldsRows db t before) _ (c.keys.invariant.made t) (c.in_err-put_in.ensures.made t before))

pub returns-clause-made : goal.returns-clause-made
returns-clause-made g c = numbers_all g.S.Store c.args.tx.now.conn.now c.keys.tx.conn.now c.args.keys.now c.keys.key-index (omega (arith, c.keys-test.false)) c.keys.invariant.made

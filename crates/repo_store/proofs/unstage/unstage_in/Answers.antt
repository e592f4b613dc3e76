use Rattle.std.proofs.Common.{ℕ, List, Ok, subst}
use Rattle.store_tables.specs.Steps.{IsStep}
use Rattle.store_tables.specs.Tables.{without_fixes, without_staged}
use Rattle.repo_store.proofs.CallLemmas.{step_then}
use Rattle.repo_store.proofs.unstage.unstage_in.Goals as goal

pub returns-clause-step : goal.returns-clause-step
returns-clause-step g c =
    let old = c.args.tx.now.conn.now in
    let out = c.take_staged.new.tx.conn.now in
    let took = subst (λ (path : List ℕ). IsStep {A = Unit {0}} g.S.Store old out (Ok tt) (without_staged path)) c.as_str.ensures.same c.in_ok-take_staged.ensures.step in
    step_then g.S.Store old out c.clear_fixes.new.tx.conn.now c.clear_fixes.result (without_staged c.args.path.now) without_fixes took c.clear_fixes.ensures.step

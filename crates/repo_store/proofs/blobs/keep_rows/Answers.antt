use Rattle.std.proofs.Common.{rules}
use Rattle.repo_store.proofs.CallLemmas.{step_as_made, whole_call}
use Rattle.repo_store.proofs.blobs.keep_rows.Goals as goal

pub returns-in_err-keep_in : goal.returns-in_err-keep_in
returns-in_err-keep_in g c t next answers = whole_call g.S.Store c.args.conn.now _ c.from_residual.result _ _ (g.met.S.Store.shut_if_dirty _) (search rules)

pub returns : goal.returns
returns g c t next answers =
    whole_call g.S.Store c.args.conn.now _ c.commit.result _ _ (g.met.S.Store.shut_if_dirty _) (search (rules, step_as_made g.S.Store _ _ _ t next answers _ c.in_ok-keep_in.ensures.step))

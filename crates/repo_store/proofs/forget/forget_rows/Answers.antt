use Rattle.std.proofs.Common.{[], rules}
use Rattle.store_tables.specs.Tables.{without_answers}
use Rattle.repo_store.proofs.CallLemmas.{listed_as_made, whole_call}
use Rattle.repo_store.proofs.UseLemmas.{uses_none}
use Rattle.repo_store.proofs.forget.forget_rows.Goals as goal

pub returns-in_err-forget_in : goal.returns-in_err-forget_in
returns-in_err-forget_in g c t next answers = let made =
    c.in_err-forget_in.ensures.made t [] in whole_call g.S.Store c.args.conn.now _ c.from_residual.result _ _ (g.met.S.Store.shut_if_dirty _) (search (rules, made))

pub returns : goal.returns
returns g c t next answers =
    let made = listed_as_made g.S.Store _ _ _ t (without_answers t) (λ rows. []) next next answers [] (c.in_ok-forget_in.ensures.made t) (λ rows uses. uses_none next) in
    whole_call g.S.Store c.args.conn.now _ c.commit.result _ _ (g.met.S.Store.shut_if_dirty _) (search (rules, made))

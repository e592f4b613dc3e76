use Rattle.std.proofs.Common.{[], ◌++◌, pos, rules}
use Rattle.store_tables.specs.Tables.{with_new_meta}
use Rattle.repo_store.specs.Rows.{limit_row}
use Rattle.repo_store.specs.UsesOf.{without_all, without_uses_of}
use Rattle.repo_store.proofs.CallLemmas.{listed_as_made, whole_call}
use Rattle.repo_store.proofs.UseLemmas.{uses_dropped}
use Rattle.repo_store.proofs.uses.limit_rows.Goals as goal

pub returns-in_err-limit_in : goal.returns-in_err-limit_in
returns-in_err-limit_in g c t next front back are own tells = let made =
    c.in_err-limit_in.ensures.made t [] in whole_call g.S.Store c.args.conn.now _ c.from_residual.result _ _ (g.met.S.Store.shut_if_dirty _) (search (rules, made))

pub returns : goal.returns
returns g c t next front back are own tells =
    let keys = c.args.keys.now in
    let made =
    listed_as_made g.S.Store _ _ _ t (with_new_meta (limit_row (pos c.args.limit)) (without_all keys t)) (without_uses_of keys) next next (front ++ back) front (c.in_ok-limit_in.ensures.made t)
    (λ rows uses. uses_dropped front back keys next rows are own tells uses) in
    whole_call g.S.Store c.args.conn.now _ c.commit.result _ _ (g.met.S.Store.shut_if_dirty _) (search (rules, made))

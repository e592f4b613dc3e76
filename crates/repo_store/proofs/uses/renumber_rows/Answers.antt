use Rattle.std.proofs.Common.{[], ◌+◌, length, reverse, rules}
use Rattle.repo_store.specs.UsesOf.{key_rows}
use Rattle.repo_store.proofs.CallLemmas.{listed_as_made, whole_call}
use Rattle.repo_store.proofs.UseLemmas.{uses_numbered}
use Rattle.repo_store.proofs.uses.renumber_rows.Goals as goal

pub returns-in_err-renumber_in : goal.returns-in_err-renumber_in
returns-in_err-renumber_in g c t next answers are = let made =
    c.in_err-renumber_in.ensures.made t [] in whole_call g.S.Store c.args.conn.now _ c.from_residual.result _ _ (g.met.S.Store.shut_if_dirty _) (search (rules, made))

pub returns : goal.returns
returns g c t next answers are =
    let made =
    listed_as_made g.S.Store _ _ _ t t (λ rows. key_rows (reverse c.args.keys.now)) next (length answers + 1) answers answers (c.in_ok-renumber_in.ensures.made t)
    (λ rows uses. uses_numbered answers c.args.keys.now are) in
    whole_call g.S.Store c.args.conn.now _ c.commit.result _ _ (g.met.S.Store.shut_if_dirty _) (search (rules, made))

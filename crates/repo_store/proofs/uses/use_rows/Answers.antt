use Rattle.std.proofs.Common.{[], ◌+◌, pos, rules, subst}
use Rattle.store_tables.specs.Uses.{with_use, without_use}
use Rattle.repo_store.specs.Index.{Key}
use Rattle.repo_store.specs.UsedAnswers.{in_front}
use Rattle.repo_store.specs.UsesOf.{AreUsesOf}
use Rattle.repo_store.proofs.CallLemmas.{listed_as_made, whole_call}
use Rattle.repo_store.proofs.UseLemmas.{uses_brought}
use Rattle.repo_store.proofs.uses.use_rows.Goals as goal

pub returns-in_err-use_in : goal.returns-in_err-use_in
returns-in_err-use_in g c t answers answer key tells first = let made =
    c.in_err-use_in.ensures.made t [] in whole_call g.S.Store c.args.conn.now _ c.from_residual.result _ _ (g.met.S.Store.shut_if_dirty _) (search (rules, made))

pub returns : goal.returns
returns g c t answers answer key tells first =
    let tick = c.args.tick in
    let made =
    listed_as_made g.S.Store _ _ _ t t (λ rows. with_use (record { words = c.args.words.now; seen = c.args.seen.now; tick = pos tick }) (without_use c.args.words.now c.args.seen.now rows)) tick
    (tick + 1) answers (in_front answer answers)
    (c.in_ok-use_in.ensures.made t)
    (λ rows uses. subst (λ (k : Key). AreUsesOf (tick + 1) (with_use (record { words = k.0; seen = k.1; tick = pos tick }) (without_use k.0 k.1 rows)) (in_front answer answers)) key
    (uses_brought answer tick rows answers first tells uses)) in
    whole_call g.S.Store c.args.conn.now _ c.commit.result _ _ (g.met.S.Store.shut_if_dirty _) (search (rules, made))

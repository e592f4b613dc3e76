use Rattle.std.proofs.Common.{[], ◌+◌, rules}
use Rattle.store_tables.specs.Uses.{with_use, without_use}
use Rattle.repo_store.specs.Index.{key_of}
use Rattle.repo_store.specs.Remembering.{with_answer_row}
use Rattle.repo_store.specs.Rows.{answer_row, with_blobs}
use Rattle.repo_store.specs.UsedAnswers.{in_front}
use Rattle.repo_store.specs.UsesOf.{use_row}
use Rattle.repo_store.proofs.CallLemmas.{listed_as_made, whole_call}
use Rattle.repo_store.proofs.UseLemmas.{uses_brought}
use Rattle.repo_store.proofs.remember.remember_rows.Goals as goal

pub returns-in_err-remember_in : goal.returns-in_err-remember_in
returns-in_err-remember_in g c t answers tells first = let made =
    c.in_err-remember_in.ensures.made t [] in whole_call g.S.Store c.args.conn.now _ c.from_residual.result _ _ (g.met.S.Store.shut_if_dirty _) (search (rules, made))

pub returns : goal.returns
returns g c t answers tells first =
    let tick = c.args.tick in
    let answer = c.args.answer.now in
    let key = key_of answer in
    let made =
    listed_as_made g.S.Store _ _ _ t (with_answer_row (answer_row answer) (with_blobs c.args.news.now t)) (λ rows. with_use (use_row answer tick) (without_use key.0 key.1 rows)) tick (tick + 1)
    answers (in_front answer answers)
    (c.in_ok-remember_in.ensures.made t) (λ rows uses. uses_brought answer tick rows answers first tells uses) in
    whole_call g.S.Store c.args.conn.now _ c.commit.result _ _ (g.met.S.Store.shut_if_dirty _) (search (rules, made))

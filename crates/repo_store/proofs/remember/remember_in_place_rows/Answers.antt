use Rattle.std.proofs.Common.{[], ◌∷◌, ◌++◌, ◌+◌, rules, subst}
use Rattle.store_tables.specs.Tables.{without_answer}
use Rattle.store_tables.specs.Uses.{with_use, without_use}
use Rattle.repo_store.specs.Index.{Key, key_of}
use Rattle.repo_store.specs.Remembering.{with_answer_row}
use Rattle.repo_store.specs.Rows.{answer_row, with_blobs}
use Rattle.repo_store.specs.UsesOf.{AreUsesOf, use_row}
use Rattle.repo_store.proofs.CallLemmas.{listed_as_made, whole_call}
use Rattle.repo_store.proofs.UseLemmas.{uses_in_place}
use Rattle.repo_store.proofs.remember.remember_in_place_rows.Goals as goal

pub returns-in_err-remember_in_place_in : goal.returns-in_err-remember_in_place_in
returns-in_err-remember_in_place_in g c t front last key place first =
    let made = c.in_err-remember_in_place_in.ensures.made t [] in
    whole_call g.S.Store c.args.conn.now _ c.from_residual.result _ _ (g.met.S.Store.shut_if_dirty _) (search (rules, made))

pub returns : goal.returns
returns g c t front last key place first =
    let tick = c.args.tick in
    let answer = c.args.answer.now in
    let words = c.args.words.now in
    let seen = c.args.seen.now in
    let made = listed_as_made g.S.Store _ _ _ t (without_answer words seen (with_answer_row (answer_row answer) (with_blobs c.args.news.now t)))
    (λ rows. without_use words seen (with_use (use_row answer tick) (without_use (key_of answer).0 (key_of answer).1 rows))) tick (tick + 1) (front ++ last ∷ []) (answer ∷ front)
    (c.in_ok-remember_in_place_in.ensures.made t)
    (λ rows uses. subst (λ (k : Key). AreUsesOf (tick + 1) (without_use k.0 k.1 (with_use (use_row answer tick) (without_use (key_of answer).0 (key_of answer).1 rows))) (answer ∷ front)) key
    (uses_in_place answer last front tick rows first place uses)) in
    whole_call g.S.Store c.args.conn.now _ c.commit.result _ _ (g.met.S.Store.shut_if_dirty _) (search (rules, made))

use Rattle.std.proofs.lemmas.Result.{err_from_is_err_and}
use Rattle.store_tables.specs.Tables.{without_answer}
use Rattle.store_tables.specs.Uses.{HoldsRows, with_use, without_use}
use Rattle.store_tables.proofs.MakeLemmas.{made_then, stopped}
use Rattle.repo_store.specs.Index.{key_of}
use Rattle.repo_store.specs.Remembering.{with_answer_row}
use Rattle.repo_store.specs.Rows.{answer_row, with_blobs}
use Rattle.repo_store.specs.UsesOf.{use_row}
use Rattle.repo_store.proofs.remember.remember_in_place_in.Goals as goal

pub returns-clause-made : goal.returns-clause-made
returns-clause-made g c t rows =
    let answer = c.args.answer.now in
    let words = c.args.words.now in
    let seen = c.args.seen.now in
    let put = with_answer_row (answer_row answer) (with_blobs c.args.news.now t) in
    let uses = with_use (use_row answer c.args.tick) (without_use (key_of answer).0 (key_of answer).1 rows) in
    made_then g.S.Store c.args.tx.now.conn.now c.remember_in.new.tx.conn.now c.drop_in.new.tx.conn.now c.drop_in.result (λ db. HoldsRows db t rows) (λ db. HoldsRows db put uses)
    (λ db. HoldsRows db (without_answer words seen put) (without_use words seen uses)) (c.in_ok-remember_in.ensures.made t rows) (c.drop_in.ensures.made put uses)

pub returns-in_err-remember_in-clause-made : goal.returns-in_err-remember_in-clause-made
returns-in_err-remember_in-clause-made g c t rows =
    let p = err_from_is_err_and c.from_residual.result c.from_residual.ensures.1 in
    let answer = c.args.answer.now in
    let words = c.args.words.now in
    let seen = c.args.seen.now in
    let put = with_answer_row (answer_row answer) (with_blobs c.args.news.now t) in
    let uses = with_use (use_row answer c.args.tick) (without_use (key_of answer).0 (key_of answer).1 rows) in
    stopped g.S.Store c.args.tx.now.conn.now c.remember_in.new.tx.conn.now c.in_err-remember_in.field-0.0 p.0 c.from_residual.result (λ db. HoldsRows db t rows) (λ db. HoldsRows db put uses)
    (λ db. HoldsRows db (without_answer words seen put) (without_use words seen uses)) p.1 (c.in_err-remember_in.ensures.made t rows)

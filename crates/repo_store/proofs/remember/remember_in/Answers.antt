use Rattle.std.proofs.Common.{ℕ, List, Ok, Err, pos, refl, ap, ◌∙◌, subst₂}
use Rattle.std.proofs.lemmas.Result.{err_from_is_err_and}
use Rattle.sha2.specs.Sha256.{sha256}
use Rattle.store_tables.specs.Steps.{IsMade}
use Rattle.store_tables.specs.Tables.{Tables}
use Rattle.store_tables.specs.Uses.{HoldsRows, with_use, without_use}
use Rattle.store_tables.proofs.MakeLemmas.{made_then, stopped}
use Rattle.store_tables.proofs.UsesStepLemmas.{step_as_made}
use Rattle.repo_store.specs.Index.{key_of}
use Rattle.repo_store.specs.Remembering.{with_answer_row}
use Rattle.repo_store.specs.Rows.{answer_row, with_blobs}
use Rattle.repo_store.specs.UsesOf.{use_row}
use Rattle.repo_store.proofs.remember.remember_in.Goals as goal

pub put_in_place-requires : goal.put_in_place-requires
put_in_place-requires g c = rw (c.digest-words.ensures, c.words_record.ensures, c.digest-seen.ensures, c.seen_record.ensures) refl

pub returns-clause-made : goal.returns-clause-made
returns-clause-made g c t rows =
    let old = c.args.tx.now.conn.now in
    let mid = c.put_in_place.new.tx.conn.now in
    let new = c.use_in.new.tx.conn.now in
    let answer = c.args.answer.now in
    let makes = λ (u : Tables). with_answer_row (answer_row answer) (with_blobs c.args.news.now u) in
    let words = c.digest-words.ensures ∙ ap sha256 c.words_record.ensures in
    let seen = c.digest-seen.ensures ∙ ap sha256 c.seen_record.ensures in
    let brought = λ (w s : List ℕ). with_use (record { words = w; seen = s; tick = pos c.args.tick }) (without_use w s rows) in
    let used =
    subst₂ (λ (w s : List ℕ). IsMade g.S.Store mid new c.use_in.result (λ db. HoldsRows db (makes t) rows) (λ db. HoldsRows db (makes t) (brought w s))) words seen
    (c.use_in.ensures.made (makes t) rows) in
    made_then g.S.Store old mid new c.use_in.result (λ db. HoldsRows db t rows) (λ db. HoldsRows db (makes t) rows) (λ db. HoldsRows db (makes t) (brought (key_of answer).0 (key_of answer).1))
    (step_as_made g.S.Store old mid (Ok tt) t rows makes c.in_ok-put_in_place.ensures.step) used

pub returns-in_err-put_in_place-clause-made : goal.returns-in_err-put_in_place-clause-made
returns-in_err-put_in_place-clause-made g c t rows =
    let p = err_from_is_err_and c.from_residual.result c.from_residual.ensures.1 in
    let answer = c.args.answer.now in
    let makes = λ (u : Tables). with_answer_row (answer_row answer) (with_blobs c.args.news.now u) in
    stopped g.S.Store c.args.tx.now.conn.now c.put_in_place.new.tx.conn.now c.in_err-put_in_place.field-0.0 p.0 c.from_residual.result (λ db. HoldsRows db t rows) (λ db. HoldsRows db (makes t) rows)
    (λ db. HoldsRows db (makes t) (with_use (use_row answer c.args.tick) (without_use (key_of answer).0 (key_of answer).1 rows))) p.1
    (step_as_made g.S.Store c.args.tx.now.conn.now c.put_in_place.new.tx.conn.now (Err c.in_err-put_in_place.field-0.0) t rows makes c.in_err-put_in_place.ensures.step)

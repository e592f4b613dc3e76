use Rattle.std.proofs.Common.{◌≡◌, List, ℕ, Ok, pos, refl, sym, subst, ap, ◌∙◌}
use Rattle.sha2.specs.Sha256.{sha256}
use Rattle.store_tables.specs.declared.rows.AnswerRow.{AnswerRow}
use Rattle.store_tables.specs.Steps.{IsStep}
use Rattle.store_tables.specs.Tables.{with_answer, without_answer}
use Rattle.repo_store.specs.Index.{Key}
use Rattle.repo_store.specs.Rows.{answer_row, with_blobs}
use Rattle.repo_store.proofs.CallLemmas.{step_then}
use Rattle.repo_store.proofs.remember.put_in_place.Goals as goal

pub returns-clause-step : goal.returns-clause-step
returns-clause-step g c =
    let old = c.args.tx.now.conn.now in
    let kept = c.keep_in.new.tx.conn.now in
    let out = c.take_answer.new.tx.conn.now in
    let new = c.put_answer.new.tx.conn.now in
    let row = answer_row c.args.answer.now in
    let words : c.args.words.now ≡ row.words = sym (ap (λ (k : Key). k.0) c.requires) in
    let seen : c.args.seen.now ≡ row.seen = sym (ap (λ (k : Key). k.1) c.requires) in
    let output = c.digest-output.ensures ∙ ap sha256 c.output.ensures in
    let changes = c.digest-changes.ensures ∙ ap sha256 c.changes_record.ensures in
    let took = subst (λ (l : List ℕ). IsStep {A = Unit {0}} g.S.Store kept out (Ok tt) (without_answer l row.seen)) words
    (subst (λ (l : List ℕ). IsStep {A = Unit {0}} g.S.Store kept out (Ok tt) (without_answer c.args.words.now l)) seen c.in_ok-take_answer.ensures.step) in
    let both = step_then g.S.Store old kept out (Ok tt) (λ t. with_blobs c.args.news.now t) (without_answer row.words row.seen) c.in_ok-keep_in.ensures.step took in
    let shown : AnswerRow = record { words = c.args.words.now; seen = c.args.seen.now; output = c.digest-output.result; changes = c.digest-changes.result; status = pos c.from-status.result } in
    let row_is : shown ≡ row = let status : c.from-status.result ≡ c.args.answer.now.status = cc in rw (words, seen, output, changes, status) refl in
    let put = subst (λ (r : AnswerRow). IsStep g.S.Store out new c.put_answer.result (with_answer r)) row_is c.put_answer.ensures.step in
    step_then g.S.Store old out new c.put_answer.result (λ t. without_answer row.words row.seen (with_blobs c.args.news.now t)) (with_answer row) both put

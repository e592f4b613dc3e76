use Rattle.std.proofs.Common.{map}
use Rattle.std.proofs.lemmas.Result.{err_from_is_err_and}
use Rattle.answer_records.specs.Reading.{IsWordsRecord}
use Rattle.repo_store.specs.Rows.{blob_row}
use Rattle.repo_store.proofs.AnswerRowLemmas.{none_decoded, none_told, not_kept}
use Rattle.repo_store.proofs.FromRowsLemmas.{damage_of}
use Rattle.repo_store.proofs.from_rows.words.words_at.Goals as goal

pub returns-in_err-record-clause-broken : goal.returns-in_err-record-clause-broken
returns-in_err-record-clause-broken c =
    let p = err_from_is_err_and c.from_residual.result c.from_residual.ensures.1 in
    rw (p.1, p.2) (damage_of _ _ c.in_err-record.field-0.0 (λ absent words. not_kept (IsWordsRecord words) c.args.digest.now (map blob_row c.args.contents.now) absent) c.in_err-record.ensures.missing)

pub returns-in_default-clause-broken : goal.returns-in_default-clause-broken
returns-in_default-clause-broken c =
    let none = none_decoded IsWordsRecord c.as_slice.result.now c.in_ok-record.record c.in_ok-part.field-0 c.as_slice.ensures c.in_default.is c.in_ok-part.ensures in
    none_told IsWordsRecord c.args.digest.now c.in_ok-record.record c.args.contents.now c.in_ok-record.ensures.found c.in_ok-record.ensures.alone none

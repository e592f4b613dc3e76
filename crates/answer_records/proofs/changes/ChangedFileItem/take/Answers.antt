use Rattle.std.proofs.lemmas.Result.{err_from_is_err_and}
use Rattle.answer_records.proofs.FieldLemmas.{changed_no_tail, changed_other_path}
use Rattle.answer_records.proofs.ListLemmas.{unread_weaker}
use Rattle.answer_records.proofs.changes.ChangedFileItem.take.Goals as goal

pub returns-in_default-marked_digest-clause-unread : goal.returns-in_default-marked_digest-clause-unread
returns-in_default-marked_digest-clause-unread c =
    changed_no_tail c.args.bytes.now c.in-Some.path.now c.in-Some.rest.now c.in-Some.ensures.few c.in-Some.ensures.found c.in_default-marked_digest.ensures.none

pub returns-in_err-path-clause-unread : goal.returns-in_err-path-clause-unread
returns-in_err-path-clause-unread c =
    let p = err_from_is_err_and c.from_residual.result c.from_residual.ensures.1 in
    rw (p.1, p.2) (unread_weaker _ _ c.in_err-path.field-0.0 (changed_other_path c.args.bytes.now c.in-Some.path.now c.in-Some.rest.now c.in-Some.ensures.few c.in-Some.ensures.found)
    c.in_err-path.ensures.unread)

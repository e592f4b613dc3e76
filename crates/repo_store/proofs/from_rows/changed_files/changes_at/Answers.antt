use Rattle.std.proofs.Common.{List, map, sym, subst, ◌∙◌}
use Rattle.std.proofs.lemmas.Result.{err_from_is_err_and}
use Rattle.answer_records.specs.declared.changed_file.ChangedFile.{ChangedFile}
use Rattle.answer_records.specs.Reading.{IsChangesRecord}
use Rattle.answer_records.specs.RecordLemmas.{one_changes}
use Rattle.answer_records.specs.Records.{changed_of_changes}
use Rattle.repo_store.specs.Lists.{fix_of}
use Rattle.repo_store.specs.Rows.{blob_row}
use Rattle.repo_store.specs.RowRules.{HaveKeptNewContents}
use Rattle.repo_store.proofs.AnswerRowLemmas.{none_decoded, none_told, not_kept, one_decoded, one_told}
use Rattle.repo_store.proofs.FromRowsLemmas.{damage_of}
use Rattle.repo_store.proofs.from_rows.changed_files.changes_at.Goals as goal

pub returns-in_err-record-clause-broken : goal.returns-in_err-record-clause-broken
returns-in_err-record-clause-broken c =
    let p = err_from_is_err_and c.from_residual.result c.from_residual.ensures.1 in
    rw (p.1, p.2) (damage_of _ _ c.in_err-record.field-0.0 (λ absent value kept _. not_kept (IsChangesRecord value) c.args.digest.now (map blob_row c.args.contents.now) absent kept)
    c.in_err-record.ensures.missing)

pub returns-in_default-clause-broken : goal.returns-in_default-clause-broken
returns-in_default-clause-broken c =
    let none = none_decoded IsChangesRecord c.as_slice.result.now c.in_ok-record.record c.in_ok-named.field-0 c.as_slice.ensures c.in_default.is c.in_ok-named.ensures in
    λ value kept _. none_told IsChangesRecord c.args.digest.now c.in_ok-record.record c.args.contents.now c.in_ok-record.ensures.found c.in_ok-record.ensures.alone none value kept

pub returns-in_err-part-clause-broken : goal.returns-in_err-part-clause-broken
returns-in_err-part-clause-broken c =
    let p = err_from_is_err_and c.from_residual-in_err-part.result c.from_residual-in_err-part.ensures.1 in
    let blobs = map blob_row c.args.contents.now in
    let named = one_decoded IsChangesRecord c.as_slice.result.now c.in_ok-record.record c.in_ok-named.field-0 c.in-Some.named c.as_slice.ensures c.in-Some.is c.in_ok-named.ensures in
    let told = subst (λ (l : List ChangedFile). IsChangesRecord l c.in_ok-record.record) (sym c.into_vec.ensures) named in
    let only =
    one_told IsChangesRecord c.args.digest.now c.in_ok-record.record c.args.contents.now c.in_ok-record.ensures.found c.in_ok-record.ensures.alone one_changes c.into_vec.result.items told in
    rw (p.1, p.2) (damage_of _ _ c.in_err-part.field-0.0 (λ breaks value kept have. breaks (subst (HaveKeptNewContents blobs) (only value kept) have)) c.in_err-part.ensures.broken)

pub returns-clause-only : goal.returns-clause-only
returns-clause-only c =
    let named = one_decoded IsChangesRecord c.as_slice.result.now c.in_ok-record.record c.in_ok-named.field-0 c.in-Some.named c.as_slice.ensures c.in-Some.is c.in_ok-named.ensures in
    let told = subst (λ (l : List ChangedFile). IsChangesRecord l c.in_ok-record.record) (sym (c.in_ok-part.ensures.changes ∙ c.into_vec.ensures)) named in
    one_told IsChangesRecord c.args.digest.now c.in_ok-record.record c.args.contents.now c.in_ok-record.ensures.found c.in_ok-record.ensures.alone one_changes
    (changed_of_changes (map fix_of c.in_ok-part.part.items)) told

use Rattle.std.proofs.Common.{SFits, w64, rules, to_z-of_z, ◌≡◌, true, false, ℕ, List, map, sym, ap, subst, ◌∙◌}
use Rattle.std.proofs.lemmas.Result.{err_from_is_err_and}
use Rattle.hook_base.specs.Trees.{IsRising}
use Rattle.answer_records.specs.declared.changed_file.ChangedFile.{ChangedFile}
use Rattle.answer_records.specs.declared.seen_file.SeenFile.{SeenFile}
use Rattle.answer_records.specs.Reading.{IsChangesRecord, IsSeenRecord, IsWordsRecord}
use Rattle.answer_records.specs.Records.{changed_of_changes, seen_of_files}
use Rattle.repo_store.specs.Shared.{FileParts}
use Rattle.repo_store.specs.declared.shared.SharedFix.{SharedFix}
use Rattle.repo_store.specs.Complete.{HasRecords}
use Rattle.repo_store.specs.Lists.{file_of, fix_of}
use Rattle.repo_store.specs.RowRules.{HasKept}
use Rattle.repo_store.specs.Rows.{answer_row, blob_row}
use Rattle.repo_store.specs.SharedAnswers.{answer_of}
use Rattle.repo_store.specs.SoundAnswers.{IsSoundAnswer, KeepToSeen}
use Rattle.repo_store.proofs.AnswerRowLemmas.{AreRecords, not_seen, records_kept, records_sound, records_written, row_shown, seen_rises}
use Rattle.repo_store.proofs.FromRowsLemmas.{damage_of}
use Rattle.repo_store.proofs.from_rows.answers.answer_of.Goals as goal

pub returns-in_err-words-clause-broken : goal.returns-in_err-words-clause-broken
returns-in_err-words-clause-broken c =
    let p = err_from_is_err_and c.from_residual-in_err-words.result c.from_residual-in_err-words.ensures.1 in
    let blobs = map blob_row c.args.contents.now in
    rw (p.1, p.2) (damage_of _ _ c.in_err-words.field-0.0 (λ none rule. none rule.words (subst (λ (d : List ℕ). HasKept blobs d (IsWordsRecord rule.words)) (sym c.as_slice.ensures) rule.words_kept))
    c.in_err-words.ensures.broken)

pub keep_to_seen-requires : goal.keep_to_seen-requires
keep_to_seen-requires c =
    subst (λ (l : List FileParts). IsRising (map file_of l)) (sym c.as_slice-6.ensures.value)
    (seen_rises (map file_of c.in_ok-seen.seen.part.items) c.in_ok-seen.seen.record c.in_ok-seen.ensures.record)

pub returns-then-not-keep_to_seen-clause-broken : goal.returns-then-not-keep_to_seen-clause-broken
returns-then-not-keep_to_seen-clause-broken c =
    let blobs = map blob_row c.args.contents.now in
    let files = map file_of c.in_ok-seen.seen.part.items in
    let changes = map fix_of c.in_ok-changes.changes.part.items in
    not_seen blobs c.args.row.now files changes
    (subst (λ (d : List ℕ). (other : List SeenFile) → HasKept blobs d (IsSeenRecord other) → other ≡ seen_of_files files) c.as_slice-2.ensures c.in_ok-seen.ensures.only)
    (subst (λ (d : List ℕ). (other : List ChangedFile) → HasKept blobs d (IsChangesRecord other) → other ≡ changed_of_changes changes) c.as_slice-4.ensures c.in_ok-changes.ensures.only)
    (λ keep.
    let moved = subst (λ (l : List FileParts). KeepToSeen changes (map file_of l)) (sym c.as_slice-6.ensures.value) keep in
    let there = c.keep_to_seen.ensures.1 (subst (λ (l : List SharedFix). KeepToSeen (map fix_of l) (map file_of c.as_slice-6.result.now)) (sym c.as_slice-5.ensures.value) moved) in
    absurd (let never : false ≡ true = sym c.if-not-keep_to_seen.true ∙ there in cc))

pub of-requires : goal.of-requires
of-requires c =
    let answer = answer_of c.in_ok-words.words.part c.in_ok-seen.seen.part.items c.in_ok-output.output c.in_ok-changes.changes.part.items c.in_ok-status.status in
    records_written answer c.in_ok-words.words.record c.in_ok-seen.seen.record c.in_ok-changes.changes.record
    (record { words_told = c.in_ok-words.ensures.record; seen_told = c.in_ok-seen.ensures.record; changes_told = c.in_ok-changes.ensures.record })

pub returns-clause-row : goal.returns-clause-row
returns-clause-row c =
    let answer = answer_of c.in_ok-words.words.part c.in_ok-seen.seen.part.items c.in_ok-output.output c.in_ok-changes.changes.part.items c.in_ok-status.status in
    let written =
    records_written answer c.in_ok-words.words.record c.in_ok-seen.seen.record c.in_ok-changes.changes.record
    (record { words_told = c.in_ok-words.ensures.record; seen_told = c.in_ok-seen.ensures.record; changes_told = c.in_ok-changes.ensures.record }) in
    let fits : SFits w64 c.args.row.now.status = search rules in
    ap answer_row c.of.ensures ∙ row_shown answer c.args.row.now c.in_ok-words.words.record c.in_ok-seen.seen.record c.in_ok-changes.changes.record written
    (c.in_ok-words.ensures.named ∙ c.as_slice.ensures) (c.in_ok-seen.ensures.named ∙ c.as_slice-2.ensures) (c.in_ok-output.ensures.found ∙ c.as_slice-3.ensures)
    (c.in_ok-changes.ensures.named ∙ c.as_slice-4.ensures)
    (rw (to_z-of_z fits) at c.in_ok-status.ensures.status)

pub returns-clause-sound : goal.returns-clause-sound
returns-clause-sound c =
    let answer = answer_of c.in_ok-words.words.part c.in_ok-seen.seen.part.items c.in_ok-output.output c.in_ok-changes.changes.part.items c.in_ok-status.status in
    let told : AreRecords answer c.in_ok-words.words.record c.in_ok-seen.seen.record c.in_ok-changes.changes.record =
    record { words_told = c.in_ok-words.ensures.record; seen_told = c.in_ok-seen.ensures.record; changes_told = c.in_ok-changes.ensures.record } in
    let held = c.keep_to_seen.ensures.0 c.if-not-keep_to_seen.false in
    let moved = subst (λ (l : List FileParts). KeepToSeen (map fix_of c.as_slice-5.result.now) (map file_of l)) c.as_slice-6.ensures.value held in
    let keep = subst (λ (l : List SharedFix). KeepToSeen (map fix_of l) answer.seen) c.as_slice-5.ensures.value moved in
    subst IsSoundAnswer (sym c.of.ensures) (records_sound answer c.in_ok-words.words.record c.in_ok-seen.seen.record c.in_ok-changes.changes.record told keep c.in_ok-status.ensures.known)

pub returns-clause-records : goal.returns-clause-records
returns-clause-records c =
    let answer = answer_of c.in_ok-words.words.part c.in_ok-seen.seen.part.items c.in_ok-output.output c.in_ok-changes.changes.part.items c.in_ok-status.status in
    let written =
    records_written answer c.in_ok-words.words.record c.in_ok-seen.seen.record c.in_ok-changes.changes.record
    (record { words_told = c.in_ok-words.ensures.record; seen_told = c.in_ok-seen.ensures.record; changes_told = c.in_ok-changes.ensures.record }) in
    subst (HasRecords c.args.contents.now) (sym c.of.ensures) (records_kept c.args.contents.now answer c.in_ok-words.words.record c.in_ok-seen.seen.record c.in_ok-changes.changes.record written
    c.in_ok-words.ensures.among c.in_ok-seen.ensures.among c.in_ok-output.ensures.among c.in_ok-changes.ensures.among c.in_ok-seen.ensures.contents c.in_ok-changes.ensures.contents)

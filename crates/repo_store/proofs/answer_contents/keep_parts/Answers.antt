use Rattle.std.proofs.Common.{◌≤◌, List, ℕ, [], ◌∷◌, ◌++◌, map, subst, sym, ◌∙◌, ap, arith}
use Rattle.std.proofs.lemmas.Result.{err_from_is_err_and}
use Rattle.hook_base.specs.declared.change.Change.{Change}
use Rattle.hook_base.specs.declared.file.File.{File}
use Rattle.answer_records.specs.Reading.{IsChangesRecord, IsSeenRecord, IsWordsRecord}
use Rattle.answer_records.specs.Records.{changed_of_changes, changes_record, seen_of_files, seen_record, words_record}
use Rattle.repo_store.specs.AnswerRefs.{copied_answer}
use Rattle.repo_store.specs.KeptContents.{AreAllKept, IsStopped}
use Rattle.store_faults.specs.Limits.{most_status}
use Rattle.repo_store.specs.Lists.{file_of, fix_of}
use Rattle.repo_store.specs.SharedAnswers.{answer_of}
use Rattle.repo_store.specs.WrittenAnswers.{contents_in_changes, contents_in_files, records_of}
use Rattle.repo_store.proofs.AnswerRowLemmas.{records_sound, records_written}
use Rattle.repo_store.proofs.ManyLemmas.{kept_then, stopped_front, stopped_then}
use Rattle.repo_store.proofs.answer_contents.keep_parts.Goals as goal

pub returns-in_err-files-clause-stopped : goal.returns-in_err-files-clause-stopped
returns-in_err-files-clause-stopped c =
    let answer = copied_answer c.args.words.now c.args.seen.now c.args.answer in
    let p = err_from_is_err_and c.from_residual-in_err-files.result c.from_residual-in_err-files.ensures.1 in
    rw (p.1, p.2) (stopped_front (contents_in_files answer.seen) (contents_in_changes answer.changes ++ records_of answer) c.args.contents.now c.keep_files.new.contents c.in_err-files.field-0.0
    (c.in_err-files.ensures).stopped)

pub returns-in_err-changes-clause-stopped : goal.returns-in_err-changes-clause-stopped
returns-in_err-changes-clause-stopped c =
    let answer = copied_answer c.args.words.now c.args.seen.now c.args.answer in
    let mid = c.keep_files.new.contents in
    let new = c.keep_changes.new.contents in
    let fault = c.in_err-changes.field-0.0 in
    let stopped = subst (λ (l : List Change). IsStopped (contents_in_changes l) mid new fault) c.as_slice.ensures.same (c.in_err-changes.ensures).stopped in
    let p = err_from_is_err_and c.from_residual-in_err-changes.result c.from_residual-in_err-changes.ensures.1 in
    rw (p.1, p.2) (stopped_then (contents_in_files answer.seen) (contents_in_changes answer.changes ++ records_of answer) c.args.contents.now mid (c.in_ok-files.ensures).kept new fault
    (stopped_front (contents_in_changes answer.changes) (records_of answer) mid new fault stopped))

pub returns-in_err-written-clause-stopped : goal.returns-in_err-written-clause-stopped
returns-in_err-written-clause-stopped c =
    let answer = copied_answer c.args.words.now c.args.seen.now c.args.answer in
    let mid = c.keep_files.new.contents in
    let after = c.keep_changes.new.contents in
    let new = c.keep_written.new.contents in
    let fault = c.in_err-written.field-0.0 in
    let files = ap (map file_of) c.as_slice-2.ensures.value ∙ (c.in_ok-files.ensures).files in
    let changes = ap (map fix_of) c.as_slice-3.ensures.value ∙ (c.in_ok-changes.ensures).changes ∙ c.as_slice.ensures.same in
    let kept = subst (λ (l : List Change). AreAllKept (contents_in_changes l) mid after) c.as_slice.ensures.same (c.in_ok-changes.ensures).kept in
    let one =
    subst (λ (l : List File). IsStopped (words_record answer.words ∷ seen_record (seen_of_files l) ∷ answer.output ∷ changes_record (changed_of_changes (map fix_of c.as_slice-3.result.now)) ∷ [])
    after new fault) files (c.in_err-written.ensures).stopped in
    let both =
    subst (λ (l : List Change). IsStopped (words_record answer.words ∷ seen_record (seen_of_files answer.seen) ∷ answer.output ∷ changes_record (changed_of_changes l) ∷ []) after new fault)
    changes one in
    let p = err_from_is_err_and c.from_residual-in_err-written.result c.from_residual-in_err-written.ensures.1 in
    rw (p.1, p.2) (stopped_then (contents_in_files answer.seen) (contents_in_changes answer.changes ++ records_of answer) c.args.contents.now mid (c.in_ok-files.ensures).kept new fault
    (stopped_then (contents_in_changes answer.changes) (records_of answer) mid after kept new fault both))

pub of-requires : goal.of-requires
of-requires c =
    let written = c.in_ok-written.written in
    let told = c.in_ok-written.ensures in
    let answer = answer_of c.in_ok-copy.copy c.in_ok-files.files.items written.output c.in_ok-changes.changes.items c.args.answer.status in
    records_written answer written.records.words written.records.seen written.records.changes (record {
      words_told = subst (λ (l : List (List ℕ)). IsWordsRecord l written.records.words) (sym c.in_ok-copy.ensures) told.words;
      seen_told = subst (λ (l : List File). IsSeenRecord (seen_of_files l) written.records.seen) (ap (map file_of) c.as_slice-2.ensures.value) told.seen;
      changes_told = subst (λ (l : List Change). IsChangesRecord (changed_of_changes l) written.records.changes) (ap (map fix_of) c.as_slice-3.ensures.value) told.changes;
    })

pub returns-clause-sound : goal.returns-clause-sound
returns-clause-sound c =
    let written = c.in_ok-written.written in
    let told = c.in_ok-written.ensures in
    let answer = copied_answer c.args.words.now c.args.seen.now c.args.answer in
    let files = ap (map file_of) c.as_slice-2.ensures.value ∙ (c.in_ok-files.ensures).files in
    let changes = ap (map fix_of) c.as_slice-3.ensures.value ∙ (c.in_ok-changes.ensures).changes ∙ c.as_slice.ensures.same in
    let status : answer.status ≤ most_status = omega (arith, c.ranges.answer) in
    records_sound answer written.records.words written.records.seen written.records.changes (record {
      words_told = told.words;
      seen_told = subst (λ (l : List File). IsSeenRecord (seen_of_files l) written.records.seen) files told.seen;
      changes_told = subst (λ (l : List Change). IsChangesRecord (changed_of_changes l) written.records.changes) changes told.changes;
    }) c.requires status

pub returns-clause-kept : goal.returns-clause-kept
returns-clause-kept c =
    let answer = copied_answer c.args.words.now c.args.seen.now c.args.answer in
    let old = c.args.contents.now in
    let mid = c.keep_files.new.contents in
    let after = c.keep_changes.new.contents in
    let new = c.keep_written.new.contents in
    let files = ap (map file_of) c.as_slice-2.ensures.value ∙ (c.in_ok-files.ensures).files in
    let changes = ap (map fix_of) c.as_slice-3.ensures.value ∙ (c.in_ok-changes.ensures).changes ∙ c.as_slice.ensures.same in
    let kept = subst (λ (l : List Change). AreAllKept (contents_in_changes l) mid after) c.as_slice.ensures.same (c.in_ok-changes.ensures).kept in
    let one =
    subst (λ (l : List File). AreAllKept (words_record answer.words ∷ seen_record (seen_of_files l) ∷ answer.output ∷ changes_record (changed_of_changes (map fix_of c.as_slice-3.result.now)) ∷ [])
    after new) files (c.in_ok-written.ensures).kept in
    let both =
    subst (λ (l : List Change). AreAllKept (words_record answer.words ∷ seen_record (seen_of_files answer.seen) ∷ answer.output ∷ changes_record (changed_of_changes l) ∷ []) after new) changes
    one in
    kept_then (contents_in_files answer.seen) (contents_in_changes answer.changes ++ records_of answer) old mid (c.in_ok-files.ensures).kept new
    (kept_then (contents_in_changes answer.changes) (records_of answer) mid after kept new both)

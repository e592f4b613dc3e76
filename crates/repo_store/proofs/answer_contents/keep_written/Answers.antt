use Rattle.std.proofs.Common.{[], ◌∷◌, map}
use Rattle.std.proofs.lemmas.Result.{err_from_is_err_and}
use Rattle.answer_records.specs.Records.{changed_of_changes, changes_record, seen_of_files, seen_record, words_record}
use Rattle.repo_store.specs.Lists.{file_of, fix_of}
use Rattle.repo_store.proofs.ManyLemmas.{kept_one, kept_then, stopped_front, stopped_one, stopped_then}
use Rattle.repo_store.proofs.FixLemmas.{refusal_weaker}
use Rattle.repo_store.proofs.answer_contents.keep_written.Goals as goal

pub returns-in_err-seen-clause-stopped : goal.returns-in_err-seen-clause-stopped
returns-in_err-seen-clause-stopped c =
    let words = words_record c.args.words.now in
    let seen = seen_record (seen_of_files (map file_of c.args.files.now)) in
    let changes = changes_record (changed_of_changes (map fix_of c.args.changes.now)) in
    let old = c.args.contents.now in
    let fault = c.in_err-seen.field-0.0 in
    let p = err_from_is_err_and c.from_residual-in_err-seen.result c.from_residual-in_err-seen.ensures.1 in
    rw (p.1, p.2) (stopped_then (words ∷ []) (seen ∷ c.args.output.now ∷ changes ∷ []) old c.keep_words.new.contents (c.in_ok-words.ensures).kept c.keep_seen.new.contents fault
    (stopped_front (seen ∷ []) (c.args.output.now ∷ changes ∷ []) c.keep_words.new.contents c.keep_seen.new.contents fault (c.in_err-seen.ensures).stopped))

pub returns-in_err-output-clause-stopped : goal.returns-in_err-output-clause-stopped
returns-in_err-output-clause-stopped c =
    let words = words_record c.args.words.now in
    let seen = seen_record (seen_of_files (map file_of c.args.files.now)) in
    let changes = changes_record (changed_of_changes (map fix_of c.args.changes.now)) in
    let old = c.args.contents.now in
    let mid = c.keep_seen.new.contents in
    let fault = c.in_err-output.field-0.0 in
    let both = kept_then (words ∷ []) (seen ∷ []) old c.keep_words.new.contents (c.in_ok-words.ensures).kept mid (c.in_ok-seen.ensures).kept in
    let why = refusal_weaker (λ h. h) (λ h. h) (λ h. h.1) fault (c.in_err-output.ensures).why in
    let p = err_from_is_err_and c.from_residual-in_err-output.result c.from_residual-in_err-output.ensures.1 in
    rw (p.1, p.2) (stopped_then (words ∷ seen ∷ []) (c.args.output.now ∷ changes ∷ []) old mid both c.keep.new.self fault
    (stopped_front (c.args.output.now ∷ []) (changes ∷ []) mid c.keep.new.self fault (stopped_one c.args.output.now mid c.keep.new.self fault (c.in_err-output.ensures).same why)))

pub returns-in_err-changes-clause-stopped : goal.returns-in_err-changes-clause-stopped
returns-in_err-changes-clause-stopped c =
    let words = words_record c.args.words.now in
    let seen = seen_record (seen_of_files (map file_of c.args.files.now)) in
    let changes = changes_record (changed_of_changes (map fix_of c.args.changes.now)) in
    let old = c.args.contents.now in
    let mid = c.keep_seen.new.contents in
    let after = c.keep.new.self in
    let output = c.in_ok-output.ensures in
    let both = kept_then (words ∷ []) (seen ∷ []) old c.keep_words.new.contents (c.in_ok-words.ensures).kept mid (c.in_ok-seen.ensures).kept in
    let three = kept_then (words ∷ seen ∷ []) (c.args.output.now ∷ []) old mid both after (kept_one c.args.output.now mid after output.kept output.small output.apart) in
    let p = err_from_is_err_and c.from_residual-in_err-changes.result c.from_residual-in_err-changes.ensures.1 in
    rw (p.1, p.2) (stopped_then (words ∷ seen ∷ c.args.output.now ∷ []) (changes ∷ []) old after three c.keep_changed.new.contents c.in_err-changes.field-0.0 (c.in_err-changes.ensures).stopped)

pub returns-clause-kept : goal.returns-clause-kept
returns-clause-kept c =
    let words = words_record c.args.words.now in
    let seen = seen_record (seen_of_files (map file_of c.args.files.now)) in
    let changes = changes_record (changed_of_changes (map fix_of c.args.changes.now)) in
    let old = c.args.contents.now in
    let mid = c.keep_seen.new.contents in
    let after = c.keep.new.self in
    let output = c.in_ok-output.ensures in
    let both = kept_then (words ∷ []) (seen ∷ []) old c.keep_words.new.contents (c.in_ok-words.ensures).kept mid (c.in_ok-seen.ensures).kept in
    let three = kept_then (words ∷ seen ∷ []) (c.args.output.now ∷ []) old mid both after (kept_one c.args.output.now mid after output.kept output.small output.apart) in
    kept_then (words ∷ seen ∷ c.args.output.now ∷ []) (changes ∷ []) old after three c.keep_changed.new.contents (c.in_ok-changes.ensures).kept

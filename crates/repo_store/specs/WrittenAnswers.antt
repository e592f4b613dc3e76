-- The records of an answer: of its words, of the files that its child saw and of the child's changes
-- (docs/REFERENCE.md, "The store"). The output needs no record.
use Rattle.std.specs.Prelude.{ℕ, List, [], ◌∷◌, ◌++◌, map, option_to_list}
use Rattle.std.specs.List.{flat_map}
use Rattle.hook_base.specs.declared.file.File.{File}
use Rattle.hook_base.specs.declared.change.Change.{Change}
use Rattle.answer_records.specs.Records.{changed_of_changes, changes_record, seen_of_files, seen_record, words_record}
use Rattle.repo_store.specs.Answers.{KeptAnswer}

abbrev pub written_words : KeptAnswer → List ℕ
written_words answer = words_record answer.words

abbrev pub written_seen : KeptAnswer → List ℕ
written_seen answer = seen_record (seen_of_files answer.seen)

abbrev pub written_changes : KeptAnswer → List ℕ
written_changes answer = changes_record (changed_of_changes answer.changes)

-- ---- the contents of an answer

abbrev pub contents_in_files : List File → List (List ℕ)
contents_in_files files = map (λ (file : File). file.entry.bytes) files

-- the new contents of the changed files that aren't gone
abbrev pub contents_in_changes : List Change → List (List ℕ)
contents_in_changes changes = flat_map (λ (change : Change). option_to_list change.now) changes

-- an answer's records and its output, in the order in which they are kept
abbrev pub records_of : KeptAnswer → List (List ℕ)
records_of answer = written_words answer ∷ written_seen answer ∷ answer.output ∷ written_changes answer ∷ []

-- the contents that are kept for an answer, in their order: those of the files that its child saw, those of
-- the files that it changed, and then the records and the output
abbrev pub contents_for : KeptAnswer → List (List ℕ)
contents_for answer = contents_in_files answer.seen ++ (contents_in_changes answer.changes ++ records_of answer)

-- the contents of an answer's key: those of the files that its child saw, and then the records of its words
-- and of its seen files
abbrev pub contents_of_key : List (List ℕ) → List File → List (List ℕ)
contents_of_key words seen = contents_in_files seen ++ (words_record words ∷ seen_record (seen_of_files seen) ∷ [])

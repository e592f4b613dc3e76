-- For private functions of the modules `shared_answer`, `answer_list`, `answer_contents` and `from_rows`: an
-- answer in memory.
use Rattle.std.specs.Prelude.{◌≡◌, ℕ, List, [], ◌∷◌, map}
use Rattle.answer_records.specs.Records.{changed_of_changes, changes_record, seen_of_files, seen_record, words_record}
use Rattle.repo_store.specs.Shared.{FileParts}
use Rattle.repo_store.specs.declared.shared.SharedFix.{SharedFix}
use Rattle.repo_store.specs.Answers.{KeptAnswer}
use Rattle.repo_store.specs.Lists.{file_of, fix_of}
use Rattle.repo_store.specs.WrittenAnswers.{written_changes, written_seen, written_words}

-- the answer of these parts
abbrev pub answer_of : List (List ℕ) → List FileParts → List ℕ → List SharedFix → ℕ → KeptAnswer
answer_of words seen output changes status =
    record { words = words; seen = map file_of seen; output = output; changes = map fix_of changes; status = status }

-- the records and the output of an answer of these parts, in the order in which they are kept
abbrev pub records_of_parts : List (List ℕ) → List FileParts → List ℕ → List SharedFix → List (List ℕ)
records_of_parts words seen output changes =
    words_record words ∷ seen_record (seen_of_files (map file_of seen)) ∷ output ∷ changes_record
    (changed_of_changes (map fix_of changes)) ∷ []

-- these are the answer's records
pub record IsWritten (answer : KeptAnswer) (words seen changes : List ℕ) : Type 0 where
  pub words_written : words ≡ written_words answer
  pub seen_written : seen ≡ written_seen answer
  pub changes_written : changes ≡ written_changes answer

-- What holds of each answer in a store, whatever contents are kept.
use Rattle.std.specs.Prelude.{◌≡◌, ◌≤◌, true, List, is_some}
use Rattle.std.specs.List.{AllByRecursion}
use Rattle.std.specs.Str.{IsUtf8}
use Rattle.hook_base.specs.declared.file.File.{File}
use Rattle.hook_base.specs.declared.change.Change.{Change}
use Rattle.hook_base.specs.Trees.{IsRising, IsRisingChanges, entry_of}
use Rattle.answer_records.specs.Limits.{IsStorable}
use Rattle.answer_records.specs.Reading.{IsTreePath}
use Rattle.repo_store.specs.Answers.{KeptAnswer}
use Rattle.store_faults.specs.Limits.{most_status}
use Rattle.repo_store.specs.WrittenAnswers.{written_changes, written_seen, written_words}

-- each of the changes is of one of the files
abbrev pub KeepToSeen : List Change → List File → Type 0
KeepToSeen changes seen = AllByRecursion (λ (change : Change). is_some (entry_of change.path seen) ≡ true) changes

pub record IsSoundAnswer (answer : KeptAnswer) : Type 0 where
  -- its words are texts
  pub words_utf8 : AllByRecursion IsUtf8 answer.words
  -- the files that it saw have paths of files in trees, or the path of the message, and are in the order of
  -- their paths
  pub seen_legal : AllByRecursion (λ (file : File). IsTreePath file.path) answer.seen
  pub seen_rise : IsRising answer.seen
  -- so have and are the files that it changed, each of which it saw
  pub changes_legal : AllByRecursion (λ (change : Change). IsTreePath change.path) answer.changes
  pub changes_rise : IsRisingChanges answer.changes
  pub keeps_to_seen : KeepToSeen answer.changes answer.seen
  -- its exit code is one of a child that exited by itself
  pub status_known : answer.status ≤ most_status
  -- its records are within the limit of records
  pub words_fit : IsStorable (written_words answer)
  pub seen_fits : IsStorable (written_seen answer)
  pub changes_fit : IsStorable (written_changes answer)

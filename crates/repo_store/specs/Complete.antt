-- What is kept is one complete repository.
use Rattle.std.specs.Prelude.{◌≡◌, ℕ, ◌<◌, ◌≤◌, true, List, [], length, slice_index_or, MatchOption, IsPermutation}
use Rattle.std.specs.List.{AllByRecursion}
use Rattle.sha2.specs.Sha256.{sha256}
use Rattle.hook_base.specs.declared.file.File.{File}
use Rattle.hook_base.specs.declared.change.Change.{Change}
use Rattle.repo_store.specs.Answers.{KeptAnswer, HaveOwnKeys}
use Rattle.repo_store.specs.Contents.{has_content}
use Rattle.repo_store.specs.Kept.{Kept}
use Rattle.store_faults.specs.Limits.{IsLimit}
use Rattle.repo_store.specs.Repository.{Commit}
use Rattle.repo_store.specs.Sound.{IsSound}
use Rattle.repo_store.specs.SoundAnswers.{IsSoundAnswer}
use Rattle.repo_store.specs.WrittenAnswers.{written_changes, written_seen, written_words}

abbrev pub IsAmong : List (List ℕ) → List ℕ → Type 0
IsAmong contents bytes = has_content bytes contents ≡ true

-- the bytes of each file are among the contents
abbrev pub HaveContents : List (List ℕ) → List File → Type 0
HaveContents contents files = AllByRecursion (λ (file : File). IsAmong contents file.entry.bytes) files

-- the new bytes of each change are among the contents
abbrev pub HaveNewContents : List (List ℕ) → List Change → Type 0
HaveNewContents contents changes =
    AllByRecursion (λ (change : Change). MatchOption change.now (Unit {0}) (IsAmong contents)) changes

-- the records of an answer, its output, and the bytes of each file that its child saw or changed are among
-- the contents
pub record HasRecords (contents : List (List ℕ)) (answer : KeptAnswer) : Type 0 where
  pub words : IsAmong contents (written_words answer)
  pub seen : IsAmong contents (written_seen answer)
  pub output : IsAmong contents answer.output
  pub changes : IsAmong contents (written_changes answer)
  pub seen_contents : HaveContents contents answer.seen
  pub new_contents : HaveNewContents contents answer.changes

abbrev pub HaveRecords : List (List ℕ) → List KeptAnswer → Type 0
HaveRecords contents answers = AllByRecursion (HasRecords contents) answers

-- no two of the contents have the same digest
abbrev pub HaveDistinctDigests : List (List ℕ) → Type 0
HaveDistinctDigests contents =
    (i j : ℕ) → i < length contents → j < length contents
    → sha256 (slice_index_or contents i []) ≡ sha256 (slice_index_or contents j []) → i ≡ j

-- The repository and each answer are sound. The contents of each file, of each fix and of each answer are
-- kept, under digests of which no two are equal. No two answers have the same key, and there are no more of
-- them than the limit.
pub record IsComplete (kept : Kept) : Type 0 where
  pub sound : IsSound kept.repo
  pub staged : HaveContents kept.contents kept.repo.staged
  pub fixes : HaveNewContents kept.contents kept.repo.fixes
  pub trees : AllByRecursion (λ (commit : Commit). HaveContents kept.contents commit.tree) kept.repo.history
  pub sound_answers : AllByRecursion IsSoundAnswer kept.answers
  pub answers : HaveRecords kept.contents kept.answers
  pub keys : HaveOwnKeys kept.answers
  pub apart : HaveDistinctDigests kept.contents
  pub limited : IsLimit kept.limit
  pub few : length kept.answers ≤ kept.limit

-- the same repository, the same answers and limit, and the same contents in some order
pub record AreAlike (a b : Kept) : Type 0 where
  pub repo : a.repo ≡ b.repo
  pub contents : IsPermutation a.contents b.contents
  pub answers : a.answers ≡ b.answers
  pub limit : a.limit ≡ b.limit

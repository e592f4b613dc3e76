-- For private functions of the modules `lists`, `files`, `look_ups`, `clashes`, `differences`, `fixed_files`
-- and `trees`, and of the transactions: what the lists in memory mean.
use Rattle.std.specs.Prelude.{◌≡◌, ℕ, List, map}
use Rattle.hook_base.specs.declared.file.File.{File}
use Rattle.hook_base.specs.declared.file.FileEntry.{FileEntry}
use Rattle.hook_base.specs.declared.change.Change.{Change}
use Rattle.repo_store.specs.Shared.{FileParts}
use Rattle.repo_store.specs.declared.shared.SharedFix.{SharedFix}
use Rattle.repo_store.specs.declared.shared.SharedCommit.{SharedCommit}
use Rattle.store_faults.specs.Limits.{path_bytes}
use Rattle.repo_store.specs.Repository.{Commit, Repository}
use Rattle.repo_store.specs.Sound.{IsSound}

abbrev pub entry_in : FileParts → FileEntry
entry_in shared = record { mode = shared.mode; bytes = shared.content }

abbrev pub file_of : FileParts → File
file_of shared = record { path = shared.path; entry = entry_in shared }

abbrev pub fix_of : SharedFix → Change
fix_of shared = record { path = shared.path; now = shared.now }

abbrev pub commit_of : SharedCommit → Commit
commit_of shared = record { message = shared.message; tree = map file_of shared.files.items }

abbrev pub repository_of : List SharedCommit → List FileParts → List SharedFix → Repository
repository_of history staged fixes =
    record { history = map commit_of history; staged = map file_of staged; fixes = map fix_of fixes }

-- the lists are those of a sound repository, and the paths of the staged files have this many bytes together
pub record AreKept (history : List SharedCommit) (staged : List FileParts) (fixes : List SharedFix)
    (staged_bytes : ℕ) : Type 0 where
  pub sound : IsSound (repository_of history staged fixes)
  pub counted : staged_bytes ≡ path_bytes (map file_of staged)

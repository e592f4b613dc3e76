-- A repository as plain lists: its commits, the staged files and the fixes, with whole contents.
use Rattle.std.specs.Prelude.{ℕ, zero, suc, List, [], ◌∷◌, ◌++◌, filter, slice_get, Option, None, is_some, option_map, unwrap_or, if◌then◌else◌}
use Rattle.std.specs.Str.{bytes_eq}
use Rattle.hook_base.specs.declared.file.File.{File}
use Rattle.hook_base.specs.declared.file.FileEntry.{FileEntry}
use Rattle.hook_base.specs.declared.change.Change.{Change}
use Rattle.hook_base.specs.Trees.{entry_of, put_file, remove_file, apply_changes}

-- a commit: its message and its files
pub record Commit : Type 0 where
  pub message : List ℕ
  pub tree : List File

-- The commits, the oldest first, are numbered from 1.
pub record Repository : Type 0 where
  pub history : List Commit
  pub staged : List File
  pub fixes : List Change

abbrev pub empty : Repository
empty = record { history = []; staged = []; fixes = [] }

-- a file is staged, and the fixes are forgotten
abbrev pub with_staged_file : List ℕ → FileEntry → Repository → Repository
with_staged_file path entry repo = record repo { staged = put_file path entry repo.staged; fixes = [] }

-- a path is removed from the staged files, and the fixes are forgotten
abbrev pub without_staged_file : List ℕ → Repository → Repository
without_staged_file path repo = record repo { staged = remove_file path repo.staged; fixes = [] }

-- those of the changes that are of staged files
abbrev pub staged_changes : List Change → List File → List Change
staged_changes changes staged = filter (λ (change : Change). is_some (entry_of change.path staged)) changes

-- the fixes are those changes that are of staged files
abbrev pub with_fixes : List Change → Repository → Repository
with_fixes changes repo = record repo { fixes = staged_changes changes repo.staged }

-- the fixes are applied to the staged files, and forgotten
abbrev pub accepted : Repository → Repository
accepted repo = record repo { staged = apply_changes repo.fixes repo.staged; fixes = [] }

-- one more commit, of the staged files, and the fixes are forgotten
abbrev pub with_new_commit : List ℕ → Repository → Repository
with_new_commit message repo =
    record repo { history = repo.history ++ record { message = message; tree = repo.staged } ∷ []; fixes = [] }

-- the files of the last commit, or no files if there is no commit
abbrev pub last_tree : List Commit → List File
last_tree [] = []
last_tree (commit ∷ []) = commit.tree
last_tree (commit ∷ more) = last_tree more

abbrev pub commit_at : ℕ → List Commit → Option Commit
commit_at zero history = None
commit_at (suc n) history = slice_get history n

-- the files of a commit, or no files if no commit has the number
abbrev pub tree_at : ℕ → List Commit → List File
tree_at number history = unwrap_or (option_map (λ (commit : Commit). commit.tree) (commit_at number history)) []

-- the new contents that the fixes give to a path, or none if no fix is of the path or its fix removes the
-- file
abbrev pub fixed_bytes : List ℕ → List Change → Option (List ℕ)
fixed_bytes path [] = None
fixed_bytes path (fix ∷ fixes) = if bytes_eq path fix.path then fix.now else fixed_bytes path fixes

-- The files that the words of `add` name. Which of them are there only the system knows.
use Rattle.std.specs.Prelude.{◌≡◌, ℕ, ◌||◌, Bool, true, false, if◌then◌else◌, nat_lt, List, [], ◌∷◌, ◌++◌, Option, is_some, length}
use Rattle.hook_base.specs.declared.file.Mode.{Mode}
use Rattle.named_files.specs.Words.{is_working_folder, without_slashes}
use Rattle.repo_store.specs.declared.staging_edit.StagingEdit.{StagingEdit}
use Rattle.repo_store.specs.declared.staging_edit.StagingEdit.TheVariants as edit
use Rattle.store_faults.specs.Limits.{most_files}
use Rattle.hookhost.specs.Names.{path_named}

-- the path of a folder that a word names, empty for the working folder
abbrev pub folder_path : List ℕ → List ℕ
folder_path word = if is_working_folder word then [] else without_slashes word

-- a folder may be there: the working folder is, and others have paths of a tree
abbrev pub is_folder_path : List ℕ → Bool
is_folder_path word = is_working_folder word || is_some (path_named (without_slashes word))

-- more files are staged than a store may have, so that it refuses them
abbrev pub are_too_many : List StagingEdit → Bool
are_too_many edits = nat_lt most_files (length edits)

-- the edits, and then one that stages the file at a path with this mode; which bytes it has is left open
pub record IsStagedNext (mode : Option Mode) (path : List ℕ) (edits staged : List StagingEdit) : Type 0 where
  pub bytes : List ℕ
  pub is : staged ≡ edits ++ edit.Add path bytes mode ∷ []

-- a file that is left out isn't staged, and any other one is
abbrev pub IsStagedOnce : Bool → Option Mode → List ℕ → List StagingEdit → List StagingEdit → Type 0
IsStagedOnce true mode path edits staged = staged ≡ edits
IsStagedOnce false mode path edits staged = IsStagedNext mode path edits staged

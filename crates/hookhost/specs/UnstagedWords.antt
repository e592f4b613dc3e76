-- What the words of `rm` unstage.
use Rattle.std.specs.Prelude.{ℕ, ◌&&◌, Bool, true, false, not, if◌then◌else◌, List, [], ◌∷◌, Option, None, Some, filter, is_some, map, slice_get}
use Rattle.std.specs.List.{flat_map}
use Rattle.std.specs.Ordering.{is_lt}
use Rattle.std.specs.Str.{bytes_eq}
use Rattle.hook_base.specs.Paths.{path_fault}
use Rattle.hook_base.specs.Rising.{IsBelow, path_cmp}
use Rattle.hook_base.specs.Trees.{entry_of, path_of}
use Rattle.hook_base.specs.declared.file.File.{File}
use Rattle.hook_base.specs.declared.path_fault.PathFault.{PathFault}
use Rattle.named_files.specs.NamedPaths.{with_paths}
use Rattle.named_files.specs.Words.{beginning_below, path_begins_with}
use Rattle.repo_store.specs.declared.staging_edit.StagingEdit.{StagingEdit}
use Rattle.repo_store.specs.declared.staging_edit.StagingEdit.TheVariants as edit
use Rattle.commit_flow.specs.declared.command.Command.{Command}
use Rattle.commit_flow.specs.declared.command.Command.TheVariants as command

-- a word that is no path isn't staged
abbrev pub is_staged_by : Option PathFault → List File → List ℕ → Bool
is_staged_by None staged word = is_some (entry_of word staged)
is_staged_by (Some fault) staged word = false

-- a file is staged under the word
abbrev pub is_staged_word : List File → List ℕ → Bool
is_staged_word staged word = is_staged_by (path_fault word) staged word

-- the paths of the staged files that begin so
abbrev pub staged_beginning : List File → List ℕ → List (List ℕ)
staged_beginning staged beginning = filter (path_begins_with beginning) (map path_of staged)

abbrev pub paths_or_word : List (List ℕ) → List ℕ → List (List ℕ)
paths_or_word [] word = word ∷ []
paths_or_word (path ∷ paths) word = path ∷ paths

-- What a word unstages: the file under it, otherwise the files below the folder that it names. A word that is
-- neither stays, and the store refuses it.
abbrev pub unstaged_by_word : List File → List ℕ → List (List ℕ)
unstaged_by_word staged word =
    if is_staged_word staged word then word ∷ [] else
    paths_or_word (staged_beginning staged (beginning_below word)) word

-- what words unstage, in their order and each path once
abbrev pub unstaged_paths : List File → List (List ℕ) → List (List ℕ)
unstaged_paths staged words = with_paths [] (flat_map (unstaged_by_word staged) words)

abbrev pub removed_path : List ℕ → StagingEdit
removed_path path = edit.Remove path

-- the paths are removed together; for none there is no command
abbrev pub removal_together : List (List ℕ) → Option Command
removal_together [] = None
removal_together (path ∷ paths) = Some (command.Stage (map removed_path (path ∷ paths)))

-- there is one path, and it is the word
abbrev pub is_word_alone : List ℕ → List (List ℕ) → Bool
is_word_alone word (path ∷ []) = bytes_eq path word
is_word_alone word paths = false

-- a single word of a line that unstages the file under it, or is refused, has a command of its own
abbrev pub has_own_command : List (List ℕ) → Bool → List (List ℕ) → Bool
has_own_command (word ∷ []) listed paths = not listed && is_word_alone word paths
has_own_command words listed paths = false

abbrev pub removal_of_first : List (List ℕ) → Option Command
removal_of_first [] = None
removal_of_first (word ∷ words) = Some (command.Remove word)

-- the command that does so, for words of a line or of a file that lists them
abbrev pub removal_by : List File → List (List ℕ) → Bool → Option Command
removal_by staged words listed =
    if has_own_command words listed (unstaged_paths staged words) then removal_of_first words
    else removal_together (unstaged_paths staged words)

abbrev pub has_none : List File → Bool
has_none [] = true
has_none (file ∷ files) = false

-- ---- the search for a folder's first file among all, in the order of their paths

abbrev pub is_file_before : Option File → List ℕ → Bool
is_file_before None text = false
is_file_before (Some file) text = is_lt (path_cmp file.path text)

-- there is a file at an index, and its path is less than the text
abbrev pub is_before_at : List File → ℕ → List ℕ → Bool
is_before_at staged index text = is_file_before (slice_get staged index) text

abbrev pub path_if_below : Option File → List ℕ → Option (List ℕ)
path_if_below None beginning = None
path_if_below (Some file) beginning = if path_begins_with beginning file.path then Some file.path else None

-- the path of the file at an index, if it begins so
abbrev pub path_below_at : List File → ℕ → List ℕ → Option (List ℕ)
path_below_at staged index beginning = path_if_below (slice_get staged index) beginning

-- the paths of the files are less than the text
abbrev pub AreBefore : List ℕ → List File → Type 0
AreBefore text [] = Unit {0}
AreBefore text (file ∷ files) = IsBelow file.path text × AreBefore text files

-- the paths of the files aren't less than the text
abbrev pub AreFrom : List ℕ → List File → Type 0
AreFrom text [] = Unit {0}
AreFrom text (file ∷ files) = (¬ IsBelow file.path text) × AreFrom text files

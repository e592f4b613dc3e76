-- For private functions of the modules `accept`, `accepted`, `few_fixes`, `fixed_files` and `lists`. They say
-- what the rows of the staged files are after those of some paths are written again, and how far a walk over
-- the fixes has come. They also say what is made before the tables change.
use Rattle.std.specs.Prelude.{◌≡◌, ℕ, not, List, [], ◌∷◌, ◌++◌, map, filter, Option, None, Some}
use Rattle.std.specs.Str.{bytes_eq}
use Rattle.hook_base.specs.declared.file.File.{File}
use Rattle.hook_base.specs.declared.file.FileEntry.{FileEntry}
use Rattle.hook_base.specs.declared.change.Change.{Change}
use Rattle.hook_base.specs.Rising.{IsBelow}
use Rattle.hook_base.specs.Trees.{entry_of, apply_changes}
use Rattle.store_tables.specs.declared.rows.StagedRow.{StagedRow}
use Rattle.repo_store.specs.Shared.{FileParts}
use Rattle.repo_store.specs.declared.accepted.Accepted.{Accepted}
use Rattle.repo_store.specs.declared.accepted.Accepted.TheVariants.{Few, All}
use Rattle.repo_store.specs.Lists.{file_of}
use Rattle.repo_store.specs.Rows.{staged_row}

abbrev pub with_entry_at : List ℕ → Option FileEntry → List StagedRow → List StagedRow
with_entry_at path None rows = rows
with_entry_at path (Some entry) rows = staged_row (record { path = path; entry = entry }) ∷ rows

-- the row of a path is the one that the files have there, or there is none
abbrev pub rewritten : List File → List ℕ → List StagedRow → List StagedRow
rewritten files path rows = with_entry_at path (entry_of path files) (filter (λ row. not (bytes_eq row.path path)) rows)

-- the same for the path of each fix
abbrev pub all_rewritten : List File → List Change → List StagedRow → List StagedRow
all_rewritten files [] rows = rows
all_rewritten files (fix ∷ fixes) rows = all_rewritten files fixes (rewritten files fix.path rows)

-- the first of the remaining fixes isn't of an earlier path
abbrev pub HasReached : List ℕ → List Change → Type 0
HasReached path [] = Unit {0}
HasReached path (fix ∷ fixes) = ¬ IsBelow fix.path path

abbrev pub file_at : List ℕ → Option FileEntry → List File
file_at path None = []
file_at path (Some entry) = record { path = path; entry = entry } ∷ []

-- the files at the paths of the fixes
abbrev pub files_with_fix : List Change → List File → List File
files_with_fix [] files = []
files_with_fix (fix ∷ fixes) files = file_at fix.path (entry_of fix.path files) ++ files_with_fix fixes files

-- both have the same entry at the path of each fix
abbrev pub HaveSameFixed : List Change → List File → List File → Type 0
HaveSameFixed [] files others = Unit {0}
HaveSameFixed (fix ∷ fixes) files others =
    (entry_of fix.path files ≡ entry_of fix.path others) × HaveSameFixed fixes files others

-- ---- what is made before the tables change

abbrev pub accepted_files : Accepted → List FileParts
accepted_files (Few files) = files.items
accepted_files (All files) = files.items

-- at the paths of the fixes these are the staged files with the fixes applied; for `All` they are so
-- everywhere
abbrev pub HasAcceptedFiles : List Change → List File → Accepted → Type 0
HasAcceptedFiles fixes staged (Few files) = HaveSameFixed fixes (map file_of files.items) (apply_changes fixes staged)
HasAcceptedFiles fixes staged (All files) = map file_of files.items ≡ apply_changes fixes staged

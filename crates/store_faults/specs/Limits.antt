-- How much a store takes (docs/REFERENCE.md, "Limits").
use Rattle.std.specs.Prelude.{ℕ, ◌≤◌, List, length, sum_by}
use Rattle.hook_base.specs.Limits.{most_file_bytes}
use Rattle.hook_base.specs.declared.file.File.{File}

-- the most files in a staged tree, and so the most fixes
abbrev pub most_files : ℕ
most_files = 100000

abbrev pub most_commits : ℕ
most_commits = 100000

-- the most bytes of the paths in a staged tree
abbrev pub most_tree_path_bytes : ℕ
most_tree_path_bytes = 8388608

-- the most bytes of a file's contents, and of a commit's message
abbrev pub most_content_bytes : ℕ
most_content_bytes = most_file_bytes

-- the greatest exit code of a child
abbrev pub most_status : ℕ
most_status = 255

-- the highest limit on cached answers
abbrev pub most_answers : ℕ
most_answers = 100000

-- the limit on cached answers is one that a store accepts
pub record IsLimit (limit : ℕ) : Type 0 where
  pub at_least : 1 ≤ limit
  pub at_most : limit ≤ most_answers

-- the limit on cached answers of a new store
abbrev pub first_limit : ℕ
first_limit = 10000

-- the bytes of all paths together
abbrev pub path_bytes : List File → ℕ
path_bytes files = sum_by (λ (file : File). length file.path) files

-- the files can be a staged tree
pub record Fits (files : List File) : Type 0 where
  pub files_fit : length files ≤ most_files
  pub paths_fit : path_bytes files ≤ most_tree_path_bytes

-- the bytes can be a file's contents, and the message of a commit
abbrev pub IsSmall : List ℕ → Type 0
IsSmall bytes = length bytes ≤ most_content_bytes

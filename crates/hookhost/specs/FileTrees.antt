-- The tree that is made of the files that words name.
use Rattle.std.specs.Prelude.{◌≡◌, ◌≤◌, ◌⊎◌, ℕ, All, Contains, List, [], ◌∷◌, length}
use Rattle.hook_base.specs.Limits.{most_file_bytes}
use Rattle.hook_base.specs.declared.file.File.{File}
use Rattle.hook_base.specs.declared.file.Mode.TheVariants.{Plain}

-- the row of a file: under its path, plain, with its bytes
abbrev pub plain_file : List ℕ → List ℕ → File
plain_file path bytes = record { path = path; entry = record { mode = Plain; bytes = bytes } }

-- the file of a word: plain, under the word as its path, with at most `most_file_bytes` bytes
pub record IsFileOf (word : List ℕ) (file : File) : Type 0 where
  pub bytes : List ℕ
  pub is : file ≡ plain_file word bytes
  pub within : length bytes ≤ most_file_bytes

-- the files are those of the words, one by one
abbrev pub AreFilesOf : List (List ℕ) → List File → Type 0
AreFilesOf [] [] = Unit {0}
AreFilesOf (word ∷ words) (file ∷ files) = IsFileOf word file × AreFilesOf words files
AreFilesOf _ _ = ⊥

-- a row has the path
abbrev pub HasRowAt : List File → List ℕ → Type 0
HasRowAt [] path = ⊥
HasRowAt (row ∷ rows) path = (row.path ≡ path) ⊎ HasRowAt rows path

-- each file's path has its row in the tree, and each row of the tree is one of the files
pub record HoldsFiles (files tree : List File) : Type 0 where
  pub paths : All (λ file. HasRowAt tree file.path) files
  pub rows : All (Contains files) tree

-- the tree of the files of the words
pub record IsTreeOf (words : List (List ℕ)) (tree : List File) : Type 0 where
  pub files : List File
  pub named : AreFilesOf words files
  pub held : HoldsFiles files tree

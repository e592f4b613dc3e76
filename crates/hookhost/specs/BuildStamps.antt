-- How a program was built, by the stamp at the end of its file. A stamp is line feeds, and then a line.
use Rattle.std.specs.Prelude.{◌≡◌, ◌≤◌, ◌==◌, ◌⊎◌, ◌++◌, ◌∷◌, ℕ, All, Bool, if◌then◌else◌, List, [], codes, length}

abbrev pub is_path_line_feed : ℕ → Bool
is_path_line_feed byte = byte == 10

-- what follows the line feeds at the front
abbrev pub without_line_feeds : List ℕ → List ℕ
without_line_feeds [] = []
without_line_feeds (byte ∷ bytes) = if is_path_line_feed byte then without_line_feeds bytes else byte ∷ bytes

-- a hexadecimal digit, from 0 to 9 or from a to f
abbrev pub IsHexDigit : ℕ → Type 0
IsHexDigit byte = ((48 ≤ byte) × (byte ≤ 57)) ⊎ ((97 ≤ byte) × (byte ≤ 102))

-- the first twelve hexadecimal digits of a commit's id in Git
pub record IsGitId (id : List ℕ) : Type 0 where
  pub long : length id ≡ 12
  pub digits : All IsHexDigit id

-- such digits, and then these words
pub record IsGitIdBefore (words text : List ℕ) : Type 0 where
  pub id : List ℕ
  pub is : text ≡ id ++ words
  pub named : IsGitId id

-- the end of a line, which says from which commit a program was built, and whether files differed from it
abbrev pub IsGitCommit : List ℕ → Type 0
IsGitCommit text =
    (text ≡ codes "unknown\n") ⊎ IsGitIdBefore (codes "\n") text ⊎ IsGitIdBefore (codes " with changes\n") text

-- these words, and then a commit
pub record IsBuiltAs (words line : List ℕ) : Type 0 where
  pub commit : List ℕ
  pub is : line ≡ words ++ commit
  pub named : IsGitCommit commit

-- the line says whether the program was proved, and from which commit it was built
abbrev pub IsBuildLine : List ℕ → Type 0
IsBuildLine line =
    IsBuiltAs (codes "build: proved, of commit ") line
    ⊎ IsBuiltAs (codes "build: trial, nothing was proved, of commit ") line

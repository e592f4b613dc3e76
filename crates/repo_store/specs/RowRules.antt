-- The rules that the rows of a store obey, in any order (docs/REFERENCE.md, "The store"). A store that breaks
-- one of them is damaged.
use Rattle.std.specs.Prelude.{◌≡◌, ◌⊎◌, ℕ, ◌+◌, ◌≤◌, ℤ, pos, Bool, true, List, [], ◌∷◌, length, map, sum_by, Option, None, Some, IfSome, IsPermutation}
use Rattle.std.specs.List.{AllByRecursion, Contains, list_any}
use Rattle.std.specs.Str.{IsUtf8, bytes_eq}
use Rattle.sha2.specs.Sha256.{sha256}
use Rattle.hook_base.specs.Paths.{path_fault}
use Rattle.answer_records.specs.declared.changed_file.ChangedFile.{ChangedFile}
use Rattle.answer_records.specs.declared.seen_file.SeenFile.{SeenFile}
use Rattle.answer_records.specs.Reading.{IsChangesRecord, IsSeenRecord, IsWordsRecord}
use Rattle.store_tables.specs.declared.rows.MetaRow.{MetaRow}
use Rattle.store_tables.specs.declared.rows.BlobRow.{BlobRow}
use Rattle.store_tables.specs.declared.rows.StagedRow.{StagedRow}
use Rattle.store_tables.specs.declared.rows.FixRow.{FixRow}
use Rattle.store_tables.specs.declared.rows.CommitRow.{CommitRow}
use Rattle.store_tables.specs.declared.rows.EntryRow.{EntryRow}
use Rattle.store_tables.specs.declared.rows.AnswerRow.{AnswerRow}
use Rattle.store_tables.specs.Tables.{Tables}
use Rattle.store_faults.specs.Limits.{IsSmall, most_commits, most_files, most_status, most_tree_path_bytes}
use Rattle.repo_store.specs.Rows.{first_version_row}

-- ---- single rows

-- a blob: contents under their digest
pub record IsBlobRow (row : BlobRow) : Type 0 where
  -- the digest is the SHA-256 of the bytes (FIPS 180-4)
  pub named : row.digest ≡ sha256 row.bytes
  -- the bytes are at most 16 MiB
  pub small : IsSmall row.bytes

-- contents are kept under the digest
abbrev pub is_kept : List BlobRow → List ℕ → Bool
is_kept blobs digest = list_any (λ (blob : BlobRow). bytes_eq digest blob.digest) blobs

-- a text that is a path inside a repository (docs/REFERENCE.md, "Paths")
pub record IsPathText (path : List ℕ) : Type 0 where
  pub utf8 : IsUtf8 path
  pub legal : path_fault path ≡ None

-- a file of a tree
pub record IsFileRow (blobs : List BlobRow) (path : List ℕ) (mode : ℤ) (digest : List ℕ) : Type 0 where
  -- its path is one inside a repository
  pub path_legal : IsPathText path
  -- its mode is plain or executable
  pub mode_known : (mode ≡ pos 0) ⊎ (mode ≡ pos 1)
  -- its contents are kept
  pub content_kept : is_kept blobs digest ≡ true

abbrev pub IsStagedRow : List BlobRow → StagedRow → Type 0
IsStagedRow blobs row = IsFileRow blobs row.path row.mode row.digest

-- a file is staged at the path
abbrev pub is_staged : List StagedRow → List ℕ → Bool
is_staged staged path = list_any (λ (row : StagedRow). bytes_eq path row.path) staged

-- a file that is gone has no digest; one that isn't has the digest of kept contents
abbrev pub IsMarked : List BlobRow → ℤ → Option (List ℕ) → Type 0
IsMarked blobs gone None = gone ≡ pos 1
IsMarked blobs gone (Some digest) = (gone ≡ pos 0) × (is_kept blobs digest ≡ true)

-- a fix
pub record IsFixRow (blobs : List BlobRow) (staged : List StagedRow) (row : FixRow) : Type 0 where
  -- its path is one inside a repository
  pub path_legal : IsPathText row.path
  -- it has no digest exactly if it says that the file is gone, and otherwise its contents are kept
  pub marked : IsMarked blobs row.gone row.digest
  -- its file is staged
  pub file_staged : is_staged staged row.path ≡ true

-- the number of one of this many commits
pub record IsNumbered (commits : ℕ) (number : ℤ) : Type 0 where
  pub at : ℕ
  pub is : number ≡ pos (at + 1)
  pub within : at + 1 ≤ commits

-- a file of a commit
pub record IsEntryRow (blobs : List BlobRow) (commits : ℕ) (row : EntryRow) : Type 0 where
  -- its commit exists
  pub owned : IsNumbered commits row.n
  pub file : IsFileRow blobs row.path row.mode row.digest

-- the exit code of a child that ended by itself
pub record IsStatus (number : ℤ) : Type 0 where
  pub code : ℕ
  pub is : number ≡ pos code
  pub within : code ≤ most_status

-- contents with this property are kept under the digest
pub record HasKept (blobs : List BlobRow) (digest : List ℕ) (AreSuch : List ℕ → Type 0) : Type 0 where
  pub blob : BlobRow
  pub kept : Contains blobs blob
  pub named : blob.digest ≡ digest
  pub such : AreSuch blob.bytes

-- the contents of each file that a child saw are kept
abbrev pub HaveKeptContents : List BlobRow → List SeenFile → Type 0
HaveKeptContents blobs seen = AllByRecursion (λ (file : SeenFile). is_kept blobs file.digest ≡ true) seen

-- the new contents of each file that a child changed and didn't delete are kept
abbrev pub HaveKeptNewContents : List BlobRow → List ChangedFile → Type 0
HaveKeptNewContents blobs changed =
    AllByRecursion (λ (file : ChangedFile). IfSome file.digest (λ digest. is_kept blobs digest ≡ true)) changed

-- one of the files has the path
abbrev pub is_of_seen_file : List SeenFile → List ℕ → Bool
is_of_seen_file seen path = list_any (λ (file : SeenFile). bytes_eq path file.path) seen

-- each file that a child changed is one that it saw
abbrev pub AreSeen : List ChangedFile → List SeenFile → Type 0
AreSeen changed seen = AllByRecursion (λ (file : ChangedFile). is_of_seen_file seen file.path ≡ true) changed

-- a cached answer
pub record IsAnswerRow (blobs : List BlobRow) (row : AnswerRow) : Type 0 where
  -- the record of its words is kept
  pub words : List (List ℕ)
  pub words_kept : HasKept blobs row.words (IsWordsRecord words)
  -- the record of the files that its child saw is kept, and so are their contents
  pub seen : List SeenFile
  pub seen_kept : HasKept blobs row.seen (IsSeenRecord seen)
  pub seen_contents : HaveKeptContents blobs seen
  -- its output is kept
  pub output_kept : is_kept blobs row.output ≡ true
  -- the record of the files that its child changed is kept; the child saw each of them, and their new
  -- contents are kept
  pub changed : List ChangedFile
  pub changes_kept : HasKept blobs row.changes (IsChangesRecord changed)
  pub new_contents : HaveKeptNewContents blobs changed
  pub keeps_to_seen : AreSeen changed seen
  pub status_known : IsStatus row.status

-- ---- the tables

-- the numbers from this one on, one for each row
abbrev pub numbers_from : ℕ → List CommitRow → List ℤ
numbers_from n [] = []
numbers_from n (row ∷ rows) = pos n ∷ numbers_from (n + 1) rows

abbrev pub commit_number_in : CommitRow → ℤ
commit_number_in row = row.n

-- the bytes of all paths together
abbrev pub staged_path_bytes : List StagedRow → ℕ
staged_path_bytes rows = sum_by (λ (row : StagedRow). length row.path) rows

pub record AreStagedRows (blobs : List BlobRow) (rows : List StagedRow) : Type 0 where
  -- each is a file
  pub files : AllByRecursion (IsStagedRow blobs) rows
  -- there are no more than a staged tree may have
  pub files_fit : length rows ≤ most_files
  pub paths_fit : staged_path_bytes rows ≤ most_tree_path_bytes

pub record AreCommitRows (rows : List CommitRow) : Type 0 where
  -- they are numbered from 1 on
  pub numbered : IsPermutation (map commit_number_in rows) (numbers_from 1 rows)
  pub few : length rows ≤ most_commits
  -- the message of each is within its limit
  pub messages_small : AllByRecursion (λ (row : CommitRow). IsSmall row.message) rows

-- The rows are those of a store of version 1, except those of `meta`. The rows of version 2 obey the same
-- rules.
pub record AreStoreRows (t : Tables) : Type 0 where
  -- each blob is under its own digest
  pub blobs : AllByRecursion IsBlobRow t.blobs
  -- the staged files are files, and within the limits
  pub staged : AreStagedRows t.blobs t.staged
  -- each fix is one of a staged file
  pub fixes : AllByRecursion (IsFixRow t.blobs t.staged) t.fixes
  -- the commits are numbered from 1 on
  pub commits : AreCommitRows t.commits
  -- each entry is a file of a commit
  pub entries : AllByRecursion (IsEntryRow t.blobs (length t.commits)) t.entries
  -- each answer is one of a child
  pub answers : AllByRecursion (IsAnswerRow t.blobs) t.answers

-- The rows of `meta`, in any order, say that the store is of version 1, and nothing else.
abbrev pub AreFirstVersionRows : List MetaRow → Type 0
AreFirstVersionRows rows = IsPermutation rows (first_version_row ∷ [])

-- Which bytes are the record of a value, what a reader answers, and when a record isn't made.
use Rattle.std.specs.Prelude.{◌≡◌, ℕ, ◌<◌, List, length, Option, None, Some, IfSome}
use Rattle.std.specs.List.{AllByRecursion}
use Rattle.std.specs.Str.{IsUtf8}
use Rattle.hook_base.specs.Paths.{IsRepoPath}
use Rattle.hook_base.specs.Rising.{IsRisingBy}
use Rattle.answer_records.specs.declared.changed_file.ChangedFile.{ChangedFile}
use Rattle.answer_records.specs.declared.record_fault.RecordFault.{RecordFault}
use Rattle.answer_records.specs.declared.record_fault.RecordFault.TheVariants.{TooLarge, OutOfMemory}
use Rattle.answer_records.specs.declared.seen_file.SeenFile.{SeenFile}
use Rattle.answer_records.specs.Limits.{IsStorable, most_record_bytes}
use Rattle.answer_records.specs.Records.{list_bytes, counted_bytes, seen_bytes, changed_bytes}

-- These bytes, all of them, are the record of these items.
pub record IsListOf {X : Type 0} (Is : X → Type 0) (spelling : X → List ℕ) (items : List X)
    (bytes : List ℕ) : Type 0 where
  -- each value is an item
  pub each : AllByRecursion Is items
  pub spelled : bytes ≡ list_bytes spelling items
  pub storable : IsStorable bytes

-- These bytes are the record of these items, whose paths rise.
pub record IsRisingListOf {X : Type 0} (Is : X → Type 0) (spelling : X → List ℕ) (path_of : X → List ℕ) (items : List X)
    (bytes : List ℕ) : Type 0 where
  pub listed : IsListOf Is spelling items bytes
  pub rising : IsRisingBy path_of items

-- the bytes are a text that is the path of a file in a tree
pub record IsTreePath (path : List ℕ) : Type 0 where
  pub utf8 : IsUtf8 path
  pub legal : IsRepoPath path

-- the length is that of a SHA-256
abbrev pub IsDigest : List ℕ → Type 0
IsDigest digest = length digest ≡ 32

-- the digest of the file's contents has this length
pub record NamesItsContents (file : SeenFile) : Type 0 where
  pub digest : IsDigest file.digest

-- the digest of the file's new contents, if there is one, has this length
pub record NamesItsNow (file : ChangedFile) : Type 0 where
  pub digest : IfSome file.digest IsDigest

pub record IsSeenFile (file : SeenFile) : Type 0 where
  pub path : IsTreePath file.path
  pub digest : IsDigest file.digest

pub record IsChangedFile (file : ChangedFile) : Type 0 where
  pub path : IsTreePath file.path
  pub digest : IfSome file.digest IsDigest

-- the bytes are the record of these words, each a text
abbrev pub IsWordsRecord : List (List ℕ) → List ℕ → Type 0
IsWordsRecord = IsListOf IsUtf8 counted_bytes

-- the bytes are the record of these seen files
abbrev pub IsSeenRecord : List SeenFile → List ℕ → Type 0
IsSeenRecord = IsRisingListOf IsSeenFile seen_bytes (λ file. file.path)

-- the bytes are the record of these changed files
abbrev pub IsChangesRecord : List ChangedFile → List ℕ → Type 0
IsChangesRecord = IsRisingListOf IsChangedFile changed_bytes (λ file. file.path)

-- the digests of all contents have the length of a SHA-256
abbrev pub HaveDigests : List SeenFile → Type 0
HaveDigests = AllByRecursion NamesItsContents

-- the digests of all new contents have the length of a SHA-256
abbrev pub HaveNewDigests : List ChangedFile → Type 0
HaveNewDigests = AllByRecursion NamesItsNow

-- two values have the same record
pub record HaveOneRecord {X : Type 0} (record_of : X → List ℕ) (value other : X) : Type 0 where
  pub storable : IsStorable (record_of value)
  pub same : record_of value ≡ record_of other

-- bytes are the record of one value at most
abbrev pub TellsItsValue : {X : Type 0} → (X → List ℕ → Type 0) → Type 0
TellsItsValue {X} IsRecord =
    (value other : X) (bytes : List ℕ) → IsRecord value bytes → IsRecord other bytes → value ≡ other

-- A reader answers the value whose record the bytes are, and none only if they are the record of no value.
abbrev pub Decodes : {X : Type 0} → (X → List ℕ → Type 0) → List ℕ → Option X → Type 0
Decodes {X} IsRecord bytes None = (value : X) → ¬ IsRecord value bytes
Decodes IsRecord bytes (Some value) = IsRecord value bytes

-- A record isn't made only if it is too large, or if memory is refused.
abbrev pub IsRecordRefusal : List ℕ → RecordFault → Type 0
IsRecordRefusal bytes TooLarge = most_record_bytes < length bytes
IsRecordRefusal bytes OutOfMemory = Unit {0}

-- The records of a cached result, byte by byte: of the words of a command, of the files that its child saw,
-- and of what became of files. What the child wrote needs no record.
use Rattle.std.specs.Prelude.{ℕ, List, [], ◌∷◌, ◌++◌, length, map, Option, None, Some}
use Rattle.std.specs.List.{flat_map}
use Rattle.std.specs.Int.{w32, to_be_bytes}
use Rattle.std.specs.Option.{option_map}
use Rattle.sha2.specs.Sha256.{sha256}
use Rattle.hook_base.specs.declared.file.File.{File}
use Rattle.hook_base.specs.declared.file.Mode.{Mode}
use Rattle.hook_base.specs.declared.file.Mode.TheVariants.{Plain, Executable}
use Rattle.hook_base.specs.declared.change.Change.{Change}
use Rattle.answer_records.specs.declared.seen_file.SeenFile.{SeenFile}
use Rattle.answer_records.specs.declared.changed_file.ChangedFile.{ChangedFile}

-- ---- fields

-- a number below 2 ^ 32 in four bytes, the most significant first
unfoldable pub number_bytes : ℕ → List ℕ
number_bytes number = to_be_bytes w32 number

-- the number of bytes, and the bytes
abbrev pub counted_bytes : List ℕ → List ℕ
counted_bytes bytes = number_bytes (length bytes) ++ bytes

-- the number of items, and each in turn
abbrev pub list_bytes : {X : Type 0} → (X → List ℕ) → List X → List ℕ
list_bytes spelling items = number_bytes (length items) ++ flat_map spelling items

abbrev pub mode_byte : Mode → ℕ
mode_byte Plain = 0
mode_byte Executable = 1

-- 0 if the file is gone, otherwise 1 and the digest of its new bytes
abbrev pub now_bytes : Option (List ℕ) → List ℕ
now_bytes None = 0 ∷ []
now_bytes (Some digest) = 1 ∷ digest

-- ---- records

-- the words of a command, each after its length
unfoldable pub words_record : List (List ℕ) → List ℕ
words_record words = list_bytes counted_bytes words

-- a file that a child saw: the length of its path, the path, its mode, and the digest of its bytes
abbrev pub seen_bytes : SeenFile → List ℕ
seen_bytes file = counted_bytes file.path ++ (mode_byte file.mode ∷ file.digest)

unfoldable pub seen_record : List SeenFile → List ℕ
seen_record files = list_bytes seen_bytes files

-- what became of a file: the length of its path, the path, and what it is now
abbrev pub changed_bytes : ChangedFile → List ℕ
changed_bytes file = counted_bytes file.path ++ now_bytes file.digest

unfoldable pub changes_record : List ChangedFile → List ℕ
changes_record files = list_bytes changed_bytes files

-- ---- what they are made of

-- a file as a record describes it
abbrev pub seen_file : File → SeenFile
seen_file file = record { path = file.path; mode = file.entry.mode; digest = sha256 file.entry.bytes }

abbrev pub seen_of_files : List File → List SeenFile
seen_of_files files = map seen_file files

-- a change as a record describes it
abbrev pub changed_file : Change → ChangedFile
changed_file change = record { path = change.path; digest = option_map sha256 change.now }

abbrev pub changed_of_changes : List Change → List ChangedFile
changed_of_changes changes = map changed_file changes

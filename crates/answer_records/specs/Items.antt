-- What is read at the front of the bytes. This serves private functions alone: the readers and writers of the
-- items of a record.
use Rattle.std.specs.Prelude.{◌≡◌, ℕ, ◌<◌, ◌≤◌, List, ◌∷◌, ◌++◌, length, Option, IfSome}
use Rattle.hook_base.specs.declared.file.Mode.{Mode}
use Rattle.answer_records.specs.declared.record_fault.RecordFault.{RecordFault}
use Rattle.answer_records.specs.declared.record_fault.RecordFault.TheVariants.{TooLarge, OutOfMemory}
use Rattle.answer_records.specs.declared.unread.Unread.{Unread}
use Rattle.answer_records.specs.declared.unread.Unread.TheVariants as unread
use Rattle.answer_records.specs.Limits.{IsStorable, most_record_bytes}
use Rattle.answer_records.specs.Reading.{IsDigest}
use Rattle.answer_records.specs.Records.{counted_bytes, mode_byte, now_bytes}

-- the bytes aren't read: only if this holds, or if memory is refused
abbrev pub IsUnread : Type 0 → Unread → Type 0
IsUnread none unread.NoRecord = none
IsUnread none unread.OutOfMemory = Unit {0}

-- there are more items than a record may have
abbrev pub IsCountRefusal : ℕ → RecordFault → Type 0
IsCountRefusal count TooLarge = most_record_bytes < count
IsCountRefusal count OutOfMemory = Unit {0}

-- the bytes don't begin with the spelling of an item
pub record BeginsWithNone {X : Type 0} (Is : X → Type 0) (spelling : X → List ℕ) (bytes : List ℕ) : Type 0 where
  pub none : (item : X) (rest : List ℕ) → Is item → IsStorable (spelling item) → ¬ (bytes ≡ spelling item ++ rest)

-- the bytes don't begin with a number of bytes and then these
pub record BeginsWithNoBytes (bytes : List ℕ) : Type 0 where
  pub none : (text rest : List ℕ) → IsStorable text → ¬ (bytes ≡ counted_bytes text ++ rest)

-- the bytes don't begin with a mode
pub record LacksMode (bytes : List ℕ) : Type 0 where
  pub none : (mode : Mode) (rest : List ℕ) → ¬ (bytes ≡ mode_byte mode ∷ rest)

-- the bytes don't begin with a mode and a digest
pub record BeginsWithNoMode (bytes : List ℕ) : Type 0 where
  pub none : (mode : Mode) (digest rest : List ℕ) → IsDigest digest → ¬ (bytes ≡ (mode_byte mode ∷ digest) ++ rest)

-- the bytes begin neither with the mark of a file that is gone nor with that of a digest and the digest
pub record BeginsWithNoDigest (bytes : List ℕ) : Type 0 where
  pub none : (now : Option (List ℕ)) (rest : List ℕ) → IfSome now IsDigest → ¬ (bytes ≡ now_bytes now ++ rest)

-- the bytes are the record of no value
pub record HasNoValue {X : Type 0} (IsRecord : X → List ℕ → Type 0) (bytes : List ℕ) : Type 0 where
  pub none : (value : X) → ¬ IsRecord value bytes

-- The spellings of two different items differ before either ends, and no spelling is empty.
pub record IsToldApart {X : Type 0} (Is : X → Type 0) (spelling : X → List ℕ) : Type 0 where
  pub same : (item other : X) (rest more : List ℕ) → Is item → Is other → IsStorable (spelling item)
      → IsStorable (spelling other) → spelling item ++ rest ≡ spelling other ++ more → (item ≡ other) × (rest ≡ more)
  pub some : (item : X) → 1 ≤ length (spelling item)

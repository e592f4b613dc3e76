-- Faults, and what a call that reads part of a text promises by its answer.
use Rattle.std.specs.Prelude.{◌≡◌, ◌≢◌, ℕ, Bool, true, false, ◌+◌, ◌≤◌, ◌==◌, List, take, length, count_by, nat_lt, if◌then◌else◌, Option, Some, None, Result, Ok, Err}
use Rattle.std.specs.Str.{is_utf8}
use Rattle.std.specs.Str.Lossy.{utf8_valid_len}
use Rattle.yaml_lines.specs.Characters.{most_bytes}
use Rattle.yaml_lines.specs.declared.fault.YamlFault.{YamlFault}
use Rattle.yaml_lines.specs.declared.fault.YamlKind.{YamlKind}
use Rattle.yaml_lines.specs.declared.fault.YamlKind.TheVariants.{NotUtf8, TabIndent, Unsupported, Layout, Quote, DoubledKey, TooDeep, TooLarge, OutOfMemory}

-- a refusal's number
abbrev pub yaml_fault_number : YamlKind → ℕ
yaml_fault_number NotUtf8 = 1
yaml_fault_number TabIndent = 2
yaml_fault_number Unsupported = 3
yaml_fault_number Layout = 4
yaml_fault_number Quote = 5
yaml_fault_number DoubledKey = 6
yaml_fault_number TooDeep = 7
yaml_fault_number TooLarge = 8
yaml_fault_number OutOfMemory = 9

-- An answer is what the text means, seen by `see`. A fault other than want of memory comes only if the text
-- means nothing.
abbrev pub Gives : {A B : Type 0} → (A → B) → Result A YamlFault → Option B → Type 0
Gives see (Ok x) meant = meant ≡ Some (see x)
Gives see (Err fault) meant = fault.kind ≢ OutOfMemory → meant ≡ None

-- the same for a call that takes no memory
abbrev pub GivesSurely : {A B E : Type 0} → (A → B) → Result A E → Option B → Type 0
GivesSurely see (Ok x) meant = meant ≡ Some (see x)
GivesSurely see (Err _) meant = meant ≡ None

-- What was read of a text is all that it means if there is no fault. A fault comes only if the text means
-- nothing. Nothing is said of what was read before a fault.
abbrev pub GivesUpTo : {B : Type 0} → B → Option YamlFault → Option B → Type 0
GivesUpTo read None meant = meant ≡ Some read
GivesUpTo read (Some _) meant = meant ≡ None

-- memory was refused; the line is 0
abbrev pub want_of_memory : YamlFault
want_of_memory = record { kind = OutOfMemory; line = 0 }

abbrev pub is_memory : YamlKind → Bool
is_memory OutOfMemory = true
is_memory _ = false

-- the line that a fault of this kind names if it was found in `line`
abbrev pub line_of_fault : YamlKind → ℕ → ℕ
line_of_fault kind line = if is_memory kind then 0 else line

-- the fault names this line; want of memory names line 0
abbrev pub StandsAt : ℕ → YamlFault → Type 0
StandsAt line fault = fault.line ≡ line_of_fault fault.kind line

-- the line, from 1, of a byte that follows these
abbrev pub line_behind : List ℕ → ℕ
line_behind bytes = count_by (λ byte. byte == 10) bytes + 1

-- Why bytes are no text, and in which line. Too many of them are a fault of line 1. Bytes that aren't UTF-8
-- are a fault of the line of the first byte that belongs to no character. None if they are a text.
abbrev pub fault_of_bytes : List ℕ → Option YamlFault
fault_of_bytes bytes =
    if nat_lt most_bytes (length bytes) then Some (record { kind = TooLarge; line = 1 })
    else (if is_utf8 bytes then None else Some
    (record { kind = NotUtf8; line = line_behind (take (utf8_valid_len bytes) bytes) }))

-- there are more bytes than a text may have
abbrev pub too_large : YamlFault
too_large = record { kind = TooLarge; line = 1 }

-- more bytes than a text may have are refused as `TooLarge`
abbrev pub TellsTooLarge : List ℕ → YamlFault → Type 0
TellsTooLarge bytes fault = most_bytes + 1 ≤ length bytes → fault ≡ too_large

-- a fault of the text itself is in one of these lines
abbrev pub StandsWithin : ℕ → ℕ → YamlFault → Type 0
StandsWithin first last fault = fault.kind ≢ OutOfMemory → (first ≤ fault.line) × (fault.line ≤ last)

-- a fault of the text itself, in one of `lines` lines
pub record IsInLines (lines : ℕ) (fault : YamlFault) : Type 0 where
  pub of_the_text : fault.kind ≢ OutOfMemory
  pub from_the_first : 1 ≤ fault.line
  pub to_the_last : fault.line ≤ lines

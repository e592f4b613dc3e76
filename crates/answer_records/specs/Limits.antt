-- The size limit of a record, in bytes. `laws` proves that the constant of the module `limits` is this.
use Rattle.std.specs.Prelude.{ℕ, ◌≤◌, List, length}
use Rattle.hook_base.specs.Limits.{most_file_bytes}

-- the most bytes that a record may have: as many as a file
abbrev pub most_record_bytes : ℕ
most_record_bytes = most_file_bytes

-- the bytes are few enough for a record
abbrev pub IsStorable : List ℕ → Type 0
IsStorable bytes = length bytes ≤ most_record_bytes

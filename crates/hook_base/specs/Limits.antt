-- Limits that the crates share, in bytes (docs/REFERENCE.md, "Limits"). `laws` proves that the constants of
-- the module `limits` are these.
use Rattle.std.specs.Prelude.{ℕ}

-- the most bytes that a path may have
abbrev pub most_path_bytes : ℕ
most_path_bytes = 4_096

-- the most bytes that a file or the message of a commit may have: 16 MiB
abbrev pub most_file_bytes : ℕ
most_file_bytes = 16_777_216

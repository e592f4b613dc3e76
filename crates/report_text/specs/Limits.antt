-- The limit of a report, in bytes. `laws` proves that the constant of the module `limits` is this.
use Rattle.std.specs.Prelude.{ℕ}

-- the most bytes that a hook's name may have: 1 MiB
abbrev pub most_name_bytes : ℕ
most_name_bytes = 1_048_576

-- The limit of a child's output, in bytes. `laws` proves that the constant of the module `limits` is this.
use Rattle.std.specs.Prelude.{ℕ}

-- the most bytes that both outputs of a child may have together: 1 MiB
abbrev pub most_output_bytes : ℕ
most_output_bytes = 1_048_576

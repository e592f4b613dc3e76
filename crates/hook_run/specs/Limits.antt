-- The limit of a command. It belongs to the module `limits`; `laws` proves that its constant is this one.
use Rattle.std.specs.Prelude.{ℕ}

-- the most bytes of a command: those of its words and names, and one between neighbours
abbrev pub most_command_bytes : ℕ
most_command_bytes = 131_072

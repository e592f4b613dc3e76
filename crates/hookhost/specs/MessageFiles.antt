-- What the file of a message is to hold after its hooks.
use Rattle.std.specs.Prelude.{ℕ, if◌then◌else◌, List, Option, None, Some}
use Rattle.std.specs.Str.{bytes_eq}

-- the message that hooks leave, if they leave one that differs from what the file held
abbrev pub changed_message : List ℕ → Option (List ℕ) → Option (List ℕ)
changed_message held None = None
changed_message held (Some left) = if bytes_eq left held then None else Some left

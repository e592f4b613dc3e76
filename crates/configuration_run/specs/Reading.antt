-- How a configuration's bytes are read, piece by piece. This serves private functions of the module
-- `configuration_bytes` only; TryOver says what a run promises about its reader.
use Rattle.std.specs.Prelude.{◌≡◌, ◌+◌, ◌⊎◌, ◌++◌, ℕ, List, length, Option}
use Rattle.std.specs.Io.KnownBytes.{Consumes, IsAtEnd}
use Rattle.configuration_run.specs.TryOver.{most_bytes}

-- the reader gave so many bytes, and `after` has them after those of `before`; none came only at the input's
-- end
pub record ReadsPiece (given left : Option (List ℕ)) (before after : List ℕ) (count : ℕ) : Type 0 where
  pub piece : List ℕ
  pub read : Consumes given left piece
  pub added : after ≡ before ++ piece
  pub counted : length piece ≡ count
  pub ended : count ≡ 0 → IsAtEnd left

-- the reader gave these bytes, and has no more or gave one more than a configuration may have
pub record ReadsToLimit (given left : Option (List ℕ)) (bytes : List ℕ) : Type 0 where
  pub read : Consumes given left bytes
  pub ended : IsAtEnd left ⊎ (length bytes ≡ most_bytes + 1)

-- Contents that are kept once each, and which of them have a digest.
use Rattle.std.specs.Prelude.{◌≡◌, ◌≢◌, ℕ, ◌<◌, Bool, List, [], ◌∷◌, ◌++◌, if◌then◌else◌, length, slice_index_or, Some, Option, None}
use Rattle.std.specs.List.{list_any}
use Rattle.std.specs.Str.{bytes_eq}
use Rattle.hook_base.specs.declared.change.Change.{Change}
use Rattle.sha2.specs.Sha256.{sha256}

-- some of the contents have the digest
abbrev pub has_digest : List ℕ → List (List ℕ) → Bool
has_digest digest contents = list_any (λ bytes. bytes_eq digest (sha256 bytes)) contents

abbrev pub has_content : List ℕ → List (List ℕ) → Bool
has_content bytes contents = list_any (bytes_eq bytes) contents

-- the contents with these among them
abbrev pub with_content : List ℕ → List (List ℕ) → List (List ℕ)
with_content bytes contents = if has_content bytes contents then contents else contents ++ bytes ∷ []

abbrev pub with_new : Option (List ℕ) → List (List ℕ) → List (List ℕ)
with_new None contents = contents
with_new (Some bytes) contents = with_content bytes contents

-- the contents with the new ones of the changes among them
abbrev pub with_changes : List Change → List (List ℕ) → List (List ℕ)
with_changes [] contents = contents
with_changes (change ∷ changes) contents = with_changes changes (with_new change.now contents)

-- others of these contents have the digest of the bytes
pub record Collides (bytes : List ℕ) (contents : List (List ℕ)) : Type 0 where
  pub at : ℕ
  pub within : at < length contents
  pub same_digest : sha256 (slice_index_or contents at []) ≡ sha256 bytes
  pub differs : slice_index_or contents at [] ≢ bytes

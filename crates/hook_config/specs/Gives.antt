-- What an answer says about the definition's value. Seen by `see`, it is that value. A refusal comes only if
-- the definition has none, except one for memory or for a pattern.
use Rattle.std.specs.Prelude.{◌≡◌, ◌≢◌, ◌⊎◌, Option, Some, None, Result, Ok, Err}
use Rattle.hook_config.specs.declared.config_fault.ConfigFault.{ConfigFault}
use Rattle.hook_config.specs.declared.config_fault.ConfigKind.{ConfigKind}
use Rattle.hook_config.specs.declared.config_fault.ConfigKind.TheVariants.{BadPattern, OutOfMemory}

-- The claim holds unless the definitions leave the refusal open. `BadPattern` is left to `regex`, which may
-- also refuse a pattern for its size; `OutOfMemory` may always come.
abbrev pub UnlessLeftOpen : ConfigKind → Type 0 → Type 0
UnlessLeftOpen kind claim = kind ≢ OutOfMemory → kind ≢ BadPattern → claim

-- an answer whose refusals have a place
abbrev pub GivesConfiguration : {A B : Type 0} → (A → B) → Result A ConfigFault → Option B → Type 0
GivesConfiguration see (Ok x) meant = meant ≡ Some (see x)
GivesConfiguration see (Err fault) meant = UnlessLeftOpen fault.kind (meant ≡ None)

-- ---- for contracts of private functions alone

-- an answer about one value; its refusals have no place
abbrev pub GivesValue : {A B : Type 0} → (A → B) → Result A ConfigKind → Option B → Type 0
GivesValue see (Ok x) meant = meant ≡ Some (see x)
GivesValue see (Err kind) meant = UnlessLeftOpen kind (meant ≡ None)

-- an answer about one value, which needs no memory
abbrev pub GivesValueSurely : {A B : Type 0} → (A → B) → Result A ConfigKind → Option B → Type 0
GivesValueSurely see (Ok x) meant = meant ≡ Some (see x)
GivesValueSurely see (Err _) meant = meant ≡ None

-- a refusal that the definitions leave open
abbrev pub IsLeftOpen : ConfigKind → Type 0
IsLeftOpen kind = (kind ≡ OutOfMemory) ⊎ (kind ≡ BadPattern)

-- What an explanation says about the bytes, apart from its text. (docs/REFERENCE.md, "What `explain`
-- says".)
use Rattle.std.specs.Prelude.{◌≡◌, ℕ, List, Option, Some, None, IsSome}
use Rattle.hook_config.specs.Configuration.{configuration_of}
use Rattle.hook_config.specs.Gives.{UnlessLeftOpen}
use Rattle.hook_config.specs.declared.config_fault.ConfigFault.{ConfigFault}

-- without a refusal the bytes describe a configuration; with one they describe none, unless that is left to
-- `regex`
abbrev pub Explains : List ℕ → Option ConfigFault → Type 0
Explains bytes None = IsSome (configuration_of bytes)
Explains bytes (Some fault) = UnlessLeftOpen fault.kind (configuration_of bytes ≡ None)

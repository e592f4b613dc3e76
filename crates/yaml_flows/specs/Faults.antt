-- What a call that reads part of a flow promises by its answer.
use Rattle.std.specs.Prelude.{◌≡◌, ◌≢◌, Option, Some, None, Result, Ok, Err}
use Rattle.yaml_lines.specs.declared.fault.YamlKind.TheVariants.{OutOfMemory}
use Rattle.yaml_flows.specs.declared.fault.FlowFault.{FlowFault}

-- An answer is what the text means, seen by `see`. A fault other than want of memory comes only if the text
-- means nothing.
abbrev pub GivesFlow : {A B : Type 0} → (A → B) → Result A FlowFault → Option B → Type 0
GivesFlow see (Ok x) meant = meant ≡ Some (see x)
GivesFlow see (Err fault) meant = fault.kind ≢ OutOfMemory → meant ≡ None

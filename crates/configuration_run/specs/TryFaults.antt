-- The numbers and the printed names of a run's refusals, and the refusal of a run whose configuration is
-- refused.
use Rattle.std.specs.Prelude.{◌≡◌, ◌≢◌, ℕ, List, codes}
use Rattle.hook_config.specs.declared.config_fault.ConfigFault.{ConfigFault}
use Rattle.hook_config.specs.declared.config_fault.ConfigKind.TheVariants as kind
use Rattle.configuration_run.specs.declared.try_fault.TryFault.{TryFault}
use Rattle.configuration_run.specs.declared.try_fault.TryFault.TheVariants.{Read, Config as BadConfig, Write, OutOfMemory, Spent}

abbrev pub try_fault_number : TryFault → ℕ
try_fault_number Read = 1
try_fault_number (BadConfig fault) = 2
try_fault_number Write = 3
try_fault_number OutOfMemory = 4
try_fault_number Spent = 5

abbrev pub try_fault_name : TryFault → List ℕ
try_fault_name Read = codes "Read"
try_fault_name (BadConfig fault) = codes "Config"
try_fault_name Write = codes "Write"
try_fault_name OutOfMemory = codes "OutOfMemory"
try_fault_name Spent = codes "Spent"

-- want of memory while the configuration is read is the run's own refusal; any other one is the
-- configuration's
abbrev pub IsTryFaultOf : ConfigFault → TryFault → Type 0
IsTryFaultOf fault (BadConfig same) = (same ≡ fault) × (fault.kind ≢ kind.OutOfMemory)
IsTryFaultOf fault OutOfMemory = fault.kind ≡ kind.OutOfMemory
IsTryFaultOf fault _ = ⊥

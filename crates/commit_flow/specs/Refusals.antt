-- The refusals of a host's commands, with their numbers and printed names (docs/REFERENCE.md, "The host of a
-- repository"). Each may have the number of its cause. Faults of other crates become such refusals.
use Rattle.std.specs.Prelude.{ℕ, List, codes, Option, None, Some}
use Rattle.hook_base.specs.declared.path_fault.PathFault.{PathFault}
use Rattle.hook_base.specs.declared.path_fault.PathFault.TheVariants as path
use Rattle.hook_base.specs.PathFaults.{path_fault_number as path_number_of}
use Rattle.store_faults.specs.declared.fault.StoreFault.{StoreFault}
use Rattle.store_faults.specs.declared.fault.StoreFault.TheVariants as store
use Rattle.repo_store.specs.declared.staging_refusal.StagingFault.{StagingFault}
use Rattle.repo_store.specs.declared.staging_refusal.StagingFault.TheVariants as staging
use Rattle.repo_store.specs.declared.staging_refusal.StagingRefusal.{StagingRefusal}
use Rattle.store_faults.specs.Faults.{store_fault_number as store_number_of}
use Rattle.result_book.specs.declared.book_fault.BookFault.{BookFault}
use Rattle.result_book.specs.declared.book_fault.BookFault.TheVariants as book
use Rattle.hook_run.specs.declared.run_refusal.RunRefusal.{RunRefusal}
use Rattle.hook_run.specs.declared.run_refusal.RunRefusal.TheVariants as run
use Rattle.hook_config.specs.declared.config_fault.ConfigFault.{ConfigFault}
use Rattle.hook_config.specs.declared.config_fault.ConfigKind.{ConfigKind}
use Rattle.hook_config.specs.declared.config_fault.ConfigKind.TheVariants as kind
use Rattle.hook_config.specs.Refusals.{configuration_fault_number as config_number_of}
use Rattle.commit_flow.specs.declared.host_refusal.HostRefusal.{HostRefusal}
use Rattle.commit_flow.specs.declared.host_refusal.HostRefusal.TheVariants.{OutOfMemory, Store, BadPath, NotStaged, TooLarge, TooMany, NoConfig, BadConfig, NoSuchHook, NothingStaged, NoFixes, EmptyMessage, Collision, Spent, Clash}
use Rattle.commit_flow.specs.declared.staging_stop.StagingStop.{StagingStop}

abbrev pub host_refusal_number : HostRefusal → ℕ
host_refusal_number OutOfMemory = 1
host_refusal_number (Store fault) = 2
host_refusal_number (BadPath fault) = 3
host_refusal_number NotStaged = 4
host_refusal_number TooLarge = 5
host_refusal_number TooMany = 6
host_refusal_number NoConfig = 7
host_refusal_number (BadConfig fault) = 8
host_refusal_number NoSuchHook = 9
host_refusal_number NothingStaged = 10
host_refusal_number NoFixes = 11
host_refusal_number EmptyMessage = 12
host_refusal_number Collision = 13
host_refusal_number Spent = 14
host_refusal_number Clash = 15

abbrev pub host_refusal_name : HostRefusal → List ℕ
host_refusal_name OutOfMemory = codes "OutOfMemory"
host_refusal_name (Store fault) = codes "Store"
host_refusal_name (BadPath fault) = codes "BadPath"
host_refusal_name NotStaged = codes "NotStaged"
host_refusal_name TooLarge = codes "TooLarge"
host_refusal_name TooMany = codes "TooMany"
host_refusal_name NoConfig = codes "NoConfig"
host_refusal_name (BadConfig fault) = codes "BadConfig"
host_refusal_name NoSuchHook = codes "NoSuchHook"
host_refusal_name NothingStaged = codes "NothingStaged"
host_refusal_name NoFixes = codes "NoFixes"
host_refusal_name EmptyMessage = codes "EmptyMessage"
host_refusal_name Collision = codes "Collision"
host_refusal_name Spent = codes "Spent"
host_refusal_name Clash = codes "Clash"

-- the number of the cause among the faults of a store, of a path or of a configuration
abbrev pub inner_number_of : HostRefusal → Option ℕ
inner_number_of (Store fault) = Some (store_number_of fault)
inner_number_of (BadPath fault) = Some (path_number_of fault)
inner_number_of (BadConfig fault) = Some (config_number_of fault.kind)
inner_number_of OutOfMemory = None
inner_number_of NotStaged = None
inner_number_of TooLarge = None
inner_number_of TooMany = None
inner_number_of NoConfig = None
inner_number_of NoSuchHook = None
inner_number_of NothingStaged = None
inner_number_of NoFixes = None
inner_number_of EmptyMessage = None
inner_number_of Collision = None
inner_number_of Spent = None
inner_number_of Clash = None

-- ---- from faults to refusals: lack of memory is the host's own refusal, wherever it comes from

abbrev pub of_path : PathFault → HostRefusal
of_path path.OutOfMemory = OutOfMemory
of_path fault = BadPath fault

-- contents that collide, and too many commits, files or paths, are the host's own refusals too
abbrev pub of_store : StoreFault → HostRefusal
of_store store.OutOfMemory = OutOfMemory
of_store store.Collision = Collision
of_store store.TooMany = TooMany
of_store fault = Store fault

-- a change of the staged files is refused in the same way as the command that makes only this change
abbrev pub of_staging : StagingFault → HostRefusal
of_staging (staging.BadPath fault) = BadPath fault
of_staging staging.NotStaged = NotStaged
of_staging staging.Clash = Clash
of_staging (staging.Store store.TooLarge) = TooLarge
of_staging (staging.Store fault) = of_store fault

abbrev pub stop_of : StagingRefusal → StagingStop
stop_of refused = record { at = refused.at; refusal = of_staging refused.fault }

abbrev pub of_config_kind : ConfigKind → ConfigFault → HostRefusal
of_config_kind kind.OutOfMemory fault = OutOfMemory
of_config_kind other fault = BadConfig fault

abbrev pub of_config : ConfigFault → HostRefusal
of_config fault = of_config_kind fault.kind fault

abbrev pub of_book : BookFault → HostRefusal
of_book book.OutOfMemory = OutOfMemory
of_book (book.Store fault) = of_store fault

-- what stops hooks is a refusal of the host itself
abbrev pub of_run : RunRefusal → HostRefusal
of_run run.OutOfMemory = OutOfMemory
of_run (run.Book fault) = of_book fault
of_run run.NoSuchHook = NoSuchHook
of_run run.Spent = Spent

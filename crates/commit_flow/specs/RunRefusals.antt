-- Why a run on the staged files is refused, and what stops the hooks of runs and of commits.
use Rattle.hook_config.specs.declared.configuration.Config.{Config}
use Rattle.store_faults.specs.declared.fault.StoreFault.{StoreFault}
use Rattle.store_faults.specs.declared.fault.StoreFault.TheVariants.{Sql, TooLarge}
use Rattle.repo_store.specs.Repository.{Repository}
use Rattle.commit_flow.specs.declared.host_ask.HostAsk.{HostAsk}
use Rattle.commit_flow.specs.declared.host_refusal.HostRefusal.{HostRefusal}
use Rattle.commit_flow.specs.declared.host_refusal.HostRefusal.TheVariants.{OutOfMemory, Store, BadPath, NotStaged, NoConfig, BadConfig, NoSuchHook, Collision, Spent}
use Rattle.commit_flow.specs.Configured.{HasReadableConfig, IsMisconfigured, LacksConfig}
use Rattle.commit_flow.specs.Runs.{HasNoSuchHook, IsNamesRefusal, IsRunnable, names_in}

-- the database refuses, or a file or a message that hooks left, or a cached result, is larger than the store
-- takes
abbrev pub IsOfFixes : StoreFault → Type 0
IsOfFixes (Sql error) = Unit {0}
IsOfFixes TooLarge = Unit {0}
IsOfFixes fault = ⊥

-- Why hooks of a configuration that can be read are stopped, or why what they leave isn't kept as fixes or
-- committed.
abbrev pub IsStop : HostRefusal → Type 0
IsStop (Store fault) = IsOfFixes fault
IsStop Collision = Unit {0}
IsStop Spent = Unit {0}
IsStop refusal = ⊥

-- Why a run is refused, in this order. Before hooks: no configuration is staged, it can't be read, a name is
-- no path or isn't staged, no hook has the name that is asked for. Then comes what stops hooks. Lack of
-- memory may come at any time.
abbrev pub IsRunRefusal : Repository → HostAsk → HostRefusal → Type 0
IsRunRefusal before ask NoConfig = LacksConfig before
IsRunRefusal before ask (BadConfig fault) = IsMisconfigured before fault
IsRunRefusal before ask (BadPath fault) =
    HasReadableConfig before × IsNamesRefusal before (names_in ask.which) (BadPath fault)
IsRunRefusal before ask NotStaged = HasReadableConfig before × IsNamesRefusal before (names_in ask.which) NotStaged
IsRunRefusal before ask NoSuchHook = HasNoSuchHook before ask
IsRunRefusal before ask OutOfMemory = Unit {0}
IsRunRefusal before ask refusal = ((config : Config) × IsRunnable before ask config) × IsStop refusal

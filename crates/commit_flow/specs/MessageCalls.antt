-- What the hooks of a stage about a message begin with. Used only by private functions.
use Rattle.std.specs.Prelude.{◌≡◌, ℕ, List}
use Rattle.store_faults.specs.Limits.{IsSmall}
use Rattle.repo_store.specs.Repository.{Repository}
use Rattle.run_options.specs.declared.options.RunOptions.{RunOptions}
use Rattle.commit_flow.specs.declared.host_refusal.HostRefusal.{HostRefusal}
use Rattle.commit_flow.specs.declared.host_refusal.HostRefusal.TheVariants.{OutOfMemory, TooLarge, NoConfig, BadConfig}
use Rattle.commit_flow.specs.declared.message_begun.MessageBegun.{MessageBegun}
use Rattle.commit_flow.specs.Configured.{IsConfiguredFor, IsMisconfigured, LacksConfig}
use Rattle.commit_flow.specs.MessageRuns.{course_of_message}

-- this is what hooks about the message begin with
pub record IsMessageBegun (repo : Repository) (options : RunOptions) (message : List ℕ)
    (begun : MessageBegun) : Type 0 where
  pub small : IsSmall message
  pub configured : IsConfiguredFor options repo begun.config
  pub passed : begun.course ≡ course_of_message repo message

-- why they aren't begun
abbrev pub IsMessageUnbegun : Repository → List ℕ → HostRefusal → Type 0
IsMessageUnbegun repo message TooLarge = ¬ IsSmall message
IsMessageUnbegun repo message NoConfig = IsSmall message × LacksConfig repo
IsMessageUnbegun repo message (BadConfig fault) = IsSmall message × IsMisconfigured repo fault
IsMessageUnbegun repo message OutOfMemory = IsSmall message
IsMessageUnbegun repo message refusal = ⊥

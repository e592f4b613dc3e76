-- What a call on the store needs of the repository.
use Rattle.commit_flow.specs.declared.command.Command.{Command}
use Rattle.commit_flow.specs.declared.command.Command.TheVariants as command
use Rattle.hookhost.specs.declared.store_call.StoreCall.{StoreCall}
use Rattle.hookhost.specs.declared.store_call.StoreCall.TheVariants as call
use Rattle.next_steps.specs.declared.advice.Requirement.{Requirement}
use Rattle.next_steps.specs.declared.advice.Requirement.TheVariants.{Configuration, Fixes, Nothing}

-- `accept` needs fixes
abbrev pub command_needs : Command → Requirement
command_needs command.Accept = Fixes
command_needs other = Nothing

-- and a command that runs hooks needs a configuration
abbrev pub call_needs : StoreCall → Requirement
call_needs (call.HookCommand asked shown children) = Configuration
call_needs (call.MessageHooks ask file color children) = Configuration
call_needs (call.Command asked) = command_needs asked
call_needs other = Nothing

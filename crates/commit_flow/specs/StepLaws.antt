-- The replies that neither memory nor the database decides, and the commands that no child decides.
use Rattle.commit_flow.specs.declared.command.Command.{Command}
use Rattle.commit_flow.specs.declared.command.Command.TheVariants.{Run, Message, Commit, Forget, Limit}
use Rattle.commit_flow.specs.declared.host_refusal.HostRefusal.{HostRefusal}
use Rattle.commit_flow.specs.declared.host_refusal.HostRefusal.TheVariants.{OutOfMemory, Store, Collision}
use Rattle.commit_flow.specs.declared.reply.Reply.{Reply}
use Rattle.commit_flow.specs.declared.reply.Reply.TheVariants.{EditRefused, Refused}

-- the refusal isn't for want of memory, by the database, or for other contents under the same digest
abbrev pub IsDecidedRefusal : HostRefusal → Type 0
IsDecidedRefusal OutOfMemory = ⊥
IsDecidedRefusal (Store fault) = ⊥
IsDecidedRefusal Collision = ⊥
IsDecidedRefusal refusal = Unit {0}

-- neither memory, nor the database, nor other contents under the same digest refused the command
abbrev pub IsDecided : Reply → Type 0
IsDecided (EditRefused stop) = IsDecidedRefusal stop.refusal
IsDecided (Refused refusal) = IsDecidedRefusal refusal
IsDecided reply = Unit {0}

-- the command neither runs hooks nor depends on what is cached
abbrev pub IsRunless : Command → Type 0
IsRunless (Run ask) = ⊥
IsRunless (Message ask message) = ⊥
IsRunless (Commit message no_verify skip) = ⊥
IsRunless Forget = ⊥
IsRunless (Limit most) = ⊥
IsRunless command = Unit {0}

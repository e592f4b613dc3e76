-- What the laws on two hosts use: which replies leave no choice, given the commands, the repository and the
-- children, and what in a reply depends on what is cached.
use Rattle.std.specs.Prelude.{◌≡◌, ℕ, All, List, []}
use Rattle.hook_base.specs.declared.file.File.{File}
use Rattle.child_port.specs.declared.answer.Outcome.{Outcome}
use Rattle.result_book.specs.Told.{IsTold}
use Rattle.hook_run.specs.Moments.{Moment}
use Rattle.hook_run.specs.Parts.{AllTold, Part, faults_of}
use Rattle.repo_store.specs.Repository.{Repository}
use Rattle.commit_flow.specs.declared.command.Command.{Command}
use Rattle.commit_flow.specs.declared.host_refusal.HostRefusal.{HostRefusal}
use Rattle.commit_flow.specs.declared.host_refusal.HostRefusal.TheVariants.{OutOfMemory, Store, BadConfig, Collision, Spent}
use Rattle.commit_flow.specs.declared.reply.PostCommit.TheVariants.{Stopped}
use Rattle.commit_flow.specs.declared.reply.Reply.{Reply}
use Rattle.commit_flow.specs.declared.reply.Reply.TheVariants.{Ran, Committed, Forgot, Limited, EditRefused, Refused}
use Rattle.commit_flow.specs.MachineRuns.{IsMachineRun}
use Rattle.commit_flow.specs.Plays.{IsPlay}

-- ---- which replies leave no choice

-- the refusal is none of those that memory, the store, an unreadable configuration, other contents under the same digest or
-- the number of children decide
abbrev pub IsUnhinderedRefusal : HostRefusal → Type 0
IsUnhinderedRefusal OutOfMemory = ⊥
IsUnhinderedRefusal (Store fault) = ⊥
IsUnhinderedRefusal (BadConfig fault) = ⊥
IsUnhinderedRefusal Collision = ⊥
IsUnhinderedRefusal Spent = ⊥
IsUnhinderedRefusal refusal = Unit {0}

-- The command wasn't refused by memory or the store. It wasn't refused for a configuration that can't be
-- read, for other contents under the same digest, or because no more children can be counted. And the hooks
-- after a commit weren't stopped.
abbrev pub IsUnhindered : Reply → Type 0
IsUnhindered (EditRefused stop) = IsUnhinderedRefusal stop.refusal
IsUnhindered (Refused refusal) = IsUnhinderedRefusal refusal
IsUnhindered (Committed number reports (Stopped refusal)) = ⊥
IsUnhindered reply = Unit {0}

-- a run of the machine; each part is one that the children may report, and none is a fault
pub record IsUnhinderedRun (tells : List (List ℕ) → List File → Outcome → Type 0) (before : Repository)
    (commands : List Command) (replies : List Reply) (parts : List Part) (after : Repository) : Type 0 where
  pub run : IsMachineRun before commands replies parts after
  pub told : AllTold tells parts
  pub no_fault : faults_of parts ≡ 0
  pub unhindered : All IsUnhindered replies

-- The commands were played by a host. The children may report what it had cached at first, and they counted
-- no fault between the two moments.
pub record IsUnhinderedPlay (tells : List (List ℕ) → List File → Outcome → Type 0) (from to : Moment)
    (before : Repository) (commands : List Command) (replies : List Reply) (after : Repository) : Type 0 where
  pub play : IsPlay tells from to before commands replies after
  pub told : IsTold tells from.remembered
  pub no_fault : to.faults ≡ from.faults
  pub unhindered : All IsUnhindered replies

-- ---- what in a reply depends on what is cached

-- how many results were forgotten or are left is left out
abbrev pub without_number : Reply → Reply
without_number (Forgot number) = Forgot 0
without_number (Limited number) = Limited 0
without_number reply = reply

-- the ids of unsteady hooks are left out too
abbrev pub without_memory : Reply → Reply
without_memory (Ran passed report changes unsteady) = Ran passed report changes []
without_memory reply = without_number reply

-- no hook is unsteady: none gave another answer than the cached one
abbrev pub IsSteady : Reply → Type 0
IsSteady (Ran passed report changes unsteady) = unsteady ≡ []
IsSteady reply = Unit {0}

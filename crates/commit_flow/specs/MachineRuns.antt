-- The host as a machine: commands one after another, each a step from the repository that the one before it
-- left. What is cached, and how often children are called, is no part of it.
use Rattle.std.specs.Prelude.{◌≡◌, ℕ, List, [], ◌∷◌, ◌++◌}
use Rattle.hook_base.specs.declared.file.File.{File}
use Rattle.child_port.specs.declared.answer.Outcome.{Outcome}
use Rattle.hook_run.specs.Parts.{AllTold, Part}
use Rattle.repo_store.specs.Repository.{Repository}
use Rattle.commit_flow.specs.declared.command.Command.{Command}
use Rattle.commit_flow.specs.declared.reply.Reply.{Reply}
use Rattle.commit_flow.specs.Steps.{Step}

-- A command is a step to a repository, from which more steps are made. The parts are those of this step, then
-- those of the others.
pub record IsStepThen (before : Repository) (command : Command) (reply : Reply) (parts : List Part)
    (more : Repository → List Part → Type 0) : Type 0 where
  pub own : List Part
  pub between : Repository
  pub further : List Part
  pub step : Step before command reply own between
  pub rest : more between further
  pub joined : parts ≡ own ++ further

-- The commands are done in order, and each has its reply. The parts are those of all steps, in order.
abbrev pub IsMachineRun : Repository → List Command → List Reply → List Part → Repository → Type 0
IsMachineRun before [] [] parts after = (parts ≡ []) × (after ≡ before)
IsMachineRun before (command ∷ commands) (reply ∷ replies) parts after =
    IsStepThen before command reply parts (λ between further. IsMachineRun between commands replies further after)
IsMachineRun before commands replies parts after = ⊥

-- A run of the machine as a host without a cache makes it: each part has an outcome that the children may report.
pub record IsRunWithoutMemory (tells : List (List ℕ) → List File → Outcome → Type 0) (before : Repository)
    (commands : List Command) (replies : List Reply) (after : Repository) : Type 0 where
  pub parts : List Part
  pub run : IsMachineRun before commands replies parts after
  pub told : AllTold tells parts

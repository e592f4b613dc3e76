-- What follows for a step and for a list of commands: which replies say that a commit was made, what this
-- commit is, and for which parts children were started.
use Rattle.std.specs.Prelude.{◌≡◌, ℕ, Bool, List, [], ◌∷◌, ◌++◌}
use Rattle.hook_config.specs.declared.configuration.Config.{Config}
use Rattle.result_book.specs.Contents.{Contents}
use Rattle.hook_run.specs.Parts.{Part}
use Rattle.hook_run.specs.Starts.{Starts}
use Rattle.repo_store.specs.Repository.{Repository, with_new_commit}
use Rattle.commit_flow.specs.declared.command.Command.{Command}
use Rattle.commit_flow.specs.declared.command.Command.TheVariants.{Commit, Forget, Limit}
use Rattle.commit_flow.specs.declared.commit_state.CommitState.{CommitState}
use Rattle.commit_flow.specs.declared.reply.Reply.{Reply}
use Rattle.commit_flow.specs.declared.reply.Reply.TheVariants.{Committed}
use Rattle.commit_flow.specs.CommitStages.{HavePassed, StageTold, course_of, stages_before_commit}
use Rattle.commit_flow.specs.Configured.{IsConfigured}
use Rattle.commit_flow.specs.Messages.{cleaned_message}
use Rattle.commit_flow.specs.Plays.{HasForgotten, HasLimited, reuse_in}
use Rattle.commit_flow.specs.Runs.{changed_paths}
use Rattle.commit_flow.specs.Steps.{Step}

-- the reply says that a commit was made
abbrev pub SaysCommitted : Reply → Type 0
SaysCommitted (Committed number reports post) = Unit {0}
SaysCommitted reply = ⊥

-- Each stage before the commit passed, under the staged configuration. There is one commit more: of the
-- staged files, with the message that the last stage passes on, cleaned.
pub record HasOneMore (before : Repository) (message : List ℕ) (no_verify : Bool) (skip : List (List ℕ))
    (after : Repository) : Type 0 where
  pub config : Config
  pub told : List StageTold
  pub left : CommitState
  pub configured : IsConfigured before config
  pub passed : HavePassed config (changed_paths before) skip (stages_before_commit no_verify) (course_of before message)
      told left
  pub made : after ≡ with_new_commit (cleaned_message left.message) before

-- the command is a commit, and made one
abbrev pub HasCommitted : Repository → Command → Repository → Type 0
HasCommitted before (Commit message no_verify skip) after = HasOneMore before message no_verify skip after
HasCommitted before command after = ⊥

-- ---- for which parts children were started

-- What a command makes of what is cached. A child was started for those of its parts that are in `started`. A
-- command that forgets or sets a limit has no parts.
abbrev pub CommandStarts : Command → Reply → Contents → Contents → List Part → List Part → Type 0
CommandStarts Forget reply before after parts started = HasForgotten before after reply × (parts ≡ []) × (started ≡ [])
CommandStarts (Limit most) reply before after parts started =
    HasLimited most before after reply × (parts ≡ []) × (started ≡ [])
CommandStarts command reply before after parts started = Starts (reuse_in command) before after parts started

-- A command is a step with parts of its own. It leaves a repository and what is cached then, and more is
-- played from there.
pub record PlayStartsFrom (before : Repository) (remembered : Contents) (command : Command) (reply : Reply)
    (parts started : List Part) (more : Repository → Contents → List Part → List Part → Type 0) : Type 0 where
  pub repo_between : Repository
  pub between : Contents
  pub own : List Part
  pub own_started : List Part
  pub further : List Part
  pub further_started : List Part
  pub step : Step before command reply own repo_between
  pub starts : CommandStarts command reply remembered between own own_started
  pub rest : more repo_between between further further_started
  pub joined : parts ≡ own ++ further
  pub joined_started : started ≡ own_started ++ further_started

-- The commands in order, each on the repository and the cached results that the one before it left; nothing
-- else changes these. The parts are those of all steps. A child was started for those in `started`.
abbrev pub PlayStarts : Repository → Contents → List Command → List Reply → List Part → List Part → Contents
    → Repository → Type 0
PlayStarts before remembered [] [] parts started remembered_then after =
    (after ≡ before) × (remembered_then ≡ remembered) × (parts ≡ []) × (started ≡ [])
PlayStarts before remembered (command ∷ commands) (reply ∷ replies) parts started remembered_then after =
    PlayStartsFrom before remembered command reply parts started
    (λ repo_between between further further_started. PlayStarts repo_between between commands replies further
    further_started remembered_then after)
PlayStarts before remembered commands replies parts started remembered_then after = ⊥

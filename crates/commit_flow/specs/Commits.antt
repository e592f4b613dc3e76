-- A commit through its hooks: what it makes of the repository, what it answers, and why it is refused.
use Rattle.std.specs.Prelude.{◌≡◌, ◌≢◌, ◌+◌, ◌≤◌, ◌<◌, ℕ, Bool, List, [], ◌++◌, length}
use Rattle.hook_base.specs.Trees.{changes_between}
use Rattle.hook_config.specs.declared.configuration.Config.{Config}
use Rattle.hook_config.specs.declared.stage.Stage.{Stage}
use Rattle.hook_config.specs.declared.stage.Stage.TheVariants as stage
use Rattle.repo_store.specs.StoreBooks.{RefusesAnswers}
use Rattle.hook_run.specs.declared.run_refusal.RunRefusal.TheVariants.{NoSuchHook}
use Rattle.hook_run.specs.Parts.{Part, all_parts}
use Rattle.hook_run.specs.Refusals.{IsOfBook}
use Rattle.store_faults.specs.Limits.{IsSmall, most_commits}
use Rattle.repo_store.specs.Repository.{Repository, last_tree, with_new_commit}
use Rattle.commit_flow.specs.declared.host_refusal.HostRefusal.{HostRefusal}
use Rattle.commit_flow.specs.declared.host_refusal.HostRefusal.TheVariants.{OutOfMemory, TooLarge, TooMany, NoConfig, BadConfig, NothingStaged, EmptyMessage}
use Rattle.commit_flow.specs.declared.reply.PostCommit.{PostCommit}
use Rattle.commit_flow.specs.declared.reply.PostCommit.TheVariants.{Told, Stopped}
use Rattle.commit_flow.specs.declared.commit_state.CommitState.{CommitState}
use Rattle.commit_flow.specs.CommitStages.{FailedAt, HavePassed, IsStageTold, StageTold, course_of, parts_of_stages, reports_of, stages_before_commit}
use Rattle.commit_flow.specs.Configured.{HasReadableConfig, IsConfigured, IsMisconfigured, LacksConfig}
use Rattle.commit_flow.specs.Messages.{cleaned_message}
use Rattle.commit_flow.specs.RunRefusals.{IsStop}
use Rattle.commit_flow.specs.Runs.{changed_paths, fixing}

-- the staged files are those of the last commit, or there are none before the first (git-commit(1),
-- "--allow-empty")
abbrev pub HasNothingNew : Repository → Type 0
HasNothingNew repo = repo.staged ≡ last_tree repo.history

-- a commit may be begun with this message and what is staged
pub record IsCommittable (before : Repository) (message : List ℕ) : Type 0 where
  pub small : IsSmall message
  pub new : ¬ HasNothingNew before

-- a cleaned message may be committed; an empty one may not (git-commit(1), "--allow-empty-message")
pub record MayCommit (before : Repository) (cleaned : List ℕ) : Type 0 where
  pub some : cleaned ≢ []
  pub small : IsSmall cleaned
  pub room : length before.history < most_commits

-- The stages before the commit passed, and the last of them passes this message on.
pub record IsVerified (before : Repository) (message : List ℕ) (no_verify : Bool) (skip : List (List ℕ))
    (config : Config) (told : List StageTold) (last : List ℕ) : Type 0 where
  pub committable : IsCommittable before message
  pub configured : IsConfigured before config
  pub left : CommitState
  pub passed : HavePassed config (changed_paths before) skip (stages_before_commit no_verify) (course_of before message)
      told left
  pub message_left : last ≡ left.message

-- The hooks after the commit ran on the committed files, got no names, and have this report. Or their run was
-- stopped for lack of memory, because no more children can be counted, or by the store. Then the parts don't
-- include what they were answered by then.
abbrev pub IsPost : Config → Repository → List (List ℕ) → PostCommit → List Part → Type 0
IsPost config before skip (Told report) parts =
    (told : StageTold) × IsStageTold config (changed_paths before) skip stage.PostCommit
    (record { tree = before.staged; message = [] }) told
    × (report ≡ told.out.report) × (parts ≡ all_parts told.trace)
IsPost config before skip (Stopped refusal) parts =
    (refusal ≢ NoSuchHook) × IsOfBook RefusesAnswers refusal × (parts ≡ [])

-- A commit was made of the staged files and the cleaned message. What the hooks after it do to files is
-- dropped.
pub record IsCommitted (before : Repository) (message : List ℕ) (no_verify : Bool) (skip : List (List ℕ)) (number : ℕ)
    (reports : List (List ℕ)) (post : PostCommit) (parts : List Part) (after : Repository) : Type 0 where
  pub config : Config
  pub told : List StageTold
  pub last : List ℕ
  pub post_parts : List Part
  pub verified : IsVerified before message no_verify skip config told last
  pub some : cleaned_message last ≢ []
  pub small : IsSmall (cleaned_message last)
  pub room : length before.history < most_commits
  pub counted : number ≡ length before.history + 1
  pub reported : reports ≡ reports_of told
  pub behind : IsPost config before skip post post_parts
  pub traced : parts ≡ parts_of_stages told ++ post_parts
  pub made : after ≡ with_new_commit (cleaned_message last) before

-- A hook failed in a stage before the commit. The fixes are what the stages did to the staged files, without
-- the message.
pub record HaveHooksFailed (before : Repository) (message : List ℕ) (no_verify : Bool) (skip : List (List ℕ))
    (failed : Stage) (reports : List (List ℕ)) (parts : List Part) (after : Repository) : Type 0 where
  pub config : Config
  pub told : List StageTold
  pub last : CommitState
  pub committable : IsCommittable before message
  pub configured : IsConfigured before config
  pub run : FailedAt config (changed_paths before) skip (stages_before_commit no_verify) (course_of before message) told
      failed last
  pub reported : reports ≡ reports_of told
  pub traced : parts ≡ parts_of_stages told
  pub made : after ≡ fixing (changes_between before.staged last.tree) before

-- The stages passed with these parts, and what they leave isn't committed for this reason.
pub record IsVerifiedBut (before : Repository) (message : List ℕ) (no_verify : Bool) (skip : List (List ℕ))
    (parts : List Part) (reason : List ℕ → Type 0) : Type 0 where
  pub config : Config
  pub told : List StageTold
  pub last : List ℕ
  pub verified : IsVerified before message no_verify skip config told last
  pub traced : parts ≡ parts_of_stages told
  pub why : reason (cleaned_message last)

-- Why a commit is refused, in this order. Before hooks: its message is too large, nothing is staged that
-- isn't committed, no configuration is staged, it can't be read. Then comes what stops hooks. After hooks:
-- the cleaned message is empty or too large for the store, or there are too many commits. Lack of memory
-- comes only if the message and what is staged may be committed.
abbrev pub IsCommitRefusal : Repository → List ℕ → Bool → List (List ℕ) → List Part → HostRefusal → Type 0
IsCommitRefusal before message no_verify skip parts TooLarge = (¬ IsSmall message) × (parts ≡ [])
IsCommitRefusal before message no_verify skip parts NothingStaged =
    IsSmall message × HasNothingNew before × (parts ≡ [])
IsCommitRefusal before message no_verify skip parts NoConfig =
    IsCommittable before message × LacksConfig before × (parts ≡ [])
IsCommitRefusal before message no_verify skip parts (BadConfig fault) =
    IsCommittable before message × IsMisconfigured before fault × (parts ≡ [])
IsCommitRefusal before message no_verify skip parts OutOfMemory = IsCommittable before message × (parts ≡ [])
IsCommitRefusal before message no_verify skip parts EmptyMessage =
    IsVerifiedBut before message no_verify skip parts (λ cleaned. cleaned ≡ [])
IsCommitRefusal before message no_verify skip parts TooMany =
    IsVerifiedBut before message no_verify skip parts
    (λ cleaned. (cleaned ≢ []) × IsSmall cleaned × (most_commits ≤ length before.history))
IsCommitRefusal before message no_verify skip parts refusal =
    IsCommittable before message × HasReadableConfig before × IsStop refusal × (parts ≡ [])

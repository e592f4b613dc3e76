-- What runs and commits make of what is kept. Their hooks may cache answers before, and keep contents for
-- these.
use Rattle.std.specs.Prelude.{◌≡◌, ℕ, List, Result, Ok, Err}
use Rattle.hook_base.specs.declared.change.Change.{Change}
use Rattle.repo_store.specs.Kept.{Kept, setting}
use Rattle.repo_store.specs.Repository.{with_new_commit}
use Rattle.commit_flow.specs.declared.commit_ending.CommitEnding.{CommitEnding}
use Rattle.commit_flow.specs.declared.commit_ending.CommitEnding.TheVariants.{Committed, HooksFailed}
use Rattle.commit_flow.specs.declared.host_refusal.HostRefusal.{HostRefusal}
use Rattle.commit_flow.specs.declared.staged_run.StagedRun.{StagedRun}

-- after the hooks, these fixes were set and their contents kept
pub record HasFixesSet (before after : Kept) (changes : List Change) : Type 0 where
  pub between : Kept
  pub same : between.repo ≡ before.repo
  pub made : after ≡ setting changes between

-- a refused run leaves the repository; after another run the fixes are its changes
abbrev pub KeepsForRun : Kept → Kept → Result StagedRun HostRefusal → Type 0
KeepsForRun before after (Err refusal) = after.repo ≡ before.repo
KeepsForRun before after (Ok ran) = HasFixesSet before after ran.changes

-- A refused commit leaves the repository. Otherwise there is one commit more, with some message, or some
-- changes were set as the fixes.
abbrev pub KeepsForCommit : Kept → Kept → Result CommitEnding HostRefusal → Type 0
KeepsForCommit before after (Err refusal) = after.repo ≡ before.repo
KeepsForCommit before after (Ok (Committed number reports post)) =
    (message : List ℕ) × (after.repo ≡ with_new_commit message before.repo)
KeepsForCommit before after (Ok (HooksFailed stage reports)) =
    (changes : List Change) × HasFixesSet before after changes

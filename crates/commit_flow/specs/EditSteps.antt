-- Several changes of the staged files as steps of the host, each on what those before it left. The
-- definitions say what they make together, at which one they are refused, and what a crash leaves.
use Rattle.std.specs.Prelude.{◌≡◌, ℕ, List, [], ◌∷◌, take, slice_get, Option, None, Some, Result, OnOk}
use Rattle.sqlite_trees.specs.declared.store.Store.{Ghosts}
use Rattle.sqlite_trees.specs.Tree.{Trees}
use Rattle.sqlite.specs.Held.{state}
use Rattle.sqlite.specs.State.{Survives}
use Rattle.repo_store.specs.declared.staging_edit.StagingEdit.{StagingEdit}
use Rattle.repo_store.specs.declared.staging_edit.StagingEdit.TheVariants as staging
use Rattle.repo_store.specs.Contents.{Collides}
use Rattle.repo_store.specs.Edits.{all_edited, edited}
use Rattle.repo_store.specs.Kept.{Kept}
use Rattle.repo_store.specs.Repository.{Repository}
use Rattle.repo_store.specs.Shown.{Leaves, LeavesOnly, Shown, Stands}
use Rattle.commit_flow.specs.declared.command.Command.{Command}
use Rattle.commit_flow.specs.declared.command.Command.TheVariants as command
use Rattle.commit_flow.specs.declared.host_refusal.HostRefusal.{HostRefusal}
use Rattle.commit_flow.specs.declared.host_refusal.HostRefusal.TheVariants.{OutOfMemory, Store}
use Rattle.commit_flow.specs.declared.reply.Reply.{Reply}
use Rattle.commit_flow.specs.declared.reply.Reply.TheVariants.{Added, Removed, Refused}
use Rattle.commit_flow.specs.declared.staging_stop.StagingStop.{StagingStop}
use Rattle.commit_flow.specs.Steps.{IsOfDatabase, Step}

-- the command that makes only this change
abbrev pub edit_command : StagingEdit → Command
edit_command (staging.Add path bytes asked) = command.Add path bytes asked
edit_command (staging.Remove path) = command.Remove path

-- its reply if it is done
abbrev pub edit_reply : StagingEdit → Reply
edit_reply (staging.Add path bytes asked) = Added
edit_reply (staging.Remove path) = Removed

-- ---- they are made

-- each change is one step, from the repository to which those before it led
abbrev pub AreSteps : List StagingEdit → Repository → Repository → Type 0
AreSteps [] before after = after ≡ before
AreSteps (edit ∷ edits) before after =
    (between : Repository) × Step before (edit_command edit) (edit_reply edit) [] between × AreSteps edits between after

-- ---- they are refused

-- the change at an index is refused, in the repository to which those before it led
pub record IsStepRefused (edits : List StagingEdit) (before : Repository) (refusal : HostRefusal)
    (at : ℕ) : Type 0 where
  pub reached : Repository
  pub steps : AreSteps (take at edits) before reached
  pub edit : StagingEdit
  pub is : slice_get edits at ≡ Some edit
  pub refused : Step reached (edit_command edit) (Refused refusal) [] reached

-- All are refused together: memory refuses, or the database does. The database is asked only if each change
-- is a step.
abbrev pub AreStepsRefused : List StagingEdit → Repository → HostRefusal → Type 0
AreStepsRefused edits before OutOfMemory = Unit {0}
AreStepsRefused edits before (Store fault) = IsOfDatabase fault × (after : Repository) × AreSteps edits before after
AreStepsRefused edits before refusal = ⊥

abbrev pub IsStoppedFor : List StagingEdit → Repository → HostRefusal → Option ℕ → Type 0
IsStoppedFor edits before refusal None = AreStepsRefused edits before refusal
IsStoppedFor edits before refusal (Some at) = IsStepRefused edits before refusal at

-- at which change they are refused, and why
abbrev pub IsStagingStop : List StagingEdit → Repository → StagingStop → Type 0
IsStagingStop edits before stop = IsStoppedFor edits before stop.refusal stop.at

-- ---- the contents that are kept, which aren't part of a repository

-- the contents of the file to be staged collide with some that are kept
abbrev pub EditCollides : StagingEdit → Kept → Type 0
EditCollides (staging.Add path bytes asked) kept = Collides bytes kept.contents
EditCollides (staging.Remove path) kept = ⊥

-- the contents of no file collide with some that are kept by then
abbrev pub NoEditCollides : List StagingEdit → Kept → Type 0
NoEditCollides [] kept = Unit {0}
NoEditCollides (edit ∷ edits) kept = (¬ EditCollides edit kept) × NoEditCollides edits (edited edit kept)

-- the contents of the file at an index collide with some that are kept by then
pub record CollidesAt (edits : List StagingEdit) (kept : Kept) (at : ℕ) : Type 0 where
  pub edit : StagingEdit
  pub is : slice_get edits at ≡ Some edit
  pub collides : EditCollides edit (all_edited (take at edits) kept)

-- ---- a crash

-- opened again, the trees are a store that keeps what all the changes make together, and each change is a
-- step
pub record LeavesEdited (edits : List StagingEdit) (before : Kept) (trees : Trees) : Type 0 where
  pub steps : AreSteps edits before.repo (all_edited edits before).repo
  pub leaves : Leaves (all_edited edits before) trees

-- The changes are one command: the store is changed in one transaction, or not at all. If its tables held
-- what it showed before, they hold what it shows afterwards, even after a refusal. A crash leaves what it
-- could leave before, or all that the changes make. Once they are made on a clean disk, it leaves only what
-- the store shows.
pub record AreOneCommand {S A : Type 0} (g : Ghosts S) (old new : Shown S) (edits : List StagingEdit)
    (result : Result A StagingStop) : Type 0 where
  pub stands : Stands g old.conn old.kept → Stands g new.conn new.kept
  pub crash : Survives (state g old.conn) (state g new.conn) (LeavesEdited edits old.kept)
  pub durable : OnOk result (LeavesOnly g new.conn new.kept)

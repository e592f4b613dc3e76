-- Changes of the staged files as steps of the host, from what the store's call says of them.
use Rattle.std.proofs.Common.{◌≡◌, ◌⊎◌, ℕ, List, [], ◌∷◌, take, Option, None, Some, Result, Ok, Err, refl, sym, subst, ap, inl, inr}
use Rattle.sqlite_trees.specs.declared.store.Store.{Ghosts}
use Rattle.sqlite_trees.specs.Tree.{Trees}
use Rattle.sqlite.specs.Held.{Held, state}
use Rattle.sqlite.specs.State.{Survives}
use Rattle.commit_flow.proofs.Kit.{survives_weaker}
use Rattle.hook_base.specs.declared.file.Mode.{Mode}
use Rattle.store_faults.specs.declared.fault.StoreFault.TheVariants as store
use Rattle.repo_store.specs.declared.staging_edit.StagingEdit.{StagingEdit}
use Rattle.repo_store.specs.declared.staging_edit.StagingEdit.TheVariants as staging
use Rattle.repo_store.specs.declared.staging_refusal.StagingFault.{StagingFault}
use Rattle.repo_store.specs.declared.staging_refusal.StagingFault.TheVariants.{BadPath, NotStaged, Clash, Store}
use Rattle.repo_store.specs.declared.staging_refusal.StagingRefusal.{StagingRefusal}
use Rattle.repo_store.specs.StoreBooks.{remembered_by}
use Rattle.repo_store.specs.Edits.{AreEditable, IsAddFault, IsEditFault, IsEditable, IsRefusedFor, IsRemoveFault, IsStagingRefusal, all_edited, edited}
use Rattle.repo_store.specs.Kept.{Kept}
use Rattle.repo_store.specs.Repository.{Repository}
use Rattle.repo_store.specs.Shown.{IsOneTransaction, Leaves, LeavesOnly, Shown}
use Rattle.commit_flow.specs.declared.command.Command.TheVariants.{Stage}
use Rattle.commit_flow.specs.declared.host_refusal.HostRefusal.{HostRefusal}
use Rattle.commit_flow.specs.declared.host_refusal.HostRefusal.TheVariants as refusal
use Rattle.commit_flow.specs.declared.reply.Reply.TheVariants.{EditRefused, Refused, Staged}
use Rattle.commit_flow.specs.declared.staging_stop.StagingStop.{StagingStop}
use Rattle.commit_flow.specs.Commands.{reply_of_staging}
use Rattle.commit_flow.specs.EditSteps.{AreOneCommand, AreSteps, IsStoppedFor, IsStagingStop, LeavesEdited, NoEditCollides, edit_command, edit_reply}
use Rattle.commit_flow.specs.Refusals.{of_staging, stop_of}
use Rattle.commit_flow.specs.Steps.{AreEditsMade, AreEditsStopped, IsAddRefusal, IsEditMade, IsEditRefusal, IsRemoveRefusal, Step}
use Rattle.commit_flow.specs.Stops.{IsOneCommand, LeavesDone}
use Rattle.commit_flow.proofs.CommandLemmas.{survives_itself}

-- ---- they are made

edit_step : (edit : StagingEdit) (kept : Kept) → IsEditable edit kept → Step kept.repo (edit_command edit) (edit_reply edit) [] (edited edit kept).repo
edit_step (staging.Add path bytes asked) kept is = (record { addable = record { legal = is.legal.legal; small = is.small; apart = is.clear }; fits = is.fits; made = refl }, refl)
edit_step (staging.Remove path) kept is = (record { legal = is.legal; staged = is.staged; made = refl }, refl)

pub all_steps : (edits : List StagingEdit) (kept : Kept) → AreEditable edits kept → AreSteps edits kept.repo (all_edited edits kept).repo
all_steps [] kept are = refl
all_steps (edit ∷ edits) kept are = ((edited edit kept).repo, edit_step edit kept are.0, all_steps edits (edited edit kept) are.1)

pub none_collides : (edits : List StagingEdit) (kept : Kept) → AreEditable edits kept → NoEditCollides edits kept
none_collides [] kept are = tt
none_collides (staging.Add path bytes asked ∷ edits) kept are = (are.0.apart, none_collides edits (edited (staging.Add path bytes asked) kept) are.1)
none_collides (staging.Remove path ∷ edits) kept are = ((λ collides. collides), none_collides edits (edited (staging.Remove path) kept) are.1)

-- ---- one is refused

module _ (path bytes : List ℕ) (asked : Option Mode) (kept : Kept) where
  add_refusal : (fault : StagingFault) → IsAddFault path bytes asked kept fault → IsAddRefusal kept.repo path bytes asked (of_staging fault)
  add_refusal (BadPath fault) why = why
  add_refusal NotStaged why = absurd why
  add_refusal Clash why = why
  add_refusal (Store store.NotAStore) why = absurd why.1
  add_refusal (Store store.Damaged) why = absurd why.1
  add_refusal (Store (store.Sql error)) why = (record { legal = why.0; small = why.1; apart = why.2 }, tt)
  add_refusal (Store store.OutOfMemory) why = why.0
  add_refusal (Store store.Collision) why = (record { legal = why.0; small = why.1.0; apart = why.1.1 }, why.1.2)
  add_refusal (Store store.TooLarge) why = (why.0, why.1)
  add_refusal (Store store.TooMany) why = (record { legal = why.0; small = why.1.0; apart = why.1.1 }, why.1.2)

module _ (path : List ℕ) (kept : Kept) where
  remove_refusal : (fault : StagingFault) → IsRemoveFault path kept fault → IsRemoveRefusal kept.repo path (of_staging fault)
  remove_refusal (BadPath fault) why = why
  remove_refusal NotStaged why = why
  remove_refusal Clash why = absurd why
  remove_refusal (Store store.OutOfMemory) why = why
  remove_refusal (Store store.NotAStore) why = absurd why
  remove_refusal (Store store.Damaged) why = absurd why
  remove_refusal (Store (store.Sql error)) why = absurd why
  remove_refusal (Store store.Collision) why = absurd why
  remove_refusal (Store store.TooLarge) why = absurd why
  remove_refusal (Store store.TooMany) why = absurd why

step_refused : (edit : StagingEdit) (kept : Kept) (fault : StagingFault) → IsEditFault edit kept fault → Step kept.repo (edit_command edit) (Refused (of_staging fault)) [] kept.repo
step_refused (staging.Add path bytes asked) kept fault why = ((add_refusal path bytes asked kept fault why, refl), refl)
step_refused (staging.Remove path) kept fault why = ((remove_refusal path kept fault why, refl), refl)

module _ (edits : List StagingEdit) (kept : Kept) where
  refused_for : (fault : StagingFault) (at : Option ℕ) → IsRefusedFor edits kept fault at → IsStoppedFor edits kept.repo (of_staging fault) at
  refused_for (Store (store.Sql error)) None why = (tt, (all_edited edits kept).repo, all_steps edits kept why)
  refused_for (Store store.OutOfMemory) None why = tt
  refused_for (Store store.NotAStore) None why = absurd why
  refused_for (Store store.Damaged) None why = absurd why
  refused_for (Store store.Collision) None why = absurd why
  refused_for (Store store.TooLarge) None why = absurd why
  refused_for (Store store.TooMany) None why = absurd why
  refused_for (BadPath fault) None why = absurd why
  refused_for NotStaged None why = absurd why
  refused_for Clash None why = absurd why
  refused_for fault (Some at) why = record {
    reached = (all_edited (take at edits) kept).repo;
    steps = all_steps (take at edits) kept why.before;
    edit = why.edit;
    is = why.is;
    refused = step_refused why.edit (all_edited (take at edits) kept) fault why.why;
  }

  pub is_staging_stop : (refused : StagingRefusal) → IsStagingRefusal edits kept refused → IsStagingStop edits kept.repo (stop_of refused)
  is_staging_stop refused why = refused_for refused.fault refused.at why

-- ---- a crash

module _ {S : Type 0} (g : Ghosts S) (old new : Shown S) (edits : List StagingEdit) where
  leaves_edited : AreEditable edits old.kept → Survives (state g old.conn) (state g new.conn) (Leaves (all_edited edits old.kept))
      → Survives (state g old.conn) (state g new.conn) (LeavesEdited edits old.kept)
  leaves_edited are =
      survives_weaker (state g old.conn) (state g new.conn) (Leaves (all_edited edits old.kept)) (LeavesEdited edits old.kept)
      (λ _ trees leaves. record { steps = all_steps edits old.kept are; leaves = leaves })

  leaves_or_not : (new.conn ≡ old.conn) ⊎ AreEditable edits old.kept → Survives (state g old.conn) (state g new.conn) (Leaves (all_edited edits old.kept))
      → Survives (state g old.conn) (state g new.conn) (LeavesEdited edits old.kept)
  leaves_or_not (inl same) crash =
      subst (λ (conn : Held S). Survives (state g old.conn) (state g conn) (LeavesEdited edits old.kept)) (sym same) (survives_itself (state g old.conn) (LeavesEdited edits old.kept))
  leaves_or_not (inr are) crash = leaves_edited are crash

  pub edits_refused : {A B E : Type 0} (fault : E) (stop : StagingStop) → (new.conn ≡ old.conn) ⊎ AreEditable edits old.kept
      → IsOneTransaction {A = A} g old new (Err fault) (all_edited edits old.kept) → AreOneCommand {A = B} g old new edits (Err stop)
  edits_refused fault stop why one = record { stands = λ _. one.stands; crash = leaves_or_not why one.crash; durable = tt }

  pub edits_done : {A B E : Type 0} (x : A) (y : B) → AreEditable edits old.kept → new.kept ≡ all_edited edits old.kept → IsOneTransaction {E = E} g old new (Ok x) (all_edited edits old.kept)
      → AreOneCommand {A = B} g old new edits (Ok y)
  edits_done x y are same one = record { stands = λ _. one.stands; crash = leaves_edited are one.crash; durable = subst (LeavesOnly g new.conn) (sym same) one.durable }

-- ---- as one command of the machine

step_made : (edit : StagingEdit) (before after : Repository) → Step before (edit_command edit) (edit_reply edit) [] after → IsEditMade edit before after
step_made (staging.Add path bytes asked) before after step = step.0
step_made (staging.Remove path) before after step = step.0

steps_made : (edits : List StagingEdit) (before after : Repository) → AreSteps edits before after → AreEditsMade edits before after
steps_made [] before after steps = steps
steps_made (edit ∷ edits) before after steps = (steps.0, step_made edit before steps.0 steps.1, steps_made edits steps.0 after steps.2)

step_refusal : (edit : StagingEdit) (before : Repository) (refusal : HostRefusal) → Step before (edit_command edit) (Refused refusal) [] before → IsEditRefusal edit before refusal
step_refusal (staging.Add path bytes asked) before refusal step = step.0.0
step_refusal (staging.Remove path) before refusal step = step.0.0

stopped_so : (edits : List StagingEdit) (before : Repository) (why : HostRefusal) (at : Option ℕ) → IsStoppedFor edits before why at → AreEditsStopped edits before why at
stopped_so edits before why (Some at) stop = record {
  reached = stop.reached;
  made = steps_made (take at edits) before stop.reached stop.steps;
  edit = stop.edit;
  is = stop.is;
  why = step_refusal stop.edit stop.reached why stop.refused;
}
stopped_so edits before refusal.OutOfMemory None stop = tt
stopped_so edits before (refusal.Store fault) None stop = (stop.0, stop.1, steps_made edits before stop.1 stop.2)
stopped_so edits before why None stop = absurd stop

pub edits_remember : (edits : List StagingEdit) (kept : Kept) → remembered_by (all_edited edits kept) ≡ remembered_by kept
edits_remember [] kept = refl
edits_remember (staging.Add path bytes asked ∷ edits) kept = edits_remember edits (edited (staging.Add path bytes asked) kept)
edits_remember (staging.Remove path ∷ edits) kept = edits_remember edits (edited (staging.Remove path) kept)

pub edits_step : (edits : List StagingEdit) (kept : Kept) → AreEditable edits kept → Step kept.repo (Stage edits) Staged [] (all_edited edits kept).repo
edits_step edits kept are = (steps_made edits kept.repo (all_edited edits kept).repo (all_steps edits kept are), refl)

pub edits_step_refused : (edits : List StagingEdit) (kept new : Kept) (refused : StagingRefusal) → IsStagingRefusal edits kept refused → new ≡ kept
    → Step kept.repo (Stage edits) (EditRefused (stop_of refused)) [] new.repo
edits_step_refused edits kept new refused why same =
    let stop = stop_of refused in
    (stopped_so edits kept.repo stop.refusal stop.at (is_staging_stop edits kept refused why), refl, ap (λ (at : Kept). at.repo) same)

module _ {S : Type 0} (g : Ghosts S) (old new : Shown S) (edits : List StagingEdit) where
  edited_done : (trees : Trees) → LeavesEdited edits old.kept trees → LeavesDone old.kept (Stage edits) trees
  edited_done trees left = record {
    kept = all_edited edits old.kept;
    reply = Staged;
    done = tt;
    step = (steps_made edits old.kept.repo (all_edited edits old.kept).repo left.steps, refl);
    remembers = edits_remember edits old.kept;
    leaves = left.leaves;
  }

  leaves_done : Survives (state g old.conn) (state g new.conn) (LeavesEdited edits old.kept) → Survives (state g old.conn) (state g new.conn) (LeavesDone old.kept (Stage edits))
  leaves_done = survives_weaker (state g old.conn) (state g new.conn) (LeavesEdited edits old.kept) (LeavesDone old.kept (Stage edits)) (λ _ trees left. edited_done trees left)

  pub staged_command : {A : Type 0} (result : Result A StagingStop) → AreOneCommand g old new edits result → IsOneCommand g old new (Stage edits) (reply_of_staging result)
  staged_command (Ok x) one = record { stands = one.stands; crash = leaves_done one.crash; durable = λ _. one.durable }
  staged_command (Err stop) one = record { stands = one.stands; crash = leaves_done one.crash; durable = λ done. absurd done }

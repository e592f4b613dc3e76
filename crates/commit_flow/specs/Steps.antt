-- The host as a machine: what each command may answer, and what it makes of the repository. A command that is
-- added to the definitions gets a case in `Step` and one in `IsRefused`; its reply gets one in `IsDone` of
-- `specs/Commands.antt`.
use Rattle.std.specs.Prelude.{◌≡◌, ◌≢◌, ℕ, List, [], ◌∷◌, length, take, slice_get, Option, None, Some, option_map, unwrap_or}
use Rattle.hook_base.specs.declared.file.File.{File}
use Rattle.hook_base.specs.declared.file.FileEntry.{FileEntry}
use Rattle.hook_base.specs.declared.file.Mode.{Mode}
use Rattle.hook_base.specs.declared.file.Mode.TheVariants.{Plain}
use Rattle.hook_base.specs.Paths.{path_fault}
use Rattle.hook_base.specs.Trees.{entry_of, put_file}
use Rattle.store_faults.specs.declared.fault.StoreFault.{StoreFault}
use Rattle.store_faults.specs.declared.fault.StoreFault.TheVariants.{Sql}
use Rattle.repo_store.specs.declared.staging_edit.StagingEdit.{StagingEdit}
use Rattle.repo_store.specs.declared.staging_edit.StagingEdit.TheVariants as staging
use Rattle.repo_store.specs.Clashes.{Clashes}
use Rattle.store_faults.specs.Limits.{Fits, IsSmall}
use Rattle.repo_store.specs.Repository.{Repository, accepted, with_staged_file, without_staged_file}
use Rattle.commit_flow.specs.declared.command.Command.{Command}
use Rattle.commit_flow.specs.declared.command.Command.TheVariants.{Add, Remove, Stage, Accept, Run, Message, Commit, Forget, Limit}
use Rattle.commit_flow.specs.declared.host_refusal.HostRefusal.{HostRefusal}
use Rattle.commit_flow.specs.declared.host_refusal.HostRefusal.TheVariants.{OutOfMemory, Store, BadPath, NotStaged, TooLarge, TooMany, NoFixes, Collision, Clash}
use Rattle.commit_flow.specs.declared.reply.Reply.{Reply}
use Rattle.commit_flow.specs.declared.reply.Reply.TheVariants.{Added, Removed, Staged, Accepted, Ran, MessageRan, Committed, HooksFailed, Forgot, Limited, EditRefused, Refused}
use Rattle.hook_run.specs.Parts.{Part}
use Rattle.commit_flow.specs.Commits.{HaveHooksFailed, IsCommitted, IsCommitRefusal}
use Rattle.commit_flow.specs.MessageRuns.{IsMessageRan, IsMessageRefusal}
use Rattle.commit_flow.specs.RunRefusals.{IsRunRefusal}
use Rattle.commit_flow.specs.Runs.{IsRan}
pub use Rattle.commit_flow.specs.StagedPaths.{IsLegal, IsStaged}

-- the refusal is the database's own
abbrev pub IsOfDatabase : StoreFault → Type 0
IsOfDatabase (Sql error) = Unit {0}
IsOfDatabase fault = ⊥

-- ---- a file is added

-- the mode that is asked for; otherwise that of the staged file at the path; otherwise plain
abbrev pub mode_to_add : Option Mode → Option FileEntry → Mode
mode_to_add asked staged = unwrap_or asked (unwrap_or (option_map (λ (entry : FileEntry). entry.mode) staged) Plain)

abbrev pub entry_to_add : Repository → List ℕ → List ℕ → Option Mode → FileEntry
entry_to_add before path bytes asked = record { mode = mode_to_add asked (entry_of path before.staged); bytes = bytes }

-- the staged files with this one among them
abbrev pub tree_with : Repository → List ℕ → List ℕ → Option Mode → List File
tree_with before path bytes asked = put_file path (entry_to_add before path bytes asked) before.staged

-- what a file must be to be added; the limits of the staged files aren't part of it
pub record IsAddable (before : Repository) (path bytes : List ℕ) : Type 0 where
  pub legal : IsLegal path
  pub small : IsSmall bytes
  pub apart : ¬ Clashes path before.staged

-- a file is added, and the fixes are removed
pub record IsAdded (before : Repository) (path bytes : List ℕ) (asked : Option Mode) (after : Repository) : Type 0 where
  pub addable : IsAddable before path bytes
  pub fits : Fits (tree_with before path bytes asked)
  pub made : after ≡ with_staged_file path (entry_to_add before path bytes asked) before

-- Why a file isn't addable, in this order: its path is no path, it has too many bytes, or its path and a
-- staged one clash. Lack of memory comes after a fault of the path.
abbrev pub IsUnaddable : Repository → List ℕ → List ℕ → HostRefusal → Type 0
IsUnaddable before path bytes (BadPath fault) = path_fault path ≡ Some fault
IsUnaddable before path bytes TooLarge = IsLegal path × (¬ IsSmall bytes)
IsUnaddable before path bytes Clash = IsLegal path × IsSmall bytes × Clashes path before.staged
IsUnaddable before path bytes OutOfMemory = IsLegal path
IsUnaddable before path bytes refusal = ⊥

-- Why an addable file isn't added: with it the staged files break a limit, its contents collide with others
-- that are kept, or the database refuses. The kept contents aren't part of a repository, so a clause of the
-- call says when they collide.
abbrev pub IsAddRefusal : Repository → List ℕ → List ℕ → Option Mode → HostRefusal → Type 0
IsAddRefusal before path bytes asked TooMany =
    IsAddable before path bytes × (¬ Fits (tree_with before path bytes asked))
IsAddRefusal before path bytes asked Collision = IsAddable before path bytes × Fits (tree_with before path bytes asked)
IsAddRefusal before path bytes asked (Store fault) = IsAddable before path bytes × IsOfDatabase fault
IsAddRefusal before path bytes asked refusal = IsUnaddable before path bytes refusal

-- ---- a file is removed

-- a path is no longer staged, and the fixes are removed
pub record IsRemoved (before : Repository) (path : List ℕ) (after : Repository) : Type 0 where
  pub legal : IsLegal path
  pub staged : IsStaged path before
  pub made : after ≡ without_staged_file path before

-- Why a path isn't removed, in this order: it is no path, it isn't staged, or the database refuses. Lack of
-- memory comes after a fault of the path.
abbrev pub IsRemoveRefusal : Repository → List ℕ → HostRefusal → Type 0
IsRemoveRefusal before path (BadPath fault) = path_fault path ≡ Some fault
IsRemoveRefusal before path NotStaged = IsLegal path × (¬ IsStaged path before)
IsRemoveRefusal before path (Store fault) = IsLegal path × IsStaged path before × IsOfDatabase fault
IsRemoveRefusal before path OutOfMemory = IsLegal path
IsRemoveRefusal before path refusal = ⊥

-- ---- several changes, all or none

-- what one of them makes
abbrev pub IsEditMade : StagingEdit → Repository → Repository → Type 0
IsEditMade (staging.Add path bytes asked) before after = IsAdded before path bytes asked after
IsEditMade (staging.Remove path) before after = IsRemoved before path after

-- why it isn't made
abbrev pub IsEditRefusal : StagingEdit → Repository → HostRefusal → Type 0
IsEditRefusal (staging.Add path bytes asked) before refusal = IsAddRefusal before path bytes asked refusal
IsEditRefusal (staging.Remove path) before refusal = IsRemoveRefusal before path refusal

-- they are made in order, each of what the one before it left
abbrev pub AreEditsMade : List StagingEdit → Repository → Repository → Type 0
AreEditsMade [] before after = after ≡ before
AreEditsMade (first ∷ edits) before after =
    (between : Repository) × IsEditMade first before between × AreEditsMade edits between after

-- the change at an index is refused, of what those before it made
pub record IsEditRefusedAt (edits : List StagingEdit) (before : Repository) (refusal : HostRefusal)
    (at : ℕ) : Type 0 where
  pub reached : Repository
  pub made : AreEditsMade (take at edits) before reached
  pub edit : StagingEdit
  pub is : slice_get edits at ≡ Some edit
  pub why : IsEditRefusal edit reached refusal

-- Memory refuses all together, or the database does, which is asked only if each of them can be made.
abbrev pub AreEditsRefused : List StagingEdit → Repository → HostRefusal → Type 0
AreEditsRefused edits before OutOfMemory = Unit {0}
AreEditsRefused edits before (Store fault) = IsOfDatabase fault × (after : Repository) × AreEditsMade edits before after
AreEditsRefused edits before refusal = ⊥

-- the change at an index is refused, or all together are
abbrev pub AreEditsStopped : List StagingEdit → Repository → HostRefusal → Option ℕ → Type 0
AreEditsStopped edits before refusal None = AreEditsRefused edits before refusal
AreEditsStopped edits before refusal (Some at) = IsEditRefusedAt edits before refusal at

-- ---- the fixes are accepted

-- there are fixes
abbrev pub HasFixes : Repository → Type 0
HasFixes repo = repo.fixes ≢ []

-- the fixes, whose number this is, are applied to the staged files and removed
pub record IsAccepted (before : Repository) (number : ℕ) (after : Repository) : Type 0 where
  pub some : HasFixes before
  pub counted : number ≡ length before.fixes
  pub made : after ≡ accepted before

-- why fixes aren't accepted: there are none; otherwise memory or the database refuses
abbrev pub IsAcceptRefusal : Repository → HostRefusal → Type 0
IsAcceptRefusal before NoFixes = before.fixes ≡ []
IsAcceptRefusal before OutOfMemory = HasFixes before
IsAcceptRefusal before (Store fault) = HasFixes before × IsOfDatabase fault
IsAcceptRefusal before refusal = ⊥

-- ---- the cached results are forgotten

-- why they aren't forgotten: memory or the database refuses
abbrev pub IsForgetRefusal : HostRefusal → Type 0
IsForgetRefusal OutOfMemory = Unit {0}
IsForgetRefusal (Store fault) = IsOfDatabase fault
IsForgetRefusal refusal = ⊥

-- ---- the steps

-- The command may be refused so, and the refusal rests on these parts.
abbrev pub IsRefused : Repository → Command → List Part → HostRefusal → Type 0
IsRefused before (Add path bytes asked) parts refusal = IsAddRefusal before path bytes asked refusal × (parts ≡ [])
IsRefused before (Remove path) parts refusal = IsRemoveRefusal before path refusal × (parts ≡ [])
IsRefused before (Stage edits) parts refusal = ⊥
IsRefused before Accept parts refusal = IsAcceptRefusal before refusal × (parts ≡ [])
IsRefused before (Run ask) parts refusal = IsRunRefusal before ask refusal × (parts ≡ [])
IsRefused before (Message ask message) parts refusal = IsMessageRefusal before message refusal × (parts ≡ [])
IsRefused before (Commit message no_verify skip) parts refusal =
    IsCommitRefusal before message no_verify skip parts refusal
IsRefused before Forget parts refusal = IsForgetRefusal refusal × (parts ≡ [])
IsRefused before (Limit most) parts refusal = IsForgetRefusal refusal × (parts ≡ [])

-- The command may answer so, and then leaves this repository; after a refusal it is the one before. The parts
-- are those that the reply rests on, in order. A stopped run has none, and neither has a run whose fixes or
-- commit memory or the store refused. So they say which outcomes of children the reply is about, and how many
-- of them were faults. The step doesn't say how many results were forgotten, since that depends on what is
-- cached.
abbrev pub Step : Repository → Command → Reply → List Part → Repository → Type 0
Step before (Add path bytes asked) Added parts after = IsAdded before path bytes asked after × (parts ≡ [])
Step before (Remove path) Removed parts after = IsRemoved before path after × (parts ≡ [])
Step before (Stage edits) Staged parts after = AreEditsMade edits before after × (parts ≡ [])
Step before (Stage edits) (EditRefused stop) parts after =
    AreEditsStopped edits before stop.refusal stop.at × (parts ≡ []) × (after ≡ before)
Step before Accept (Accepted number) parts after = IsAccepted before number after × (parts ≡ [])
Step before (Run ask) (Ran passed report changes unsteady) parts after =
    IsRan before ask passed report changes unsteady parts after
Step before (Message ask message) (MessageRan passed report left) parts after =
    IsMessageRan before ask message passed report left parts after
Step before (Commit message no_verify skip) (Committed number reports post) parts after =
    IsCommitted before message no_verify skip number reports post parts after
Step before (Commit message no_verify skip) (HooksFailed stage reports) parts after =
    HaveHooksFailed before message no_verify skip stage reports parts after
Step before Forget (Forgot number) parts after = (after ≡ before) × (parts ≡ [])
Step before (Limit most) (Limited number) parts after = (after ≡ before) × (parts ≡ [])
Step before command (Refused refusal) parts after = IsRefused before command parts refusal × (after ≡ before)
Step before command reply parts after = ⊥

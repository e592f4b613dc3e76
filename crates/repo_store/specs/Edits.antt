-- Several changes of the staged files that are requested together: their result, and why one is refused
-- (docs/REFERENCE.md, "The store").
use Rattle.std.specs.Prelude.{◌≡◌, ℕ, List, [], ◌∷◌, take, slice_get, Option, None, Some, IsSome, option_map, unwrap_or}
use Rattle.hook_base.specs.declared.file.File.{File}
use Rattle.hook_base.specs.declared.file.FileEntry.{FileEntry}
use Rattle.hook_base.specs.declared.file.Mode.{Mode}
use Rattle.hook_base.specs.declared.file.Mode.TheVariants.{Plain}
use Rattle.hook_base.specs.declared.path_fault.PathFault.{PathFault}
use Rattle.hook_base.specs.declared.path_fault.PathFault.TheVariants as path
use Rattle.hook_base.specs.Paths.{path_fault}
use Rattle.hook_base.specs.Trees.{entry_of, put_file}
use Rattle.store_faults.specs.declared.fault.StoreFault.TheVariants.{OutOfMemory, Sql}
use Rattle.repo_store.specs.declared.staging_edit.StagingEdit.{StagingEdit}
use Rattle.repo_store.specs.declared.staging_edit.StagingEdit.TheVariants.{Add, Remove}
use Rattle.repo_store.specs.declared.staging_refusal.StagingFault.{StagingFault}
use Rattle.repo_store.specs.declared.staging_refusal.StagingFault.TheVariants.{BadPath, NotStaged, Clash, Store}
use Rattle.repo_store.specs.declared.staging_refusal.StagingRefusal.{StagingRefusal}
use Rattle.repo_store.specs.Clashes.{Clashes}
use Rattle.repo_store.specs.Contents.{Collides}
use Rattle.store_faults.specs.Faults.{IsRefusal}
use Rattle.repo_store.specs.Kept.{Kept, staging, unstaging}
use Rattle.store_faults.specs.Limits.{Fits, IsSmall}
use Rattle.repo_store.specs.RowRules.{IsPathText}

-- the fault for a fault of a path: lack of memory is the store's
abbrev pub staging_fault_of_path : PathFault → StagingFault
staging_fault_of_path path.OutOfMemory = Store OutOfMemory
staging_fault_of_path fault = BadPath fault

-- the requested mode, otherwise that of the staged file at the path, otherwise plain
abbrev pub mode_to_stage : Option Mode → Option FileEntry → Mode
mode_to_stage asked staged = unwrap_or asked (unwrap_or (option_map (λ (entry : FileEntry). entry.mode) staged) Plain)

abbrev pub entry_to_stage : List ℕ → List ℕ → Option Mode → List File → FileEntry
entry_to_stage path bytes asked staged = record { mode = mode_to_stage asked (entry_of path staged); bytes = bytes }

-- the staged files with this one among them
abbrev pub tree_to_stage : List ℕ → List ℕ → Option Mode → List File → List File
tree_to_stage path bytes asked staged = put_file path (entry_to_stage path bytes asked staged) staged

-- ---- their result

-- a file is staged, or a path is removed from the staged files
abbrev pub edited : StagingEdit → Kept → Kept
edited (Add path bytes asked) kept = staging path (entry_to_stage path bytes asked kept.repo.staged) kept
edited (Remove path) kept = unstaging path kept

-- each is made of what those before it left
abbrev pub all_edited : List StagingEdit → Kept → Kept
all_edited [] kept = kept
all_edited (edit ∷ edits) kept = all_edited edits (edited edit kept)

-- ---- when they are made

-- a file that can be staged
pub record IsStageable (path bytes : List ℕ) (asked : Option Mode) (kept : Kept) : Type 0 where
  pub legal : IsPathText path
  pub small : IsSmall bytes
  pub clear : ¬ Clashes path kept.repo.staged
  pub fits : Fits (tree_to_stage path bytes asked kept.repo.staged)
  pub apart : ¬ Collides bytes kept.contents

-- a path that can be removed
pub record IsTakeable (path : List ℕ) (kept : Kept) : Type 0 where
  pub legal : path_fault path ≡ None
  pub staged : IsSome (entry_of path kept.repo.staged)

abbrev pub IsEditable : StagingEdit → Kept → Type 0
IsEditable (Add path bytes asked) kept = IsStageable path bytes asked kept
IsEditable (Remove path) kept = IsTakeable path kept

-- each can be made, after those before it
abbrev pub AreEditable : List StagingEdit → Kept → Type 0
AreEditable [] kept = Unit {0}
AreEditable (edit ∷ edits) kept = IsEditable edit kept × AreEditable edits (edited edit kept)

-- ---- when they are refused

-- Why a file isn't staged, in this order: no valid path, too many bytes, a clash with a staged path, a staged
-- tree over a limit, or a collision of its contents with others. Lack of memory comes after a fault of the
-- path.
abbrev pub IsAddFault : List ℕ → List ℕ → Option Mode → Kept → StagingFault → Type 0
IsAddFault path bytes asked kept (BadPath fault) = path_fault path ≡ Some fault
IsAddFault path bytes asked kept NotStaged = ⊥
IsAddFault path bytes asked kept Clash = (path_fault path ≡ None) × IsSmall bytes × Clashes path kept.repo.staged
IsAddFault path bytes asked kept (Store (Sql error)) =
    (path_fault path ≡ None) × IsSmall bytes × (¬ Clashes path kept.repo.staged)
IsAddFault path bytes asked kept (Store fault) =
    (path_fault path ≡ None)
    × IsRefusal (¬ IsSmall bytes) (IsSmall bytes × (¬ Clashes path kept.repo.staged)
    × (¬ Fits (tree_to_stage path bytes asked kept.repo.staged)))
    (IsSmall bytes × (¬ Clashes path kept.repo.staged) × Fits (tree_to_stage path bytes asked kept.repo.staged)
    × Collides bytes kept.contents) fault

-- why a path isn't removed, in this order: it is no valid path, it isn't staged
abbrev pub IsRemoveFault : List ℕ → Kept → StagingFault → Type 0
IsRemoveFault path kept (BadPath fault) = path_fault path ≡ Some fault
IsRemoveFault path kept NotStaged = (path_fault path ≡ None) × (¬ IsSome (entry_of path kept.repo.staged))
IsRemoveFault path kept Clash = ⊥
IsRemoveFault path kept (Store OutOfMemory) = path_fault path ≡ None
IsRemoveFault path kept (Store fault) = ⊥

abbrev pub IsEditFault : StagingEdit → Kept → StagingFault → Type 0
IsEditFault (Add path bytes asked) kept fault = IsAddFault path bytes asked kept fault
IsEditFault (Remove path) kept fault = IsRemoveFault path kept fault

-- the edit at an index is refused, after those before it could be made
pub record IsRefusedAt (edits : List StagingEdit) (kept : Kept) (fault : StagingFault) (at : ℕ) : Type 0 where
  pub before : AreEditable (take at edits) kept
  pub edit : StagingEdit
  pub is : slice_get edits at ≡ Some edit
  pub why : IsEditFault edit (all_edited (take at edits) kept) fault

-- All are refused together: either all could be made and the database refuses, or memory is refused.
abbrev pub IsRefusedTogether : List StagingEdit → Kept → StagingFault → Type 0
IsRefusedTogether edits kept (Store (Sql error)) = AreEditable edits kept
IsRefusedTogether edits kept (Store OutOfMemory) = Unit {0}
IsRefusedTogether edits kept fault = ⊥

abbrev pub IsRefusedFor : List StagingEdit → Kept → StagingFault → Option ℕ → Type 0
IsRefusedFor edits kept fault None = IsRefusedTogether edits kept fault
IsRefusedFor edits kept fault (Some at) = IsRefusedAt edits kept fault at

-- which edit is refused, and why
abbrev pub IsStagingRefusal : List StagingEdit → Kept → StagingRefusal → Type 0
IsStagingRefusal edits kept refusal = IsRefusedFor edits kept refusal.fault refusal.at

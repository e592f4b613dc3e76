-- For private functions of the modules `edits` and `lists::staging`: changes of the staged files as they are
-- made, in memory and in the rows.
use Rattle.std.specs.Prelude.{◌≡◌, ℕ, not, List, [], ◌∷◌, filter, length, take, map, Option, None, Some, option_map}
use Rattle.std.specs.Str.{bytes_eq}
use Rattle.hook_base.specs.declared.file.FileEntry.{FileEntry}
use Rattle.store_tables.specs.declared.rows.StagedRow.{StagedRow}
use Rattle.repo_store.specs.declared.shared_edit.SharedEdit.{SharedEdit}
use Rattle.repo_store.specs.declared.staging_edit.StagingEdit.{StagingEdit}
use Rattle.repo_store.specs.declared.staging_edit.StagingEdit.TheVariants.{Add, Remove}
use Rattle.repo_store.specs.declared.lists.staging.Before.{Before}
use Rattle.repo_store.specs.Accepted.{with_entry_at}
use Rattle.repo_store.specs.Edits.{edited, entry_to_stage}
use Rattle.repo_store.specs.Kept.{Kept}
use Rattle.store_faults.specs.Limits.{path_bytes}
use Rattle.repo_store.specs.Lists.{entry_in, file_of, fix_of}

-- what a path has from then on, or that it has nothing
pub record PathEdit : Type 0 where
  pub path : List ℕ
  pub entry : Option FileEntry

abbrev pub edit_of : SharedEdit → PathEdit
edit_of shared = record { path = shared.path; entry = option_map entry_in shared.file }

-- what a requested edit gives to its path
abbrev pub made_edit : StagingEdit → Kept → PathEdit
made_edit (Add path bytes asked) kept =
    record { path = path; entry = Some (entry_to_stage path bytes asked kept.repo.staged) }
made_edit (Remove path) kept = record { path = path; entry = None }

-- each after those before it
abbrev pub made_edits : List StagingEdit → Kept → List PathEdit
made_edits [] kept = []
made_edits (edit ∷ edits) kept = made_edit edit kept ∷ made_edits edits (edited edit kept)

-- ---- the rows of the staged files

abbrev pub edited_rows : PathEdit → List StagedRow → List StagedRow
edited_rows edit rows = with_entry_at edit.path edit.entry (filter (λ row. not (bytes_eq row.path edit.path)) rows)

abbrev pub all_rows : List PathEdit → List StagedRow → List StagedRow
all_rows [] rows = rows
all_rows (edit ∷ edits) rows = all_rows edits (edited_rows edit rows)

-- ---- in memory

-- what was kept is a part of what is kept, except the staged files and the fixes
pub record IsLonger (old new : Kept) : Type 0 where
  pub history : new.repo.history ≡ old.repo.history
  pub answers : new.answers ≡ old.answers
  pub limit : new.limit ≡ old.limit
  pub front : take (length old.contents) new.contents ≡ old.contents

-- what is restored if an edit is refused
pub record IsBefore (kept : Kept) (before : Before) : Type 0 where
  pub staged : map file_of before.staged.items ≡ kept.repo.staged
  pub bytes : before.staged_bytes ≡ path_bytes kept.repo.staged
  pub fixes : map fix_of before.fixes.items ≡ kept.repo.fixes
  pub count : before.count ≡ length kept.contents

-- The fix that a call undoes by what it stages.
use Rattle.std.specs.Prelude.{ℕ, if◌then◌else◌, List, [], ◌∷◌, Option, None, Some}
use Rattle.std.specs.Str.{bytes_eq}
use Rattle.hook_base.specs.declared.change.Change.{Change}
use Rattle.repo_store.specs.Repository.{fixed_bytes}
use Rattle.repo_store.specs.declared.staging_edit.StagingEdit.{StagingEdit}
use Rattle.repo_store.specs.declared.staging_edit.StagingEdit.TheVariants as edit
use Rattle.commit_flow.specs.declared.command.Command.{Command}
use Rattle.commit_flow.specs.declared.command.Command.TheVariants as command
use Rattle.hookhost.specs.Names.{path_named}
use Rattle.hookhost.specs.declared.store_call.StoreCall.{StoreCall}
use Rattle.hookhost.specs.declared.store_call.StoreCall.TheVariants as call

-- a fix that gives these bytes isn't undone by them, and a fix that removes the file isn't either
abbrev pub undone_unless : List ℕ → List ℕ → Option (List ℕ) → Option (List ℕ)
undone_unless path bytes None = None
undone_unless path bytes (Some fixed) = if bytes_eq fixed bytes then None else Some path

abbrev pub undone_of_path : List Change → Option (List ℕ) → List ℕ → Option (List ℕ)
undone_of_path fixes None bytes = None
undone_of_path fixes (Some path) bytes = undone_unless path bytes (fixed_bytes path fixes)

-- the path, if its fix gives other bytes to it than these
abbrev pub undone_at : List Change → List ℕ → List ℕ → Option (List ℕ)
undone_at fixes name bytes = undone_of_path fixes (path_named name) bytes

abbrev pub undone_by_edit : List Change → StagingEdit → Option (List ℕ)
undone_by_edit fixes (edit.Add path bytes mode) = undone_at fixes path bytes
undone_by_edit fixes (edit.Remove path) = None

abbrev pub path_or_later : Option (List ℕ) → Option (List ℕ) → Option (List ℕ)
path_or_later None later = later
path_or_later (Some path) later = Some path

-- the path of the first edit that undoes a fix
abbrev pub undone_among : List Change → List StagingEdit → Option (List ℕ)
undone_among fixes [] = None
undone_among fixes (edit ∷ edits) = path_or_later (undone_by_edit fixes edit) (undone_among fixes edits)

abbrev pub undone_by_command : List Change → Command → Option (List ℕ)
undone_by_command fixes (command.Add path bytes mode) = undone_at fixes path bytes
undone_by_command fixes (command.Stage edits) = undone_among fixes edits
undone_by_command fixes other = None

abbrev pub undone_by_call : List Change → StoreCall → Option (List ℕ)
undone_by_call fixes (call.Command asked) = undone_by_command fixes asked
undone_by_call fixes other = None

-- How the parts of one hook end it.
use Rattle.std.specs.Prelude.{ℕ, Bool, true, not, ◌&&◌, max, List, [], ◌∷◌, ◌++◌, Option, None, Some}
use Rattle.std.specs.List.{list_any}
use Rattle.std.specs.Str.{bytes_eq}
use Rattle.hook_base.specs.Paths.{message_path}
use Rattle.hook_base.specs.Trees.{entry_of}
use Rattle.hook_base.specs.declared.file.File.{File}
use Rattle.hook_base.specs.declared.file.FileEntry.{FileEntry}
use Rattle.child_port.specs.declared.answer.Outcome.{Outcome}
use Rattle.child_port.specs.declared.answer.Outcome.TheVariants.{Done, Failed}
use Rattle.report_text.specs.declared.hook_result.Ending.{Ending}
use Rattle.report_text.specs.declared.hook_result.Ending.TheVariants.{Ran}
use Rattle.report_text.specs.declared.hook_result.LineFault.{LineFault}
use Rattle.report_text.specs.declared.hook_result.LineFault.TheVariants.{Child}
use Rattle.hook_run.specs.Parts.{Part, after_parts}

abbrev pub status_in : Outcome → ℕ
status_in (Done answer) = answer.status
status_in (Failed fault) = 0

abbrev pub output_in : Outcome → List ℕ
output_in (Done answer) = answer.output
output_in (Failed fault) = []

abbrev pub line_faults_in : Outcome → List LineFault
line_faults_in (Done answer) = []
line_faults_in (Failed fault) = Child fault ∷ []

-- the greatest status of the parts that completed, 0 if none did (`pre_commit.xargs.xargs`)
abbrev pub greatest_status : List Part → ℕ
greatest_status [] = 0
greatest_status (part ∷ parts) = max (status_in part.outcome) (greatest_status parts)

-- the outputs of the parts that completed, joined (`pre_commit.xargs.xargs`)
abbrev pub joined_output : List Part → List ℕ
joined_output [] = []
joined_output (part ∷ parts) = output_in part.outcome ++ joined_output parts

-- the faults of the other parts, in order
abbrev pub line_faults : List Part → List LineFault
line_faults [] = []
line_faults (part ∷ parts) = line_faults_in part.outcome ++ line_faults parts

-- a part gave another answer than the cached one
abbrev pub is_unsteady : List Part → Bool
is_unsteady parts = list_any (λ part. part.unsteady) parts

-- the message of a commit isn't tracked: Git keeps it in `.git/COMMIT_EDITMSG` (git-commit(1), "FILES")
abbrev pub is_tracked : File → Bool
is_tracked row = not (bytes_eq row.path message_path)

-- the file at the row's path is gone, or has other bytes; modes don't count
abbrev pub has_changed : File → Option FileEntry → Bool
has_changed row None = true
has_changed row (Some entry) = not (bytes_eq row.entry.bytes entry.bytes)

-- the row is that of a tracked file, which is gone from the tree, or has other bytes there
abbrev pub is_modified_row : List File → File → Bool
is_modified_row after row = is_tracked row && has_changed row (entry_of row.path after)

-- a tracked file of the first tree is gone from the second, or has other bytes there
-- (`pre_commit.commands.run._get_diff`)
abbrev pub is_modified : List File → List File → Bool
is_modified before after = list_any (is_modified_row after) before

-- how a hook ends that began on this tree and has these parts
abbrev pub ending_of_parts : List File → List Part → Ending
ending_of_parts tree parts =
    Ran (greatest_status parts) (line_faults parts) (is_modified tree (after_parts tree parts)) (joined_output parts)

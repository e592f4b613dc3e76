-- Several changes of the staged files over a repository: what they do, and what is printed of a refusal.
-- (docs/REFERENCE.md, "Several files".)
use Rattle.std.specs.Prelude.{◌≡◌, ℕ, List, [], ◌++◌, codes, Option, None, Some, MatchOption, MatchResult, Result, IfErr, OnOk, option_and_then, option_map, slice_get}
use Rattle.sqlite_trees.specs.declared.store.Store.{Ghosts}
use Rattle.report_text.specs.Report.{line}
use Rattle.repo_store.specs.AllOrNothing.{IsAllOrNothing}
use Rattle.repo_store.specs.Edits.{all_edited}
use Rattle.repo_store.specs.declared.staging_edit.StagingEdit.{StagingEdit}
use Rattle.repo_store.specs.declared.staging_edit.StagingEdit.TheVariants.{Add, Remove}
use Rattle.commit_flow.specs.declared.command.Command.TheVariants.{Stage}
use Rattle.commit_flow.specs.Commands.{reply_of_staging}
use Rattle.commit_flow.specs.EditSteps.{AreOneCommand, AreSteps, CollidesAt, IsStagingStop, NoEditCollides}
use Rattle.commit_flow.specs.declared.host.Host.{Host}
use Rattle.commit_flow.specs.declared.host_refusal.HostRefusal.TheVariants.{Collision}
use Rattle.commit_flow.specs.declared.staging_stop.StagingStop.{StagingStop}
use Rattle.commit_flow.specs.Steps.{Step}
use Rattle.commit_flow.specs.Stops.{IsOneCommand}
use Rattle.text_output.specs.Outputs.{IsSilent, Output}
use Rattle.text_output.specs.QuotedPaths.{told_path}
use Rattle.hook_cli.specs.declared.command_ending.CommandEnding.{CommandEnding}
use Rattle.hook_cli.specs.declared.command_ending.CommandEnding.TheVariants.{Done, Refused}
use Rattle.hook_cli.specs.Printing.{IsPrintedOnStandardError}
use Rattle.hook_cli.specs.RefusalText.{refusal_text}

-- the path of a change
abbrev pub path_of_edit : StagingEdit → List ℕ
path_of_edit (Add path bytes mode) = path
path_of_edit (Remove path) = path

-- the path of the change at an index
abbrev pub path_at : List StagingEdit → Option ℕ → Option (List ℕ)
path_at edits at = option_and_then (λ index. option_map path_of_edit (slice_get edits index)) at

-- the path at which changes are refused
abbrev pub at_path_text : List ℕ → List ℕ
at_path_text path = line (codes "hookhost: at " ++ told_path path)

abbrev pub at_text : Option (List ℕ) → List ℕ
at_text None = []
at_text (Some path) = at_path_text path

-- why changes are refused, and at which path, if one of them is refused alone
abbrev pub stop_text : List StagingEdit → StagingStop → List ℕ
stop_text edits stop = refusal_text stop.refusal ++ at_text (path_at edits stop.at)

-- changes that are made print nothing
abbrev pub IsStagingTold : List StagingEdit → Result (Unit {0}) StagingStop → Output → CommandEnding → Type 0
IsStagingTold edits result err ending =
    MatchResult result (λ _. IsSilent err × (ending ≡ Done))
    (λ stop. IsPrintedOnStandardError Refused err (stop_text edits stop) ending)

-- One call of the host makes the changes, all or none, and its answer is printed. Together they are one step
-- of the host's machine. If they are made, each is a step too, from where the one before it led. If not, the
-- first refused one is reported. A crash leaves none of them, or all.
pub record AreStaged {S : Type 0} (g : Ghosts S) (old new : Host S) (edits : List StagingEdit) (err : Output)
    (ending : CommandEnding) : Type 0 where
  pub answer : Result (Unit {0}) StagingStop
  pub step : Step old.store.kept.repo (Stage edits) (reply_of_staging answer) [] new.store.kept.repo
  pub change : IsAllOrNothing old.store.kept new.store.kept answer (all_edited edits old.store.kept)
  pub steps : OnOk answer (AreSteps edits old.store.kept.repo new.store.kept.repo)
  pub refused : IfErr answer (IsStagingStop edits old.store.kept.repo)
  pub one : IsOneCommand g old.store new.store (Stage edits) (reply_of_staging answer)
  pub each : AreOneCommand g old.store new.store edits answer
  pub apart : OnOk answer (NoEditCollides edits old.store.kept)
  pub collides : IfErr answer (λ stop. stop.refusal ≡ Collision
      → MatchOption stop.at ⊥ (CollidesAt edits old.store.kept))
  pub told : IsStagingTold edits answer err ending

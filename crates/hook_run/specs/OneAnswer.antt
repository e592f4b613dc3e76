-- Children whose answers depend only on their words and the files that they see, and what two runs over them
-- have in common.
use Rattle.std.specs.Prelude.{◌≡◌, ℕ, List}
use Rattle.hook_base.specs.declared.file.File.{File}
use Rattle.child_port.specs.declared.answer.Answer.{Answer}
use Rattle.child_port.specs.declared.answer.Outcome.{Outcome}
use Rattle.child_port.specs.declared.answer.Outcome.TheVariants.{Done}
use Rattle.hook_config.specs.declared.configuration.Config.{Config}
use Rattle.hook_run.specs.declared.run_ask.RunAsk.{RunAsk}
use Rattle.hook_run.specs.declared.run_out.RunOut.{RunOut}
use Rattle.hook_run.specs.Parts.{AllTold, Part, all_parts, faults_of}
use Rattle.hook_run.specs.RunOuts.{IsRunOut}
use Rattle.hook_run.specs.SameRuns.{GiveSame, without_marks}

-- two completed answers that may be reported for the same words and seen files are the same
abbrev pub OneAnswer : (List (List ℕ) → List File → Outcome → Type 0) → Type 0
OneAnswer tells =
    (words : List (List ℕ)) (seen : List File) (first second : Answer) → tells words seen (Done first)
    → tells words seen (Done second) → first ≡ second

-- a run of the hooks that are asked for gives this, each of its outcomes may be reported, and none is a fault
pub record IsFaultless (tells : List (List ℕ) → List File → Outcome → Type 0) (config : Config) (ask : RunAsk)
    (tree : List File) (trace : List (List Part)) (out : RunOut) : Type 0 where
  pub run : IsRunOut config ask tree trace out
  pub told : AllTold tells (all_parts trace)
  pub no_fault : faults_of (all_parts trace) ≡ 0

-- two runs have the same parts except for their marks, and give the same except for the ids of unsteady hooks
pub record AreSameRuns (trace others : List (List Part)) (first second : RunOut) : Type 0 where
  pub parts : without_marks (all_parts trace) ≡ without_marks (all_parts others)
  pub given : GiveSame first second

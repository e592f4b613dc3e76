-- The next step that a user at a terminal is told of (docs/REFERENCE.md, "The command line").
use Rattle.std.specs.Prelude.{ℕ, ◌==◌, Bool, true, false, if◌then◌else◌, List, Option, None, Some, codes}
use Rattle.next_steps.specs.declared.next_step.NextStep.{NextStep}
use Rattle.next_steps.specs.declared.next_step.NextStep.TheVariants.{AskForHelp, MakeRepository, UseRepository, AcceptFixes, MakeFixes, WriteConfiguration, WriteAndStageConfiguration, StageConfiguration, ExplainConfiguration, ExplainStagedConfiguration}
use Rattle.next_steps.specs.declared.advice.Requirement.{Requirement}
use Rattle.next_steps.specs.declared.advice.Requirement.TheVariants.{Configuration, Fixes, Nothing}
use Rattle.next_steps.specs.declared.advice.CommandEnd.{CommandEnd}
use Rattle.next_steps.specs.declared.advice.Advice.{Advice}
use Rattle.next_steps.specs.declared.advice.Advice.TheVariants as advice
use Rattle.next_steps.specs.declared.advice.ConfigurationState.{ConfigurationState}
use Rattle.next_steps.specs.declared.advice.ConfigurationState.TheVariants.{NotStaged, Refused, Taken}

-- the line for a step
abbrev pub step_text : NextStep → List ℕ
step_text AskForHelp = codes "hint: a configuration is read from standard input: hookhost --help says more"
step_text MakeRepository = codes "hint: hookhost init makes a repository here"
step_text UseRepository = codes "hint: a repository is here already: go on with it, as by hookhost status"
step_text AcceptFixes = codes "hint: hookhost fixes lists what hooks changed, hookhost accept stages it"
step_text MakeFixes = codes "hint: there are no fixes: hookhost run makes them, where a hook changes files"
step_text WriteConfiguration = codes "hint: there is no .pre-commit-config.yaml in this folder: write one first"
step_text WriteAndStageConfiguration =
    codes "hint: write .pre-commit-config.yaml, then hookhost add .pre-commit-config.yaml"
step_text StageConfiguration =
    codes "hint: hookhost add .pre-commit-config.yaml stages the configuration of this folder"
step_text ExplainConfiguration = codes "hint: hookhost explain says what is wrong and where"
step_text ExplainStagedConfiguration =
    codes "hint: hookhost cat .pre-commit-config.yaml | hookhost explain /dev/stdin says what is wrong and where"

-- after a refused command: how it gets what it needs, if the repository lacks that
abbrev pub advice_for : Requirement → Bool → Advice
advice_for Configuration has_fixes = advice.OfConfiguration
advice_for Fixes has_fixes = if has_fixes then advice.Nothing else advice.Step MakeFixes
advice_for Nothing has_fixes = advice.Nothing

-- After a command that is done, the fix that it undid. After a failed run, the fixes that hooks left. After a
-- refusal, what the command needs.
abbrev pub advice_after : CommandEnd → Advice
advice_after end =
    if end.status == 0 then (if end.is_undoing then advice.UndoneFix else advice.Nothing)
    else (if end.status == 1 then (if end.has_fixes then advice.Step AcceptFixes else advice.Nothing)
    else (if end.status == 3 then advice_for end.needs end.has_fixes else advice.Nothing))

-- A configuration that isn't staged is staged, after it is written if the folder has none. A refused one is
-- explained, from the folder's file if that is the same.
abbrev pub configuration_step : ConfigurationState → Option NextStep
configuration_step (NotStaged true) = Some StageConfiguration
configuration_step (NotStaged false) = Some WriteAndStageConfiguration
configuration_step (Refused true) = Some ExplainConfiguration
configuration_step (Refused false) = Some ExplainStagedConfiguration
configuration_step Taken = None

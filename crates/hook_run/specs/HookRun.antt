-- How one hook of a run ends on the tree that the hooks before it left, and its parts: each is a child of it.
use Rattle.std.specs.Prelude.{◌≡◌, ℕ, max, Bool, ◌&&◌, true, false, not, MatchBool, MatchOption, if◌then◌else◌, List, [], ◌∷◌, ◌++◌, map}
use Rattle.std.specs.Str.{bytes_eq}
use Rattle.arg_partition.specs.declared.cut.Cut.{Cut}
use Rattle.arg_partition.specs.Parts.{AreParts, fits, names_of, too_long_at}
use Rattle.hook_base.specs.declared.file.File.{File}
use Rattle.child_port.specs.declared.answer.Answer.{Answer}
use Rattle.path_select.specs.Selection.{RuleTexts, found_in, selected}
use Rattle.builtin_hooks.specs.FailAnswer.{fail_answer}
use Rattle.builtin_hooks.specs.GrepAnswer.{grep_answer}
use Rattle.hook_config.specs.Patterns.{no_path}
use Rattle.hook_config.specs.declared.configuration.Config.{Config}
use Rattle.hook_config.specs.declared.configuration.Hook.{Hook}
use Rattle.hook_config.specs.declared.configuration.Language.{Language}
use Rattle.hook_config.specs.declared.configuration.Language.TheVariants.{Fail, Pygrep, System, Script}
use Rattle.report_text.specs.declared.hook_result.Ending.{Ending}
use Rattle.report_text.specs.declared.hook_result.Ending.TheVariants.{SkippedAsked, SkippedNoFiles, Ran}
use Rattle.report_text.specs.declared.hook_result.HookResult.{HookResult}
use Rattle.report_text.specs.declared.hook_result.LineFault.TheVariants.{Misfit}
use Rattle.report_text.specs.Report.{is_empty}
use Rattle.hook_run.specs.declared.run_ask.RunAsk.{RunAsk}
use Rattle.hook_run.specs.Asks.{is_skipped}
use Rattle.hook_run.specs.Commands.{command_of}
use Rattle.hook_run.specs.Limits.{most_command_bytes}
use Rattle.hook_run.specs.Parts.{ArePartsOf, Part}
use Rattle.hook_run.specs.PartsEnding.{ending_of_parts}

-- what decides which files the hook gets (`pre_commit.commands.run.Classifier.filenames_for_hook`)
abbrev pub rules_of : Config → Hook → RuleTexts
rules_of config hook = record {
  top_files = config.files;
  top_exclude = config.exclude;
  files = hook.files;
  exclude = hook.exclude;
  types = hook.types;
  types_or = hook.types_or;
  exclude_types = hook.exclude_types;
}

-- the names that a hook gets
abbrev pub names_for : Hook → List (List ℕ) → List (List ℕ)
names_for hook files = if hook.pass_filenames then files else []

-- the ending of an answer without faults or modified files
abbrev pub ending_of_answer : Answer → Ending
ending_of_answer answer = Ran answer.status [] false answer.output

-- the hook answers this by itself, without a child
abbrev pub AnswersItself : Answer → List Part → Ending → Type 0
AnswersItself answer parts ending = (parts ≡ []) × (ending ≡ ending_of_answer answer)

-- a child sees all files of the tree if its hook doesn't get their names
abbrev pub sees_whole : Hook → Bool
sees_whole hook = not hook.pass_filenames

-- Further files that the hook's children see, whatever their words name: the files of the tree in whose path
-- the pattern `x_reads` is found, by default none. No candidates, tags or patterns of the whole configuration
-- exclude a file.
abbrev pub further_of : Hook → List File → List (List ℕ)
further_of hook tree = if bytes_eq hook.x_reads no_path then [] else found_in hook.x_reads tree

-- The most names of one part of the hook: one with `x_per_file`, otherwise as many as `x_at_most` says, which is
-- at least one for a hook that was read.
abbrev pub most_names_of : Hook → ℕ
most_names_of hook = if hook.x_per_file then 1 else max hook.x_at_most 1

-- the commands of the parts that names are cut into
abbrev pub commands_of : List (List ℕ) → List (List ℕ) → List Cut → List (List (List ℕ))
commands_of words names cuts = map (λ cut. words ++ names_of names cut) cuts

-- the hook runs once for each part of its names, whatever the parts before it did
pub record AreItsParts (hook : Hook) (words names : List (List ℕ)) (tree : List File) (parts : List Part) : Type 0 where
  pub cuts : List Cut
  pub cut : AreParts (fits words most_command_bytes) (most_names_of hook) names cuts
  pub run : ArePartsOf (sees_whole hook) (further_of hook) (commands_of words names cuts) tree parts

-- the hook starts no child, since a name doesn't fit even with the words alone, or there are no names and the
-- words don't fit
abbrev pub ending_of_misfit : Ending
ending_of_misfit = Ran 0 (Misfit ∷ []) false []

-- a hook that runs these words, followed by these names, on the tree, ends so
abbrev pub IsCommandRun : Hook → List (List ℕ) → List (List ℕ) → List File → List Part → Ending → Type 0
IsCommandRun hook words names tree parts ending =
    MatchOption (too_long_at (fits words most_command_bytes) names)
    (AreItsParts hook words names tree parts × (ending ≡ ending_of_parts tree parts))
    (λ _. (parts ≡ []) × (ending ≡ ending_of_misfit))

-- a hook of the language, run with these names on the tree, ends so
abbrev pub IsLanguageRun : Language → Hook → List (List ℕ) → List File → List Part → Ending → Type 0
IsLanguageRun Fail hook names tree parts ending = AnswersItself (fail_answer hook.entry names) parts ending
IsLanguageRun (Pygrep search) hook names tree parts ending = AnswersItself (grep_answer search names tree) parts ending
IsLanguageRun (System words) hook names tree parts ending =
    IsCommandRun hook (command_of false words tree) names tree parts ending
IsLanguageRun (Script words) hook names tree parts ending =
    IsCommandRun hook (command_of true words tree) names tree parts ending

-- a hook with these files ends so: without any it is skipped, unless it has `always_run`
-- (`pre_commit.commands.run._run_single_hook`)
abbrev pub IsHookRun : Hook → List (List ℕ) → List File → List Part → Ending → Type 0
IsHookRun hook files tree parts ending =
    MatchBool (is_empty files && not hook.always_run)
    ((parts ≡ []) × (ending ≡ SkippedNoFiles))
    (IsLanguageRun hook.language hook (names_for hook files) tree parts ending)

-- a hook that is to be skipped is skipped, whatever would be selected for it
abbrev pub IsEnding : Config → RunAsk → List File → Hook → List Part → Ending → Type 0
IsEnding config ask tree hook parts ending =
    MatchBool (is_skipped ask.skip hook)
    ((parts ≡ []) × (ending ≡ SkippedAsked))
    (IsHookRun hook (selected (rules_of config hook) ask.candidates tree) tree parts ending)

-- the result is the hook's on this tree, with these parts
pub record IsResult (config : Config) (ask : RunAsk) (tree : List File) (hook : Hook) (parts : List Part)
    (result : HookResult) : Type 0 where
  pub name : result.name ≡ hook.name
  pub id : result.id ≡ hook.id
  pub verbose : result.verbose ≡ hook.verbose
  pub ending : IsEnding config ask tree hook parts result.ending

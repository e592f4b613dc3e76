-- There is a run, whatever its children answer to their words and what they see.
use Rattle.std.proofs.Common.{◌≡◌, refl, ℕ, ◌≤◌, max, Bool, true, false, List, [], ◌∷◌, ◌++◌, Option, None, Some, arith}
use Rattle.std.proofs.Math.Nat.{le-max_right}
use Rattle.std.specs.Prelude.{MatchBool, MatchOption, if◌then◌else◌, not, ◌&&◌}
use Rattle.arg_partition.specs.Parts.{fits, too_long_at}
use Rattle.arg_partition.specs.SomePartsLemmas.{parts-exist}
use Rattle.hook_base.specs.declared.file.File.{File}
use Rattle.builtin_hooks.specs.FailAnswer.{fail_answer}
use Rattle.builtin_hooks.specs.GrepAnswer.{grep_answer}
use Rattle.child_port.specs.declared.answer.Outcome.{Outcome}
use Rattle.child_port.specs.declared.answer.Outcome.TheVariants.{Failed}
use Rattle.child_port.specs.declared.fault.Fault.TheVariants.{NotStarted}
use Rattle.child_port.specs.Outcomes.{after_outcome}
use Rattle.child_port.specs.Seen.{seen_of}
use Rattle.hook_config.specs.declared.configuration.Config.{Config}
use Rattle.hook_config.specs.declared.configuration.Hook.{Hook}
use Rattle.hook_config.specs.declared.configuration.Language.{Language}
use Rattle.hook_config.specs.declared.configuration.Language.TheVariants.{Fail, Pygrep, System, Script}
use Rattle.path_select.specs.Selection.{selected}
use Rattle.report_text.specs.Report.{is_empty}
use Rattle.report_text.specs.declared.hook_result.Ending.{Ending}
use Rattle.report_text.specs.declared.hook_result.Ending.TheVariants.{SkippedAsked, SkippedNoFiles}
use Rattle.report_text.specs.declared.hook_result.HookResult.{HookResult}
use Rattle.hook_run.specs.declared.run_ask.RunAsk.{RunAsk}
use Rattle.hook_run.specs.declared.run_out.RunOut.{RunOut}
use Rattle.hook_run.specs.Asks.{hooks_of_run, is_skipped}
use Rattle.hook_run.specs.Commands.{command_of}
use Rattle.hook_run.specs.HookRun.{AreItsParts, IsCommandRun, IsEnding, IsHookRun, IsLanguageRun, IsResult, commands_of, ending_of_answer, ending_of_misfit, further_of, most_names_of, names_for, rules_of, sees_whole}
use Rattle.hook_run.specs.Limits.{most_command_bytes}
use Rattle.hook_run.specs.Parts.{AllTold, ArePartsOf, Part, after_parts, all_parts, tree_after}
use Rattle.hook_run.specs.PartsEnding.{ending_of_parts}
use Rattle.hook_run.specs.RunOuts.{IsRunOut, out_of, unsteady_ids}
use Rattle.hook_run.specs.StageRun.{IsRun, is_last}

-- ---- what children answer

-- what they answer to their words and what they see
abbrev Answers : Type 0
Answers = List (List ℕ) → List File → Outcome

-- the outcomes of the parts are what they answer
abbrev pub AllAnswered : Answers → List Part → Type 0
AllAnswered answers parts = AllTold (λ words seen outcome. outcome ≡ answers words seen) parts

-- ---- the parts of one hook

-- an ending with parts, which the children answer so
record SomeEnding (answers : Answers) (Is : List Part → Ending → Type 0) : Type 0 where
  parts : List Part
  ending : Ending
  is : Is parts ending
  answered : AllAnswered answers parts

record SomePartsOf (answers : Answers) (whole : Bool) (further : List File → List (List ℕ)) (commands : List (List (List ℕ))) (tree : List File) : Type 0 where
  parts : List Part
  are : ArePartsOf whole further commands tree parts
  answered : AllAnswered answers parts

some-parts : (answers : Answers) (whole : Bool) (further : List File → List (List ℕ)) (commands : List (List (List ℕ))) (tree : List File) → SomePartsOf answers whole further commands tree
some-parts answers whole further [] tree = record { parts = []; are = tt; answered = tt }
some-parts answers whole further (words ∷ commands) tree =
    let seen = seen_of words (further tree) whole tree in
    let outcome = answers words seen in
    let rest = some-parts answers whole further commands (after_outcome tree outcome) in
    record {
      parts = record { words = words; seen = seen; outcome = outcome; unsteady = false } ∷ rest.parts;
      are = (refl, refl, rest.are);
      answered = (refl, rest.answered);
    }

either-ending : (answers : Answers) (b : Bool) (P Q : List Part → Ending → Type 0) → SomeEnding answers P → SomeEnding answers Q
    → SomeEnding answers (λ parts ending. MatchBool b (P parts ending) (Q parts ending))
either-ending answers true P Q first second = record { parts = first.parts; ending = first.ending; is = first.is; answered = first.answered }
either-ending answers false P Q first second = record { parts = second.parts; ending = second.ending; is = second.is; answered = second.answered }

option-ending : (answers : Answers) (o : Option ℕ) (P : List Part → Ending → Type 0) (Q : ℕ → List Part → Ending → Type 0) → (o ≡ None → SomeEnding answers P) → ((n : ℕ) → SomeEnding answers (Q n))
    → SomeEnding answers (λ parts ending. MatchOption o (P parts ending) (λ n. Q n parts ending))
option-ending answers None P Q first second =
    let some = first refl in
    record { parts = some.parts; ending = some.ending; is = some.is; answered = some.answered }
option-ending answers (Some n) P Q first second =
    let some = second n in
    record { parts = some.parts; ending = some.ending; is = some.is; answered = some.answered }

no-parts : (answers : Answers) (is : Ending) → SomeEnding answers (λ parts ending. (parts ≡ []) × (ending ≡ is))
no-parts answers is = record { parts = []; ending = is; is = (refl, refl); answered = tt }

some-names : (hook : Hook) → 1 ≤ most_names_of hook
some-names hook = elim hook.x_per_file as (λ (b : Bool). 1 ≤ (if b then 1 else max hook.x_at_most 1)) [ true ↦ omega arith | false ↦ le-max_right hook.x_at_most 1 ]

fitting-ending : (answers : Answers) (hook : Hook) (words names : List (List ℕ)) (tree : List File) → too_long_at (fits words most_command_bytes) names ≡ None
    → SomeEnding answers (λ parts ending. AreItsParts hook words names tree parts × (ending ≡ ending_of_parts tree parts))
fitting-ending answers hook words names tree none =
    let cut = parts-exist words names most_command_bytes (most_names_of hook) (some-names hook) none in
    let some = some-parts answers (sees_whole hook) (further_of hook) (commands_of words names cut.0) tree in
    record {
      parts = some.parts;
      ending = ending_of_parts tree some.parts;
      is = (record { cuts = cut.0; cut = cut.1; run = some.are }, refl);
      answered = some.answered;
    }

command-ending : (answers : Answers) (hook : Hook) (words names : List (List ℕ)) (tree : List File) → SomeEnding answers (IsCommandRun hook words names tree)
command-ending answers hook words names tree =
    option-ending answers (too_long_at (fits words most_command_bytes) names)
    (λ parts ending. AreItsParts hook words names tree parts × (ending ≡ ending_of_parts tree parts))
    (λ _ parts ending. (parts ≡ []) × (ending ≡ ending_of_misfit))
    (fitting-ending answers hook words names tree) (λ _. no-parts answers ending_of_misfit)

language-ending : (answers : Answers) (language : Language) (hook : Hook) (names : List (List ℕ)) (tree : List File) → SomeEnding answers (IsLanguageRun language hook names tree)
language-ending answers Fail hook names tree = no-parts answers (ending_of_answer (fail_answer hook.entry names))
language-ending answers (Pygrep search) hook names tree = no-parts answers (ending_of_answer (grep_answer search names tree))
language-ending answers (System words) hook names tree = command-ending answers hook (command_of false words tree) names tree
language-ending answers (Script words) hook names tree = command-ending answers hook (command_of true words tree) names tree

hook-ending : (answers : Answers) (config : Config) (ask : RunAsk) (tree : List File) (hook : Hook) → SomeEnding answers (IsEnding config ask tree hook)
hook-ending answers config ask tree hook =
    let files = selected (rules_of config hook) ask.candidates tree in
    either-ending answers (is_skipped ask.skip hook) (λ parts ending. (parts ≡ []) × (ending ≡ SkippedAsked)) (IsHookRun hook files tree)
    (no-parts answers SkippedAsked)
    (either-ending answers (is_empty files && not hook.always_run) (λ parts ending. (parts ≡ []) × (ending ≡ SkippedNoFiles)) (IsLanguageRun hook.language hook (names_for hook files) tree)
    (no-parts answers SkippedNoFiles)
    (language-ending answers hook.language hook (names_for hook files) tree))

-- ---- the hooks one after another

pub told-append : (tells : List (List ℕ) → List File → Outcome → Type 0) (first second : List Part) → AllTold tells first → AllTold tells second → AllTold tells (first ++ second)
told-append tells [] second one two = two
told-append tells (part ∷ first) second one two = (one.0, told-append tells first second one.1 two)

-- a run of these hooks from the tree on, whose children answer so
pub record AnsweredRun (answers : Answers) (config : Config) (ask : RunAsk) (tree : List File) (hooks : List Hook) : Type 0 where
  pub trace : List (List Part)
  pub results : List HookResult
  pub run : IsRun config ask tree hooks trace results
  pub answered : AllAnswered answers (all_parts trace)

-- the hook with these parts and this ending, followed by the rest where it isn't the last
joined-run : (answers : Answers) (config : Config) (ask : RunAsk) (tree : List File) (hook : Hook) (hooks : List Hook) (parts : List Part) (result : HookResult)
    → (last : Bool) → is_last config hook result.ending ≡ last → IsResult config ask tree hook parts result → AllAnswered answers parts
    → AnsweredRun answers config ask (after_parts tree parts) hooks → AnsweredRun answers config ask tree (hook ∷ hooks)
joined-run answers config ask tree hook hooks parts result true last is answered rest = record {
  trace = parts ∷ [];
  results = result ∷ [];
  run = (is, rw last (refl, refl));
  answered = told-append _ parts [] answered tt;
}
joined-run answers config ask tree hook hooks parts result false last is answered rest = record {
  trace = parts ∷ rest.trace;
  results = result ∷ rest.results;
  run = (is, rw last rest.run);
  answered = told-append _ parts (all_parts rest.trace) answered rest.answered;
}

pub answered_run : (answers : Answers) (config : Config) (ask : RunAsk) (tree : List File) (hooks : List Hook) → AnsweredRun answers config ask tree hooks
answered_run answers config ask tree [] = record { trace = []; results = []; run = tt; answered = tt }
answered_run answers config ask tree (hook ∷ hooks) =
    let first = hook-ending answers config ask tree hook in
    let result : HookResult = record { name = hook.name; id = hook.id; verbose = hook.verbose; ending = first.ending } in
    joined-run answers config ask tree hook hooks first.parts result (is_last config hook first.ending) refl
    (record { name = refl; id = refl; verbose = refl; ending = first.is }) first.answered
    (answered_run answers config ask (after_parts tree first.parts) hooks)

-- a run of these hooks from the tree on
pub record SomeRun (config : Config) (ask : RunAsk) (tree : List File) (hooks : List Hook) : Type 0 where
  pub trace : List (List Part)
  pub results : List HookResult
  pub run : IsRun config ask tree hooks trace results

pub some_run : (config : Config) (ask : RunAsk) (tree : List File) (hooks : List Hook) → SomeRun config ask tree hooks
some_run config ask tree hooks =
    let run = answered_run (λ _ _. Failed NotStarted) config ask tree hooks in
    record { trace = run.trace; results = run.results; run = run.run }

-- ---- what is given

pub answered-out : (config : Config) (ask : RunAsk) (tree : List File) (answers : List (List ℕ) → List File → Outcome)
    → (trace : List (List Part)) × (out : RunOut) × IsRunOut config ask tree trace out × AllTold (λ words seen outcome. outcome ≡ answers words seen) (all_parts trace)
answered-out config ask tree answers =
    let some = answered_run answers config ask tree (hooks_of_run config ask) in (
      some.trace,
      out_of config ask some.results (tree_after tree some.trace) (unsteady_ids (hooks_of_run config ask) some.trace),
      record { results = some.results; run = some.run; is = refl },
      some.answered,
    )

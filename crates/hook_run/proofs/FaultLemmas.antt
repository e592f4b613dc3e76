-- Each part that is a fault is reported as a child's, and nothing else is.
use Rattle.std.proofs.Common.{◌≡◌, ◌∙◌, ap, ap₂, sym, refl, ℕ, ◌+◌, Bool, true, false, List, [], ◌∷◌, ◌++◌, Option, None, Some, Result, Ok, Err, IfOk, arith}
use Rattle.std.specs.Prelude.{MatchBool, MatchOption, not, ◌&&◌}
use Rattle.arg_partition.specs.Parts.{fits, too_long_at}
use Rattle.hook_base.specs.declared.file.File.{File}
use Rattle.child_port.specs.declared.answer.Outcome.{Outcome}
use Rattle.child_port.specs.declared.answer.Outcome.TheVariants.{Done, Failed}
use Rattle.child_port.specs.Outcomes.{faults_in}
use Rattle.hook_config.specs.declared.configuration.Config.{Config}
use Rattle.hook_config.specs.declared.configuration.Hook.{Hook}
use Rattle.hook_config.specs.declared.configuration.Language.{Language}
use Rattle.hook_config.specs.declared.configuration.Language.TheVariants.{Fail, Pygrep, System, Script}
use Rattle.path_select.specs.Selection.{selected}
use Rattle.report_text.specs.Report.{is_empty}
use Rattle.report_text.specs.declared.hook_result.Ending.{Ending}
use Rattle.report_text.specs.declared.hook_result.HookResult.{HookResult}
use Rattle.report_text.specs.declared.hook_result.LineFault.{LineFault}
use Rattle.hook_run.specs.declared.hooks_run.HooksRun.{HooksRun}
use Rattle.hook_run.specs.declared.run_ask.RunAsk.{RunAsk}
use Rattle.hook_run.specs.declared.run_out.RunOut.{RunOut}
use Rattle.hook_run.specs.AnswerLemmas.{answered-faults, faults-append}
use Rattle.hook_run.specs.Asks.{hooks_of_run, is_skipped}
use Rattle.hook_run.specs.ChildFaults.{child_faults, child_faults_among, child_faults_in}
use Rattle.hook_run.specs.Commands.{command_of}
use Rattle.hook_run.specs.HookRun.{IsCommandRun, IsEnding, IsLanguageRun, names_for, rules_of}
use Rattle.hook_run.specs.Limits.{most_command_bytes}
use Rattle.hook_run.specs.Moments.{Moment}
use Rattle.hook_run.specs.Parts.{Part, after_parts, all_parts, faults_of}
use Rattle.hook_run.specs.PartsEnding.{line_faults, line_faults_in}
use Rattle.hook_run.specs.RunOuts.{IsRunOut, IsRunOver}
use Rattle.hook_run.specs.StageRun.{IsRun, is_last}

-- ---- one hook

outcome-fault : (outcome : Outcome) (faults : List LineFault) → child_faults_among (line_faults_in outcome ++ faults) ≡ faults_in outcome + child_faults_among faults
outcome-fault (Done answer) faults = omega arith
outcome-fault (Failed fault) faults = refl

parts-faults : (parts : List Part) → child_faults_among (line_faults parts) ≡ faults_of parts
parts-faults [] = refl
parts-faults (part ∷ parts) = outcome-fault part.outcome (line_faults parts) ∙ ap (λ (rest : ℕ). faults_in part.outcome + rest) (parts-faults parts)

-- no parts, and an ending without children's faults
none-faults : (is : Ending) (parts : List Part) (ending : Ending) → child_faults_in is ≡ 0 → (parts ≡ []) × (ending ≡ is) → child_faults_in ending ≡ faults_of parts
none-faults is parts ending none run = ap child_faults_in run.1 ∙ (none ∙ sym (ap faults_of run.0))

pub either-way : {A B T : Type 0} (b : Bool) → (A → T) → (B → T) → MatchBool b A B → T
either-way true first second run = first run
either-way false first second run = second run

pub option-way : {A T : Type 0} (o : Option ℕ) (B : ℕ → Type 0) → (A → T) → ((n : ℕ) → B n → T) → MatchOption o A B → T
option-way None B first second run = first run
option-way (Some n) B first second run = second n run

command-faults : (hook : Hook) (words names : List (List ℕ)) (tree : List File) (parts : List Part) (ending : Ending) → IsCommandRun hook words names tree parts ending
    → child_faults_in ending ≡ faults_of parts
command-faults hook words names tree parts ending run =
    option-way (too_long_at (fits words most_command_bytes) names) _
    (λ fitting. ap child_faults_in fitting.1 ∙ parts-faults parts)
    (λ _ misfit. none-faults _ parts ending refl misfit)
    run

language-faults : (language : Language) (hook : Hook) (names : List (List ℕ)) (tree : List File) (parts : List Part) (ending : Ending) → IsLanguageRun language hook names tree parts ending
    → child_faults_in ending ≡ faults_of parts
language-faults Fail hook names tree parts ending run = none-faults _ parts ending refl run
language-faults (Pygrep search) hook names tree parts ending run = none-faults _ parts ending refl run
language-faults (System words) hook names tree parts ending run = command-faults hook (command_of false words tree) names tree parts ending run
language-faults (Script words) hook names tree parts ending run = command-faults hook (command_of true words tree) names tree parts ending run

hook-faults : (config : Config) (ask : RunAsk) (tree : List File) (hook : Hook) (parts : List Part) (ending : Ending) → IsEnding config ask tree hook parts ending
    → child_faults_in ending ≡ faults_of parts
hook-faults config ask tree hook parts ending run =
    let files = selected (rules_of config hook) ask.candidates tree in
    either-way (is_skipped ask.skip hook) (λ skipped. none-faults _ parts ending refl skipped)
    (either-way (is_empty files && not hook.always_run) (λ skipped. none-faults _ parts ending refl skipped)
    (λ ran. language-faults hook.language hook (names_for hook files) tree parts ending ran))
    run

-- ---- the hooks one after another

ended-faults : (trace : List (List Part)) (results : List HookResult) → (trace ≡ []) × (results ≡ []) → child_faults results ≡ faults_of (all_parts trace)
ended-faults trace results ended = ap child_faults ended.1 ∙ sym (ap (λ (t : List (List Part)). faults_of (all_parts t)) ended.0)

run-faults : (config : Config) (ask : RunAsk) (tree : List File) (hooks : List Hook) (trace : List (List Part)) (results : List HookResult) → IsRun config ask tree hooks trace results
    → child_faults results ≡ faults_of (all_parts trace)
run-faults config ask tree [] [] [] run = refl
run-faults config ask tree [] [] (result ∷ results) run = absurd run
run-faults config ask tree [] (parts ∷ trace) [] run = absurd run
run-faults config ask tree [] (parts ∷ trace) (result ∷ results) run = absurd run
run-faults config ask tree (hook ∷ hooks) [] [] run = absurd run
run-faults config ask tree (hook ∷ hooks) [] (result ∷ results) run = absurd run
run-faults config ask tree (hook ∷ hooks) (parts ∷ trace) [] run = absurd run
run-faults config ask tree (hook ∷ hooks) (parts ∷ trace) (result ∷ results) run =
    let rest = either-way (is_last config hook result.ending) (ended-faults trace results)
    (run-faults config ask (after_parts tree parts) hooks trace results) run.1 in
    ap₂ (λ (here behind : ℕ). here + behind) (hook-faults config ask tree hook parts result.ending run.0.ending) rest
    ∙ sym (faults-append parts (all_parts trace))

pub faults-reported : (config : Config) (ask : RunAsk) (tree : List File) (trace : List (List Part)) (out : RunOut) → IsRunOut config ask tree trace out
    → child_faults out.results ≡ faults_of (all_parts trace)
faults-reported config ask tree trace out run =
    ap (λ (given : RunOut). child_faults given.results) run.is
    ∙ run-faults config ask tree (hooks_of_run config ask) trace run.results run.run

-- over a run, the faults of the children rise by as many as its results report
pub reported_if : {E : Type 0} (tells : List (List ℕ) → List File → Outcome → Type 0) (from to : Moment) (config : Config) (ask : RunAsk) (tree : List File) (result : Result HooksRun E)
    → IfOk result (λ ran. IsRunOver tells from to config ask tree ran.out) → IfOk result (λ ran. to.faults ≡ from.faults + child_faults ran.out.results)
reported_if tells from to config ask tree (Ok ran) over =
    answered-faults tells ask.reuse from to (all_parts over.trace) over.answered ∙ sym (ap (λ (more : ℕ). from.faults + more) (faults-reported config ask tree over.trace ran.out over.run))
reported_if tells from to config ask tree (Err refusal) over = tt

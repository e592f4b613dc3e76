-- The outcomes decide everything else of a run.
use Rattle.std.proofs.Common.{◌≡◌, ◌∙◌, ap, ap₂, sym, subst, refl, ℕ, Bool, true, false, List, [], ◌∷◌, ◌++◌, map, max, Option, None, Some}
use Rattle.std.proofs.lemmas.List.{map-append}
use Rattle.std.specs.Prelude.{MatchBool, MatchOption, not, ◌&&◌}
use Rattle.arg_partition.specs.declared.cut.Cut.{Cut}
use Rattle.arg_partition.specs.Parts.{fits, too_long_at}
use Rattle.arg_partition.specs.PartsLaws.{parts-unique}
use Rattle.hook_base.specs.declared.file.File.{File}
use Rattle.child_port.specs.declared.answer.Outcome.{Outcome}
use Rattle.child_port.specs.Outcomes.{after_outcome}
use Rattle.hook_config.specs.declared.configuration.Config.{Config}
use Rattle.hook_config.specs.declared.configuration.Hook.{Hook}
use Rattle.hook_config.specs.declared.configuration.Language.{Language}
use Rattle.hook_config.specs.declared.configuration.Language.TheVariants.{Fail, Pygrep, System, Script}
use Rattle.path_select.specs.Selection.{selected}
use Rattle.report_text.specs.Report.{is_empty, report_text}
use Rattle.report_text.specs.declared.hook_result.Ending.{Ending}
use Rattle.report_text.specs.declared.hook_result.Ending.TheVariants.{Ran}
use Rattle.report_text.specs.declared.hook_result.LineFault.{LineFault}
use Rattle.report_text.specs.declared.hook_result.HookResult.{HookResult}
use Rattle.hook_run.specs.declared.run_ask.RunAsk.{RunAsk}
use Rattle.hook_run.specs.declared.run_out.RunOut.{RunOut}
use Rattle.hook_run.specs.Asks.{hooks_of_run, is_skipped, names_of_run}
use Rattle.hook_run.specs.Commands.{command_of}
use Rattle.hook_run.specs.HookRun.{AreItsParts, IsCommandRun, IsEnding, IsLanguageRun, IsResult, commands_of, ending_of_misfit, further_of, most_names_of, names_for, rules_of, sees_whole}
use Rattle.hook_run.specs.Limits.{most_command_bytes}
use Rattle.hook_run.specs.Parts.{ArePartsOf, Part, after_parts, all_parts, tree_after}
use Rattle.hook_run.specs.PartsEnding.{ending_of_parts, greatest_status, is_modified, joined_output, line_faults, line_faults_in, output_in, status_in}
use Rattle.hook_run.specs.RunOuts.{IsRunOut, out_of, unsteady_ids}
use Rattle.hook_run.specs.SameRuns.{GiveSame, IsNextOf, outcomes_of, without_unsteady_mark, without_marks}
use Rattle.hook_run.specs.StageRun.{IsRun, has_passed, is_last}

-- ---- parts that are the same without their marks

abbrev Alike : List Part → List Part → Type 0
Alike parts others = without_marks parts ≡ without_marks others

abbrev AlikeTraces : List (List Part) → List (List Part) → Type 0
AlikeTraces trace others = map without_marks trace ≡ map without_marks others

abbrev part_of : List (List ℕ) → List File → Outcome → Part
part_of words seen outcome = record { words = words; seen = seen; outcome = outcome; unsteady = false }

same-part : (w v : List (List ℕ)) (s t : List File) (o p : Outcome) → w ≡ v → s ≡ t → o ≡ p
    → part_of w s o ≡ part_of v t p
same-part w v s t o p words seen outcome = cc

-- lists that begin alike
same-head : {A : Type 0} (x y : A) (xs ys : List A) → x ∷ xs ≡ y ∷ ys → x ≡ y
same-head x y xs ys same = cc

same-tail : {A : Type 0} (x y : A) (xs ys : List A) → x ∷ xs ≡ y ∷ ys → xs ≡ ys
same-tail x y xs ys same = cc

none-more : {A : Type 0} (y : A) (ys : List A) → [] ≡ y ∷ ys → ⊥
none-more y ys same = cc

status-unmarked : (parts : List Part) → greatest_status parts ≡ greatest_status (without_marks parts)
status-unmarked [] = refl
status-unmarked (part ∷ parts) = ap (λ (rest : ℕ). max (status_in part.outcome) rest) (status-unmarked parts)

faults-unmarked : (parts : List Part) → line_faults parts ≡ line_faults (without_marks parts)
faults-unmarked [] = refl
faults-unmarked (part ∷ parts) =
    ap (λ (rest : List LineFault). line_faults_in part.outcome ++ rest) (faults-unmarked parts)

output-unmarked : (parts : List Part) → joined_output parts ≡ joined_output (without_marks parts)
output-unmarked [] = refl
output-unmarked (part ∷ parts) = ap (λ (rest : List ℕ). output_in part.outcome ++ rest) (output-unmarked parts)

after-unmarked : (tree : List File) (parts : List Part)
    → after_parts tree parts ≡ after_parts tree (without_marks parts)
after-unmarked tree [] = refl
after-unmarked tree (part ∷ parts) = after-unmarked (after_outcome tree part.outcome) parts

same-tree : (tree : List File) (parts others : List Part) → Alike parts others
    → after_parts tree parts ≡ after_parts tree others
same-tree tree parts others alike =
    after-unmarked tree parts ∙ ap (after_parts tree) alike ∙ sym (after-unmarked tree others)

abbrev ending_with : List File → ℕ → List LineFault → List File → List ℕ → Ending
ending_with tree status faults after output = Ran status faults (is_modified tree after) output

same-ends : (tree : List File) (s t : ℕ) (f g : List LineFault) (a b : List File) (o p : List ℕ) → s ≡ t → f ≡ g → a ≡ b
    → o ≡ p → ending_with tree s f a o ≡ ending_with tree t g b p
same-ends tree s t f g a b o p status faults after output = cc

ending-unmarked : (tree : List File) (parts : List Part)
    → ending_of_parts tree parts ≡ ending_of_parts tree (without_marks parts)
ending-unmarked tree parts =
    same-ends tree _ _ _ _ _ _ _ _ (status-unmarked parts) (faults-unmarked parts) (after-unmarked tree parts)
    (output-unmarked parts)

same-ending : (tree : List File) (parts others : List Part) → Alike parts others
    → ending_of_parts tree parts ≡ ending_of_parts tree others
same-ending tree parts others alike =
    ending-unmarked tree parts ∙ ap (ending_of_parts tree) alike ∙ sym (ending-unmarked tree others)

-- The parts have the same words, seen files and outcomes up to the first with another outcome. Its words and
-- seen files are the same too. P holds if there is no such part.
abbrev Apart : Type 0 → List Part → List Part → Type 0
Apart P [] [] = P
Apart P [] (other ∷ others) = ⊥
Apart P (part ∷ parts) [] = ⊥
Apart P (part ∷ parts) (other ∷ others) =
    (part.words ≡ other.words) × (part.seen ≡ other.seen) × (part.outcome ≡ other.outcome → Apart P parts others)

-- ---- the parts of one hook, with what follows them

parts-apart : (P : Type 0) (whole : Bool) (further : List File → List (List ℕ)) (commands : List (List (List ℕ)))
    (tree : List File) (parts others rest more : List Part)
    → ArePartsOf whole further commands tree parts → ArePartsOf whole further commands tree others
    → (Alike parts others → Apart P rest more)
    → Apart P (parts ++ rest) (others ++ more)
parts-apart P whole further [] tree [] [] rest more one two then = then refl
parts-apart P whole further [] tree [] (other ∷ others) rest more one two then = absurd two
parts-apart P whole further [] tree (part ∷ parts) others rest more one two then = absurd one
parts-apart P whole further (words ∷ commands) tree [] others rest more one two then = absurd one
parts-apart P whole further (words ∷ commands) tree (part ∷ parts) [] rest more one two then = absurd two
parts-apart P whole further (words ∷ commands) tree (part ∷ parts) (other ∷ others) rest more one two then =
    let same_words = one.0 ∙ sym two.0 in
    let same_seen = one.1 ∙ sym two.1 in (
      same_words,
      same_seen,
      λ (same : part.outcome ≡ other.outcome).
          parts-apart P whole further commands (after_outcome tree part.outcome) parts others rest more one.2
          (subst (λ (o : Outcome). ArePartsOf whole further commands (after_outcome tree o) others) (sym same) two.2)
          (λ (left : Alike parts others). then
          (ap₂ (λ (p : Part) (ps : List Part). p ∷ ps)
          (same-part part.words other.words part.seen other.seen part.outcome other.outcome same_words same_seen
          same) left)),
    )

abbrev NoParts : Ending → List Part → Ending → Type 0
NoParts is parts ending = (parts ≡ []) × (ending ≡ is)

none-apart : (P : Type 0) (is : Ending) (parts others rest more : List Part) (ending end : Ending)
    → NoParts is parts ending → NoParts is others end
    → (Alike parts others → ending ≡ end → Apart P rest more) → Apart P (parts ++ rest) (others ++ more)
none-apart P is parts others rest more ending end one two then =
    subst (λ (p : List Part). Apart P (p ++ rest) (others ++ more)) (sym one.0)
    (subst (λ (q : List Part). Apart P rest (q ++ more)) (sym two.0)
    (then (ap without_marks (one.0 ∙ sym two.0)) (one.1 ∙ sym two.1)))

either-apart : {A B C D T : Type 0} (b : Bool) → (A → C → T) → (B → D → T) → MatchBool b A B → MatchBool b C D → T
either-apart true first second one two = first one two
either-apart false first second one two = second one two

option-apart : {A C T : Type 0} (o : Option ℕ) (B D : ℕ → Type 0) → (A → C → T) → ((n : ℕ) → B n → D n → T)
    → MatchOption o A B → MatchOption o C D → T
option-apart None B D first second one two = first one two
option-apart (Some n) B D first second one two = second n one two

fitting-apart : (P : Type 0) (hook : Hook) (words names : List (List ℕ)) (tree : List File)
    (parts others rest more : List Part) (ending end : Ending)
    → AreItsParts hook words names tree parts × (ending ≡ ending_of_parts tree parts)
    → AreItsParts hook words names tree others × (end ≡ ending_of_parts tree others)
    → (Alike parts others → ending ≡ end → Apart P rest more) → Apart P (parts ++ rest) (others ++ more)
fitting-apart P hook words names tree parts others rest more ending end one two then =
    let cuts : two.0.cuts ≡ one.0.cuts =
    parts-unique words names most_command_bytes (most_names_of hook) two.0.cuts one.0.cuts two.0.cut one.0.cut in
    parts-apart P (sees_whole hook) (further_of hook) (commands_of words names one.0.cuts) tree parts others rest more
    one.0.run
    (subst (λ (c : List Cut). ArePartsOf (sees_whole hook) (further_of hook) (commands_of words names c) tree others)
    cuts two.0.run)
    (λ (same : Alike parts others). then same (one.1 ∙ same-ending tree parts others same ∙ sym two.1))

command-apart : (P : Type 0) (hook : Hook) (words names : List (List ℕ)) (tree : List File)
    (parts others rest more : List Part) (ending end : Ending)
    → IsCommandRun hook words names tree parts ending → IsCommandRun hook words names tree others end
    → (Alike parts others → ending ≡ end → Apart P rest more) → Apart P (parts ++ rest) (others ++ more)
command-apart P hook words names tree parts others rest more ending end one two then =
    option-apart (too_long_at (fits words most_command_bytes) names) (λ _. NoParts ending_of_misfit parts ending)
    (λ _. NoParts ending_of_misfit others end)
    (λ a b. fitting-apart P hook words names tree parts others rest more ending end a b then)
    (λ _ a b. none-apart P ending_of_misfit parts others rest more ending end a b then)
    one two

language-apart : (P : Type 0) (language : Language) (hook : Hook) (names : List (List ℕ)) (tree : List File)
    (parts others rest more : List Part) (ending end : Ending)
    → IsLanguageRun language hook names tree parts ending → IsLanguageRun language hook names tree others end
    → (Alike parts others → ending ≡ end → Apart P rest more) → Apart P (parts ++ rest) (others ++ more)
language-apart P Fail hook names tree parts others rest more ending end one two then =
    none-apart P _ parts others rest more ending end one two then
language-apart P (Pygrep search) hook names tree parts others rest more ending end one two then =
    none-apart P _ parts others rest more ending end one two then
language-apart P (System words) hook names tree parts others rest more ending end one two then =
    command-apart P hook (command_of false words tree) names tree parts others rest more ending end one two then
language-apart P (Script words) hook names tree parts others rest more ending end one two then =
    command-apart P hook (command_of true words tree) names tree parts others rest more ending end one two then

hook-apart : (P : Type 0) (config : Config) (ask : RunAsk) (tree : List File) (hook : Hook)
    (parts others rest more : List Part) (ending end : Ending)
    → IsEnding config ask tree hook parts ending → IsEnding config ask tree hook others end
    → (Alike parts others → ending ≡ end → Apart P rest more) → Apart P (parts ++ rest) (others ++ more)
hook-apart P config ask tree hook parts others rest more ending end one two then =
    let files = selected (rules_of config hook) ask.candidates tree in
    either-apart (is_skipped ask.skip hook) (λ a b. none-apart P _ parts others rest more ending end a b then)
    (either-apart (is_empty files && not hook.always_run)
    (λ a b. none-apart P _ parts others rest more ending end a b then)
    (λ a b. language-apart P hook.language hook (names_for hook files) tree parts others rest more ending end a b then))
    one two

-- ---- the hooks one after another

abbrev result_from : List ℕ → List ℕ → Bool → Ending → HookResult
result_from name id verbose ending = record { name = name; id = id; verbose = verbose; ending = ending }

same-fields : (n m i j : List ℕ) (v w : Bool) (e f : Ending) → n ≡ m → i ≡ j → v ≡ w → e ≡ f
    → result_from n i v e ≡ result_from m j w f
same-fields n m i j v w e f name id verbose ending = cc

same-result : (config : Config) (ask : RunAsk) (tree : List File) (hook : Hook) (parts others : List Part)
    (first second : HookResult)
    → IsResult config ask tree hook parts first → IsResult config ask tree hook others second
    → first.ending ≡ second.ending → first ≡ second
same-result config ask tree hook parts others first second one two ending =
    same-fields _ _ _ _ _ _ _ _ (one.name ∙ sym two.name) (one.id ∙ sym two.id) (one.verbose ∙ sym two.verbose) ending

abbrev Ends : List (List Part) → List HookResult → Type 0
Ends trace results = (trace ≡ []) × (results ≡ [])

ended-apart : (P : Type 0) (trace others : List (List Part)) (results more : List HookResult) → Ends trace results
    → Ends others more
    → (AlikeTraces trace others → results ≡ more → P) → Apart P (all_parts trace) (all_parts others)
ended-apart P trace others results more one two then =
    subst (λ (t : List (List Part)). Apart P (all_parts t) (all_parts others)) (sym one.0)
    (subst (λ (t : List (List Part)). Apart P [] (all_parts t)) (sym two.0)
    (then (ap (map without_marks) (one.0 ∙ sym two.0)) (one.1 ∙ sym two.1)))

run-apart : (P : Type 0) (config : Config) (ask : RunAsk) (tree : List File) (hooks : List Hook)
    (trace others : List (List Part)) (results more : List HookResult)
    → IsRun config ask tree hooks trace results → IsRun config ask tree hooks others more
    → (AlikeTraces trace others → results ≡ more → P)
    → Apart P (all_parts trace) (all_parts others)
run-apart P config ask tree [] [] [] [] [] one two then = then refl refl
run-apart P config ask tree [] [] [] [] (result ∷ more) one two then = absurd two
run-apart P config ask tree [] [] [] (result ∷ results) more one two then = absurd one
run-apart P config ask tree [] [] (parts ∷ others) results [] one two then = absurd two
run-apart P config ask tree [] [] (parts ∷ others) results (result ∷ more) one two then = absurd two
run-apart P config ask tree [] (parts ∷ trace) others [] more one two then = absurd one
run-apart P config ask tree [] (parts ∷ trace) others (result ∷ results) more one two then = absurd one
run-apart P config ask tree (hook ∷ hooks) [] others [] more one two then = absurd one
run-apart P config ask tree (hook ∷ hooks) [] others (result ∷ results) more one two then = absurd one
run-apart P config ask tree (hook ∷ hooks) (parts ∷ trace) others [] more one two then = absurd one
run-apart P config ask tree (hook ∷ hooks) (parts ∷ trace) [] (result ∷ results) [] one two then = absurd two
run-apart P config ask tree (hook ∷ hooks) (parts ∷ trace) [] (result ∷ results) (other ∷ more) one two then =
    absurd two
run-apart P config ask tree (hook ∷ hooks) (parts ∷ trace) (others ∷ rest) (result ∷ results) [] one two then =
    absurd two
run-apart P config ask tree (hook ∷ hooks) (parts ∷ trace) (others ∷ rest) (result ∷ results) (other ∷ more) one
    two then =
    hook-apart P config ask tree hook parts others (all_parts trace) (all_parts rest) result.ending other.ending
    one.0.ending two.0.ending
    (λ (same : Alike parts others) (ending : result.ending ≡ other.ending).
    let is : result ≡ other = same-result config ask tree hook parts others result other one.0 two.0 ending in
    let second =
    subst (λ (e : Ending). MatchBool (is_last config hook e) (Ends rest more)
    (IsRun config ask (after_parts tree others) hooks rest more)) (sym ending) two.1 in
    let third =
    subst (λ (t : List File). MatchBool (is_last config hook result.ending) (Ends rest more)
    (IsRun config ask t hooks rest more)) (sym (same-tree tree parts others same)) second in
    let joined =
    λ (left : AlikeTraces trace rest) (behind : results ≡ more). then
    (ap₂ (λ (p : List Part) (t : List (List Part)). p ∷ t) same left)
    (ap₂ (λ (r : HookResult) (rs : List HookResult). r ∷ rs) is behind) in
    either-apart (is_last config hook result.ending)
    (λ a b. ended-apart P trace rest results more a b joined)
    (λ a b. run-apart P config ask (after_parts tree parts) hooks trace rest results more a b joined)
    one.1 third)

-- ---- what two whole runs give

all-unmarked : (trace : List (List Part)) → without_marks (all_parts trace) ≡ all_parts (map without_marks trace)
all-unmarked [] = refl
all-unmarked (parts ∷ trace) =
    map-append without_unsteady_mark parts (all_parts trace)
    ∙ ap (λ (rest : List Part). without_marks parts ++ rest) (all-unmarked trace)

alike-parts : (trace others : List (List Part)) → AlikeTraces trace others → Alike (all_parts trace) (all_parts others)
alike-parts trace others alike = all-unmarked trace ∙ ap all_parts alike ∙ sym (all-unmarked others)

same-front : (parts others rest more : List Part) → Alike parts others → parts ++ rest ≡ others ++ more
    → (parts ≡ others) × (rest ≡ more)
same-front [] [] rest more alike same = (refl, same)
same-front [] (other ∷ others) rest more alike same = absurd (none-more _ _ alike)
same-front (part ∷ parts) [] rest more alike same = absurd (none-more _ _ (sym alike))
same-front (part ∷ parts) (other ∷ others) rest more alike same =
    let behind = same-front parts others rest more (same-tail _ _ _ _ alike) (same-tail _ _ _ _ same) in
    (ap₂ (λ (p : Part) (ps : List Part). p ∷ ps) (same-head _ _ _ _ same) behind.0, behind.1)

-- traces with the same parts, as many for each hook
same-trace : (trace others : List (List Part)) → AlikeTraces trace others → all_parts trace ≡ all_parts others
    → trace ≡ others
same-trace [] [] alike same = refl
same-trace [] (other ∷ others) alike same = absurd (none-more _ _ alike)
same-trace (parts ∷ trace) [] alike same = absurd (none-more _ _ (sym alike))
same-trace (parts ∷ trace) (other ∷ others) alike same =
    let front = same-front parts other (all_parts trace) (all_parts others) (same-head _ _ _ _ alike) same in
    ap₂ (λ (p : List Part) (t : List (List Part)). p ∷ t) front.0
    (same-trace trace others (same-tail _ _ _ _ alike) front.1)

-- two runs that are alike give the same, and the ids of unsteady hooks too if their marks are the same
abbrev Given : RunOut → RunOut → List (List Part) → List (List Part) → Type 0
Given first second trace others = GiveSame first second × (all_parts trace ≡ all_parts others → first ≡ second)

given-same : (config : Config) (ask : RunAsk) (tree : List File) (trace others : List (List Part))
    (first second : RunOut)
    → (one : IsRunOut config ask tree trace first) → (two : IsRunOut config ask tree others second)
    → AlikeTraces trace others → one.results ≡ two.results → Given first second trace others
given-same config ask tree trace others first second one two alike results =
    let made =
    λ (t : List (List Part)) (r : List HookResult). out_of config ask r (tree_after tree t)
    (unsteady_ids (hooks_of_run config ask) t) in (
      record {
        passed =
            ap (λ (out : RunOut). out.passed) one.is ∙ ap has_passed results
            ∙ sym (ap (λ (out : RunOut). out.passed) two.is);
        report =
            ap (λ (out : RunOut). out.report) one.is ∙ ap (report_text (names_of_run config ask)) results
            ∙ sym (ap (λ (out : RunOut). out.report) two.is);
        results = ap (λ (out : RunOut). out.results) one.is ∙ results ∙ sym (ap (λ (out : RunOut). out.results) two.is);
        tree =
            ap (λ (out : RunOut). out.tree) one.is
            ∙ same-tree tree (all_parts trace) (all_parts others) (alike-parts trace others alike)
            ∙ sym (ap (λ (out : RunOut). out.tree) two.is);
      },
      λ (same : all_parts trace ≡ all_parts others). one.is ∙ ap₂ made (same-trace trace others alike same) results
          ∙ sym two.is,
    )

out-apart : (config : Config) (ask : RunAsk) (tree : List File) (trace others : List (List Part))
    (first second : RunOut)
    → IsRunOut config ask tree trace first → IsRunOut config ask tree others second
    → Apart (Given first second trace others) (all_parts trace) (all_parts others)
out-apart config ask tree trace others first second one two =
    run-apart (Given first second trace others) config ask tree (hooks_of_run config ask) trace others one.results
    two.results one.run two.run
    (given-same config ask tree trace others first second one two)

-- ---- what comes next

front-apart : (P : Type 0) (front begun rest more : List Part) → Apart P (front ++ rest) (begun ++ more)
    → outcomes_of front ≡ outcomes_of begun → Alike front begun × Apart P rest more
front-apart P [] [] rest more apart same = (refl, apart)
front-apart P [] (other ∷ begun) rest more apart same = absurd (none-more _ _ same)
front-apart P (part ∷ front) [] rest more apart same = absurd (none-more _ _ (sym same))
front-apart P (part ∷ front) (other ∷ begun) rest more apart same =
    let outcome = same-head part.outcome other.outcome (outcomes_of front) (outcomes_of begun) same in
    let behind =
    front-apart P front begun rest more (apart.2 outcome)
    (same-tail part.outcome other.outcome (outcomes_of front) (outcomes_of begun) same) in (
      ap₂ (λ (p : Part) (ps : List Part). p ∷ ps)
          (same-part part.words other.words part.seen other.seen part.outcome other.outcome apart.0 apart.1 outcome)
          behind.0,
      behind.1,
    )

next-from : (first second : RunOut) (trace others : List (List Part)) (rest more : List Part)
    → Apart (Given first second trace others) rest more → IsNextOf first second rest more
next-from first second trace others [] [] apart = apart.0
next-from first second trace others [] (other ∷ more) apart = absurd apart
next-from first second trace others (part ∷ rest) [] apart = absurd apart
next-from first second trace others (part ∷ rest) (other ∷ more) apart = (apart.0, apart.1)

pub next-of : (config : Config) (ask : RunAsk) (tree : List File) (trace others : List (List Part))
    (first second : RunOut) (front begun rest more : List Part)
    → IsRunOut config ask tree trace first → IsRunOut config ask tree others second
    → all_parts trace ≡ front ++ rest → all_parts others ≡ begun ++ more → outcomes_of front ≡ outcomes_of begun
    → (without_marks front ≡ without_marks begun) × IsNextOf first second rest more
next-of config ask tree trace others first second front begun rest more one two before behind same =
    let P = Given first second trace others in
    let apart = out-apart config ask tree trace others first second one two in
    let next = front-apart P front begun rest more
    (subst (λ (q : List Part). Apart P (front ++ rest) q) behind
    (subst (λ (p : List Part). Apart P p (all_parts others)) before apart)) same in
    (next.0, next-from first second trace others rest more next.1)

-- ---- all that is given

-- if the parts are the same to the end, P holds
to-the-end : (P : Type 0) (parts others : List Part) → Apart P parts others → parts ≡ others → P
to-the-end P [] [] apart same = apart
to-the-end P [] (other ∷ others) apart same = absurd apart
to-the-end P (part ∷ parts) [] apart same = absurd apart
to-the-end P (part ∷ parts) (other ∷ others) apart same =
    to-the-end P parts others (apart.2 (ap (λ (p : Part). p.outcome) (same-head part other parts others same)))
    (same-tail part other parts others same)

pub same-out : (config : Config) (ask : RunAsk) (tree : List File) (trace others : List (List Part))
    (first second : RunOut)
    → IsRunOut config ask tree trace first → IsRunOut config ask tree others second → all_parts trace ≡ all_parts others
    → first ≡ second
same-out config ask tree trace others first second one two same =
    (to-the-end (Given first second trace others) (all_parts trace) (all_parts others)
    (out-apart config ask tree trace others first second one two) same).1 same

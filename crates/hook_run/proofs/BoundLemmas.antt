-- A hook has one part for each file of its tree at most, or one without names, and no outcome makes the tree longer.
use Rattle.std.proofs.Common.{◌≡◌, ap, refl, arith, ℕ, ◌+◌, ◌<◌, ◌≤◌, Bool, true, false, List, [], ◌∷◌, ◌++◌, length, Option, None, Some, All}
use Rattle.std.specs.Prelude.{if◌then◌else◌, not, ◌&&◌}
use Rattle.std.specs.Str.{bytes_eq}
use Rattle.std.proofs.lemmas.List.{length-map}
use Rattle.std.proofs.lemmas.List.Sums.{count_by-le-length, length-filter}
use Rattle.std.proofs.lemmas.List.Elements.{All-head, All-tail}
use Rattle.arg_partition.specs.declared.cut.Cut.{Cut}
use Rattle.arg_partition.specs.Parts.{Adjoin, AreParts, IsPart, fits, names_of, too_long_at}
use Rattle.hook_base.specs.declared.change.Change.{Change}
use Rattle.hook_base.specs.declared.file.File.{File}
use Rattle.hook_base.specs.Trees.{apply_at, apply_change, apply_changes, path_of, remove_file, rewrite_file}
use Rattle.child_port.specs.Outcomes.{after_outcome}
use Rattle.child_port.specs.declared.answer.Outcome.{Outcome}
use Rattle.child_port.specs.declared.answer.Outcome.TheVariants.{Done, Failed}
use Rattle.hook_config.specs.declared.configuration.Config.{Config}
use Rattle.hook_config.specs.declared.configuration.Hook.{Hook}
use Rattle.hook_config.specs.declared.configuration.Language.{Language}
use Rattle.hook_config.specs.declared.configuration.Language.TheVariants.{Fail, Pygrep, System, Script}
use Rattle.path_select.specs.Selection.{is_selected, selected, selected_rows}
use Rattle.report_text.specs.Report.{is_empty}
use Rattle.report_text.specs.declared.hook_result.Ending.{Ending}
use Rattle.hook_run.specs.declared.run_ask.RunAsk.{RunAsk}
use Rattle.hook_run.specs.Asks.{is_skipped}
use Rattle.hook_run.specs.Commands.{command_of}
use Rattle.hook_run.specs.HookRun.{IsCommandRun, IsEnding, IsLanguageRun, commands_of, further_of, most_names_of, names_for, rules_of, sees_whole}
use Rattle.hook_run.specs.Limits.{most_command_bytes}
use Rattle.hook_run.specs.Parts.{ArePartsOf, Part}
use Rattle.hook_run.specs.PlanBounds.{most_of_hooks}
use Rattle.hook_run.specs.PartsEnding.{ending_of_parts}
use Rattle.hook_run.specs.Plans.{AtHook, hooks_after}
use Rattle.hook_run.specs.StageRun.{is_last}
use Rattle.hook_run.specs.PlanStates.{IsFirstOf}
use Rattle.hook_run.proofs.CompletionLemmas.{some-parts}
use Rattle.hook_run.proofs.FaultLemmas.{either-way, option-way}

-- ---- no outcome makes a tree longer

remove-shorter : (path : List ℕ) (rows : List File) → length (remove_file path rows) ≤ length rows
remove-shorter path [] = omega arith
remove-shorter path (row ∷ rows) =
    let rest = remove-shorter path rows in
    elim (bytes_eq path row.path) as (λ (b : Bool). length (if b then remove_file path rows else row ∷ remove_file path rows) ≤ length (row ∷ rows)) [
      | true ↦ omega arith
      | false ↦ omega arith
    ]

rewrite-long : (path bytes : List ℕ) (rows : List File) → length (rewrite_file path bytes rows) ≡ length rows
rewrite-long path bytes [] = refl
rewrite-long path bytes (row ∷ rows) = let rest = rewrite-long path bytes rows in omega arith

change-shorter : (path : List ℕ) (now : Option (List ℕ)) (rows : List File) → length (apply_at path now rows) ≤ length rows
change-shorter path None rows = remove-shorter path rows
change-shorter path (Some bytes) rows = let long = rewrite-long path bytes rows in omega arith

changes-shorter : (changes : List Change) (rows : List File) → length (apply_changes changes rows) ≤ length rows
changes-shorter [] rows = omega arith
changes-shorter (change ∷ changes) rows =
    let here = change-shorter change.path change.now rows in
    let rest = changes-shorter changes (apply_change change rows) in
    omega arith

pub outcome-shorter : (tree : List File) (outcome : Outcome) → length (after_outcome tree outcome) ≤ length tree
outcome-shorter tree (Done answer) = changes-shorter answer.changes tree
outcome-shorter tree (Failed fault) = omega arith

-- ---- a hook has a part for each file at most, or one

adjoin-short : (start : ℕ) (cuts : List Cut) (end : ℕ) → All (λ (cut : Cut). cut.start < cut.end) cuts → Adjoin start cuts end → start + length cuts ≤ end
adjoin-short start [] end some is = omega arith
adjoin-short start (cut ∷ cuts) end some is =
    let here = All-head (λ (one : Cut). one.start < one.end) cut cuts some in
    let begins = is.0 in
    let rest = adjoin-short cut.end cuts end (All-tail (λ (one : Cut). one.start < one.end) cut cuts some) is.1 in
    omega arith

named-cuts : (fitting : List (List ℕ) → Bool) (most : ℕ) (names : List (List ℕ)) (cuts : List Cut) → 0 < length names → All (IsPart fitting most names) cuts
    → All (λ (cut : Cut). cut.start < cut.end) cuts
named-cuts fitting most names cuts some parts = λ k d within. (parts k d within).named some

cuts-short : (fitting : List (List ℕ) → Bool) (most : ℕ) (names : List (List ℕ)) (cuts : List Cut) → AreParts fitting most names cuts → length cuts ≤ 1 + length names
cuts-short fitting most [] cuts are = let long = ap length (are.alone refl) in omega arith
cuts-short fitting most (name ∷ names) cuts are =
    let short = adjoin-short 0 cuts (length (name ∷ names)) (named-cuts fitting most (name ∷ names) cuts (omega arith) are.parts) are.adjoin in
    omega arith

parts-long : (whole : Bool) (further : List File → List (List ℕ)) (commands : List (List (List ℕ))) (tree : List File) (parts : List Part) → ArePartsOf whole further commands tree parts
    → length parts ≡ length commands
parts-long whole further [] tree [] run = refl
parts-long whole further [] tree (part ∷ parts) run = absurd run
parts-long whole further (words ∷ commands) tree [] run = absurd run
parts-long whole further (words ∷ commands) tree (part ∷ parts) run =
    let rest = parts-long whole further commands (after_outcome tree part.outcome) parts run.2 in omega arith

none-short : (tree : List File) (parts : List Part) → parts ≡ [] → length parts ≤ 1 + length tree
none-short tree parts none = let long = ap length none in omega arith

selected-short : (config : Config) (ask : RunAsk) (tree : List File) (hook : Hook) → length (selected (rules_of config hook) ask.candidates tree) ≤ length tree
selected-short config ask tree hook =
    let rules = rules_of config hook in
    let mapped = length-map (selected_rows rules ask.candidates tree) path_of in
    let counted = length-filter (is_selected rules ask.candidates) tree in
    let fewer = count_by-le-length (is_selected rules ask.candidates) tree in
    omega arith

names-short : (hook : Hook) (files : List (List ℕ)) → length (names_for hook files) ≤ length files
names-short hook files = elim hook.pass_filenames as (λ (b : Bool). length (if b then files else []) ≤ length files) [ true ↦ omega arith | false ↦ omega arith ]

command-short : (hook : Hook) (words names : List (List ℕ)) (tree : List File) (parts : List Part) (ending : Ending) → length names ≤ length tree → IsCommandRun hook words names tree parts ending
    → length parts ≤ 1 + length tree
command-short hook words names tree parts ending within run =
    option-way (too_long_at (fits words most_command_bytes) names) _
    (λ fitting.
    let cuts = cuts-short (fits words most_command_bytes) (most_names_of hook) names fitting.0.cuts fitting.0.cut in
    let long = parts-long (sees_whole hook) (further_of hook) (commands_of words names fitting.0.cuts) tree parts fitting.0.run in
    let commands = length-map fitting.0.cuts (λ (cut : Cut). words ++ names_of names cut) in
    omega arith)
    (λ _ misfit. none-short tree parts misfit.0)
    run

language-short : (language : Language) (hook : Hook) (names : List (List ℕ)) (tree : List File) (parts : List Part) (ending : Ending) → length names ≤ length tree
    → IsLanguageRun language hook names tree parts ending → length parts ≤ 1 + length tree
language-short Fail hook names tree parts ending within run = none-short tree parts run.0
language-short (Pygrep search) hook names tree parts ending within run = none-short tree parts run.0
language-short (System words) hook names tree parts ending within run = command-short hook (command_of false words tree) names tree parts ending within run
language-short (Script words) hook names tree parts ending within run = command-short hook (command_of true words tree) names tree parts ending within run

hook-short : (config : Config) (ask : RunAsk) (tree : List File) (hook : Hook) (parts : List Part) (ending : Ending) → IsEnding config ask tree hook parts ending → length parts ≤ 1 + length tree
hook-short config ask tree hook parts ending run =
    let files = selected (rules_of config hook) ask.candidates tree in
    let few = selected-short config ask tree hook in
    let named = names-short hook files in
    either-way (is_skipped ask.skip hook) (λ skipped. none-short tree parts skipped.0)
    (either-way (is_empty files && not hook.always_run) (λ skipped. none-short tree parts skipped.0)
    (λ ran. language-short hook.language hook (names_for hook files) tree parts ending (omega arith) ran))
    run

-- the parts that a hook begins with
pub commands-short : (config : Config) (ask : RunAsk) (tree : List File) (hook : Hook) (at : AtHook) → IsFirstOf (IsEnding config ask tree hook) hook tree at → length at.commands ≤ 1 + length tree
commands-short config ask tree hook at first =
    let some = some-parts (sees_whole hook) (further_of hook) at.commands tree in
    let long = parts-long (sees_whole hook) (further_of hook) at.commands tree some.parts some.are in
    let short = hook-short config ask tree hook some.parts (ending_of_parts tree some.parts) (first.ended some.parts some.are) in
    omega arith

-- ---- hooks on a shorter tree, and fewer hooks

pub most-shorter : (hooks : List Hook) (after tree : List File) → length after ≤ length tree → most_of_hooks hooks after ≤ most_of_hooks hooks tree
most-shorter [] after tree shorter = omega arith
most-shorter (hook ∷ hooks) after tree shorter = let rest = most-shorter hooks after tree shorter in omega arith

pub most-after : (config : Config) (hook : Hook) (ending : Ending) (hooks : List Hook) (tree : List File) → most_of_hooks (hooks_after config hook ending hooks) tree ≤ most_of_hooks hooks tree
most-after config hook ending hooks tree =
    elim (is_last config hook ending) as (λ (b : Bool). most_of_hooks (if b then [] else hooks) tree ≤ most_of_hooks hooks tree) [ true ↦ omega arith | false ↦ omega arith ]

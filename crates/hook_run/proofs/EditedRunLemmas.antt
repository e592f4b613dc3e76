-- A run that doesn't look at the files of an edit is one on the edited tree too, with the same parts.
use Rattle.std.proofs.Common.{◌≡◌, ◌∙◌, ap, sym, subst, refl, inl, inr, ℕ, Bool, true, false, List, [], ◌∷◌, ◌++◌, Option, None, Some}
use Rattle.std.specs.Prelude.{◌≢◌, ◌⊎◌, MatchBool, MatchOption, if◌then◌else◌, is_some, not, ◌&&◌}
use Rattle.std.specs.List.{AllByRecursion as Each}
use Rattle.std.specs.Str.{bytes_eq}
use Rattle.arg_partition.specs.Parts.{fits, too_long_at}
use Rattle.hook_base.specs.Trees.{IsRising, entry_of}
use Rattle.hook_base.specs.TreeLemmas.{IsRising-apply_changes}
use Rattle.hook_base.specs.declared.file.File.{File}
use Rattle.builtin_hooks.specs.GrepAnswer.{status_of_output}
use Rattle.child_port.specs.Outcomes.{after_outcome}
use Rattle.child_port.specs.Seen.{plain_word, seen_of}
use Rattle.child_port.specs.declared.answer.Outcome.{Outcome}
use Rattle.child_port.specs.declared.answer.Outcome.TheVariants.{Done, Failed}
use Rattle.hook_config.specs.Patterns.{no_path}
use Rattle.hook_config.specs.declared.configuration.Config.{Config}
use Rattle.hook_config.specs.declared.configuration.Hook.{Hook}
use Rattle.hook_config.specs.declared.configuration.Language.{Language}
use Rattle.hook_config.specs.declared.configuration.Language.TheVariants.{Fail, Pygrep, System, Script}
use Rattle.path_select.specs.Candidates.{is_candidate}
use Rattle.path_select.specs.Selection.{selected}
use Rattle.report_text.specs.Report.{is_empty}
use Rattle.report_text.specs.declared.hook_result.Ending.{Ending}
use Rattle.report_text.specs.declared.hook_result.Ending.TheVariants.{Ran, SkippedAsked, SkippedNoFiles}
use Rattle.report_text.specs.declared.hook_result.HookResult.{HookResult}
use Rattle.hook_run.specs.declared.run_ask.RunAsk.{RunAsk}
use Rattle.hook_run.specs.Asks.{is_skipped}
use Rattle.hook_run.specs.Commands.{command_of, command_with}
use Rattle.hook_run.specs.HookRun.{AreItsParts, IsCommandRun, IsEnding, IsHookRun, IsLanguageRun, commands_of, ending_of_misfit, further_of, names_for, rules_of, sees_whole}
use Rattle.hook_run.specs.Limits.{most_command_bytes}
use Rattle.hook_run.specs.Parts.{ArePartsOf, Part, after_parts, all_parts}
use Rattle.hook_run.specs.PartsEnding.{ending_of_parts, greatest_status, is_modified, joined_output, line_faults}
use Rattle.hook_run.specs.StageRun.{IsRun, is_last}
use Rattle.hook_run.specs.UnseenEdits.{path_of_first, script_path, strays}
use Rattle.hook_run.proofs.EditLemmas.{Edit, changes-commute, changes-elsewhere, edited, entry-unedited, found-same, keeps-to-seen, modified-same, not-there, output-same, seen-commutes, selected-candidates, selected-same, tree-unedited, unseen-elsewhere}

-- no child of the parts sees a file at the path
abbrev pub Unseen : List Part → List ℕ → Type 0
Unseen parts path = Each (λ part. entry_of path part.seen ≡ None) parts

-- no answer of the parts changes others than the seen files
abbrev pub KeepTo : List Part → Type 0
KeepTo parts = Each (λ part. strays part.outcome part.seen ≡ false) parts

-- no hook has its script at the path
abbrev pub NoScript : List Hook → List ℕ → Type 0
NoScript hooks path = Each (λ hook. script_path hook.language ≢ Some path) hooks

each-front : {A : Type 0} (P : A → Type 0) (items more : List A) → Each P (items ++ more) → Each P items
each-front P [] more each = tt
each-front P (item ∷ items) more each = (each.0, each-front P items more each.1)

each-back : {A : Type 0} (P : A → Type 0) (items more : List A) → Each P (items ++ more) → Each P more
each-back P [] more each = each
each-back P (item ∷ items) more each = each-back P items more each.1

each-weaker : {A : Type 0} (P Q : A → Type 0) → ((item : A) → P item → Q item) → (items : List A) → Each P items → Each Q items
each-weaker P Q weaker [] each = tt
each-weaker P Q weaker (item ∷ items) each = (weaker item each.0, each-weaker P Q weaker items each.1)

pub second-way : {B C : Type 0} (A : Type 0) (b : Bool) → (B → C) → MatchBool b A B → MatchBool b A C
second-way A true on is = is
second-way A false on is = on is

no-fault : {A C : Type 0} (B : ℕ → Type 0) (o : Option ℕ) → (A → C) → MatchOption o A B → MatchOption o C B
no-fault B None on is = on is
no-fault B (Some n) on is = is

-- ---- files that parts leave

outcome-kept : (path : List ℕ) (tree : List File) (outcome : Outcome) (seen : List File) → entry_of path seen ≡ None → strays outcome seen ≡ false
    → entry_of path (after_outcome tree outcome) ≡ entry_of path tree
outcome-kept path tree (Done answer) seen none kept =
    changes-elsewhere path answer.changes tree (keeps-to-seen (λ at. bytes_eq path at ≡ false) seen answer.changes (unseen-elsewhere path seen none) kept)
outcome-kept path tree (Failed fault) seen none kept = refl

pub parts-kept : (path : List ℕ) (tree : List File) (parts : List Part) → Unseen parts path → KeepTo parts → entry_of path (after_parts tree parts) ≡ entry_of path tree
parts-kept path tree [] unseen kept = refl
parts-kept path tree (part ∷ parts) unseen kept =
    parts-kept path (after_outcome tree part.outcome) parts unseen.1 kept.1 ∙ outcome-kept path tree part.outcome part.seen unseen.0 kept.0

outcome-rising : (tree : List File) (outcome : Outcome) → IsRising tree → IsRising (after_outcome tree outcome)
outcome-rising tree (Done answer) rising = IsRising-apply_changes answer.changes tree rising
outcome-rising tree (Failed fault) rising = rising

parts-rising : (tree : List File) (parts : List Part) → IsRising tree → IsRising (after_parts tree parts)
parts-rising tree [] rising = rising
parts-rising tree (part ∷ parts) rising = parts-rising (after_outcome tree part.outcome) parts (outcome-rising tree part.outcome rising)

module _ (edit : Edit) where
  -- this is so of each path that is edited
  abbrev pub WhereEdited : (List ℕ → Type 0) → Type 0
  WhereEdited P = (path : List ℕ) → (edit path ≡ None) ⊎ P path

  weaker : (P Q : List ℕ → Type 0) → ((path : List ℕ) → P path → Q path) → WhereEdited P → WhereEdited Q
  weaker P Q on all = λ path. elim (all path) [ inl none ↦ inl none | inr is ↦ inr (on path is) ]

  seen-kept : (seen : List File) → WhereEdited (λ path. entry_of path seen ≡ None) → (path : List ℕ) → is_some (entry_of path seen) ≡ true → edit path ≡ None
  seen-kept seen unseen path there = elim (unseen path) [ inl none ↦ none | inr not_seen ↦ absurd (not-there (entry_of path seen) not_seen there) ]

  first-unseen : (part : Part) (parts : List Part) → WhereEdited (Unseen (part ∷ parts)) → (path : List ℕ) → is_some (entry_of path part.seen) ≡ true → edit path ≡ None
  first-unseen part parts unseen = seen-kept part.seen (weaker (Unseen (part ∷ parts)) (λ path. entry_of path part.seen ≡ None) (λ path both. both.0) unseen)

  rest-unseen : (part : Part) (parts : List Part) → WhereEdited (Unseen (part ∷ parts)) → WhereEdited (Unseen parts)
  rest-unseen part parts unseen = weaker (Unseen (part ∷ parts)) (Unseen parts) (λ path both. both.1) unseen

  -- ---- one hook

  outcome-commutes : (tree : List File) (outcome : Outcome) (seen : List File) → ((path : List ℕ) → is_some (entry_of path seen) ≡ true → edit path ≡ None) → strays outcome seen ≡ false
      → after_outcome (edited edit tree) outcome ≡ edited edit (after_outcome tree outcome)
  outcome-commutes tree (Done answer) seen clean kept = changes-commute edit answer.changes tree (keeps-to-seen (λ path. edit path ≡ None) seen answer.changes clean kept)
  outcome-commutes tree (Failed fault) seen clean kept = refl

  pub parts-commute : (tree : List File) (parts : List Part) → WhereEdited (Unseen parts) → KeepTo parts → after_parts (edited edit tree) parts ≡ edited edit (after_parts tree parts)
  parts-commute tree [] unseen kept = refl
  parts-commute tree (part ∷ parts) unseen kept =
      ap (λ (t : List File). after_parts t parts) (outcome-commutes tree part.outcome part.seen (first-unseen part parts unseen) kept.0)
      ∙ parts-commute (after_outcome tree part.outcome) parts (rest-unseen part parts unseen) kept.1

  parts-edited : (whole : Bool) (further : List File → List (List ℕ)) → ((tree : List File) → further (edited edit tree) ≡ further tree)
      → (commands : List (List (List ℕ))) (tree : List File) (parts : List Part)
      → WhereEdited (Unseen parts) → KeepTo parts → ArePartsOf whole further commands tree parts → ArePartsOf whole further commands (edited edit tree) parts
  parts-edited whole further same [] tree [] unseen kept are = tt
  parts-edited whole further same [] tree (part ∷ parts) unseen kept are = absurd are
  parts-edited whole further same (words ∷ commands) tree [] unseen kept are = absurd are
  parts-edited whole further same (words ∷ commands) tree (part ∷ parts) unseen kept are = (
    are.0,
    sym (tree-unedited edit part.seen (first-unseen part parts unseen))
        ∙ ap (edited edit) are.1
        ∙ sym (seen-commutes edit words (further tree) whole tree)
        ∙ ap (λ (extra : List (List ℕ)). seen_of words extra whole (edited edit tree)) (sym (same tree)),
    subst (λ (t : List File). ArePartsOf whole further commands t parts) (sym (outcome-commutes tree part.outcome part.seen (first-unseen part parts unseen) kept.0))
        (parts-edited whole further same commands (after_outcome tree part.outcome) parts (rest-unseen part parts unseen) kept.1 are.2),
  )

  ending-edited : (tree : List File) (parts : List Part) → IsRising tree → WhereEdited (Unseen parts) → KeepTo parts → ending_of_parts (edited edit tree) parts ≡ ending_of_parts tree parts
  ending-edited tree parts rising unseen kept =
      ap (λ (modified : Bool). Ran (greatest_status parts) (line_faults parts) modified (joined_output parts))
      (ap (is_modified (edited edit tree)) (parts-commute tree parts unseen kept)
      ∙ modified-same edit tree (after_parts tree parts) rising
      (weaker (Unseen parts) (λ path. entry_of path (after_parts tree parts) ≡ entry_of path tree) (λ path not_seen. parts-kept path tree parts not_seen kept) unseen))

  further-edited : (hook : Hook) (tree : List File) → further_of hook (edited edit tree) ≡ further_of hook tree
  further-edited hook tree =
      ap (λ (found : List (List ℕ)). if bytes_eq hook.x_reads no_path then [] else found) (found-same edit hook.x_reads tree)

  command-edited : (hook : Hook) (words names : List (List ℕ)) (tree : List File) (parts : List Part) (ending : Ending) → IsRising tree → WhereEdited (Unseen parts) → KeepTo parts
      → IsCommandRun hook words names tree parts ending → IsCommandRun hook words names (edited edit tree) parts ending
  command-edited hook words names tree parts ending rising unseen kept is =
      no-fault (λ _. (parts ≡ []) × (ending ≡ ending_of_misfit)) (too_long_at (fits words most_command_bytes) names)
      (λ (run : AreItsParts hook words names tree parts × (ending ≡ ending_of_parts tree parts)). (
        record {
          cuts = run.0.cuts;
          cut = run.0.cut;
          run = parts-edited (sees_whole hook) (further_of hook) (further-edited hook) (commands_of words names run.0.cuts) tree parts unseen kept run.0.run;
        },
        run.1 ∙ sym (ending-edited tree parts rising unseen kept),
      ))
      is

  command-same : (is_script : Bool) (words : List (List ℕ)) (tree : List File) → WhereEdited (λ path. path_of_first words ≢ Some path)
      → command_of is_script words (edited edit tree) ≡ command_of is_script words tree
  command-same is_script [] tree elsewhere = refl
  command-same is_script (first ∷ rest) tree elsewhere =
      elim (elsewhere (plain_word first)) [
        | inl none ↦ ap (command_with is_script first rest) (entry-unedited edit (plain_word first) tree none)
        | inr differs ↦ absurd (differs refl)
      ]

  -- where the words are the same on both trees
  worded-edited : (hook : Hook) (words there names : List (List ℕ)) (tree : List File) (parts : List Part) (ending : Ending) → there ≡ words → IsRising tree → WhereEdited (Unseen parts) → KeepTo parts
      → IsCommandRun hook words names tree parts ending → IsCommandRun hook there names (edited edit tree) parts ending
  worded-edited hook words there names tree parts ending same rising unseen kept is =
      subst (λ (w : List (List ℕ)). IsCommandRun hook w names (edited edit tree) parts ending) (sym same) (command-edited hook words names tree parts ending rising unseen kept is)

  language-edited : (language : Language) (hook : Hook) (names : List (List ℕ)) (tree : List File) (parts : List Part) (ending : Ending) → IsRising tree → Each (λ name. edit name ≡ None) names
      → WhereEdited (λ path. script_path language ≢ Some path) → WhereEdited (Unseen parts) → KeepTo parts
      → IsLanguageRun language hook names tree parts ending → IsLanguageRun language hook names (edited edit tree) parts ending
  language-edited Fail hook names tree parts ending rising clean elsewhere unseen kept is = is
  language-edited (Pygrep search) hook names tree parts ending rising clean elsewhere unseen kept is =
      (is.0, is.1 ∙ ap (λ (output : List ℕ). Ran (status_of_output output) [] false output) (sym (output-same edit search names tree clean)))
  language-edited (System words) hook names tree parts ending rising clean elsewhere unseen kept is =
      worded-edited hook (command_of false words tree) (command_of false words (edited edit tree)) names tree parts ending (command-same false words tree elsewhere) rising unseen kept is
  language-edited (Script words) hook names tree parts ending rising clean elsewhere unseen kept is =
      worded-edited hook (command_of true words tree) (command_of true words (edited edit tree)) names tree parts ending (command-same true words tree elsewhere) rising unseen kept is

  candidate-kept : (candidates : List (List ℕ)) → WhereEdited (λ path. is_candidate candidates path ≡ false) → (path : List ℕ) → is_candidate candidates path ≡ true → edit path ≡ None
  candidate-kept candidates none path is = elim (none path) [ inl kept ↦ kept | inr isnt ↦ absurd (cc) ]

  names-kept : (hook : Hook) (passed : Bool) (files : List (List ℕ)) → Each (λ name. edit name ≡ None) files → Each (λ name. edit name ≡ None) (if passed then files else [])
  names-kept hook true files each = each
  names-kept hook false files each = tt

  hook-edited : (config : Config) (ask : RunAsk) (tree : List File) (hook : Hook) (parts : List Part) (ending : Ending) → IsRising tree → WhereEdited (λ path. is_candidate ask.candidates path ≡ false)
      → WhereEdited (λ path. script_path hook.language ≢ Some path) → WhereEdited (Unseen parts) → KeepTo parts → IsEnding config ask tree hook parts ending
      → IsEnding config ask (edited edit tree) hook parts ending
  hook-edited config ask tree hook parts ending rising none elsewhere unseen kept is =
      let rules = rules_of config hook in
      let files = selected rules ask.candidates tree in
      let clean = each-weaker (λ path. is_candidate ask.candidates path ≡ true) (λ path. edit path ≡ None) (candidate-kept ask.candidates none) files (selected-candidates rules ask.candidates tree) in
      second-way ((parts ≡ []) × (ending ≡ SkippedAsked)) (is_skipped ask.skip hook)
      (λ (run : IsHookRun hook files tree parts ending).
      subst (λ (selected_files : List (List ℕ)). IsHookRun hook selected_files (edited edit tree) parts ending) (sym (selected-same edit rules ask.candidates tree none))
      (second-way ((parts ≡ []) × (ending ≡ SkippedNoFiles)) (is_empty files && not hook.always_run)
      (language-edited hook.language hook (names_for hook files) tree parts ending rising (names-kept hook hook.pass_filenames files clean) elsewhere unseen kept)
      run))
      is

  -- ---- the hooks one after another

  pub run-edited : (config : Config) (ask : RunAsk) (tree : List File) (hooks : List Hook) (trace : List (List Part)) (results : List HookResult) → IsRising tree
      → WhereEdited (λ path. is_candidate ask.candidates path ≡ false)
      → WhereEdited (NoScript hooks) → WhereEdited (Unseen (all_parts trace)) → KeepTo (all_parts trace) → IsRun config ask tree hooks trace results
      → IsRun config ask (edited edit tree) hooks trace results
  run-edited config ask tree [] [] [] rising none elsewhere unseen kept run = tt
  run-edited config ask tree [] [] (result ∷ results) rising none elsewhere unseen kept run = absurd run
  run-edited config ask tree [] (parts ∷ trace) results rising none elsewhere unseen kept run = absurd run
  run-edited config ask tree (hook ∷ hooks) [] results rising none elsewhere unseen kept run = absurd run
  run-edited config ask tree (hook ∷ hooks) (parts ∷ trace) [] rising none elsewhere unseen kept run = absurd run
  run-edited config ask tree (hook ∷ hooks) (parts ∷ trace) (result ∷ results) rising none elsewhere unseen kept run =
      let here = weaker (Unseen (parts ++ all_parts trace)) (Unseen parts) (λ path all. each-front (λ (part : Part). entry_of path part.seen ≡ None) parts (all_parts trace) all) unseen in
      let behind = weaker (Unseen (parts ++ all_parts trace)) (Unseen (all_parts trace)) (λ path all. each-back (λ (part : Part). entry_of path part.seen ≡ None) parts (all_parts trace) all) unseen in
      let kept_here = each-front (λ (part : Part). strays part.outcome part.seen ≡ false) parts (all_parts trace) kept in
      let kept_behind = each-back (λ (part : Part). strays part.outcome part.seen ≡ false) parts (all_parts trace) kept in (
        record {
          name = run.0.name;
          id = run.0.id;
          verbose = run.0.verbose;
          ending =
              hook-edited config ask tree hook parts result.ending rising none (weaker (NoScript (hook ∷ hooks)) (λ path. script_path hook.language ≢ Some path) (λ path both. both.0) elsewhere) here
              kept_here run.0.ending;
        },
        second-way ((trace ≡ []) × (results ≡ [])) (is_last config hook result.ending)
            (λ (rest : IsRun config ask (after_parts tree parts) hooks trace results).
            subst (λ (t : List File). IsRun config ask t hooks trace results) (sym (parts-commute tree parts here kept_here))
            (run-edited config ask (after_parts tree parts) hooks trace results (parts-rising tree parts rising) none
            (weaker (NoScript (hook ∷ hooks)) (NoScript hooks) (λ path both. both.1) elsewhere) behind kept_behind rest))
            run.1,
      )

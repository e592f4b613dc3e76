-- Hooks that pass leave each file but the message as it was.
use Rattle.std.proofs.Common.{◌≡◌, ◌∙◌, ◌⊎◌, ap, ap₂, sym, subst, refl, inl, inr, ℕ, Bool, true, false, MatchBool, List, [], ◌∷◌, ◌++◌, Option, None, Some}
use Rattle.std.specs.Prelude.{◌==◌, ◌&&◌, ◌||◌, not, if◌then◌else◌, MatchOption}
use Rattle.std.specs.Str.{bytes_eq}
use Rattle.std.specs.List.{list_any}
use Rattle.std.specs.Cmp.Lexicographic.{bytes_decides}
use Rattle.std.specs.declared.cmp.Ordering.{Ordering}
use Rattle.std.specs.declared.cmp.Ordering.TheVariants.{Less, Equal, Greater}
use Rattle.hook_base.specs.declared.change.Change.{Change}
use Rattle.hook_base.specs.declared.file.File.{File}
use Rattle.hook_base.specs.declared.file.FileEntry.{FileEntry}
use Rattle.hook_base.specs.declared.file.Mode.{Mode}
use Rattle.hook_base.specs.Paths.{message_path}
use Rattle.hook_base.specs.Rising.{path_cmp}
use Rattle.hook_base.specs.RisingLemmas.{path_tied}
use Rattle.hook_base.specs.Trees.{IsRising, apply_at, apply_changes, entry_of, put_before, put_file, put_row, remove_file, rewrite_file, with_bytes}
use Rattle.hook_base.specs.TreeLemmas.{IsRising-apply_changes, IsRising-put_row, IsRising-remove_file, same_rows}
use Rattle.child_port.specs.declared.answer.Outcome.{Outcome}
use Rattle.child_port.specs.declared.answer.Outcome.TheVariants.{Done, Failed}
use Rattle.child_port.specs.Outcomes.{after_outcome}
use Rattle.hook_config.specs.declared.configuration.Config.{Config}
use Rattle.hook_config.specs.declared.configuration.Hook.{Hook}
use Rattle.hook_config.specs.declared.configuration.Language.{Language}
use Rattle.hook_config.specs.declared.configuration.Language.TheVariants.{Fail, Pygrep, System, Script}
use Rattle.report_text.specs.declared.hook_result.Ending.{Ending}
use Rattle.report_text.specs.declared.hook_result.Ending.TheVariants.{SkippedAsked, SkippedNoFiles}
use Rattle.report_text.specs.declared.hook_result.HookResult.{HookResult}
use Rattle.report_text.specs.Report.{is_empty, is_failed}
use Rattle.hook_run.specs.declared.run_ask.RunAsk.{RunAsk}
use Rattle.hook_run.specs.declared.run_out.RunOut.{RunOut}
use Rattle.hook_run.specs.Asks.{hooks_of_run, is_skipped}
use Rattle.hook_run.specs.Commands.{command_of}
use Rattle.hook_run.specs.HookRun.{AreItsParts, IsCommandRun, IsEnding, IsHookRun, IsLanguageRun, ending_of_misfit, names_for}
use Rattle.hook_run.specs.Parts.{Part, after_parts, all_parts, tree_after}
use Rattle.hook_run.specs.PartsEnding.{ending_of_parts, greatest_status, has_changed, is_modified, is_modified_row, is_tracked, line_faults}
use Rattle.hook_run.specs.RunOuts.{IsRunOut}
use Rattle.hook_run.specs.StageRun.{IsRun, has_passed, is_last}

-- ---- bytes that are the same or not

same_bytes : (a b : List ℕ) → bytes_eq a b ≡ true → a ≡ b
same_bytes a b same = (bytes_decides a b).0 same

-- a path that isn't this one isn't any other that this one is
not_same_as : (path at other : List ℕ) → bytes_eq path at ≡ false → bytes_eq at other ≡ true → bytes_eq path other ≡ false
not_same_as path at other differs same = ap (bytes_eq path) (sym (same_bytes at other same)) ∙ differs

or_false : (a b : Bool) → (a || b) ≡ false → (a ≡ false) × (b ≡ false)
or_false true b h = absurd (cc)
or_false false b h = (refl, h)

and_true : (a b : Bool) → (a && b) ≡ true → (a ≡ true) × (b ≡ true)
and_true true b h = (refl, h)
and_true false b h = absurd (cc)

not_true : (b : Bool) → not b ≡ true → b ≡ false
not_true true h = absurd (cc)
not_true false h = refl

-- ---- what becomes of a file by changes

-- a file that isn't there doesn't come, and one that stays keeps its mode
abbrev Follows : Option FileEntry → Option FileEntry → Type 0
Follows old None = Unit {0}
Follows None (Some new) = ⊥
Follows (Some old) (Some new) = new.mode ≡ old.mode

follows_itself : (entry : Option FileEntry) → Follows entry entry
follows_itself None = tt
follows_itself (Some entry) = refl

follows_then : (first second third : Option FileEntry) → Follows first second → Follows second third → Follows first third
follows_then first second None one two = tt
follows_then first None (Some third) one two = absurd two
follows_then None (Some second) (Some third) one two = absurd one
follows_then (Some first) (Some second) (Some third) one two = two ∙ one

-- what is removed is gone
removed_gone : (path : List ℕ) (rows : List File) → entry_of path (remove_file path rows) ≡ None
removed_gone path [] = refl
removed_gone path (row ∷ rows) =
    elim (bytes_eq path row.path) as (λ b. bytes_eq path row.path ≡ b → entry_of path (if b then remove_file path rows else row ∷ remove_file path rows) ≡ None) [
      | true ↦ λ _. removed_gone path rows
      | false ↦ λ e. rw e (removed_gone path rows)
    ] refl

removed_follows : (path at : List ℕ) (rows : List File) → Follows (entry_of path rows) (entry_of path (remove_file at rows))
removed_follows path at [] = tt
removed_follows path at (row ∷ rows) =
    elim (bytes_eq at row.path) as (λ b. bytes_eq at row.path ≡ b → Follows (entry_of path (row ∷ rows)) (entry_of path (if b then remove_file at rows else row ∷ remove_file at rows))) [
      | true ↦ λ e.
          elim (bytes_eq path row.path) as (λ b. bytes_eq path row.path ≡ b → Follows (if b then Some row.entry else entry_of path rows) (entry_of path (remove_file at rows))) [
            | true ↦ λ here.
                let same : path ≡ at = same_bytes path row.path here ∙ sym (same_bytes at row.path e) in
                let gone : entry_of path (remove_file at rows) ≡ None = ap (λ (from : List ℕ). entry_of path (remove_file from rows)) (sym same) ∙ removed_gone path rows in
                subst (Follows (Some row.entry)) (sym gone) tt
            | false ↦ λ _. removed_follows path at rows
          ] refl
      | false ↦ λ _.
          elim (bytes_eq path row.path) as (λ b. Follows (if b then Some row.entry else entry_of path rows) (if b then Some row.entry else entry_of path (remove_file at rows))) [
            | true ↦ refl
            | false ↦ removed_follows path at rows
          ]
    ] refl

rewritten_follows : (path at bytes : List ℕ) (rows : List File) → Follows (entry_of path rows) (entry_of path (rewrite_file at bytes rows))
rewritten_follows path at bytes [] = tt
rewritten_follows path at bytes (row ∷ rows) =
    elim (bytes_eq at row.path) as (λ b. Follows (entry_of path (row ∷ rows)) (entry_of path ((if b then with_bytes bytes row else row) ∷ rewrite_file at bytes rows))) [
      | true ↦ elim (bytes_eq path row.path)
          as (λ b. Follows (if b then Some row.entry else entry_of path rows) (if b then Some (with_bytes bytes row).entry else entry_of path (rewrite_file at bytes rows))) [
            | true ↦ refl
            | false ↦ rewritten_follows path at bytes rows
          ]
      | false ↦ elim (bytes_eq path row.path)
          as (λ b. Follows (if b then Some row.entry else entry_of path rows) (if b then Some row.entry else entry_of path (rewrite_file at bytes rows))) [
            | true ↦ refl
            | false ↦ rewritten_follows path at bytes rows
          ]
    ]

changed_follows : (path at : List ℕ) (now : Option (List ℕ)) (rows : List File) → Follows (entry_of path rows) (entry_of path (apply_at at now rows))
changed_follows path at None rows = removed_follows path at rows
changed_follows path at (Some bytes) rows = rewritten_follows path at bytes rows

changes_follow : (path : List ℕ) (changes : List Change) (rows : List File) → Follows (entry_of path rows) (entry_of path (apply_changes changes rows))
changes_follow path [] rows = follows_itself (entry_of path rows)
changes_follow path (change ∷ changes) rows =
    follows_then (entry_of path rows) (entry_of path (apply_at change.path change.now rows)) (entry_of path (apply_changes changes (apply_at change.path change.now rows)))
    (changed_follows path change.path change.now rows) (changes_follow path changes (apply_at change.path change.now rows))

outcome_follows : (path : List ℕ) (tree : List File) (outcome : Outcome) → Follows (entry_of path tree) (entry_of path (after_outcome tree outcome))
outcome_follows path tree (Done answer) = changes_follow path answer.changes tree
outcome_follows path tree (Failed fault) = follows_itself (entry_of path tree)

parts_follow : (path : List ℕ) (parts : List Part) (tree : List File) → Follows (entry_of path tree) (entry_of path (after_parts tree parts))
parts_follow path [] tree = follows_itself (entry_of path tree)
parts_follow path (part ∷ parts) tree =
    follows_then (entry_of path tree) (entry_of path (after_outcome tree part.outcome)) (entry_of path (after_parts (after_outcome tree part.outcome) parts))
    (outcome_follows path tree part.outcome) (parts_follow path parts (after_outcome tree part.outcome))

outcome_rising : (tree : List File) (outcome : Outcome) → IsRising tree → IsRising (after_outcome tree outcome)
outcome_rising tree (Done answer) rising = IsRising-apply_changes answer.changes tree rising
outcome_rising tree (Failed fault) rising = rising

parts_rising : (parts : List Part) (tree : List File) → IsRising tree → IsRising (after_parts tree parts)
parts_rising [] tree rising = rising
parts_rising (part ∷ parts) tree rising = parts_rising parts (after_outcome tree part.outcome) (outcome_rising tree part.outcome rising)

-- ---- a file that isn't modified

unchanged_bytes : (row : File) (found : Option FileEntry) → has_changed row found ≡ false → (entry : FileEntry) × (found ≡ Some entry) × (entry.bytes ≡ row.entry.bytes)
unchanged_bytes row None unchanged = absurd (cc)
unchanged_bytes row (Some entry) unchanged = (entry, refl, sym (same_bytes row.entry.bytes entry.bytes (same_from (bytes_eq row.entry.bytes entry.bytes) unchanged)))
  where
    same_from : (b : Bool) → not b ≡ false → b ≡ true
    same_from true h = refl
    same_from false h = absurd (cc)

abbrev entry_with : Mode → List ℕ → FileEntry
entry_with mode bytes = record { mode = mode; bytes = bytes }

entry_as : (a b : FileEntry) → a.mode ≡ b.mode → a.bytes ≡ b.bytes → Some a ≡ Some b
entry_as a b modes bytes = ap₂ (λ (mode : Mode) (held : List ℕ). Some (entry_with mode held)) modes bytes

none_follows : (new : Option FileEntry) → Follows None new → new ≡ None
none_follows None follows = refl
none_follows (Some entry) follows = absurd follows

and_false : (a b : Bool) → a ≡ true → (a && b) ≡ false → b ≡ false
and_false true b is h = h
and_false false b is h = absurd (cc)

-- a tracked file that isn't modified is the same
unmodified_entry : (after : List File) (path : List ℕ) → bytes_eq path message_path ≡ false → (rows : List File) → list_any (is_modified_row after) rows ≡ false
    → Follows (entry_of path rows) (entry_of path after) → entry_of path after ≡ entry_of path rows
unmodified_entry after path differs [] none follows = none_follows (entry_of path after) follows
unmodified_entry after path differs (row ∷ rows) none follows =
    let each = or_false (is_modified_row after row) (list_any (is_modified_row after) rows) none in
    (elim (bytes_eq path row.path) as (λ b. bytes_eq path row.path ≡ b → Follows (if b then Some row.entry else entry_of path rows) (entry_of path after)
    → entry_of path after ≡ (if b then Some row.entry else entry_of path rows)) [
      | true ↦ λ here kept.
          let same : path ≡ row.path = same_bytes path row.path here in
          let tracked : is_tracked row ≡ true = ap (λ (at : List ℕ). not (bytes_eq at message_path)) (sym same) ∙ ap not differs in
          let found = unchanged_bytes row (entry_of row.path after) (and_false (is_tracked row) (has_changed row (entry_of row.path after)) tracked each.0) in
          let there : entry_of path after ≡ Some found.0 = ap (λ (at : List ℕ). entry_of at after) same ∙ found.1 in
          there ∙ entry_as found.0 row.entry (subst (Follows (Some row.entry)) there kept) found.2
      | false ↦ λ _ kept. unmodified_entry after path differs rows each.1 kept
    ]) refl follows

-- ---- a hook that doesn't fail

third_false : (a b c : Bool) → (a || (b || c)) ≡ false → c ≡ false
third_false true b c h = absurd (cc)
third_false false true c h = absurd (cc)
third_false false false c h = h

-- it has no parts, or they modify nothing
abbrev ModifyNone : List File → List Part → Type 0
ModifyNone tree parts = (parts ≡ []) ⊎ (is_modified tree (after_parts tree parts) ≡ false)

ending_modifies_none : (tree : List File) (parts : List Part) (ending : Ending) → ending ≡ ending_of_parts tree parts → is_failed ending ≡ false → ModifyNone tree parts
ending_modifies_none tree parts ending is passed =
    inr (third_false (not (greatest_status parts == 0)) (not (is_empty (line_faults parts))) (is_modified tree (after_parts tree parts)) (sym (ap is_failed is) ∙ passed))

module _ (hook : Hook) (tree : List File) (parts : List Part) (ending : Ending) (passed : is_failed ending ≡ false) where
  misfit_or : (words names : List (List ℕ)) (too_long : Option ℕ)
      → MatchOption too_long (AreItsParts hook words names tree parts × (ending ≡ ending_of_parts tree parts)) (λ _. (parts ≡ []) × (ending ≡ ending_of_misfit)) → ModifyNone tree parts
  misfit_or words names None run = ending_modifies_none tree parts ending run.1 passed
  misfit_or words names (Some at) run = inl run.0

  command_modifies_none : (words names : List (List ℕ)) → IsCommandRun hook words names tree parts ending → ModifyNone tree parts
  command_modifies_none words names run = misfit_or words names _ run

  language_modifies_none : (names : List (List ℕ)) (language : Language) → IsLanguageRun language hook names tree parts ending → ModifyNone tree parts
  language_modifies_none names Fail run = inl run.0
  language_modifies_none names (Pygrep search) run = inl run.0
  language_modifies_none names (System words) run = command_modifies_none (command_of false words tree) names run
  language_modifies_none names (Script words) run = command_modifies_none (command_of true words tree) names run

  none_or : (files : List (List ℕ)) (b : Bool)
      → MatchBool b ((parts ≡ []) × (ending ≡ SkippedNoFiles)) (IsLanguageRun hook.language hook (names_for hook files) tree parts ending) → ModifyNone tree parts
  none_or files true run = inl run.0
  none_or files false run = language_modifies_none (names_for hook files) hook.language run

  skipped_or : (files : List (List ℕ)) (b : Bool) → MatchBool b ((parts ≡ []) × (ending ≡ SkippedAsked)) (IsHookRun hook files tree parts ending) → ModifyNone tree parts
  skipped_or files true run = inl run.0
  skipped_or files false run = none_or files (is_empty files && not hook.always_run) run

hook_modifies_none : (config : Config) (ask : RunAsk) (tree : List File) (hook : Hook) (parts : List Part) (ending : Ending) → IsEnding config ask tree hook parts ending → is_failed ending ≡ false
    → ModifyNone tree parts
hook_modifies_none config ask tree hook parts ending run passed = skipped_or hook tree parts ending passed _ (is_skipped ask.skip hook) run

-- ---- hooks that pass

after_append : (first second : List Part) (tree : List File) → after_parts tree (first ++ second) ≡ after_parts (after_parts tree first) second
after_append [] second tree = refl
after_append (part ∷ first) second tree = after_append first second (after_outcome tree part.outcome)

and_none : (a : Bool) → (a && false) ≡ false
and_none true = refl
and_none false = refl

module _ (path : List ℕ) (differs : bytes_eq path message_path ≡ false) where
  same_entry : (tree : List File) (parts : List Part) → ModifyNone tree parts → entry_of path (after_parts tree parts) ≡ entry_of path tree
  same_entry tree parts (inl none) = ap (λ (all : List Part). entry_of path (after_parts tree all)) none
  same_entry tree parts (inr unmodified) = unmodified_entry (after_parts tree parts) path differs tree unmodified (parts_follow path parts tree)

  run_keeps : (config : Config) (ask : RunAsk) (hooks : List Hook) (tree : List File) (trace : List (List Part)) (results : List HookResult)
      → IsRun config ask tree hooks trace results → has_passed results ≡ true → entry_of path (tree_after tree trace) ≡ entry_of path tree
  run_keeps config ask [] tree [] [] run passed = refl
  run_keeps config ask [] tree [] (result ∷ results) run passed = absurd run
  run_keeps config ask [] tree (parts ∷ trace) results run passed = absurd run
  run_keeps config ask (hook ∷ hooks) tree [] results run passed = absurd run
  run_keeps config ask (hook ∷ hooks) tree (parts ∷ trace) [] run passed = absurd run
  run_keeps config ask (hook ∷ hooks) tree (parts ∷ trace) (result ∷ results) run passed =
      let each = and_true (not (is_failed result.ending)) (has_passed results) passed in
      let passes = not_true (is_failed result.ending) each.0 in
      let goes_on : is_last config hook result.ending ≡ false = ap (λ (b : Bool). (config.fail_fast || hook.fail_fast) && b) passes ∙ and_none (config.fail_fast || hook.fail_fast) in
      let rest = subst (λ (b : Bool). MatchBool b ((trace ≡ []) × (results ≡ [])) (IsRun config ask (after_parts tree parts) hooks trace results)) goes_on run.1 in
      ap (entry_of path) (after_append parts (all_parts trace) tree)
      ∙ run_keeps config ask hooks (after_parts tree parts) trace results rest each.1
      ∙ same_entry tree parts (hook_modifies_none config ask tree hook parts result.ending run.0.ending passes)

-- ---- the files without the message

removed_elsewhere : (path at : List ℕ) (rows : List File) → bytes_eq path at ≡ false → entry_of path (remove_file at rows) ≡ entry_of path rows
removed_elsewhere path at [] differs = refl
removed_elsewhere path at (row ∷ rows) differs =
    elim (bytes_eq at row.path) as (λ b. bytes_eq at row.path ≡ b → entry_of path (if b then remove_file at rows else row ∷ remove_file at rows) ≡ entry_of path (row ∷ rows)) [
      | true ↦ λ e.
          let there : bytes_eq path row.path ≡ false = not_same_as path at row.path differs e in
          rw there (removed_elsewhere path at rows differs)
      | false ↦ λ e. ap (λ (found : Option FileEntry). if bytes_eq path row.path then Some row.entry else found) (removed_elsewhere path at rows differs)
    ] refl

put_elsewhere : (path : List ℕ) (new : File) (rows : List File) → bytes_eq path new.path ≡ false → entry_of path (put_row new rows) ≡ entry_of path rows
put_elsewhere path new [] differs = rw differs refl
put_elsewhere path new (row ∷ rows) differs =
    elim (path_cmp new.path row.path) as (λ (o : Ordering). path_cmp new.path row.path ≡ o → entry_of path (put_before o new row rows (put_row new rows)) ≡ entry_of path (row ∷ rows)) [
      | Less ↦ λ _. rw differs refl
      | Equal ↦ λ tied.
          let there : bytes_eq path row.path ≡ false = ap (bytes_eq path) (sym (path_tied new.path row.path tied)) ∙ differs in
          rw (differs, there) refl
      | Greater ↦ λ _. ap (λ (found : Option FileEntry). if bytes_eq path row.path then Some row.entry else found) (put_elsewhere path new rows differs)
    ] refl

-- at each path there is the same: nothing at the message's, and what is elsewhere
by_path : (first second : List File) → entry_of message_path first ≡ entry_of message_path second
    → ((path : List ℕ) → bytes_eq path message_path ≡ false → entry_of path first ≡ entry_of path second)
    → (path : List ℕ) → entry_of path first ≡ entry_of path second
by_path first second there elsewhere path =
    elim (bytes_eq path message_path) as (λ b. bytes_eq path message_path ≡ b → entry_of path first ≡ entry_of path second) [
      | true ↦ λ e. subst (λ (at : List ℕ). entry_of at first ≡ entry_of at second) (sym (same_bytes path message_path e)) there
      | false ↦ λ differs. elsewhere path differs
    ] refl

-- hooks that pass leave the files without the message
pub passed_leaves : (config : Config) (ask : RunAsk) (tree : List File) (trace : List (List Part)) (out : RunOut) → IsRising tree → IsRunOut config ask tree trace out → out.passed ≡ true
    → remove_file message_path out.tree ≡ remove_file message_path tree
passed_leaves config ask tree trace out rising run passed =
    let left = tree_after tree trace in
    let all : has_passed run.results ≡ true = sym (ap (λ (o : RunOut). o.passed) run.is) ∙ passed in
    ap (λ (o : RunOut). remove_file message_path o.tree) run.is
    ∙ same_rows (remove_file message_path left) (remove_file message_path tree)
    (IsRising-remove_file message_path left (parts_rising (all_parts trace) tree rising)) (IsRising-remove_file message_path tree rising)
    (by_path (remove_file message_path left) (remove_file message_path tree) (removed_gone message_path left ∙ sym (removed_gone message_path tree))
    (λ path differs. removed_elsewhere path message_path left differs ∙ run_keeps path differs config ask (hooks_of_run config ask) tree trace run.results run.run all
    ∙ sym (removed_elsewhere path message_path tree differs)))

pub put_rising : (entry : FileEntry) (rows : List File) → IsRising rows → IsRising (put_file message_path entry rows)
put_rising entry rows rising = IsRising-put_row (record { path = message_path; entry = entry }) rows rising

-- a message among other files can be taken out again
pub put_removed : (entry : FileEntry) (rows : List File) → IsRising rows → entry_of message_path rows ≡ None → remove_file message_path (put_file message_path entry rows) ≡ rows
put_removed entry rows rising absent =
    let put = put_file message_path entry rows in
    same_rows (remove_file message_path put) rows (IsRising-remove_file message_path put (put_rising entry rows rising)) rising
    (by_path (remove_file message_path put) rows (removed_gone message_path put ∙ sym absent)
    (λ path differs. removed_elsewhere path message_path put differs ∙ put_elsewhere path (record { path = message_path; entry = entry }) rows differs))

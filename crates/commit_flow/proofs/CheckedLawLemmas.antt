-- A commit without hooks of `pre-commit` is the hooks of both stages about its message, and what is made of the message that they leave.
use Rattle.std.proofs.Common.{◌≡◌, ◌∙◌, ap, ap₂, append_assoc, sym, subst, refl, ℕ, true, false, List, [], ◌∷◌, ◌++◌, map}
use Rattle.std.proofs.lemmas.List.{append-nil}
use Rattle.hook_base.specs.declared.file.File.{File}
use Rattle.hook_base.specs.Paths.{message_path}
use Rattle.hook_base.specs.Trees.{put_file, remove_file}
use Rattle.hook_config.specs.declared.configuration.Config.{Config}
use Rattle.hook_config.specs.declared.configuration.Hook.{Hook}
use Rattle.hook_config.specs.declared.stage.Stage.{Stage}
use Rattle.hook_config.specs.declared.stage.Stage.TheVariants as stage
use Rattle.hook_run.specs.declared.run_ask.RunAsk.{RunAsk}
use Rattle.hook_run.specs.declared.run_out.RunOut.{RunOut}
use Rattle.hook_run.specs.Asks.{hooks_of_run, names_of_run}
use Rattle.hook_run.specs.Parts.{Part, all_parts, tree_after}
use Rattle.hook_run.specs.RunOuts.{IsRunOut, out_of, unsteady_ids}
use Rattle.hook_run.specs.StageRun.{IsRun}
use Rattle.report_text.specs.declared.hook_result.HookResult.{HookResult}
use Rattle.report_text.specs.Report.{report_text}
use Rattle.store_faults.specs.Limits.{IsSmall}
use Rattle.repo_store.specs.Repository.{Repository}
use Rattle.commit_flow.specs.declared.command.Command.TheVariants.{Commit}
use Rattle.commit_flow.specs.declared.commit_state.CommitState.{CommitState}
use Rattle.commit_flow.specs.declared.message_stage.MessageStage.TheVariants.{PrepareCommitMsg, CommitMsg}
use Rattle.commit_flow.specs.declared.reply.PostCommit.{PostCommit}
use Rattle.commit_flow.specs.declared.reply.Reply.TheVariants.{Committed}
use Rattle.commit_flow.specs.CommitStages.{HavePassed, IsStageTold, StageTold, ask_in, course_after, course_of, message_entry, message_in}
use Rattle.commit_flow.specs.CommitStages.{parts_of_stages, reports_of, stages_before_commit, without_message_file}
use Rattle.commit_flow.specs.Commits.{IsPost}
use Rattle.commit_flow.specs.Configured.{IsConfigured}
use Rattle.commit_flow.specs.MessageLaws.{HasNoEarlierHook, IsCheckedThenMade, plain_ask}
use Rattle.commit_flow.specs.MessageRuns.{IsMessageRan, course_of_message}
use Rattle.commit_flow.specs.Messages.{begun_message}
use Rattle.commit_flow.specs.Runs.{changed_paths}
use Rattle.commit_flow.specs.Steps.{Step}
use Rattle.commit_flow.proofs.MessageLawLemmas.{small_begun}
use Rattle.commit_flow.proofs.PlainAskLemmas.{config_of_plain, plain_config}
use Rattle.commit_flow.proofs.StageAnswerLemmas.{same_config}
use Rattle.commit_flow.proofs.TrackedLemmas.{passed_leaves, put_removed, put_rising}

abbrev state_of : List File → List ℕ → CommitState
state_of tree message = record { tree = tree; message = message }

-- ---- a stage without hooks

-- such a run has no parts, reports nothing and leaves its files
record IsEmptyRun (tree : List File) (trace : List (List Part)) (out : RunOut) : Type 0 where
  parts : all_parts trace ≡ []
  report : out.report ≡ []
  tree_left : out.tree ≡ tree
  passed : out.passed ≡ true

module _ (config : Config) (ask : RunAsk) (tree : List File) where
  empty_results : (hooks : List Hook) (trace : List (List Part)) (results : List HookResult) → hooks ≡ [] → IsRun config ask tree hooks trace results → (trace ≡ []) × (results ≡ [])
  empty_results [] [] [] none run = (refl, refl)
  empty_results [] [] (result ∷ results) none run = absurd run
  empty_results [] (parts ∷ trace) results none run = absurd run
  empty_results (hook ∷ hooks) trace results none run = absurd (cc)

  abbrev empty_out : RunOut
  empty_out = out_of config ask [] (tree_after tree []) (unsteady_ids (hooks_of_run config ask) [])

  module _ (none : hooks_of_run config ask ≡ []) where
    reports_none : report_text (names_of_run config ask) [] ≡ []
    reports_none = ap (λ (hooks : List Hook). report_text (map (λ (hook : Hook). hook.name) hooks) []) none

    empty_run : IsRunOut config ask tree [] empty_out
    empty_run = record { results = []; run = subst (λ (hooks : List Hook). IsRun config ask tree hooks [] []) (sym none) tt; is = refl }

    was_empty : (trace : List (List Part)) (out : RunOut) → IsRunOut config ask tree trace out → IsEmptyRun tree trace out
    was_empty trace out run =
        let nothing = empty_results (hooks_of_run config ask) trace run.results none run.run in
        let is : out ≡ out_of config ask [] (tree_after tree []) (unsteady_ids (hooks_of_run config ask) []) =
        run.is ∙ ap₂ (λ (results : List HookResult) (all : List (List Part)). out_of config ask results (tree_after tree all) (unsteady_ids (hooks_of_run config ask) all)) nothing.1 nothing.0 in
        record {
          parts = ap all_parts nothing.0;
          report = ap (λ (o : RunOut). o.report) is ∙ reports_none;
          tree_left = ap (λ (o : RunOut). o.tree) is;
          passed = ap (λ (o : RunOut). o.passed) is;
        }

-- ---- stages one after another

module _ (config : Config) (changed skip : List (List ℕ)) where
  -- the first of the stages, and those after it
  record Peeled (stage : Stage) (stages : List Stage) (course : CommitState) (told : StageTold) (more : List StageTold) (left : CommitState) : Type 0 where
    ran : IsStageTold config changed skip stage course told
    passed : told.out.passed ≡ true
    rest : HavePassed config changed skip stages (course_after stage course told.out.tree) more left

  peel : (stage : Stage) (stages : List Stage) (course : CommitState) (told : StageTold) (more : List StageTold) (left : CommitState)
      → HavePassed config changed skip (stage ∷ stages) course (told ∷ more) left → Peeled stage stages course told more left
  peel stage stages course told more left have = record { ran = have.0; passed = have.1; rest = have.2 }

  join : (stage : Stage) (stages : List Stage) (course : CommitState) (told : StageTold) (more : List StageTold) (left : CommitState)
      → Peeled stage stages course told more left → HavePassed config changed skip (stage ∷ stages) course (told ∷ more) left
  join stage stages course told more left have = (have.ran, have.passed, have.rest)

module _ (before : Repository) (message : List ℕ) (skip : List (List ℕ)) (none : HasNoEarlierHook before) where
  abbrev begun : CommitState
  begun = course_of before message

  -- the files that the first stage leaves are the staged ones
  files_left : (config : Config) (told : StageTold) → IsStageTold config (changed_paths before) skip stage.PrepareCommitMsg begun told → told.out.passed ≡ true
      → remove_file message_path told.out.tree ≡ before.staged
  files_left config told run passed =
      let entry = message_entry (begun_message message) in
      passed_leaves config (ask_in (changed_paths before) skip stage.PrepareCommitMsg) (put_file message_path entry before.staged) told.trace told.out (put_rising entry before.staged none.rising) run
      passed
      ∙ put_removed entry before.staged none.rising none.apart

  -- so it passes on these and its message
  passes_on : (config : Config) (told : StageTold) → IsStageTold config (changed_paths before) skip stage.PrepareCommitMsg begun told → told.out.passed ≡ true
      → without_message_file told.out.tree ≡ course_of_message before (message_in told.out.tree)
  passes_on config told run passed = ap (λ (files : List File). state_of files (message_in told.out.tree)) (files_left config told run passed)

  no_hook : (config : Config) → IsConfigured before config → hooks_of_run config (ask_in (changed_paths before) skip stage.PreCommit) ≡ []
  no_hook config configured =
      subst (λ (c : Config). hooks_of_run c (ask_in (changed_paths before) skip stage.PreCommit) ≡ []) (same_config before none.config config none.configured configured) none.none

  record AreChecked (told : List StageTold) (left : CommitState) : Type 0 where
    report : List ℕ
    between : List ℕ
    checked_report : List ℕ
    own : List Part
    checked_parts : List Part
    prepared : IsMessageRan before (plain_ask PrepareCommitMsg skip) (begun_message message) true report between own before
    checked : IsSmall between → IsMessageRan before (plain_ask CommitMsg skip) between true checked_report left.message checked_parts before
    reported : reports_of told ≡ [] ∷ report ∷ checked_report ∷ []
    joined : parts_of_stages told ≡ own ++ (checked_parts ++ [])

  module _ (small : IsSmall (begun_message message)) (config : Config) (configured : IsConfigured before config) where
    abbrev at : List Stage → CommitState → List StageTold → CommitState → Type 0
    at stages course told left = HavePassed config (changed_paths before) skip stages course told left

    checked_three : (zero one two : StageTold) (left : CommitState) → at (stages_before_commit false) begun (zero ∷ one ∷ two ∷ []) left → AreChecked (zero ∷ one ∷ two ∷ []) left
    checked_three zero one two left have =
        let first = peel config (changed_paths before) skip stage.PreCommit (stage.PrepareCommitMsg ∷ stage.CommitMsg ∷ []) begun zero (one ∷ two ∷ []) left have in
        let empty = was_empty config (ask_in (changed_paths before) skip stage.PreCommit) before.staged (no_hook config configured) zero.trace zero.out first.ran in
        let second = peel config (changed_paths before) skip stage.PrepareCommitMsg (stage.CommitMsg ∷ []) (state_of zero.out.tree (begun_message message)) one (two ∷ []) left first.rest in
        let run : IsStageTold config (changed_paths before) skip stage.PrepareCommitMsg begun one =
        subst (λ (tree : List File). IsStageTold config (changed_paths before) skip stage.PrepareCommitMsg (state_of tree (begun_message message)) one) empty.tree_left second.ran in
        let third = peel config (changed_paths before) skip stage.CommitMsg [] (without_message_file one.out.tree) two [] left second.rest in
        let run_then : IsStageTold config (changed_paths before) skip stage.CommitMsg (course_of_message before (message_in one.out.tree)) two =
        subst (λ (course : CommitState). IsStageTold config (changed_paths before) skip stage.CommitMsg course two) (passes_on config one run second.passed) third.ran in
        record {
          report = one.out.report;
          between = message_in one.out.tree;
          checked_report = two.out.report;
          own = all_parts one.trace;
          checked_parts = all_parts two.trace;
          prepared = record {
            config = config;
            told = one;
            small = small;
            configured = plain_config before config configured;
            run = run;
            verdict = sym second.passed;
            reported = refl;
            message_left = refl;
            traced = refl;
            same = refl;
          };
          checked = λ small_then. record {
            config = config;
            told = two;
            small = small_then;
            configured = plain_config before config configured;
            run = run_then;
            verdict = sym third.passed;
            reported = refl;
            message_left = ap (λ (course : CommitState). course.message) third.rest;
            traced = refl;
            same = refl;
          };
          reported = ap (λ (report : List ℕ). report ∷ one.out.report ∷ two.out.report ∷ []) empty.report;
          joined = ap (λ (parts : List Part). parts ++ (all_parts one.trace ++ (all_parts two.trace ++ []))) empty.parts;
        }

    checked_so : (told : List StageTold) (left : CommitState) → at (stages_before_commit false) begun told left → AreChecked told left
    checked_so [] left have = absurd have
    checked_so (zero ∷ []) left have = absurd have.2
    checked_so (zero ∷ one ∷ []) left have =
        let first = peel config (changed_paths before) skip stage.PreCommit (stage.PrepareCommitMsg ∷ stage.CommitMsg ∷ []) begun zero (one ∷ []) left have in
        let second = peel config (changed_paths before) skip stage.PrepareCommitMsg (stage.CommitMsg ∷ []) (state_of zero.out.tree (begun_message message)) one [] left first.rest in
        absurd second.rest
    checked_so (zero ∷ one ∷ two ∷ []) left have = checked_three zero one two left have
    checked_so (zero ∷ one ∷ two ∷ three ∷ more) left have =
        let first = peel config (changed_paths before) skip stage.PreCommit (stage.PrepareCommitMsg ∷ stage.CommitMsg ∷ []) begun zero (one ∷ two ∷ three ∷ more) left have in
        let second = peel config (changed_paths before) skip stage.PrepareCommitMsg (stage.CommitMsg ∷ []) (state_of zero.out.tree (begun_message message)) one (two ∷ three ∷ more) left first.rest in
        let third = peel config (changed_paths before) skip stage.CommitMsg [] (without_message_file one.out.tree) two (three ∷ more) left second.rest in
        absurd third.rest

parts_then : (own checked further : List Part) → (own ++ (checked ++ [])) ++ further ≡ own ++ (checked ++ further)
parts_then own checked further = append_assoc own (checked ++ []) further ∙ ap (λ (parts : List Part). own ++ (parts ++ further)) (append-nil checked)

-- ---- the law

pub checked_into : (before : Repository) (message : List ℕ) (skip : List (List ℕ)) (after : Repository) (number : ℕ) (reports : List (List ℕ)) (post : PostCommit) (parts : List Part)
    → HasNoEarlierHook before → IsSmall (begun_message message)
    → Step before (Commit message false skip) (Committed number reports post) parts after → IsCheckedThenMade before message skip number reports post parts after
checked_into before message skip after number reports post parts none small step =
    let all = checked_so before message skip none small step.config step.verified.configured step.told step.verified.left step.verified.passed in
    record {
      report = all.report;
      between = all.between;
      checked_report = all.checked_report;
      last = step.last;
      own = all.own;
      checked_parts = all.checked_parts;
      further = step.post_parts;
      prepared = all.prepared;
      checked = λ small_then. subst (λ (last : List ℕ). IsMessageRan before (plain_ask CommitMsg skip) all.between true all.checked_report last all.checked_parts before)
          (sym step.verified.message_left) (all.checked small_then);
      made = record {
        config = step.config;
        configured = step.verified.configured;
        new = step.verified.committable.new;
        may = record { some = step.some; small = step.small; room = step.room };
        counted = step.counted;
        behind = step.behind;
        made = step.made;
      };
      reported = step.reported ∙ all.reported;
      joined = step.traced ∙ ap (λ (front : List Part). front ++ step.post_parts) all.joined ∙ parts_then all.own all.checked_parts step.post_parts;
    }

same_three : (none one two first second third : List ℕ) → none ≡ first → one ≡ second → two ≡ third → none ∷ one ∷ two ∷ [] ≡ first ∷ second ∷ third ∷ []
same_three none one two first second third a b c = cc

pub checked_of : (before : Repository) (message : List ℕ) (skip : List (List ℕ)) (after : Repository) (number : ℕ) (reports : List (List ℕ)) (post : PostCommit) (parts : List Part)
    → HasNoEarlierHook before → (it : IsCheckedThenMade before message skip number reports post parts after) → IsSmall it.between
    → Step before (Commit message false skip) (Committed number reports post) parts after
checked_of before message skip after number reports post parts none it small =
    let first = it.prepared in
    let second = it.checked small in
    let made = it.made in
    let config = first.config in
    let configured = config_of_plain before config first.configured in
    let configured_then = config_of_plain before second.config second.configured in
    let changed = changed_paths before in
    let ask = ask_in changed skip stage.PreCommit in
    let nothing = no_hook before message skip none config configured in
    let passed = sym first.verdict in
    let on = passes_on before message skip none config first.told first.run passed in
    let zero : StageTold = record { trace = []; out = empty_out config ask before.staged } in
    let left = without_message_file second.told.out.tree in
    let course : course_of_message before it.between ≡ without_message_file first.told.out.tree = ap (course_of_message before) first.message_left ∙ sym on in
    let run_then : IsStageTold config changed skip stage.CommitMsg (without_message_file first.told.out.tree) second.told =
    subst (λ (c : Config). IsStageTold c changed skip stage.CommitMsg (without_message_file first.told.out.tree) second.told)
    (same_config before second.config config configured_then configured)
    (subst (λ (state : CommitState). IsStageTold second.config changed skip stage.CommitMsg state second.told) course second.run) in
    let third = join config changed skip stage.CommitMsg [] (without_message_file first.told.out.tree) second.told [] left
    (record { ran = run_then; passed = sym second.verdict; rest = refl }) in
    let rest = join config changed skip stage.PrepareCommitMsg (stage.CommitMsg ∷ []) (course_of before message) first.told (second.told ∷ []) left
    (record { ran = first.run; passed = passed; rest = third }) in
    record {
      config = config;
      told = zero ∷ first.told ∷ second.told ∷ [];
      last = it.last;
      post_parts = it.further;
      verified = record {
        committable = record { small = small_begun message first.small; new = made.new };
        configured = configured;
        left = left;
        passed = join config changed skip stage.PreCommit (stage.PrepareCommitMsg ∷ stage.CommitMsg ∷ []) (course_of before message) zero (first.told ∷ second.told ∷ []) left
            (record { ran = empty_run config ask before.staged nothing; passed = refl; rest = rest });
        message_left = second.message_left;
      };
      some = made.may.some;
      small = made.may.small;
      room = made.may.room;
      counted = made.counted;
      reported = it.reported ∙ same_three [] it.report it.checked_report zero.out.report first.told.out.report second.told.out.report
          (sym (reports_none config ask before.staged nothing)) first.reported second.reported;
      behind = subst (λ (c : Config). IsPost c before skip post it.further) (same_config before made.config config made.configured configured) made.behind;
      traced = it.joined
          ∙ ap₂ (λ (own checked : List Part). own ++ (checked ++ it.further)) first.traced second.traced
          ∙ sym (parts_then (all_parts first.told.trace) (all_parts second.told.trace) it.further);
      made = made.made;
    }

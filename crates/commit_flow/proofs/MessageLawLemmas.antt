-- A commit that bypasses hooks is the hooks that may prepare its message, and what is made of the message that they leave.
use Rattle.std.proofs.Common.{◌≡◌, ◌∙◌, ap, sym, subst, refl, arith, ℕ, Bool, true, false, MatchBool, if◌then◌else◌, List, [], ◌∷◌, ◌++◌, length-append}
use Rattle.std.proofs.lemmas.List.{append-nil}
use Rattle.hook_config.specs.declared.configuration.Config.{Config}
use Rattle.hook_config.specs.declared.stage.Stage.{Stage}
use Rattle.hook_config.specs.declared.stage.Stage.TheVariants as stage
use Rattle.hook_run.specs.Parts.{Part, all_parts}
use Rattle.store_faults.specs.Limits.{IsSmall}
use Rattle.repo_store.specs.Repository.{Repository}
use Rattle.commit_flow.specs.declared.command.Command.TheVariants.{Commit}
use Rattle.commit_flow.specs.declared.commit_state.CommitState.{CommitState}
use Rattle.commit_flow.specs.declared.message_stage.MessageStage.TheVariants.{PrepareCommitMsg}
use Rattle.commit_flow.specs.declared.reply.PostCommit.{PostCommit}
use Rattle.commit_flow.specs.declared.reply.Reply.TheVariants.{Committed, HooksFailed}
use Rattle.commit_flow.specs.CommitStages.{FailedAt, HavePassed, StageTold, course_after, course_of, parts_of_stages, reports_of}
use Rattle.commit_flow.specs.Commits.{IsPost}
use Rattle.commit_flow.specs.Configured.{IsConfigured}
use Rattle.commit_flow.specs.MessageLaws.{IsNotPrepared, IsPreparedThenMade, plain_ask}
use Rattle.commit_flow.specs.MessageRuns.{IsMessageRan}
use Rattle.commit_flow.specs.Messages.{begun_message, lacks_line_end}
use Rattle.commit_flow.specs.Runs.{changed_paths}
use Rattle.commit_flow.specs.Steps.{Step}
use Rattle.commit_flow.proofs.PlainAskLemmas.{config_of_plain, plain_config}
use Rattle.commit_flow.proofs.StageAnswerLemmas.{same_config}

-- the message is no longer than with a line feed after it
small_if : (b : Bool) (message : List ℕ) → IsSmall (if b then message ++ 10 ∷ [] else message) → IsSmall message
small_if true message small = let longer = length-append message (10 ∷ []) in omega (arith, small)
small_if false message small = small

pub small_begun : (message : List ℕ) → IsSmall (begun_message message) → IsSmall message
small_begun message small = small_if (lacks_line_end message) message small

module _ (before : Repository) (message : List ℕ) (skip : List (List ℕ)) where
  -- the only stage before the commit was run, which is the stage without a commit
  record IsPrepared (passed : Bool) (told : List StageTold) (left : CommitState) : Type 0 where
    report : List ℕ
    own : List Part
    ran : IsMessageRan before (plain_ask PrepareCommitMsg skip) (begun_message message) passed report left.message own before
    reported : reports_of told ≡ report ∷ []
    joined : parts_of_stages told ≡ own

  module _ (small : IsSmall (begun_message message)) (config : Config) (configured : IsConfigured before config) where
    passed_so : (told : List StageTold) (left : CommitState) → HavePassed config (changed_paths before) skip (stage.PrepareCommitMsg ∷ []) (course_of before message) told left
        → IsPrepared true told left
    passed_so [] left passed = absurd passed
    passed_so (told ∷ []) left passed = record {
      report = told.out.report;
      own = all_parts told.trace;
      ran = record {
        config = config;
        told = told;
        small = small;
        configured = plain_config before config configured;
        run = passed.0;
        verdict = sym passed.1;
        reported = refl;
        message_left = ap (λ (course : CommitState). course.message) passed.2;
        traced = refl;
        same = refl;
      };
      reported = refl;
      joined = append-nil (all_parts told.trace);
    }
    passed_so (told ∷ other ∷ more) left passed = absurd passed.2

    failed_so : (told : List StageTold) (failed : Stage) (left : CommitState)
        → FailedAt config (changed_paths before) skip (stage.PrepareCommitMsg ∷ []) (course_of before message) told failed left → IsPrepared false told left
    failed_so [] failed left run = absurd run
    failed_so (told ∷ more) failed left run =
        (elim told.out.passed as (λ (b : Bool). told.out.passed ≡ b
        → MatchBool b ⊥ ((more ≡ []) × (failed ≡ stage.PrepareCommitMsg) × (left ≡ course_after stage.PrepareCommitMsg (course_of before message) told.out.tree))
        → IsPrepared false (told ∷ more) left) [
          | true ↦ λ _ behind. absurd behind
          | false ↦ λ passed ends. subst (λ (rest : List StageTold). IsPrepared false (told ∷ rest) left) (sym ends.0)
              (record {
                report = told.out.report;
                own = all_parts told.trace;
                ran = record {
                  config = config;
                  told = told;
                  small = small;
                  configured = plain_config before config configured;
                  run = run.0;
                  verdict = sym passed;
                  reported = refl;
                  message_left = ap (λ (course : CommitState). course.message) ends.2;
                  traced = refl;
                  same = refl;
                };
                reported = refl;
                joined = append-nil (all_parts told.trace);
              })
        ]) refl run.1

  pub made_into : (after : Repository) (number : ℕ) (reports : List (List ℕ)) (post : PostCommit) (parts : List Part) → IsSmall (begun_message message)
      → Step before (Commit message true skip) (Committed number reports post) parts after → IsPreparedThenMade before message skip number reports post parts after
  made_into after number reports post parts small step =
      let prepared = passed_so small step.config step.verified.configured step.told step.verified.left step.verified.passed in
      record {
        report = prepared.report;
        last = step.last;
        own = prepared.own;
        further = step.post_parts;
        prepared = subst (λ (last : List ℕ). IsMessageRan before (plain_ask PrepareCommitMsg skip) (begun_message message) true prepared.report last prepared.own before)
            (sym step.verified.message_left) prepared.ran;
        made = record {
          config = step.config;
          configured = step.verified.configured;
          new = step.verified.committable.new;
          may = record { some = step.some; small = step.small; room = step.room };
          counted = step.counted;
          behind = step.behind;
          made = step.made;
        };
        reported = step.reported ∙ prepared.reported;
        joined = step.traced ∙ ap (λ (front : List Part). front ++ step.post_parts) prepared.joined;
      }

  pub made_of : (after : Repository) (number : ℕ) (reports : List (List ℕ)) (post : PostCommit) (parts : List Part)
      → IsPreparedThenMade before message skip number reports post parts after → Step before (Commit message true skip) (Committed number reports post) parts after
  made_of after number reports post parts it =
      let ran = it.prepared in
      let made = it.made in
      let configured = config_of_plain before ran.config ran.configured in
      record {
        config = ran.config;
        told = ran.told ∷ [];
        last = it.last;
        post_parts = it.further;
        verified = record {
          committable = record { small = small_begun message ran.small; new = made.new };
          configured = configured;
          left = course_after stage.PrepareCommitMsg (course_of before message) ran.told.out.tree;
          passed = (ran.run, sym ran.verdict, refl);
          message_left = ran.message_left;
        };
        some = made.may.some;
        small = made.may.small;
        room = made.may.room;
        counted = made.counted;
        reported = it.reported ∙ ap (λ (report : List ℕ). report ∷ []) ran.reported;
        behind = subst (λ (config : Config). IsPost config before skip post it.further) (same_config before made.config ran.config made.configured configured) made.behind;
        traced = it.joined ∙ ap (λ (front : List Part). front ++ it.further) (ran.traced ∙ sym (append-nil (all_parts ran.told.trace)));
        made = made.made;
      }

  pub failed_into : (after : Repository) (failed : Stage) (reports : List (List ℕ)) (parts : List Part) → IsSmall (begun_message message)
      → Step before (Commit message true skip) (HooksFailed failed reports) parts after → IsNotPrepared before message skip reports parts
  failed_into after failed reports parts small step =
      let prepared = failed_so small step.config step.configured step.told failed step.last step.run in
      record {
        report = prepared.report;
        last = step.last.message;
        prepared = subst (λ (own : List Part). IsMessageRan before (plain_ask PrepareCommitMsg skip) (begun_message message) false prepared.report step.last.message own before)
            (sym prepared.joined ∙ sym step.traced) prepared.ran;
        reported = step.reported ∙ prepared.reported;
      }

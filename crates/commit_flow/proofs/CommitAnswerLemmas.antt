-- Over children that give one answer a commit has one answer.
use Rattle.std.proofs.Common.{◌≡◌, ◌≢◌, ◌⊎◌, ◌∙◌, ap, arith, inl, inr, sym, subst, refl, ℕ, ◌+◌, ◌≤◌, ◌<◌, Bool, List, [], ◌++◌, length}
use Rattle.hook_base.specs.declared.file.File.{File}
use Rattle.hook_base.specs.Trees.{changes_between}
use Rattle.child_port.specs.declared.answer.Outcome.{Outcome}
use Rattle.hook_config.specs.declared.configuration.Config.{Config}
use Rattle.hook_config.specs.declared.stage.Stage.{Stage}
use Rattle.hook_run.specs.OneAnswer.{OneAnswer}
use Rattle.hook_run.specs.Parts.{Part}
use Rattle.store_faults.specs.Limits.{IsSmall, most_commits}
use Rattle.repo_store.specs.Repository.{Repository, with_new_commit}
use Rattle.commit_flow.specs.declared.command.Command.TheVariants.{Commit}
use Rattle.commit_flow.specs.declared.commit_state.CommitState.{CommitState}
use Rattle.commit_flow.specs.declared.host_refusal.HostRefusal.TheVariants.{OutOfMemory, Store, TooLarge, TooMany, NoConfig, BadConfig, NothingStaged, EmptyMessage, Collision, Spent}
use Rattle.commit_flow.specs.declared.reply.PostCommit.TheVariants.{Told, Stopped}
use Rattle.commit_flow.specs.declared.reply.Reply.{Reply}
use Rattle.commit_flow.specs.declared.reply.Reply.TheVariants.{Committed, HooksFailed, Refused}
use Rattle.commit_flow.specs.CommitStages.{FailedAt, HavePassed, StageTold, course_of, parts_of_stages, reports_of, stages_before_commit}
use Rattle.commit_flow.specs.Commits.{HasNothingNew, IsPost}
use Rattle.commit_flow.specs.Configured.{IsConfigured, LacksConfig}
use Rattle.commit_flow.specs.Messages.{cleaned_message}
use Rattle.commit_flow.specs.Runs.{changed_paths, fixing}
use Rattle.commit_flow.specs.Steps.{Step}
use Rattle.commit_flow.specs.TwoHosts.{IsUnhindered, without_memory}
use Rattle.commit_flow.proofs.RunAnswerLemmas.{AreAlike, IsRefusedSo, refused_alike}
use Rattle.commit_flow.proofs.StageAnswerLemmas.{AreClear, clear_as, clear_back, clear_front, not_both, not_lacking, same_config, same_failed, same_passed, same_post}

same_committed : (number : ℕ) (reports : List (List ℕ)) (report text : List ℕ) → report ≡ text → Committed number reports (Told report) ≡ Committed number reports (Told text)
same_committed number reports report text behind = cc

committed_as : (number count : ℕ) (reports others : List (List ℕ)) (report : List ℕ) → number ≡ count → reports ≡ others → Committed number reports (Told report) ≡ Committed count others (Told report)
committed_as number count reports others report counted reported = cc

same_hooks_failed : (stage other : Stage) (reports others : List (List ℕ)) → stage ≡ other → reports ≡ others → HooksFailed stage reports ≡ HooksFailed other others
same_hooks_failed stage other reports others at before = cc

module _ (tells : List (List ℕ) → List File → Outcome → Type 0) (before : Repository) (message : List ℕ) (no_verify : Bool) (skip : List (List ℕ)) where
  -- a commit was made of the cleaned message, after stages that reported this
  record HasCommit (config : Config) (reports : List (List ℕ)) (cleaned : List ℕ) (reply : Reply) (after : Repository) : Type 0 where
    room : length before.history < most_commits
    report : List ℕ
    parts : List Part
    behind : IsPost config before skip (Told report) parts
    clear : AreClear tells parts
    is : reply ≡ Committed (length before.history + 1) reports (Told report)
    made : after ≡ with_new_commit cleaned before

  -- what may be answered of a cleaned message, in order
  abbrev RoomWay : Config → List (List ℕ) → List ℕ → Reply → Repository → Type 0
  RoomWay config reports cleaned reply after =
      ((most_commits ≤ length before.history) × IsRefusedSo before TooMany reply after) ⊎ HasCommit config reports cleaned reply after

  abbrev MessageWay : Config → List (List ℕ) → List ℕ → Reply → Repository → Type 0
  MessageWay config reports cleaned reply after =
      ((cleaned ≡ []) × IsRefusedSo before EmptyMessage reply after) ⊎ ((cleaned ≢ []) × RoomWay config reports cleaned reply after)

  -- the stages before the commit passed
  record HasPassed (config : Config) (reply : Reply) (after : Repository) : Type 0 where
    told : List StageTold
    left : CommitState
    last : List ℕ
    passed : HavePassed config (changed_paths before) skip (stages_before_commit no_verify) (course_of before message) told left
    message_left : last ≡ left.message
    clear : AreClear tells (parts_of_stages told)
    way : MessageWay config (reports_of told) (cleaned_message last) reply after

  -- a hook failed in one of them
  record HasFailed (config : Config) (reply : Reply) (after : Repository) : Type 0 where
    told : List StageTold
    left : CommitState
    failed : Stage
    run : FailedAt config (changed_paths before) skip (stages_before_commit no_verify) (course_of before message) told failed left
    clear : AreClear tells (parts_of_stages told)
    is : reply ≡ HooksFailed failed (reports_of told)
    made : after ≡ fixing (changes_between before.staged left.tree) before

  -- what may be answered, in order
  abbrev ConfigWay : Reply → Repository → Type 0
  ConfigWay reply after =
      (LacksConfig before × IsRefusedSo before NoConfig reply after)
      ⊎ ((config : Config) × IsConfigured before config × (HasPassed config reply after ⊎ HasFailed config reply after))

  abbrev NewWay : Reply → Repository → Type 0
  NewWay reply after = (HasNothingNew before × IsRefusedSo before NothingStaged reply after) ⊎ ((¬ HasNothingNew before) × ConfigWay reply after)

  abbrev CommitWay : Reply → Repository → Type 0
  CommitWay reply after = ((¬ IsSmall message) × IsRefusedSo before TooLarge reply after) ⊎ (IsSmall message × NewWay reply after)

  commit_way : (reply : Reply) (parts : List Part) (after : Repository) → Step before (Commit message no_verify skip) reply parts after → IsUnhindered reply → AreClear tells parts
      → CommitWay reply after
  commit_way (Committed number reports (Told report)) parts after step unhindered clear =
      let verified = step.verified in
      let all = clear_as tells parts (parts_of_stages step.told ++ step.post_parts) step.traced clear in
      inr (
        verified.committable.small,
        inr (
          verified.committable.new,
          inr (
            step.config,
            verified.configured,
            inl (record {
              told = step.told;
              left = verified.left;
              last = step.last;
              passed = verified.passed;
              message_left = verified.message_left;
              clear = clear_front tells (parts_of_stages step.told) step.post_parts all;
              way = inr (
                step.some,
                inr (record {
                  room = step.room;
                  report = report;
                  parts = step.post_parts;
                  behind = step.behind;
                  clear = clear_back tells (parts_of_stages step.told) step.post_parts all;
                  is = committed_as number (length before.history + 1) reports (reports_of step.told) report step.counted step.reported;
                  made = step.made;
                }),
              );
            }),
          ),
        ),
      )
  commit_way (Committed number reports (Stopped refusal)) parts after step unhindered clear = absurd unhindered
  commit_way (HooksFailed stage reports) parts after step unhindered clear =
      inr (
        step.committable.small,
        inr (
          step.committable.new,
          inr (
            step.config,
            step.configured,
            inr (record {
              told = step.told;
              left = step.last;
              failed = stage;
              run = step.run;
              clear = clear_as tells parts (parts_of_stages step.told) step.traced clear;
              is = ap (HooksFailed stage) step.reported;
              made = step.made;
            }),
          ),
        ),
      )
  commit_way (Refused TooLarge) parts after step unhindered clear = inl (step.0.0, record { is = refl; left = step.1 })
  commit_way (Refused NothingStaged) parts after step unhindered clear = inr (step.0.0, inl (step.0.1, record { is = refl; left = step.1 }))
  commit_way (Refused NoConfig) parts after step unhindered clear = inr (step.0.0.small, inr (step.0.0.new, inl (step.0.1, record { is = refl; left = step.1 })))
  commit_way (Refused EmptyMessage) parts after step unhindered clear =
      let but = step.0 in
      let verified = but.verified in
      inr (
        verified.committable.small,
        inr (
          verified.committable.new,
          inr (
            but.config,
            verified.configured,
            inl (record {
              told = but.told;
              left = verified.left;
              last = but.last;
              passed = verified.passed;
              message_left = verified.message_left;
              clear = clear_as tells parts (parts_of_stages but.told) but.traced clear;
              way = inl (but.why, record { is = refl; left = step.1 });
            }),
          ),
        ),
      )
  commit_way (Refused TooMany) parts after step unhindered clear =
      let but = step.0 in
      let verified = but.verified in
      inr (
        verified.committable.small,
        inr (
          verified.committable.new,
          inr (
            but.config,
            verified.configured,
            inl (record {
              told = but.told;
              left = verified.left;
              last = but.last;
              passed = verified.passed;
              message_left = verified.message_left;
              clear = clear_as tells parts (parts_of_stages but.told) but.traced clear;
              way = inr (but.why.0, inl (but.why.2, record { is = refl; left = step.1 }));
            }),
          ),
        ),
      )
  commit_way (Refused OutOfMemory) parts after step unhindered clear = absurd unhindered
  commit_way (Refused (Store fault)) parts after step unhindered clear = absurd unhindered
  commit_way (Refused (BadConfig fault)) parts after step unhindered clear = absurd unhindered
  commit_way (Refused Collision) parts after step unhindered clear = absurd unhindered
  commit_way (Refused Spent) parts after step unhindered clear = absurd unhindered
  commit_way (Refused refusal) parts after step unhindered clear = absurd step.0.2
  commit_way reply parts after step unhindered clear = absurd step

  module _ (alone : OneAnswer tells) (reply second : Reply) (after other : Repository) where
    -- what is committed, or there is no room for it
    same_room : (config : Config) (reports : List (List ℕ)) (cleaned : List ℕ) → RoomWay config reports cleaned reply after → RoomWay config reports cleaned second other
        → AreAlike reply second after other
    same_room config reports cleaned (inl p) (inl q) = refused_alike before after other TooMany TooMany reply second refl p.1 q.1
    same_room config reports cleaned (inl p) (inr q) = let full = p.0 in let room = q.room in absurd (omega arith)
    same_room config reports cleaned (inr p) (inl q) = let full = q.0 in let room = p.room in absurd (omega arith)
    same_room config reports cleaned (inr p) (inr q) = (
      ap without_memory (p.is
          ∙ same_committed (length before.history + 1) reports p.report q.report (same_post tells alone config before skip p.report q.report p.parts q.parts p.behind q.behind p.clear q.clear)
          ∙ sym q.is),
      p.made ∙ sym q.made,
    )

    same_message : (config : Config) (reports : List (List ℕ)) (cleaned : List ℕ) → MessageWay config reports cleaned reply after → MessageWay config reports cleaned second other
        → AreAlike reply second after other
    same_message config reports cleaned (inl p) (inl q) = refused_alike before after other EmptyMessage EmptyMessage reply second refl p.1 q.1
    same_message config reports cleaned (inl p) (inr q) = absurd (q.0 p.0)
    same_message config reports cleaned (inr p) (inl q) = absurd (p.0 q.0)
    same_message config reports cleaned (inr p) (inr q) = same_room config reports cleaned p.1 q.1

    same_stages : (config : Config) → HasPassed config reply after ⊎ HasFailed config reply after → HasPassed config second other ⊎ HasFailed config second other → AreAlike reply second after other
    same_stages config (inl p) (inl q) =
        let same =
        same_passed tells alone config (changed_paths before) skip (stages_before_commit no_verify) (course_of before message) p.told q.told p.left q.left p.passed q.passed p.clear q.clear in
        let last = p.message_left ∙ ap (λ (course : CommitState). course.message) same.1 ∙ sym q.message_left in
        same_message config (reports_of p.told) (cleaned_message p.last) p.way
        (subst (λ (reports : List (List ℕ)). MessageWay config reports (cleaned_message p.last) second other) (sym same.0)
        (subst (λ (message : List ℕ). MessageWay config (reports_of q.told) (cleaned_message message) second other) (sym last) q.way))
    same_stages config (inl p) (inr q) =
        absurd (not_both tells alone config (changed_paths before) skip (stages_before_commit no_verify) (course_of before message) p.told q.told p.left q.left q.failed p.passed q.run p.clear q.clear)
    same_stages config (inr p) (inl q) =
        absurd (not_both tells alone config (changed_paths before) skip (stages_before_commit no_verify) (course_of before message) q.told p.told q.left p.left p.failed q.passed p.run q.clear p.clear)
    same_stages config (inr p) (inr q) =
        let same =
        same_failed tells alone config (changed_paths before) skip (stages_before_commit no_verify) (course_of before message) p.told q.told p.left q.left p.failed q.failed p.run q.run p.clear
        q.clear in (
          ap without_memory (p.is ∙ same_hooks_failed p.failed q.failed (reports_of p.told) (reports_of q.told) same.1 same.0 ∙ sym q.is),
          p.made ∙ ap (λ (course : CommitState). fixing (changes_between before.staged course.tree) before) same.2 ∙ sym q.made,
        )

    same_configured : ConfigWay reply after → ConfigWay second other → AreAlike reply second after other
    same_configured (inl p) (inl q) = refused_alike before after other NoConfig NoConfig reply second refl p.1 q.1
    same_configured (inl p) (inr q) = absurd (not_lacking before q.0 p.0 q.1)
    same_configured (inr p) (inl q) = absurd (not_lacking before p.0 q.0 p.1)
    same_configured (inr p) (inr q) =
        same_stages p.0 p.2 (subst (λ (config : Config). HasPassed config second other ⊎ HasFailed config second other) (same_config before q.0 p.0 q.1 p.1) q.2)

    same_new : NewWay reply after → NewWay second other → AreAlike reply second after other
    same_new (inl p) (inl q) = refused_alike before after other NothingStaged NothingStaged reply second refl p.1 q.1
    same_new (inl p) (inr q) = absurd (q.0 p.0)
    same_new (inr p) (inl q) = absurd (p.0 q.0)
    same_new (inr p) (inr q) = same_configured p.1 q.1

    same_commit_way : CommitWay reply after → CommitWay second other → AreAlike reply second after other
    same_commit_way (inl p) (inl q) = refused_alike before after other TooLarge TooLarge reply second refl p.1 q.1
    same_commit_way (inl p) (inr q) = absurd (p.0 q.0)
    same_commit_way (inr p) (inl q) = absurd (q.0 p.0)
    same_commit_way (inr p) (inr q) = same_new p.1 q.1

  pub same_commit : (alone : OneAnswer tells) (reply second : Reply) (parts more : List Part) (after other : Repository)
      → Step before (Commit message no_verify skip) reply parts after → Step before (Commit message no_verify skip) second more other
      → IsUnhindered reply → IsUnhindered second → AreClear tells parts → AreClear tells more → AreAlike reply second after other
  same_commit alone reply second parts more after other step then unhindered both clear also =
      same_commit_way alone reply second after other (commit_way reply parts after step unhindered clear) (commit_way second more other then both also)

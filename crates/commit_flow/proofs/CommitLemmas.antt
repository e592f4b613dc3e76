-- A commit as a step between two moments: one lemma for each of its ends.
use Rattle.std.proofs.Common.{◌≡◌, ◌∙◌, ap, append_assoc, inl, inr, sym, subst, refl, ℕ, ◌+◌, ◌-◌, ◌^◌, Bool, List, [], ◌++◌, length}
use Rattle.std.proofs.lemmas.List.{append-nil}
use Rattle.hook_base.specs.declared.change.Change.{Change}
use Rattle.hook_base.specs.declared.file.File.{File}
use Rattle.hook_base.specs.Trees.{changes_between}
use Rattle.child_port.specs.declared.answer.Outcome.{Outcome}
use Rattle.child_port.specs.Telling.{SameTells}
use Rattle.hook_config.specs.declared.configuration.Config.{Config}
use Rattle.hook_config.specs.declared.stage.Stage.{Stage}
use Rattle.repo_store.specs.StoreBooks.{RefusesAnswers}
use Rattle.hook_run.specs.declared.reuse.Reuse.TheVariants as reuse
use Rattle.hook_run.specs.declared.run_refusal.RunRefusal.{RunRefusal}
use Rattle.hook_run.specs.declared.run_refusal.RunRefusal.TheVariants as run
use Rattle.hook_run.specs.Answers.{AreAnswered, AreAnsweredSoFar}
use Rattle.hook_run.specs.AnswerLemmas.{answered-adds, answered-none, answered-told, so-far, so-far-adds, so-far-back_to, so-far-back_to-last, so-far-told}
use Rattle.hook_run.specs.Moments.{Moment}
use Rattle.hook_run.specs.Parts.{AllTold, Part, all_parts}
use Rattle.repo_store.specs.Kept.{FixCollides, Kept}
use Rattle.repo_store.specs.Repository.{Repository, with_new_commit}
use Rattle.commit_flow.specs.declared.command.Command.TheVariants.{Commit}
use Rattle.commit_flow.specs.declared.commit_state.CommitState.{CommitState}
use Rattle.commit_flow.specs.declared.host_refusal.HostRefusal.{HostRefusal}
use Rattle.commit_flow.specs.declared.host_refusal.HostRefusal.TheVariants.{OutOfMemory, Store, BadPath, NotStaged, TooLarge, TooMany, NoConfig, BadConfig, NoSuchHook, NothingStaged, NoFixes, EmptyMessage, Collision, Spent, Clash}
use Rattle.commit_flow.specs.declared.reply.PostCommit.{PostCommit}
use Rattle.commit_flow.specs.declared.reply.PostCommit.TheVariants.{Told, Stopped}
use Rattle.commit_flow.specs.declared.reply.Reply.{Reply}
use Rattle.commit_flow.specs.declared.reply.Reply.TheVariants.{Committed, HooksFailed, Refused}
use Rattle.commit_flow.specs.CommitCalls.{AreStagesOver, IsHalt, IsHalted, IsNotBegun, IsPostOver, IsUnbegun, IsUncommitted, IsUnfixed, IsUnthrough}
use Rattle.commit_flow.specs.CommitStages.{FailedAt, HaveBegun, HaveFurther, HavePassed, course_of, parts_of_stages, stages_before_commit}
use Rattle.commit_flow.specs.Commits.{IsCommitRefusal, IsCommittable, IsCommitted, IsPost, IsVerified, MayCommit}
use Rattle.commit_flow.specs.Configured.{HasReadableConfig, IsConfigured}
use Rattle.commit_flow.specs.Messages.{cleaned_message}
use Rattle.commit_flow.specs.Preparations.{IsConfigRefusal}
use Rattle.commit_flow.specs.Refusals.{of_run}
use Rattle.commit_flow.specs.Runs.{changed_paths, fixing}
use Rattle.commit_flow.specs.RunSteps.{IsUnset}
use Rattle.commit_flow.specs.CommitSteps.{AreLeftOut, HasBegunBefore, HasBegunBehind, HasFailedBut, HasFurtherBefore, HasFurtherBehind, IsCommitStep, SaysSpent}
use Rattle.commit_flow.specs.Steps.{Step}
use Rattle.commit_flow.proofs.RefusalLemmas.{by_stop}
use Rattle.commit_flow.proofs.StagesLemmas.{answered_then, answered_up_to, begun_failed, begun_verified, halted_for_memory}

-- ---- refusals

pub unbegun_config : (repo : Repository) (message : List ℕ) (refusal : HostRefusal) → IsCommittable repo message → IsConfigRefusal repo refusal → IsUnbegun repo message refusal
unbegun_config repo message OutOfMemory committable why = committable
unbegun_config repo message NoConfig committable why = (committable, why)
unbegun_config repo message (BadConfig fault) committable why = (committable, why)
unbegun_config repo message (Store fault) committable why = absurd why
unbegun_config repo message (BadPath fault) committable why = absurd why
unbegun_config repo message NotStaged committable why = absurd why
unbegun_config repo message TooLarge committable why = absurd why
unbegun_config repo message TooMany committable why = absurd why
unbegun_config repo message NoSuchHook committable why = absurd why
unbegun_config repo message NothingStaged committable why = absurd why
unbegun_config repo message NoFixes committable why = absurd why
unbegun_config repo message EmptyMessage committable why = absurd why
unbegun_config repo message Collision committable why = absurd why
unbegun_config repo message Spent committable why = absurd why
unbegun_config repo message Clash committable why = absurd why

pub says_spent : (refusal : HostRefusal) → SaysSpent (Refused refusal) → refusal ≡ Spent
says_spent Spent says = refl
says_spent OutOfMemory says = absurd says
says_spent NoConfig says = absurd says
says_spent (BadConfig fault) says = absurd says
says_spent (Store fault) says = absurd says
says_spent (BadPath fault) says = absurd says
says_spent NotStaged says = absurd says
says_spent TooLarge says = absurd says
says_spent TooMany says = absurd says
says_spent NoSuchHook says = absurd says
says_spent NothingStaged says = absurd says
says_spent NoFixes says = absurd says
says_spent EmptyMessage says = absurd says
says_spent Collision says = absurd says
says_spent Clash says = absurd says

says_stopped : (number : ℕ) (reports : List (List ℕ)) (refusal : RunRefusal) → SaysSpent (Committed number reports (Stopped refusal)) → refusal ≡ run.Spent
says_stopped number reports run.Spent says = refl
says_stopped number reports run.OutOfMemory says = absurd says
says_stopped number reports (run.Book fault) says = absurd says
says_stopped number reports run.NoSuchHook says = absurd says

module _ (repo : Repository) (message : List ℕ) (no_verify : Bool) (skip : List (List ℕ)) where
  unbegun_refusal : (refusal : HostRefusal) → IsUnbegun repo message refusal → IsCommitRefusal repo message no_verify skip [] refusal
  unbegun_refusal TooLarge why = (why, refl)
  unbegun_refusal NothingStaged why = (why.0, why.1, refl)
  unbegun_refusal NoConfig why = (why.0, why.1, refl)
  unbegun_refusal (BadConfig fault) why = (why.0, why.1, refl)
  unbegun_refusal OutOfMemory why = (why, refl)
  unbegun_refusal (Store fault) why = absurd why
  unbegun_refusal (BadPath fault) why = absurd why
  unbegun_refusal NotStaged why = absurd why
  unbegun_refusal TooMany why = absurd why
  unbegun_refusal NoSuchHook why = absurd why
  unbegun_refusal NoFixes why = absurd why
  unbegun_refusal EmptyMessage why = absurd why
  unbegun_refusal Collision why = absurd why
  unbegun_refusal Spent why = absurd why
  unbegun_refusal Clash why = absurd why

  halt_refusal : IsCommittable repo message → HasReadableConfig repo → (refusal : HostRefusal) → IsHalt RefusesAnswers refusal → IsCommitRefusal repo message no_verify skip [] refusal
  halt_refusal committable readable refusal why =
      subst (IsCommitRefusal repo message no_verify skip []) (sym why.is)
      (by_stop (IsCommitRefusal repo message no_verify skip []) why.inner why.not_named why.of_book
      (committable, refl) (committable, readable, tt, refl) (λ fault of_fixes. (committable, readable, of_fixes, refl)) (λ _. (committable, readable, tt, refl)))

module _ (tells : List (List ℕ) → List File → Outcome → Type 0) (repo : Repository) (message : List ℕ) (no_verify : Bool) (skip : List (List ℕ)) (contents : List (List ℕ)) where
  -- nothing is left out of a commit that isn't begun
  unbegun_out : (at : Moment) (refusal : HostRefusal) → IsUnbegun repo message refusal → AreLeftOut tells at at repo message no_verify skip [] contents (Refused refusal)
  unbegun_out at OutOfMemory why = inl (refl, refl)
  unbegun_out at (Store fault) why = absurd why
  unbegun_out at Collision why = absurd why
  unbegun_out at Spent why = absurd why
  unbegun_out at NoConfig why = (refl, refl)
  unbegun_out at (BadConfig fault) why = (refl, refl)
  unbegun_out at (BadPath fault) why = absurd why
  unbegun_out at NotStaged why = absurd why
  unbegun_out at TooLarge why = (refl, refl)
  unbegun_out at TooMany why = absurd why
  unbegun_out at NoSuchHook why = absurd why
  unbegun_out at NothingStaged why = (refl, refl)
  unbegun_out at NoFixes why = absurd why
  unbegun_out at EmptyMessage why = absurd why
  unbegun_out at Clash why = absurd why

  -- its stages were stopped
  halt_out : (from to : Moment) (parts : List Part) (refusal : HostRefusal) → IsHalt RefusesAnswers refusal → HasBegunBefore repo message no_verify skip parts
      → (refusal ≡ Spent → HasFurtherBefore repo message no_verify skip to.remembered parts) → AreLeftOut tells from to repo message no_verify skip parts contents (Refused refusal)
  halt_out from to parts refusal why begun needs =
      subst (λ (r : HostRefusal). AreLeftOut tells from to repo message no_verify skip parts contents (Refused r)) (sym why.is)
      (by_stop (λ (r : HostRefusal). AreLeftOut tells from to repo message no_verify skip parts contents (Refused r)) why.inner why.not_named why.of_book
      (inr begun) (inr begun) (λ fault of_fixes. inr begun) (λ spent. needs (why.is ∙ ap of_run spent)))

  -- the hooks after it were stopped
  post_out : (from to : Moment) (number : ℕ) (reports : List (List ℕ)) (parts : List Part) (refusal : RunRefusal) → HasBegunBehind repo skip parts
      → (refusal ≡ run.Spent → HasFurtherBehind repo skip to.remembered parts) → AreLeftOut tells from to repo message no_verify skip parts contents (Committed number reports (Stopped refusal))
  post_out from to number reports parts run.Spent begun needs = needs refl
  post_out from to number reports parts run.OutOfMemory begun needs = begun
  post_out from to number reports parts (run.Book fault) begun needs = begun
  post_out from to number reports parts run.NoSuchHook begun needs = begun

-- ---- the ends

-- these parts are a first stretch of all that was answered for the commit: of those of its reply, and those that it leaves out
pub record IsFront (front all : List Part) : Type 0 where
  pub behind : List Part
  pub joined : all ≡ front ++ behind

module _ (tells : List (List ℕ) → List File → Outcome → Type 0) (from to : Moment) (before : Repository) (message : List ℕ) (no_verify : Bool) (skip : List (List ℕ)) where
  -- the reply stands on all that was answered
  step_on_all : (reply : Reply) (after : Kept) (parts : List Part) → Step before (Commit message no_verify skip) reply parts after.repo
      → AreLeftOut tells to to before message no_verify skip [] after.contents reply
      → (SaysSpent reply → ⊥) → AreAnswered tells reuse.All from to parts → IsCommitStep tells from to before message no_verify skip reply after
  step_on_all reply after parts step why not_spent answered = record {
    parts = parts;
    left_out = [];
    between = to;
    step = step;
    answered = answered;
    answered_then = so-far tells reuse.All to to [] (answered-none tells reuse.All to);
    why = why;
    told = λ book. subst (AllTold tells) (sym (append-nil parts)) (answered-told tells reuse.All from to parts answered book);
    adds = answered-adds tells reuse.All from to parts answered;
    put = λ says. absurd (not_spent says);
    spent = λ says. absurd (not_spent says);
  }

  -- the reply stands on none of what was answered
  step_on_none : (reply : Reply) (after : Kept) (parts : List Part) → Step before (Commit message no_verify skip) reply [] after.repo
      → AreLeftOut tells from to before message no_verify skip parts after.contents reply
      → (answered : AreAnsweredSoFar tells reuse.All from to parts) → (SaysSpent reply → answered.last ≡ []) → (SaysSpent reply → to.calls ≡ 2 ^ 64 - 1)
      → IsCommitStep tells from to before message no_verify skip reply after
  step_on_none reply after parts step why answered put spent = record {
    parts = [];
    left_out = parts;
    between = from;
    step = step;
    answered = answered-none tells reuse.All from;
    answered_then = answered;
    why = why;
    told = so-far-told tells reuse.All from to parts answered;
    adds = so-far-adds tells reuse.All from to parts answered;
    put = put;
    spent = spent;
  }

  -- the store refused what the stages had done
  step_unstored : (reply : Reply) (after : Kept) (parts : List Part) → Step before (Commit message no_verify skip) reply [] after.repo
      → AreLeftOut tells from to before message no_verify skip parts after.contents reply
      → (SaysSpent reply → ⊥) → AreAnswered tells reuse.All from to parts → IsCommitStep tells from to before message no_verify skip reply after
  step_unstored reply after parts step why not_spent answered =
      step_on_none reply after parts step why (so-far tells reuse.All from to parts answered) (λ says. absurd (not_spent says)) (λ says. absurd (not_spent says))

module _ (tells : List (List ℕ) → List File → Outcome → Type 0) (before : Repository) (message : List ℕ) (no_verify : Bool) (skip : List (List ℕ)) where
  step_unbegun : (at : Moment) (refusal : HostRefusal) (after : Kept) → after.repo ≡ before → IsUnbegun before message refusal
      → IsCommitStep tells at at before message no_verify skip (Refused refusal) after
  step_unbegun at refusal after left why = step_on_all tells at at before message no_verify skip (Refused refusal) after [] (unbegun_refusal before message no_verify skip refusal why, left)
      (unbegun_out tells before message no_verify skip after.contents at refusal why) (λ says. subst (IsUnbegun before message) (says_spent refusal says) why) (answered-none tells reuse.All at)

  module _ (from to : Moment) where
    step_not_begun : (refusal : HostRefusal) (after : Kept) → after.repo ≡ before → IsNotBegun from to before message refusal
        → IsCommitStep tells from to before message no_verify skip (Refused refusal) after
    step_not_begun refusal after left why =
        subst (λ (at : Moment). IsCommitStep tells from at before message no_verify skip (Refused refusal) after) (sym why.unmade) (step_unbegun from refusal after left why.unbegun)

    step_halted : (refusal : HostRefusal) (after : Kept) → after.repo ≡ before → IsCommittable before message → (config : Config) → IsConfigured before config
        → IsHalted RefusesAnswers tells reuse.All from to (HaveBegun config (changed_paths before) skip (stages_before_commit no_verify) (course_of before message))
        (HaveFurther to.remembered config (changed_paths before) skip (stages_before_commit no_verify) (course_of before message)) refusal
        → IsCommitStep tells from to before message no_verify skip (Refused refusal) after
    step_halted refusal after left committable config configured halted =
        step_on_none tells from to before message no_verify skip (Refused refusal) after halted.parts
        (halt_refusal before message no_verify skip committable (config, configured) refusal halted.why, left)
        (halt_out tells before message no_verify skip after.contents from to halted.parts refusal halted.why (record { config = config; configured = configured; begun = halted.begun })
        (λ is. record { config = config; configured = configured; further = halted.needs is }))
        halted.answered (λ says. halted.put (says_spent refusal says)) (λ says. halted.spent (says_spent refusal says))

    pub step_unthrough : (refusal : HostRefusal) (after : Kept) → after.repo ≡ before → IsUnthrough tells from to before message no_verify skip refusal
        → IsCommitStep tells from to before message no_verify skip (Refused refusal) after
    step_unthrough refusal after left why =
        elim why [
          | inl early ↦ step_not_begun refusal after left early
          | inr late ↦ step_halted refusal after left late.committable late.config late.configured late.halted
        ]

    module _ (committable : IsCommittable before message) (config : Config) (configured : IsConfigured before config) where
      -- memory is refused after the stages
      step_lost : (after : Kept) → after.repo ≡ before → (parts : List Part) → HaveBegun config (changed_paths before) skip (stages_before_commit no_verify) (course_of before message) parts
          → AreAnswered tells reuse.All from to parts
          → IsCommitStep tells from to before message no_verify skip (Refused OutOfMemory) after
      step_lost after left parts begun answered = step_halted OutOfMemory after left committable config configured
          (halted_for_memory RefusesAnswers tells from to reuse.All (HaveBegun config (changed_paths before) skip (stages_before_commit no_verify) (course_of before message))
          (HaveFurther to.remembered config (changed_paths before) skip (stages_before_commit no_verify) (course_of before message)) parts begun answered)

      module _ (reports : List (List ℕ)) where
        -- a hook failed, and the fixes aren't set
        module _ (stage : Stage) (left : CommitState) (over : AreStagesOver tells from to reports
            (λ told. FailedAt config (changed_paths before) skip (stages_before_commit no_verify) (course_of before message) told stage left)) where
          failed_but : (reason : List Change → Type 0) → reason (changes_between before.staged left.tree) → HasFailedBut before message no_verify skip (parts_of_stages over.told) reason
          failed_but reason why = record { config = config; told = over.told; failed = stage; last = left; configured = configured; run = over.ran_so; traced = refl; why = why }

          pub step_unfixed : (after : Kept) → after.repo ≡ before → (refusal : HostRefusal) → IsUnfixed after.contents (changes_between before.staged left.tree) refusal
              → IsCommitStep tells from to before message no_verify skip (Refused refusal) after
          step_unfixed after same OutOfMemory why = step_lost after same (parts_of_stages over.told)
              (begun_failed config (changed_paths before) skip (stages_before_commit no_verify) (course_of before message) over.told stage left over.ran_so) over.answered
          step_unfixed after same (Store fault) why =
              step_unstored tells from to before message no_verify skip (Refused (Store fault)) after (parts_of_stages over.told) ((committable, (config, configured), why.0, refl), same)
              (inl (inl (failed_but (IsUnset fault) why.1), over.answered)) (λ says. says) over.answered
          step_unfixed after same Collision why =
              step_unstored tells from to before message no_verify skip (Refused Collision) after (parts_of_stages over.told) ((committable, (config, configured), tt, refl), same)
              (inl (failed_but (λ fixes. FixCollides fixes after.contents) why, over.answered)) (λ says. says) over.answered
          step_unfixed after same Spent why = absurd why
          step_unfixed after same NoConfig why = absurd why
          step_unfixed after same (BadConfig fault) why = absurd why
          step_unfixed after same (BadPath fault) why = absurd why
          step_unfixed after same NotStaged why = absurd why
          step_unfixed after same TooLarge why = absurd why
          step_unfixed after same TooMany why = absurd why
          step_unfixed after same NoSuchHook why = absurd why
          step_unfixed after same NothingStaged why = absurd why
          step_unfixed after same NoFixes why = absurd why
          step_unfixed after same EmptyMessage why = absurd why
          step_unfixed after same Clash why = absurd why

          pub step_unfixed-front : (after : Kept) (same : after.repo ≡ before) (refusal : HostRefusal) (why : IsUnfixed after.contents (changes_between before.staged left.tree) refusal)
              → IsFront (parts_of_stages over.told) ((step_unfixed after same refusal why).parts ++ (step_unfixed after same refusal why).left_out)
          unfolding step_unfixed step_lost step_halted step_unstored step_on_none halted_for_memory
          step_unfixed-front after same OutOfMemory why = record { behind = []; joined = sym (append-nil (parts_of_stages over.told)) }
          step_unfixed-front after same (Store fault) why = record { behind = []; joined = sym (append-nil (parts_of_stages over.told)) }
          step_unfixed-front after same Collision why = record { behind = []; joined = sym (append-nil (parts_of_stages over.told)) }
          step_unfixed-front after same Spent why = absurd why
          step_unfixed-front after same NoConfig why = absurd why
          step_unfixed-front after same (BadConfig fault) why = absurd why
          step_unfixed-front after same (BadPath fault) why = absurd why
          step_unfixed-front after same NotStaged why = absurd why
          step_unfixed-front after same TooLarge why = absurd why
          step_unfixed-front after same TooMany why = absurd why
          step_unfixed-front after same NoSuchHook why = absurd why
          step_unfixed-front after same NothingStaged why = absurd why
          step_unfixed-front after same NoFixes why = absurd why
          step_unfixed-front after same EmptyMessage why = absurd why
          step_unfixed-front after same Clash why = absurd why

          -- a hook failed, and the fixes are set
          pub step_failed : (after : Kept) → after.repo ≡ fixing (changes_between before.staged left.tree) before
              → IsCommitStep tells from to before message no_verify skip (HooksFailed stage reports) after
          step_failed after made =
              step_on_all tells from to before message no_verify skip (HooksFailed stage reports) after (parts_of_stages over.told)
              (record { config = config; told = over.told; last = left; committable = committable; configured = configured; run = over.ran_so; reported = over.reported; traced = refl; made = made })
              (refl, refl) (λ says. says) over.answered

          pub step_failed-front : (after : Kept) (made : after.repo ≡ fixing (changes_between before.staged left.tree) before)
              → IsFront (parts_of_stages over.told) ((step_failed after made).parts ++ (step_failed after made).left_out)
          unfolding step_failed step_on_all
          step_failed-front after made = record { behind = []; joined = refl }

        module _ (left : CommitState) (over : AreStagesOver tells from to reports
            (λ told. HavePassed config (changed_paths before) skip (stages_before_commit no_verify) (course_of before message) told left)) where
          verified : IsVerified before message no_verify skip config over.told left.message
          verified = record { committable = committable; configured = configured; left = left; passed = over.ran_so; message_left = refl }

          -- the stages passed, and nothing is committed
          pub step_uncommitted : (after : Kept) → after.repo ≡ before → (refusal : HostRefusal) → IsUncommitted before (cleaned_message left.message) refusal
              → IsCommitStep tells from to before message no_verify skip (Refused refusal) after
          step_uncommitted after same EmptyMessage why =
              step_on_all tells from to before message no_verify skip (Refused EmptyMessage) after (parts_of_stages over.told)
              (record { config = config; told = over.told; last = left.message; verified = verified; traced = refl; why = why }, same) (refl, refl) (λ says. says) over.answered
          step_uncommitted after same TooMany why =
              step_on_all tells from to before message no_verify skip (Refused TooMany) after (parts_of_stages over.told)
              (record { config = config; told = over.told; last = left.message; verified = verified; traced = refl; why = why }, same) (refl, refl) (λ says. says) over.answered
          step_uncommitted after same (Store fault) why =
              step_unstored tells from to before message no_verify skip (Refused (Store fault)) after (parts_of_stages over.told) ((committable, (config, configured), why.0, refl), same)
              (inl (inr (record { config = config; told = over.told; last = left.message; verified = verified; traced = refl; why = why.1 }), over.answered)) (λ says. says) over.answered
          step_uncommitted after same OutOfMemory why = step_lost after same (parts_of_stages over.told)
              (begun_verified config (changed_paths before) skip no_verify (course_of before message) over.told left over.ran_so) over.answered
          step_uncommitted after same NoConfig why = absurd why
          step_uncommitted after same (BadConfig fault) why = absurd why
          step_uncommitted after same (BadPath fault) why = absurd why
          step_uncommitted after same NotStaged why = absurd why
          step_uncommitted after same TooLarge why = absurd why
          step_uncommitted after same NoSuchHook why = absurd why
          step_uncommitted after same NothingStaged why = absurd why
          step_uncommitted after same NoFixes why = absurd why
          step_uncommitted after same Collision why = absurd why
          step_uncommitted after same Spent why = absurd why
          step_uncommitted after same Clash why = absurd why

          pub step_uncommitted-front : (after : Kept) (same : after.repo ≡ before) (refusal : HostRefusal) (why : IsUncommitted before (cleaned_message left.message) refusal)
              → IsFront (parts_of_stages over.told) ((step_uncommitted after same refusal why).parts ++ (step_uncommitted after same refusal why).left_out)
          unfolding step_uncommitted step_lost step_halted step_unstored step_on_none step_on_all halted_for_memory
          step_uncommitted-front after same EmptyMessage why = record { behind = []; joined = refl }
          step_uncommitted-front after same TooMany why = record { behind = []; joined = refl }
          step_uncommitted-front after same (Store fault) why = record { behind = []; joined = sym (append-nil (parts_of_stages over.told)) }
          step_uncommitted-front after same OutOfMemory why = record { behind = []; joined = sym (append-nil (parts_of_stages over.told)) }
          step_uncommitted-front after same NoConfig why = absurd why
          step_uncommitted-front after same (BadConfig fault) why = absurd why
          step_uncommitted-front after same (BadPath fault) why = absurd why
          step_uncommitted-front after same NotStaged why = absurd why
          step_uncommitted-front after same TooLarge why = absurd why
          step_uncommitted-front after same NoSuchHook why = absurd why
          step_uncommitted-front after same NothingStaged why = absurd why
          step_uncommitted-front after same NoFixes why = absurd why
          step_uncommitted-front after same Collision why = absurd why
          step_uncommitted-front after same Spent why = absurd why
          step_uncommitted-front after same Clash why = absurd why

          module _ (next : List (List ℕ) → List File → Outcome → Type 0) (end : Moment) (number : ℕ) (after : Kept) (same : SameTells tells next)
              (may : MayCommit before (cleaned_message left.message)) (counted : number ≡ length before.history + 1) (made : after.repo ≡ with_new_commit (cleaned_message left.message) before) where
            committed : (post : PostCommit) (post_parts : List Part) → IsPost config before skip post post_parts
                → IsCommitted before message no_verify skip number reports post (parts_of_stages over.told ++ post_parts) after.repo
            committed post post_parts behind = record {
              config = config;
              told = over.told;
              last = left.message;
              post_parts = post_parts;
              verified = verified;
              some = may.some;
              small = may.small;
              room = may.room;
              counted = counted;
              reported = over.reported;
              behind = behind;
              traced = refl;
              made = made;
            }

            -- the commit was made, and this became of the hooks after it
            pub step_committed : (post : PostCommit) → IsPostOver next to end config before.staged skip post
                → IsCommitStep tells from end before message no_verify skip (Committed number reports post) after
            step_committed (Told report) behind =
                step_on_all tells from end before message no_verify skip (Committed number reports (Told report)) after (parts_of_stages over.told ++ all_parts behind.told.trace)
                (committed (Told report) (all_parts behind.told.trace) (behind.told, behind.run, behind.reported, refl)) (refl, refl) (λ says. says)
                (answered_then tells next from to end (parts_of_stages over.told) (all_parts behind.told.trace) same over.answered behind.answered)
            step_committed (Stopped refusal) behind = record {
              parts = parts_of_stages over.told ++ [];
              left_out = behind.parts;
              between = to;
              step = committed (Stopped refusal) [] (behind.not_named, behind.of_book, refl);
              answered = subst (AreAnswered tells reuse.All from to) (sym (append-nil (parts_of_stages over.told))) over.answered;
              answered_then = so-far-back_to tells next same reuse.All to end behind.parts behind.answered;
              why = post_out tells before message no_verify skip after.contents to end number reports behind.parts refusal (record { config = config; configured = configured; begun = behind.begun })
                  (λ is. record { config = config; configured = configured; needs = behind.needs is });
              told = λ book. subst (AllTold tells) (ap (λ (front : List Part). front ++ behind.parts) (sym (append-nil (parts_of_stages over.told))))
                  (so-far-told tells reuse.All from end (parts_of_stages over.told ++ behind.parts)
                  (answered_up_to tells next from to end (parts_of_stages over.told) behind.parts same over.answered behind.answered) book);
              adds =
                  so-far-adds tells reuse.All from end (parts_of_stages over.told ++ behind.parts)
                  (answered_up_to tells next from to end (parts_of_stages over.told) behind.parts same over.answered behind.answered);
              put = λ says. so-far-back_to-last tells next same reuse.All to end behind.parts behind.answered ∙ behind.put (says_stopped number reports refusal says);
              spent = λ says. behind.spent (says_stopped number reports refusal says);
            }

            pub step_committed-front : (post : PostCommit) (behind : IsPostOver next to end config before.staged skip post)
                → IsFront (parts_of_stages over.told) ((step_committed post behind).parts ++ (step_committed post behind).left_out)
            unfolding step_committed step_on_all
            step_committed-front (Told report) behind = record { behind = all_parts behind.told.trace ++ []; joined = append_assoc (parts_of_stages over.told) (all_parts behind.told.trace) [] }
            step_committed-front (Stopped refusal) behind = record { behind = behind.parts; joined = append_assoc (parts_of_stages over.told) [] behind.parts }

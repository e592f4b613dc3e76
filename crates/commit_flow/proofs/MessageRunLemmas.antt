-- Hooks about a message as a step between two moments: one lemma for each of their ends.
use Rattle.std.proofs.Common.{◌≡◌, ◌∙◌, ap, inl, inr, sym, subst, refl, ℕ, List, []}
use Rattle.std.proofs.lemmas.List.{append-nil}
use Rattle.hook_base.specs.declared.file.File.{File}
use Rattle.child_port.specs.declared.answer.Outcome.{Outcome}
use Rattle.hook_config.specs.declared.stage.Stage.{Stage}
use Rattle.repo_store.specs.StoreBooks.{RefusesAnswers}
use Rattle.hook_run.specs.declared.reuse.Reuse.{Reuse}
use Rattle.hook_run.specs.AnswerLemmas.{answered-adds, answered-none, answered-told, so-far, so-far-adds, so-far-told}
use Rattle.hook_run.specs.Moments.{Moment}
use Rattle.hook_run.specs.Parts.{AllTold, Part, all_parts}
use Rattle.hook_run.specs.RunOuts.{IsBegun, NeedsChild}
use Rattle.store_faults.specs.Limits.{IsSmall}
use Rattle.repo_store.specs.Repository.{Repository}
use Rattle.commit_flow.specs.declared.commit_stages.StageEnd.{StageEnd}
use Rattle.commit_flow.specs.declared.commit_state.CommitState.{CommitState}
use Rattle.commit_flow.specs.declared.host_refusal.HostRefusal.{HostRefusal}
use Rattle.commit_flow.specs.declared.host_refusal.HostRefusal.TheVariants.{OutOfMemory, Store, BadPath, NotStaged, TooLarge, TooMany, NoConfig, BadConfig, NoSuchHook, NothingStaged, NoFixes, EmptyMessage, Collision, Spent, Clash}
use Rattle.commit_flow.specs.declared.message_ask.MessageAsk.{MessageAsk}
use Rattle.commit_flow.specs.declared.message_begun.MessageBegun.{MessageBegun}
use Rattle.commit_flow.specs.declared.message_stage.MessageStage.{MessageStage}
use Rattle.commit_flow.specs.declared.message_stage.MessageStage.TheVariants.{PrepareCommitMsg, CommitMsg}
use Rattle.commit_flow.specs.declared.reply.Reply.TheVariants.{MessageRan, Refused}
use Rattle.commit_flow.specs.CommitCalls.{IsHalt, IsHalted, IsStageOver}
use Rattle.commit_flow.specs.CommitStages.{ask_with, course_after, message_in, tree_in}
use Rattle.commit_flow.specs.Configured.{HasReadableConfig}
use Rattle.commit_flow.specs.MessageCalls.{IsMessageBegun, IsMessageUnbegun}
use Rattle.commit_flow.specs.MessageRuns.{IsMessageRan, IsMessageRefusal, course_of_message, reuse_about, stage_of_message}
use Rattle.commit_flow.specs.MessageSteps.{AreLeftOutOfMessage, HasMessageBegun, HasMessageFurther, IsMessageStep}
use Rattle.commit_flow.specs.Preparations.{IsConfigRefusal}
use Rattle.commit_flow.specs.Refusals.{of_run}
use Rattle.commit_flow.proofs.CommitLemmas.{says_spent}
use Rattle.commit_flow.proofs.RefusalLemmas.{by_stop}

-- ---- refusals

pub unbegun_by_config : (repo : Repository) (message : List ℕ) (refusal : HostRefusal) → IsSmall message → IsConfigRefusal repo refusal → IsMessageUnbegun repo message refusal
unbegun_by_config repo message OutOfMemory small why = small
unbegun_by_config repo message NoConfig small why = (small, why)
unbegun_by_config repo message (BadConfig fault) small why = (small, why)
unbegun_by_config repo message (Store fault) small why = absurd why
unbegun_by_config repo message (BadPath fault) small why = absurd why
unbegun_by_config repo message NotStaged small why = absurd why
unbegun_by_config repo message TooLarge small why = absurd why
unbegun_by_config repo message TooMany small why = absurd why
unbegun_by_config repo message NoSuchHook small why = absurd why
unbegun_by_config repo message NothingStaged small why = absurd why
unbegun_by_config repo message NoFixes small why = absurd why
unbegun_by_config repo message EmptyMessage small why = absurd why
unbegun_by_config repo message Collision small why = absurd why
unbegun_by_config repo message Spent small why = absurd why
unbegun_by_config repo message Clash small why = absurd why

module _ (repo : Repository) (message : List ℕ) where
  unbegun_refusal : (refusal : HostRefusal) → IsMessageUnbegun repo message refusal → IsMessageRefusal repo message refusal
  unbegun_refusal TooLarge why = why
  unbegun_refusal NoConfig why = why
  unbegun_refusal (BadConfig fault) why = why
  unbegun_refusal OutOfMemory why = why
  unbegun_refusal (Store fault) why = absurd why
  unbegun_refusal (BadPath fault) why = absurd why
  unbegun_refusal NotStaged why = absurd why
  unbegun_refusal TooMany why = absurd why
  unbegun_refusal NoSuchHook why = absurd why
  unbegun_refusal NothingStaged why = absurd why
  unbegun_refusal NoFixes why = absurd why
  unbegun_refusal EmptyMessage why = absurd why
  unbegun_refusal Collision why = absurd why
  unbegun_refusal Spent why = absurd why
  unbegun_refusal Clash why = absurd why

  halt_refusal : IsSmall message → HasReadableConfig repo → (refusal : HostRefusal) → IsHalt RefusesAnswers refusal → IsMessageRefusal repo message refusal
  halt_refusal small readable refusal why =
      subst (IsMessageRefusal repo message) (sym why.is)
      (by_stop (IsMessageRefusal repo message) why.inner why.not_named why.of_book
      small (small, readable, tt) (λ fault of_fixes. (small, readable, of_fixes)) (λ _. (small, readable, tt)))

module _ (before : Repository) (ask : MessageAsk) (message : List ℕ) where
  -- nothing is left out where the hooks aren't begun
  unbegun_out : (at : Moment) (refusal : HostRefusal) → IsMessageUnbegun before message refusal → AreLeftOutOfMessage at at before ask message [] (Refused refusal)
  unbegun_out at OutOfMemory why = inl (refl, refl)
  unbegun_out at (Store fault) why = absurd why
  unbegun_out at Collision why = absurd why
  unbegun_out at Spent why = absurd why
  unbegun_out at NoConfig why = (refl, refl)
  unbegun_out at (BadConfig fault) why = (refl, refl)
  unbegun_out at (BadPath fault) why = absurd why
  unbegun_out at NotStaged why = absurd why
  unbegun_out at TooLarge why = (refl, refl)
  unbegun_out at TooMany why = absurd why
  unbegun_out at NoSuchHook why = absurd why
  unbegun_out at NothingStaged why = absurd why
  unbegun_out at NoFixes why = absurd why
  unbegun_out at EmptyMessage why = absurd why
  unbegun_out at Clash why = absurd why

  -- the hooks were stopped
  halt_out : (from to : Moment) (parts : List Part) (refusal : HostRefusal) → IsHalt RefusesAnswers refusal → HasMessageBegun before ask message parts
      → (refusal ≡ Spent → HasMessageFurther before ask message to.remembered parts) → AreLeftOutOfMessage from to before ask message parts (Refused refusal)
  halt_out from to parts refusal why begun needs =
      subst (λ (r : HostRefusal). AreLeftOutOfMessage from to before ask message parts (Refused r)) (sym why.is)
      (by_stop (λ (r : HostRefusal). AreLeftOutOfMessage from to before ask message parts (Refused r)) why.inner why.not_named why.of_book
      (inr begun) begun (λ fault of_fixes. begun) (λ spent. needs (why.is ∙ ap of_run spent)))

-- ---- the ends

-- the message that a stage passes on is the one in the tree
left_in : (stage : MessageStage) (course : CommitState) (tree : List File) → (course_after (stage_of_message stage) course tree).message ≡ message_in tree
left_in PrepareCommitMsg course tree = refl
left_in CommitMsg course tree = refl

module _ (tells : List (List ℕ) → List File → Outcome → Type 0) (before after : Repository) (left : after ≡ before) (ask : MessageAsk) (message : List ℕ) where
  pub message_unbegun : (at : Moment) (refusal : HostRefusal) → IsMessageUnbegun before message refusal
      → IsMessageStep tells at at before ask message (Refused refusal) after
  message_unbegun at refusal why = record {
    parts = [];
    left_out = [];
    between = at;
    step = ((unbegun_refusal before message refusal why, refl), left);
    answered = answered-none tells (reuse_about ask) at;
    answered_then = so-far tells (reuse_about ask) at at [] (answered-none tells (reuse_about ask) at);
    why = unbegun_out before ask message at refusal why;
    told = λ _. tt;
    adds = answered-adds tells (reuse_about ask) at at [] (answered-none tells (reuse_about ask) at);
    put = λ says. absurd (subst (IsMessageUnbegun before message) (says_spent refusal says) why);
    spent = λ says. absurd (subst (IsMessageUnbegun before message) (says_spent refusal says) why);
  }

  module _ (from to : Moment) (begun : MessageBegun) (is : IsMessageBegun before ask.options message begun) (of : Stage) (reused : Reuse) (skip : List (List ℕ))
      (named : of ≡ stage_of_message ask.stage) (chosen : reused ≡ reuse_about ask) (skipped : skip ≡ ask.skip) where
    -- what holds of the stage and what it began with holds of those that are meant
    meant : (P : Reuse → List (List ℕ) → Stage → CommitState → Type 0) → P reused skip of begun.course
        → P (reuse_about ask) ask.skip (stage_of_message ask.stage) (course_of_message before message)
    meant P holds =
        subst (λ (at : Stage). P (reuse_about ask) ask.skip at (course_of_message before message)) named
        (subst (P (reuse_about ask) ask.skip of) is.passed
        (subst (λ (names : List (List ℕ)). P (reuse_about ask) names of begun.course) skipped (subst (λ (may : Reuse). P may skip of begun.course) chosen holds)))

    abbrev AreHalted : HostRefusal → Reuse → List (List ℕ) → Stage → CommitState → Type 0
    AreHalted refusal may names at course =
        IsHalted RefusesAnswers tells may from to (IsBegun begun.config (ask_with may [] names at) (tree_in at course))
        (NeedsChild to.remembered begun.config (ask_with may [] names at) (tree_in at course)) refusal

    pub message_halted : (refusal : HostRefusal) → AreHalted refusal reused skip of begun.course → IsMessageStep tells from to before ask message (Refused refusal) after
    message_halted refusal halted =
        let why : AreHalted refusal (reuse_about ask) ask.skip (stage_of_message ask.stage) (course_of_message before message) = meant (AreHalted refusal) halted in
        record {
          parts = [];
          left_out = why.parts;
          between = from;
          step = ((halt_refusal before message is.small (is.configured.read, is.configured.configured) refusal why.why, refl), left);
          answered = answered-none tells (reuse_about ask) from;
          answered_then = why.answered;
          why = halt_out before ask message from to why.parts refusal why.why
              (record { config = begun.config; configured = is.configured; begun = why.begun }) (λ spent. record { config = begun.config; configured = is.configured; needs = why.needs spent });
          told = so-far-told tells (reuse_about ask) from to why.parts why.answered;
          adds = so-far-adds tells (reuse_about ask) from to why.parts why.answered;
          put = λ says. why.put (says_spent refusal says);
          spent = λ says. why.spent (says_spent refusal says);
        }

    module _ (end : StageEnd) (over : IsStageOver tells reused from to begun.config [] skip of begun.course end) where
      over_meant : IsStageOver tells (reuse_about ask) from to begun.config [] ask.skip (stage_of_message ask.stage) (course_of_message before message) end
      over_meant =
          meant (λ (may : Reuse) (names : List (List ℕ)) (at : Stage) (course : CommitState). IsStageOver tells may from to begun.config [] names at course end) over

      ran : IsMessageRan before ask message end.passed end.report end.course.message (all_parts over_meant.told.trace) after
      ran = record {
        config = begun.config;
        told = over_meant.told;
        small = is.small;
        configured = is.configured;
        run = over_meant.run;
        verdict = over_meant.passed;
        reported = over_meant.reported;
        message_left = ap (λ (course : CommitState). course.message) over_meant.left ∙ left_in ask.stage (course_of_message before message) over_meant.told.out.tree;
        traced = refl;
        same = left;
      }

      pub message_ran : IsMessageStep tells from to before ask message (MessageRan end.passed end.report end.course.message) after
      message_ran = record {
        parts = all_parts over_meant.told.trace;
        left_out = [];
        between = to;
        step = ran;
        answered = over_meant.answered;
        answered_then = so-far tells (reuse_about ask) to to [] (answered-none tells (reuse_about ask) to);
        why = (refl, refl);
        told = λ book. subst (AllTold tells) (sym (append-nil (all_parts over_meant.told.trace)))
            (answered-told tells (reuse_about ask) from to (all_parts over_meant.told.trace) over_meant.answered book);
        adds = answered-adds tells (reuse_about ask) from to (all_parts over_meant.told.trace) over_meant.answered;
        put = λ says. absurd says;
        spent = λ says. absurd says;
      }

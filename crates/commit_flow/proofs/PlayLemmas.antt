-- What a command that is played comes to, and a list of them.
use Rattle.std.proofs.Common.{◌≡◌, ◌⊎◌, ◌∙◌, inl, inr, sym, subst, refl, ap, ap₂, ℕ, ◌-◌, ◌^◌, Bool, List, [], ◌∷◌, map}
use Rattle.hook_base.specs.declared.change.Change.{Change}
use Rattle.hook_base.specs.declared.file.File.{File}
use Rattle.child_port.specs.declared.answer.Outcome.{Outcome}
use Rattle.child_port.specs.Telling.{SameTells}
use Rattle.hook_config.specs.declared.configuration.Config.{Config}
use Rattle.hook_config.specs.declared.stage.Stage.TheVariants as stage
use Rattle.result_book.specs.CallLemmas.{have_none}
use Rattle.result_book.specs.Contents.{Contents, Holds, with_rows}
use Rattle.result_book.specs.OrderLemmas.{first_have}
use Rattle.repo_store.specs.StoreBooks.{remembered_by, row_of}
use Rattle.repo_store.specs.Answers.{KeptAnswer}
use Rattle.result_book.specs.Told.{AddsTold, IsTold}
use Rattle.result_book.specs.ToldLemmas.{adds-then, told-adds}
use Rattle.hook_run.specs.declared.reuse.Reuse.{Reuse}
use Rattle.hook_run.specs.declared.run_refusal.RunRefusal.TheVariants as run
use Rattle.hook_run.specs.Answers.{AreAnswered}
use Rattle.hook_run.specs.AnswerLemmas.{adds-same, answered-adds, answered-back_to, answered-none, answered-told, so-far, so-far-adds, so-far-back_to, so-far-back_to-last, told-append}
use Rattle.hook_run.specs.Moments.{Moment, moment}
use Rattle.hook_run.specs.Parts.{AllTold, Part}
use Rattle.repo_store.specs.Kept.{FixCollides, Kept}
use Rattle.repo_store.specs.Repository.{Repository}
use Rattle.commit_flow.specs.declared.command.Command.{Command}
use Rattle.commit_flow.specs.declared.command.Command.TheVariants.{Add, Remove, Stage, Accept, Run, Message, Commit, Forget, Limit}
use Rattle.commit_flow.specs.declared.host_ask.HostAsk.{HostAsk}
use Rattle.commit_flow.specs.declared.host_refusal.HostRefusal.{HostRefusal}
use Rattle.commit_flow.specs.declared.host_refusal.HostRefusal.TheVariants.{OutOfMemory, Store, Collision, Spent}
use Rattle.commit_flow.specs.declared.message_ask.MessageAsk.{MessageAsk}
use Rattle.commit_flow.specs.declared.reply.PostCommit.TheVariants.{Stopped}
use Rattle.commit_flow.specs.declared.reply.Reply.{Reply}
use Rattle.commit_flow.specs.declared.reply.Reply.TheVariants.{Committed, Forgot, Limited, MessageRan, Refused}
use Rattle.commit_flow.specs.declared.staged_run.StagedRun.{StagedRun}
use Rattle.commit_flow.specs.AnswerLimits.{IsLimitedTo}
use Rattle.commit_flow.specs.CommitSteps.{AreLeftOut, HasBegunBefore, HasBegunBehind, HasFailedBut, HasFurtherBefore, HasFurtherBehind, IsCommitStep, IsUnkept, SaysSpent, StandsOnAll, StoreStopsCommit}
use Rattle.commit_flow.specs.CommitStages.{HaveBegun, ask_in, course_of, parts_of_stages, stages_before_commit, tree_in}
use Rattle.commit_flow.specs.Commits.{IsVerifiedBut}
use Rattle.commit_flow.specs.Configured.{IsConfigured}
use Rattle.commit_flow.specs.MessageRuns.{ask_about, tree_about}
use Rattle.commit_flow.specs.MessageSteps.{AreLeftOutOfMessage, HasMessageBegun, HasMessageFurther, IsMessageStep}
use Rattle.commit_flow.specs.Plays.{ArePlayed, HasForgotten, HasLimited, HooksBegin, HooksNeedChild, IsPlay, IsPlayed, Makes, RunsHooks, reuse_in}
use Rattle.commit_flow.specs.RunSteps.{HasRunBegun, HasFurther, HasRunBut, IsRunStep, IsStoppedAt, IsStoppedStep, IsUnrun, IsUnset, StoreStopsRun, reply_of_run}
use Rattle.commit_flow.specs.Runs.{changed_paths, reuse_of, run_ask_of}
use Rattle.commit_flow.specs.Steps.{Step}
use Rattle.commit_flow.proofs.CommitLemmas.{says_spent}
use Rattle.commit_flow.proofs.StagesLemmas.{begun_all, begun_before, begun_failed, begun_verified, have_begun_before}

-- ---- what a command makes

-- each answer that a limit leaves was there before
pub limited_adds : (tells : List (List ℕ) → List File → Outcome → Type 0) (most : ℕ) (before after : Contents) → IsLimitedTo most before after → AddsTold tells before after
limited_adds tells most before after is = λ words seen answer holds. inl (first_have words seen answer most before.rows (subst (λ (all : Contents). Holds words seen answer all) is holds))

module _ (tells : List (List ℕ) → List File → Outcome → Type 0) (from to : Moment) where
  -- each part of a command has an outcome that the children may tell, where what is remembered before it is told
  made_told : (command : Command) (reply : Reply) (parts : List Part) → Makes tells from to command reply parts → IsTold tells from.remembered → AllTold tells parts
  made_told Forget reply parts makes book = subst (AllTold tells) (sym makes.0) tt
  made_told (Limit most) reply parts makes book = subst (AllTold tells) (sym makes.0) tt
  made_told command reply parts makes book = answered-told tells (reuse_in command) from to parts makes book

  still_adds : (reply : Reply) → HasForgotten from.remembered to.remembered reply → AddsTold tells from.remembered to.remembered
  still_adds (Forgot number) forgotten = λ words seen answer holds. absurd (have_none words seen answer to.remembered.rows forgotten.1.none holds)
  still_adds reply forgotten = adds-same tells from.remembered to.remembered forgotten

  still_adds_limited : (most : ℕ) (reply : Reply) → HasLimited most from.remembered to.remembered reply → AddsTold tells from.remembered to.remembered
  still_adds_limited most (Limited number) limited = limited_adds tells most from.remembered to.remembered limited.1
  still_adds_limited most reply limited = adds-same tells from.remembered to.remembered limited

  -- each answer that is remembered after it was so before, or was told
  made_adds : (command : Command) (reply : Reply) (parts : List Part) → Makes tells from to command reply parts → AddsTold tells from.remembered to.remembered
  made_adds Forget reply parts makes = still_adds reply makes.1.forgotten
  made_adds (Limit most) reply parts makes = still_adds_limited most reply makes.1.limited
  made_adds command reply parts makes = answered-adds tells (reuse_in command) from to parts makes

  none_answered : (reuse : Reuse) (parts : List Part) → IsUnrun from to parts → AreAnswered tells reuse from to parts
  none_answered reuse parts unrun =
      subst (λ (at : Moment). AreAnswered tells reuse from at parts) (sym unrun.1) (subst (AreAnswered tells reuse from from) (sym unrun.0) (answered-none tells reuse from))

-- by children that tell the same
module _ (tells next : List (List ℕ) → List File → Outcome → Type 0) (same : SameTells tells next) (from to : Moment) where
  pub made_back : (command : Command) (reply : Reply) (parts : List Part) → Makes next from to command reply parts → Makes tells from to command reply parts
  made_back Forget reply parts makes = makes
  made_back (Limit most) reply parts makes = makes
  made_back command reply parts makes = answered-back_to tells next same (reuse_in command) from to parts makes

-- ---- a command that runs no hooks

pub unspent : (before after : Repository) (command : Command) (reply : Reply) (parts : List Part) → Step before command reply parts after → (¬ RunsHooks command) → SaysSpent reply → ⊥
unspent before after (Run ask) reply parts step runless says = runless tt
unspent before after (Message ask message) reply parts step runless says = runless tt
unspent before after (Commit message no_verify skip) reply parts step runless says = runless tt
unspent before after (Add path bytes asked) (Refused Spent) parts step runless says = step.0.0
unspent before after (Remove path) (Refused Spent) parts step runless says = step.0.0
unspent before after (Stage edits) (Refused Spent) parts step runless says = step.0
unspent before after Accept (Refused Spent) parts step runless says = step.0.0
unspent before after Forget (Refused Spent) parts step runless says = step.0.0
unspent before after (Limit most) (Refused Spent) parts step runless says = step.0.0
unspent before after (Add path bytes asked) (Committed number reports (Stopped run.Spent)) parts step runless says = step
unspent before after (Remove path) (Committed number reports (Stopped run.Spent)) parts step runless says = step
unspent before after (Stage edits) (Committed number reports (Stopped run.Spent)) parts step runless says = step
unspent before after (Limit most) (Committed number reports (Stopped run.Spent)) parts step runless says = step
unspent before after Accept (Committed number reports (Stopped run.Spent)) parts step runless says = step
unspent before after Forget (Committed number reports (Stopped run.Spent)) parts step runless says = step
unspent before after command reply parts step runless says = says

unfoldable pub runless_played : (tells : List (List ℕ) → List File → Outcome → Type 0) (from to : Moment) (before after : Repository) (command : Command) (reply : Reply)
    → (¬ RunsHooks command) → Step before command reply [] after → Makes tells from to command reply [] → IsPlayed tells from to before command reply after
runless_played tells from to before after command reply runless step makes = record {
  parts = [];
  left_out = [];
  between = to;
  step = step;
  makes = makes;
  answered_then = so-far tells (reuse_in command) to to [] (answered-none tells (reuse_in command) to);
  none = λ _. (refl, refl);
  begun = inl (refl, refl);
  put = λ says. absurd (unspent before after command reply [] step runless says);
  spent = λ says. absurd (unspent before after command reply [] step runless says);
  needed = λ says. absurd (unspent before after command reply [] step runless says);
}

-- a store remembers its answers, up to its limit
pub same_remembered : (before after : Kept) → after.answers ≡ before.answers → after.limit ≡ before.limit → remembered_by after ≡ remembered_by before
same_remembered before after same limits = ap₂ (λ (limit : ℕ) (answers : List KeptAnswer). with_rows limit (map row_of answers)) limits same

-- where nothing is remembered or forgotten either, nothing happens
pub unmade_of : (tells : List (List ℕ) → List File → Outcome → Type 0) (reuse : Reuse) (calls faults : ℕ) (book book_after : Contents) → book_after ≡ book
    → AreAnswered tells reuse (moment calls faults book) (moment calls faults book_after) []
unmade_of tells reuse calls faults book book_after same = none_answered tells (moment calls faults book) (moment calls faults book_after) reuse [] (refl, ap (moment calls faults) same)

-- ---- a run

unfoldable pub run_played : (tells : List (List ℕ) → List File → Outcome → Type 0) (from to : Moment) (before after : Repository) (ask : HostAsk) (ran : StagedRun)
    → IsRunStep tells from to before ask ran after → IsPlayed tells from to before (Run ask) (reply_of_run ran) after
run_played tells from to before after ask ran over = record {
  parts = over.parts;
  left_out = [];
  between = to;
  step = over.step;
  makes = over.answered;
  answered_then = so-far tells (reuse_of ask) to to [] (answered-none tells (reuse_of ask) to);
  none = λ _. (refl, refl);
  begun = inl (refl, refl);
  put = λ says. absurd says;
  spent = λ says. absurd says;
  needed = λ says. absurd says;
}

module _ (tells : List (List ℕ) → List File → Outcome → Type 0) (from to : Moment) (before : Repository) (ask : HostAsk) (parts : List Part) (contents : List (List ℕ)) where
  pub none_left : (refusal : HostRefusal) → IsStoppedAt tells from to before ask parts contents refusal → StandsOnAll (Refused refusal) → IsUnrun from to parts
  none_left OutOfMemory stopped stands = absurd stands
  none_left (Store fault) stopped stands = absurd stands
  none_left Collision stopped stands = absurd stands
  none_left Spent stopped stands = absurd stands
  none_left refusal stopped stands = stopped

  pub run_spent : (refusal : HostRefusal) → IsStoppedAt tells from to before ask parts contents refusal → SaysSpent (Refused refusal) → to.calls ≡ 2 ^ 64 - 1
  run_spent Spent stopped says = stopped.1
  run_spent refusal stopped says = absurd says

  pub run_needed : (refusal : HostRefusal) → IsStoppedAt tells from to before ask parts contents refusal → SaysSpent (Refused refusal) → HasFurther before ask to.remembered parts
  run_needed Spent stopped says = stopped.0
  run_needed refusal stopped says = absurd says

  -- hooks that were run to their end begin with all of their parts
  ran_begun : (reason : List Change → Type 0) → HasRunBut before ask parts reason → HasRunBegun before ask parts
  ran_begun reason ran = subst (HasRunBegun before ask) (sym ran.traced)
      (record { config = ran.config; runnable = ran.runnable; begun = begun_all ran.config (run_ask_of ask before) before.staged ran.trace ran.out ran.run })

  -- and so do those that the store stopped
  store_begun : (reason : List Change → Type 0) → StoreStopsRun tells from to before ask parts reason → HasRunBegun before ask parts
  store_begun reason (inl behind) = ran_begun reason behind.0
  store_begun reason (inr begun) = begun

  pub run_begun : (refusal : HostRefusal) → IsStoppedAt tells from to before ask parts contents refusal → IsUnrun from to parts ⊎ HasRunBegun before ask parts
  run_begun OutOfMemory stopped = stopped
  run_begun Spent stopped =
      let further = stopped.0 in
      inr (record { config = further.config; runnable = further.runnable; begun = begun_before further.config (run_ask_of ask before) before.staged to.remembered parts further.needs })
  run_begun Collision stopped = inr (store_begun (λ fixes. FixCollides fixes contents) stopped)
  run_begun (Store fault) stopped = inr (store_begun (IsUnset fault) stopped)
  run_begun refusal stopped = inl stopped

unfoldable pub stopped_played : (tells : List (List ℕ) → List File → Outcome → Type 0) (from to : Moment) (before : Repository) (ask : HostAsk) (after : Kept) (refusal : HostRefusal)
    → IsStoppedStep tells from to before ask after refusal → IsPlayed tells from to before (Run ask) (Refused refusal) after.repo
stopped_played tells from to before ask after refusal over = record {
  parts = [];
  left_out = over.parts;
  between = from;
  step = over.step;
  makes = answered-none tells (reuse_of ask) from;
  answered_then = over.answered;
  none = none_left tells from to before ask over.parts after.contents refusal over.stopped;
  begun = run_begun tells from to before ask over.parts after.contents refusal over.stopped;
  put = λ says. over.put (says_spent refusal says);
  spent = run_spent tells from to before ask over.parts after.contents refusal over.stopped;
  needed = run_needed tells from to before ask over.parts after.contents refusal over.stopped;
}

-- ---- hooks about a message

module _ (from to : Moment) (before : Repository) (ask : MessageAsk) (message : List ℕ) (parts : List Part) where
  pub none_left_of_message : (reply : Reply) → AreLeftOutOfMessage from to before ask message parts reply → StandsOnAll reply → IsUnrun from to parts
  none_left_of_message (Refused OutOfMemory) why stands = absurd stands
  none_left_of_message (Refused (Store fault)) why stands = absurd stands
  none_left_of_message (Refused Collision) why stands = absurd stands
  none_left_of_message (Refused Spent) why stands = absurd stands
  none_left_of_message (Refused refusal) why stands = why
  none_left_of_message (MessageRan passed report left) why stands = why
  none_left_of_message reply why stands = absurd why

  pub message_needed : (reply : Reply) → AreLeftOutOfMessage from to before ask message parts reply → SaysSpent reply
      → HooksNeedChild before (Message ask message) reply to.remembered parts
  message_needed (Refused Spent) why says = why
  message_needed (Refused refusal) why says = absurd says
  message_needed (MessageRan passed report left) why says = absurd says
  message_needed reply why says = absurd why

  message_further : HasMessageFurther before ask message to.remembered parts → HasMessageBegun before ask message parts
  message_further it = record {
    config = it.config;
    configured = it.configured;
    begun = begun_before it.config (ask_about ask) (tree_about before ask.stage message) to.remembered parts it.needs;
  }

  pub message_begun : (reply : Reply) → AreLeftOutOfMessage from to before ask message parts reply
      → IsUnrun from to parts ⊎ HooksBegin before (Message ask message) reply parts
  message_begun (Refused OutOfMemory) why = why
  message_begun (Refused Spent) why = inr (message_further why)
  message_begun (Refused (Store fault)) why = inr why
  message_begun (Refused Collision) why = inr why
  message_begun (Refused refusal) why = inl why
  message_begun (MessageRan passed report left) why = inl why
  message_begun reply why = absurd why

unfoldable pub message_played : (tells : List (List ℕ) → List File → Outcome → Type 0) (from to : Moment) (before : Repository) (ask : MessageAsk) (message : List ℕ)
    (reply : Reply) (after : Repository)
    → IsMessageStep tells from to before ask message reply after → IsPlayed tells from to before (Message ask message) reply after
message_played tells from to before ask message reply after over = record {
  parts = over.parts;
  left_out = over.left_out;
  between = over.between;
  step = over.step;
  makes = over.answered;
  answered_then = over.answered_then;
  none = none_left_of_message over.between to before ask message over.left_out reply over.why;
  begun = message_begun over.between to before ask message over.left_out reply over.why;
  put = over.put;
  spent = over.spent;
  needed = message_needed over.between to before ask message over.left_out reply over.why;
}

-- ---- a commit

module _ (tells : List (List ℕ) → List File → Outcome → Type 0) (from to : Moment) (before : Repository) (message : List ℕ) (no_verify : Bool) (skip : List (List ℕ)) (parts : List Part)
    (contents : List (List ℕ)) where
  pub none_left_out : (reply : Reply) → AreLeftOut tells from to before message no_verify skip parts contents reply → StandsOnAll reply → IsUnrun from to parts
  none_left_out (Refused OutOfMemory) why stands = absurd stands
  none_left_out (Refused (Store fault)) why stands = absurd stands
  none_left_out (Refused Collision) why stands = absurd stands
  none_left_out (Refused Spent) why stands = absurd stands
  none_left_out (Committed number reports (Stopped refusal)) why stands = absurd stands
  none_left_out reply why stands = why

  pub commit_needed : (reply : Reply) → AreLeftOut tells from to before message no_verify skip parts contents reply → SaysSpent reply
      → HooksNeedChild before (Commit message no_verify skip) reply to.remembered parts
  commit_needed (Refused Spent) why says = why
  commit_needed (Committed number reports (Stopped run.Spent)) why says = why
  commit_needed reply why says = absurd says

module _ (before : Repository) (message : List ℕ) (no_verify : Bool) (skip : List (List ℕ)) (parts : List Part) where
  begins_so : (config : Config) (others : List Part) → IsConfigured before config → parts ≡ others
      → HaveBegun config (changed_paths before) skip (stages_before_commit no_verify) (course_of before message) others → HasBegunBefore before message no_verify skip parts
  begins_so config others configured same begun = subst (HasBegunBefore before message no_verify skip) (sym same) (record { config = config; configured = configured; begun = begun })

  failed_begun : (reason : List Change → Type 0) → HasFailedBut before message no_verify skip parts reason → HasBegunBefore before message no_verify skip parts
  failed_begun reason it = begins_so it.config (parts_of_stages it.told) it.configured it.traced
      (begun_failed it.config (changed_paths before) skip (stages_before_commit no_verify) (course_of before message) it.told it.failed it.last it.run)

  verified_begun : (reason : List ℕ → Type 0) → IsVerifiedBut before message no_verify skip parts reason → HasBegunBefore before message no_verify skip parts
  verified_begun reason it = begins_so it.config (parts_of_stages it.told) it.verified.configured it.traced
      (begun_verified it.config (changed_paths before) skip no_verify (course_of before message) it.told it.verified.left it.verified.passed)

  further_begun : (remembered : Contents) → HasFurtherBefore before message no_verify skip remembered parts → HasBegunBefore before message no_verify skip parts
  further_begun remembered it = begins_so it.config parts it.configured refl
      (have_begun_before it.config (changed_paths before) skip remembered (stages_before_commit no_verify) (course_of before message) parts it.further)

behind_begun : (before : Repository) (skip : List (List ℕ)) (remembered : Contents) (parts : List Part) → HasFurtherBehind before skip remembered parts → HasBegunBehind before skip parts
behind_begun before skip remembered parts it = record {
  config = it.config;
  configured = it.configured;
  begun = begun_before it.config (ask_in (changed_paths before) skip stage.PostCommit) before.staged remembered parts it.needs;
}

module _ (tells : List (List ℕ) → List File → Outcome → Type 0) (from to : Moment) (before : Repository) (message : List ℕ) (no_verify : Bool) (skip : List (List ℕ)) (parts : List Part)
    (contents : List (List ℕ)) where
  store_begun_before : (behind : Type 0) → (behind → HasBegunBefore before message no_verify skip parts) → StoreStopsCommit tells from to before message no_verify skip parts behind
      → HasBegunBefore before message no_verify skip parts
  store_begun_before behind begins (inl whole) = begins whole.0
  store_begun_before behind begins (inr begun) = begun

  pub commit_begun : (reply : Reply) → AreLeftOut tells from to before message no_verify skip parts contents reply
      → IsUnrun from to parts ⊎ HooksBegin before (Commit message no_verify skip) reply parts
  commit_begun (Refused OutOfMemory) why = why
  commit_begun (Refused Spent) why = inr (further_begun before message no_verify skip parts to.remembered why)
  commit_begun (Refused (Store fault)) why =
      inr (store_begun_before (HasFailedBut before message no_verify skip parts (IsUnset fault) ⊎ IsVerifiedBut before message no_verify skip parts (IsUnkept before fault))
      (λ behind. elim behind [
        | inl failed ↦ failed_begun before message no_verify skip parts (IsUnset fault) failed
        | inr verified ↦ verified_begun before message no_verify skip parts (IsUnkept before fault) verified
      ]) why)
  commit_begun (Refused Collision) why =
      inr (store_begun_before (HasFailedBut before message no_verify skip parts (λ fixes. FixCollides fixes contents))
      (failed_begun before message no_verify skip parts (λ fixes. FixCollides fixes contents)) why)
  commit_begun (Committed number reports (Stopped run.Spent)) why = inr (behind_begun before skip to.remembered parts why)
  commit_begun (Committed number reports (Stopped run.OutOfMemory)) why = inr why
  commit_begun (Committed number reports (Stopped (run.Book fault))) why = inr why
  commit_begun (Committed number reports (Stopped run.NoSuchHook)) why = inr why
  commit_begun reply why = inl why

unfoldable pub commit_played : (tells : List (List ℕ) → List File → Outcome → Type 0) (from to : Moment) (before : Repository) (message : List ℕ) (no_verify : Bool) (skip : List (List ℕ))
    (reply : Reply) (after : Kept)
    → IsCommitStep tells from to before message no_verify skip reply after → IsPlayed tells from to before (Commit message no_verify skip) reply after.repo
commit_played tells from to before message no_verify skip reply after over = record {
  parts = over.parts;
  left_out = over.left_out;
  between = over.between;
  step = over.step;
  makes = over.answered;
  answered_then = over.answered_then;
  none = none_left_out tells over.between to before message no_verify skip over.left_out after.contents reply over.why;
  begun = commit_begun tells over.between to before message no_verify skip over.left_out after.contents reply over.why;
  put = over.put;
  spent = over.spent;
  needed = commit_needed tells over.between to before message no_verify skip over.left_out after.contents reply over.why;
}

-- ---- a list of commands

module _ (tells : List (List ℕ) → List File → Outcome → Type 0) (from to : Moment) (before : Repository) (command : Command) (reply : Reply) (after : Repository)
    (one : IsPlayed tells from to before command reply after) where
  one_told : IsTold tells from.remembered → AllTold tells one.parts
  one_told book = made_told tells from one.between command reply one.parts one.makes book

  pub one_adds : AddsTold tells from.remembered to.remembered
  one_adds = adds-then tells from.remembered one.between.remembered to.remembered (made_adds tells from one.between command reply one.parts one.makes)
      (so-far-adds tells (reuse_in command) one.between to one.left_out one.answered_then)

module _ (tells : List (List ℕ) → List File → Outcome → Type 0) (to : Moment) (after : Repository) where
  played_told : (from : Moment) (before : Repository) (commands : List Command) (replies : List Reply) (parts : List Part)
      → ArePlayed tells from to before commands replies parts after → IsTold tells from.remembered → AllTold tells parts
  played_told from before [] [] parts played book = subst (AllTold tells) (sym played.no_parts) tt
  played_told from before (command ∷ commands) (reply ∷ replies) parts played book =
      subst (AllTold tells) (sym played.joined)
      (told-append tells played.first.parts played.further (one_told tells from played.between before command reply played.repo_between played.first book)
      (played_told played.between played.repo_between commands replies played.further played.rest
      (told-adds tells from.remembered played.between.remembered book (one_adds tells from played.between before command reply played.repo_between played.first))))
  played_told from before commands replies parts played book = absurd played

  played_adds : (from : Moment) (before : Repository) (commands : List Command) (replies : List Reply) (parts : List Part)
      → ArePlayed tells from to before commands replies parts after → AddsTold tells from.remembered to.remembered
  played_adds from before [] [] parts played = adds-same tells from.remembered to.remembered (ap (λ (at : Moment). at.remembered) played.unmade)
  played_adds from before (command ∷ commands) (reply ∷ replies) parts played =
      adds-then tells from.remembered played.between.remembered to.remembered (one_adds tells from played.between before command reply played.repo_between played.first)
      (played_adds played.between played.repo_between commands replies played.further played.rest)
  played_adds from before commands replies parts played = absurd played

  pub play_of : (from : Moment) (before : Repository) (commands : List Command) (replies : List Reply) (parts : List Part)
      → ArePlayed tells from to before commands replies parts after → IsPlay tells from to before commands replies after
  play_of from before commands replies parts played = record {
    parts = parts;
    played = played;
    told = played_told from before commands replies parts played;
    told_then = λ book. told-adds tells from.remembered to.remembered book (played_adds from before commands replies parts played);
    adds = played_adds from before commands replies parts played;
  }

-- a command that is played by children that tell the same
unfoldable pub played_back : (tells next : List (List ℕ) → List File → Outcome → Type 0) → SameTells tells next → (from to : Moment) (before after : Repository) (command : Command) (reply : Reply)
    → IsPlayed next from to before command reply after → IsPlayed tells from to before command reply after
played_back tells next same from to before after command reply it = record {
  parts = it.parts;
  left_out = it.left_out;
  between = it.between;
  step = it.step;
  makes = made_back tells next same from it.between command reply it.parts it.makes;
  answered_then = so-far-back_to tells next same (reuse_in command) it.between to it.left_out it.answered_then;
  none = it.none;
  begun = it.begun;
  put = λ says. so-far-back_to-last tells next same (reuse_in command) it.between to it.left_out it.answered_then ∙ it.put says;
  spent = it.spent;
  needed = it.needed;
}

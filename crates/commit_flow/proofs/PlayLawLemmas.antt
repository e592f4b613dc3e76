-- What follows for a step and for a list of commands.
use Rattle.std.proofs.Common.{◌≡◌, ◌∙◌, inl, inr, rules, sym, subst, refl, ap, arith, ℕ, zero, suc, ◌+◌, ◌-◌, ◌^◌, ◌≤◌, List, [], ◌∷◌, length}
use Rattle.std.specs.Prelude.{All, Any}
use Rattle.std.proofs.lemmas.List.Elements.{All-head, All-tail}
use Rattle.hook_base.specs.declared.file.File.{File}
use Rattle.child_port.specs.declared.answer.Outcome.{Outcome}
use Rattle.hook_run.specs.declared.reuse.Reuse.{Reuse}
use Rattle.hook_run.specs.Answers.{AreAnswered}
use Rattle.hook_run.specs.AnswerLemmas.{answered-faults, answered-rises, faults-append, so-far-faults, so-far-rises}
use Rattle.hook_run.specs.Moments.{Moment}
use Rattle.hook_run.specs.Parts.{Part, faults_of}
use Rattle.repo_store.specs.declared.staging_edit.StagingEdit.{StagingEdit}
use Rattle.repo_store.specs.declared.staging_edit.StagingEdit.TheVariants as staging
use Rattle.repo_store.specs.Repository.{Repository, with_new_commit}
use Rattle.commit_flow.specs.declared.command.Command.{Command}
use Rattle.commit_flow.specs.declared.command.Command.TheVariants.{Add, Remove, Stage, Accept, Run, Message, Commit, Forget, Limit}
use Rattle.commit_flow.specs.declared.host_refusal.HostRefusal.{HostRefusal}
use Rattle.commit_flow.specs.declared.reply.PostCommit.{PostCommit}
use Rattle.commit_flow.specs.declared.message_ask.MessageAsk.{MessageAsk}
use Rattle.commit_flow.specs.declared.reply.Reply.{Reply}
use Rattle.commit_flow.specs.declared.reply.Reply.TheVariants.{Added, Removed, Staged, Accepted, Ran, MessageRan, Committed, HooksFailed, Forgot, Limited, EditRefused, Refused}
use Rattle.commit_flow.specs.declared.staging_stop.StagingStop.{StagingStop}
use Rattle.commit_flow.specs.CommitSteps.{SaysSpent, StandsOnAll}
use Rattle.commit_flow.specs.Messages.{cleaned_message}
use Rattle.commit_flow.specs.Plays.{ArePlayed, HooksBegin, IsPlayed, Makes, RunsHooks, reuse_in}
use Rattle.commit_flow.specs.PlayLaws.{HasCommitted, SaysCommitted}
use Rattle.commit_flow.specs.RunSteps.{IsUnrun}
use Rattle.commit_flow.specs.Steps.{AreEditsMade, Step}

-- ---- one step

pub refused_leaves : (before after : Repository) (command : Command) (refusal : HostRefusal) (parts : List Part) → Step before command (Refused refusal) parts after → after ≡ before
refused_leaves before after (Add path bytes asked) refusal parts step = step.1
refused_leaves before after (Remove path) refusal parts step = step.1
refused_leaves before after (Stage edits) refusal parts step = absurd step.0
refused_leaves before after Accept refusal parts step = step.1
refused_leaves before after (Run ask) refusal parts step = step.1
refused_leaves before after (Message ask message) refusal parts step = step.1
refused_leaves before after (Commit message no_verify skip) refusal parts step = step.1
refused_leaves before after Forget refusal parts step = step.1
refused_leaves before after (Limit most) refusal parts step = step.1

pub edits_refused_leave : (before after : Repository) (edits : List StagingEdit) (stop : StagingStop) (parts : List Part) → Step before (Stage edits) (EditRefused stop) parts after → after ≡ before
edits_refused_leave before after edits stop parts step = step.2

pub messages_leave : (before after : Repository) (ask : MessageAsk) (message : List ℕ) (reply : Reply) (parts : List Part) → Step before (Message ask message) reply parts after → after ≡ before
messages_leave before after ask message (MessageRan passed report left) parts step = step.same
messages_leave before after ask message (Refused refusal) parts step = step.1
messages_leave before after ask message reply parts step = absurd step

same_history : (before after : Repository) → after ≡ before → after.history ≡ before.history
same_history before after same = ap (λ (repo : Repository). repo.history) same

edits_history : (edits : List StagingEdit) (before after : Repository) → AreEditsMade edits before after → after.history ≡ before.history
edits_history [] before after made = same_history before after made
edits_history (staging.Add path bytes asked ∷ edits) before after made = edits_history edits made.0 after made.2 ∙ ap (λ (repo : Repository). repo.history) made.1.made
edits_history (staging.Remove path ∷ edits) before after made = edits_history edits made.0 after made.2 ∙ ap (λ (repo : Repository). repo.history) made.1.made

pub history_kept : (before after : Repository) (command : Command) (reply : Reply) (parts : List Part) → Step before command reply parts after → (¬ SaysCommitted reply)
    → after.history ≡ before.history
history_kept before after command (Committed number reports post) parts step not = absurd (not tt)
history_kept before after command (Refused refusal) parts step not = same_history before after (refused_leaves before after command refusal parts step)
history_kept before after (Add path bytes asked) Added parts step not = ap (λ (repo : Repository). repo.history) step.0.made
history_kept before after (Remove path) Removed parts step not = ap (λ (repo : Repository). repo.history) step.0.made
history_kept before after (Stage edits) Staged parts step not = edits_history edits before after step.0
history_kept before after (Stage edits) (EditRefused stop) parts step not = same_history before after step.2
history_kept before after Accept (Accepted number) parts step not = ap (λ (repo : Repository). repo.history) step.0.made
history_kept before after (Run ask) (Ran passed report changes unsteady) parts step not = ap (λ (repo : Repository). repo.history) step.made
history_kept before after (Message ask message) (MessageRan passed report left) parts step not = same_history before after step.same
history_kept before after (Commit message no_verify skip) (HooksFailed stage reports) parts step not = ap (λ (repo : Repository). repo.history) step.made
history_kept before after Forget (Forgot number) parts step not = same_history before after step.0
history_kept before after (Limit most) (Limited number) parts step not = same_history before after step.0
history_kept before after command reply parts step not = absurd step

pub one_commit_more : (before after : Repository) (command : Command) (number : ℕ) (reports : List (List ℕ)) (post : PostCommit) (parts : List Part)
    → Step before command (Committed number reports post) parts after → HasCommitted before command after
one_commit_more before after (Commit message no_verify skip) number reports post parts step =
    let verified = step.verified in
    record {
      config = step.config;
      told = step.told;
      left = verified.left;
      configured = verified.configured;
      passed = verified.passed;
      made = step.made ∙ ap (λ (last : List ℕ). with_new_commit (cleaned_message last) before) verified.message_left;
    }
one_commit_more before after command number reports post parts step = absurd step

pub runless_parts : (before after : Repository) (command : Command) (reply : Reply) (parts : List Part) → Step before command reply parts after → (¬ RunsHooks command) → parts ≡ []
runless_parts before after (Run ask) reply parts step runless = absurd (runless tt)
runless_parts before after (Message ask message) reply parts step runless = absurd (runless tt)
runless_parts before after (Commit message no_verify skip) reply parts step runless = absurd (runless tt)
runless_parts before after (Add path bytes asked) Added parts step runless = step.1
runless_parts before after (Remove path) Removed parts step runless = step.1
runless_parts before after (Stage edits) Staged parts step runless = step.1
runless_parts before after (Stage edits) (EditRefused stop) parts step runless = step.1
runless_parts before after (Stage edits) (Refused refusal) parts step runless = absurd step.0
runless_parts before after Accept (Accepted number) parts step runless = step.1
runless_parts before after Forget (Forgot number) parts step runless = step.1
runless_parts before after (Limit most) (Limited number) parts step runless = step.1
runless_parts before after (Add path bytes asked) (Refused refusal) parts step runless = step.0.1
runless_parts before after (Remove path) (Refused refusal) parts step runless = step.0.1
runless_parts before after Accept (Refused refusal) parts step runless = step.0.1
runless_parts before after Forget (Refused refusal) parts step runless = step.0.1
runless_parts before after (Limit most) (Refused refusal) parts step runless = step.0.1
runless_parts before after command reply parts step runless = absurd step

no_hooks_begin : (before : Repository) (command : Command) (reply : Reply) (parts : List Part) → (¬ RunsHooks command) → HooksBegin before command reply parts → ⊥
no_hooks_begin before (Run ask) reply parts runless begin = runless tt
no_hooks_begin before (Message ask message) reply parts runless begin = runless tt
no_hooks_begin before (Commit message no_verify skip) reply parts runless begin = runless tt
no_hooks_begin before command reply parts runless begin = begin

-- ---- what a command makes

module _ (tells : List (List ℕ) → List File → Outcome → Type 0) (from to : Moment) where
  made_faults : (command : Command) (reply : Reply) (parts : List Part) → Makes tells from to command reply parts → to.faults ≡ from.faults + faults_of parts
  made_faults Forget reply parts makes =
      let faulted = makes.1.faulted in
      let none = ap faults_of makes.0 in
      omega arith
  made_faults (Limit most) reply parts makes =
      let faulted = makes.1.faulted in
      let none = ap faults_of makes.0 in
      omega arith
  made_faults command reply parts makes = answered-faults tells (reuse_in command) from to parts makes

  made_calls : (command : Command) (reply : Reply) (parts : List Part) → Makes tells from to command reply parts → from.calls ≤ to.calls
  made_calls Forget reply parts makes = let called = makes.1.called in omega arith
  made_calls (Limit most) reply parts makes = let called = makes.1.called in omega arith
  made_calls command reply parts makes = (answered-rises tells (reuse_in command) from to parts makes).calls

  none_started : (reuse : Reuse) (parts : List Part) → AreAnswered tells reuse from to parts → parts ≡ [] → (to.calls ≡ from.calls) × (to.faults ≡ from.faults)
  none_started reuse parts answered no_parts =
      let none = subst (AreAnswered tells reuse from to) no_parts answered in
      let called = none.counted.called in
      let faulted = none.counted.faulted in
      let no_calls = ap (λ (all : List Part). length all) none.starts.1 in
      let no_faults = ap faults_of none.starts.1 in
      (omega arith, omega arith)

  -- without parts no child is started
  made_none : (command : Command) (reply : Reply) (parts : List Part) → Makes tells from to command reply parts → parts ≡ [] → (to.calls ≡ from.calls) × (to.faults ≡ from.faults)
  made_none Forget reply parts makes no_parts = (makes.1.called, makes.1.faulted)
  made_none (Limit most) reply parts makes no_parts = (makes.1.called, makes.1.faulted)
  made_none command reply parts makes no_parts = none_started (reuse_in command) parts makes no_parts

module _ (tells : List (List ℕ) → List File → Outcome → Type 0) (from to : Moment) (before : Repository) (command : Command) (reply : Reply) (after : Repository)
    (one : IsPlayed tells from to before command reply after) where
  one_faults : to.faults ≡ from.faults + faults_of one.parts + faults_of one.left_out
  one_faults =
      let first = made_faults tells from one.between command reply one.parts one.makes in
      let behind = so-far-faults tells (reuse_in command) one.between to one.left_out one.answered_then in
      omega arith

  one_calls : from.calls ≤ to.calls
  one_calls =
      let first = made_calls tells from one.between command reply one.parts one.makes in
      let behind = (so-far-rises tells (reuse_in command) one.between to one.left_out one.answered_then).calls in
      omega arith

  pub one_unrun : (¬ RunsHooks command) → IsUnrun one.between to one.left_out
  one_unrun runless = elim one.begun [ inl unrun ↦ unrun | inr begin ↦ absurd (no_hooks_begin before command reply one.left_out runless begin) ]

  one_without_hooks : (¬ RunsHooks command) → (to.calls ≡ from.calls) × (to.faults ≡ from.faults)
  one_without_hooks runless =
      let none = made_none tells from one.between command reply one.parts one.makes (runless_parts before after command reply one.parts one.step runless) in
      let same = (one_unrun runless).1 in
      (ap (λ (at : Moment). at.calls) same ∙ none.0, ap (λ (at : Moment). at.faults) same ∙ none.1)

-- ---- a list of commands

module _ (tells : List (List ℕ) → List File → Outcome → Type 0) (to : Moment) (after : Repository) where
  pub one_reply_a_command : (from : Moment) (before : Repository) (commands : List Command) (replies : List Reply) (parts : List Part)
      → ArePlayed tells from to before commands replies parts after → length replies ≡ length commands
  one_reply_a_command from before [] [] parts played = refl
  one_reply_a_command from before (command ∷ commands) (reply ∷ replies) parts played =
      let rest = one_reply_a_command played.between played.repo_between commands replies played.further played.rest in omega arith
  one_reply_a_command from before commands replies parts played = absurd played

  pub faults_at_least : (from : Moment) (before : Repository) (commands : List Command) (replies : List Reply) (parts : List Part)
      → ArePlayed tells from to before commands replies parts after → from.faults + faults_of parts ≤ to.faults
  faults_at_least from before [] [] parts played =
      let none = ap faults_of played.no_parts in
      let unfaulted = ap (λ (at : Moment). at.faults) played.unmade in
      omega arith
  faults_at_least from before (command ∷ commands) (reply ∷ replies) parts played =
      let rest = faults_at_least played.between played.repo_between commands replies played.further played.rest in
      let first = one_faults tells from played.between before command reply played.repo_between played.first in
      let all_faults = ap faults_of played.joined ∙ faults-append played.first.parts played.further in
      omega arith
  faults_at_least from before commands replies parts played = absurd played

  pub faults_exactly : (from : Moment) (before : Repository) (commands : List Command) (replies : List Reply) (parts : List Part)
      → ArePlayed tells from to before commands replies parts after → All StandsOnAll replies → to.faults ≡ from.faults + faults_of parts
  faults_exactly from before [] [] parts played stand =
      let none = ap faults_of played.no_parts in
      let unfaulted = ap (λ (at : Moment). at.faults) played.unmade in
      omega arith
  faults_exactly from before (command ∷ commands) (reply ∷ replies) parts played stand =
      let rest = faults_exactly played.between played.repo_between commands replies played.further played.rest (All-tail StandsOnAll reply replies stand) in
      let first = one_faults tells from played.between before command reply played.repo_between played.first in
      let no_more = ap faults_of (played.first.none (All-head StandsOnAll reply replies stand)).0 in
      let all_faults = ap faults_of played.joined ∙ faults-append played.first.parts played.further in
      omega arith
  faults_exactly from before commands replies parts played stand = absurd played

  calls_rise : (from : Moment) (before : Repository) (commands : List Command) (replies : List Reply) (parts : List Part)
      → ArePlayed tells from to before commands replies parts after → from.calls ≤ to.calls
  calls_rise from before [] [] parts played = let uncalled = ap (λ (at : Moment). at.calls) played.unmade in omega arith
  calls_rise from before (command ∷ commands) (reply ∷ replies) parts played =
      let rest = calls_rise played.between played.repo_between commands replies played.further played.rest in
      let first = one_calls tells from played.between before command reply played.repo_between played.first in
      omega arith
  calls_rise from before commands replies parts played = absurd played

  pub spent_at_last : (from : Moment) (before : Repository) (commands : List Command) (replies : List Reply) (parts : List Part)
      → ArePlayed tells from to before commands replies parts after → to.calls ≤ 2 ^ 64 - 1 → Any SaysSpent replies → to.calls ≡ 2 ^ 64 - 1
  spent_at_last from before [] [] parts played most says = absurd (search rules)
  spent_at_last from before (command ∷ commands) (reply ∷ replies) parts played most (zero, spent, within, is, says) =
      let all = played.first.spent (subst SaysSpent (sym is) says) in
      let rest = calls_rise played.between played.repo_between commands replies played.further played.rest in
      omega arith
  spent_at_last from before (command ∷ commands) (reply ∷ replies) parts played most (suc k, spent, within, is, says) =
      spent_at_last played.between played.repo_between commands replies played.further played.rest most (k, spent, omega arith, is, says)
  spent_at_last from before commands replies parts played most says = absurd played

  pub no_child_started : (from : Moment) (before : Repository) (commands : List Command) (replies : List Reply) (parts : List Part)
      → ArePlayed tells from to before commands replies parts after → All (λ command. ¬ RunsHooks command) commands
      → (to.calls ≡ from.calls) × (to.faults ≡ from.faults)
  no_child_started from before [] [] parts played runless = (ap (λ (at : Moment). at.calls) played.unmade, ap (λ (at : Moment). at.faults) played.unmade)
  no_child_started from before (command ∷ commands) (reply ∷ replies) parts played runless =
      let runs_none = All-head (λ command. ¬ RunsHooks command) command commands runless in
      let rest = no_child_started played.between played.repo_between commands replies played.further played.rest (All-tail (λ command. ¬ RunsHooks command) command commands runless) in
      let none = one_without_hooks tells from played.between before command reply played.repo_between played.first runs_none in
      (rest.0 ∙ none.0, rest.1 ∙ none.1)
  no_child_started from before commands replies parts played runless = absurd played

  -- where no reply tells of a commit, there is none more
  pub all_history_kept : (from : Moment) (before : Repository) (commands : List Command) (replies : List Reply) (parts : List Part)
      → ArePlayed tells from to before commands replies parts after → All (λ reply. ¬ SaysCommitted reply) replies → after.history ≡ before.history
  all_history_kept from before [] [] parts played none = same_history before after played.same
  all_history_kept from before (command ∷ commands) (reply ∷ replies) parts played none =
      all_history_kept played.between played.repo_between commands replies played.further played.rest (All-tail (λ reply. ¬ SaysCommitted reply) reply replies none)
      ∙ history_kept before played.repo_between command reply played.first.parts played.first.step (All-head (λ reply. ¬ SaysCommitted reply) reply replies none)
  all_history_kept from before commands replies parts played none = absurd played

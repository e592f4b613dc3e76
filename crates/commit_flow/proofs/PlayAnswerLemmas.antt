-- Over children that give one answer a list of commands has one list of replies.
use Rattle.std.proofs.Common.{◌≡◌, ◌∙◌, ap, ap₂, arith, sym, subst, refl, ℕ, List, [], ◌∷◌, ◌++◌, map}
use Rattle.std.specs.Prelude.{All}
use Rattle.std.proofs.lemmas.List.Elements.{All-cons, All-head, All-nil, All-tail}
use Rattle.hook_base.specs.declared.file.File.{File}
use Rattle.child_port.specs.declared.answer.Outcome.{Outcome}
use Rattle.child_port.specs.declared.answer.Outcome.TheVariants.{Done}
use Rattle.child_port.specs.Telling.{SameTells}
use Rattle.result_book.specs.ToldLemmas.{told-adds}
use Rattle.result_book.specs.Told.{IsTold}
use Rattle.hook_run.specs.AnswerLemmas.{told-back_to}
use Rattle.hook_run.specs.Answers.{AreAnswered}
use Rattle.hook_run.specs.Moments.{Moment}
use Rattle.hook_run.specs.OneAnswer.{OneAnswer}
use Rattle.hook_run.specs.OneAnswerLemmas.{none-unsteady}
use Rattle.hook_run.specs.Parts.{Part}
use Rattle.repo_store.specs.Repository.{Repository}
use Rattle.commit_flow.specs.declared.command.Command.{Command}
use Rattle.commit_flow.specs.declared.command.Command.TheVariants.{Run, Message, Commit, Forget, Limit}
use Rattle.commit_flow.specs.declared.host_refusal.HostRefusal.{HostRefusal}
use Rattle.commit_flow.specs.declared.host_refusal.HostRefusal.TheVariants.{OutOfMemory, Store, Collision}
use Rattle.commit_flow.specs.declared.reply.Reply.{Reply}
use Rattle.commit_flow.specs.declared.reply.Reply.TheVariants.{Ran, Forgot, Limited, EditRefused, Refused}
use Rattle.commit_flow.specs.MachineRuns.{IsMachineRun, IsRunWithoutMemory}
use Rattle.commit_flow.specs.Plays.{ArePlayed, IsPlay, IsPlayed}
use Rattle.commit_flow.specs.Runs.{reuse_of, run_ask_of}
use Rattle.commit_flow.specs.StepLaws.{IsDecided, IsDecidedRefusal}
use Rattle.commit_flow.specs.Steps.{Step}
use Rattle.commit_flow.specs.TwoHosts.{IsSteady, IsUnhindered, IsUnhinderedPlay, IsUnhinderedRefusal, IsUnhinderedRun, without_memory, without_number}
use Rattle.commit_flow.proofs.CommitAnswerLemmas.{same_commit}
use Rattle.commit_flow.proofs.MessageAnswerLemmas.{same_message_run}
use Rattle.commit_flow.proofs.PlayLawLemmas.{faults_at_least}
use Rattle.commit_flow.proofs.PlayLemmas.{one_adds}
use Rattle.commit_flow.proofs.RunAnswerLemmas.{AreAlike, same_run}
use Rattle.commit_flow.proofs.StageAnswerLemmas.{AreClear, clear_as, clear_back, clear_front}
use Rattle.commit_flow.proofs.StepLemmas.{one_answer}

-- ---- one step

decided_refusal : (refusal : HostRefusal) → IsUnhinderedRefusal refusal → IsDecidedRefusal refusal
decided_refusal OutOfMemory unhindered = unhindered
decided_refusal (Store fault) unhindered = unhindered
decided_refusal Collision unhindered = unhindered
decided_refusal refusal unhindered = tt

decided : (reply : Reply) → IsUnhindered reply → IsDecided reply
decided (EditRefused stop) unhindered = decided_refusal stop.refusal unhindered
decided (Refused refusal) unhindered = decided_refusal refusal unhindered
decided reply unhindered = tt

same_forget : (before after other : Repository) (reply second : Reply) (parts more : List Part) → Step before Forget reply parts after → Step before Forget second more other
    → IsUnhindered reply → IsUnhindered second → AreAlike reply second after other
same_forget before after other (Forgot number) (Forgot count) parts more step then unhindered both = (refl, step.0 ∙ sym then.0)
same_forget before after other (Refused OutOfMemory) second parts more step then unhindered both = absurd unhindered
same_forget before after other (Refused (Store fault)) second parts more step then unhindered both = absurd unhindered
same_forget before after other (Refused refusal) second parts more step then unhindered both = absurd step.0.0
same_forget before after other (Forgot number) (Refused OutOfMemory) parts more step then unhindered both = absurd both
same_forget before after other (Forgot number) (Refused (Store fault)) parts more step then unhindered both = absurd both
same_forget before after other (Forgot number) (Refused refusal) parts more step then unhindered both = absurd then.0.0
same_forget before after other (Forgot number) second parts more step then unhindered both = absurd then
same_forget before after other reply second parts more step then unhindered both = absurd step

same_limit : (before after other : Repository) (most : ℕ) (reply second : Reply) (parts more : List Part) → Step before (Limit most) reply parts after → Step before (Limit most) second more other
    → IsUnhindered reply → IsUnhindered second → AreAlike reply second after other
same_limit before after other most (Limited number) (Limited count) parts more step then unhindered both = (refl, step.0 ∙ sym then.0)
same_limit before after other most (Refused OutOfMemory) second parts more step then unhindered both = absurd unhindered
same_limit before after other most (Refused (Store fault)) second parts more step then unhindered both = absurd unhindered
same_limit before after other most (Refused refusal) second parts more step then unhindered both = absurd step.0.0
same_limit before after other most (Limited number) (Refused OutOfMemory) parts more step then unhindered both = absurd both
same_limit before after other most (Limited number) (Refused (Store fault)) parts more step then unhindered both = absurd both
same_limit before after other most (Limited number) (Refused refusal) parts more step then unhindered both = absurd then.0.0
same_limit before after other most (Limited number) second parts more step then unhindered both = absurd then
same_limit before after other most reply second parts more step then unhindered both = absurd step

module _ (tells : List (List ℕ) → List File → Outcome → Type 0) (alone : OneAnswer tells) where
  same_step : (before after other : Repository) (command : Command) (reply second : Reply) (parts more : List Part)
      → Step before command reply parts after → Step before command second more other → IsUnhindered reply → IsUnhindered second
      → AreClear tells parts → AreClear tells more → AreAlike reply second after other
  same_step before after other (Run ask) reply second parts more step then unhindered both clear also =
      same_run before ask tells alone reply second parts more after other step then unhindered both clear also
  same_step before after other (Message ask message) reply second parts more step then unhindered both clear also =
      same_message_run tells before ask message alone reply second parts more after other step then unhindered both clear also
  same_step before after other (Commit message no_verify skip) reply second parts more step then unhindered both clear also =
      same_commit tells before message no_verify skip alone reply second parts more after other step then unhindered both clear also
  same_step before after other Forget reply second parts more step then unhindered both clear also = same_forget before after other reply second parts more step then unhindered both
  same_step before after other (Limit most) reply second parts more step then unhindered both clear also = same_limit before after other most reply second parts more step then unhindered both
  same_step before after other command reply second parts more step then unhindered both clear also =
      let one = one_answer before after other command reply second parts more step then tt (decided reply unhindered) (decided second both) in
      (ap without_memory one.0, one.2)

  -- ---- a run of the machine

  same_steps : (before after other : Repository) (commands : List Command) (replies seconds : List Reply) (parts more : List Part)
      → IsMachineRun before commands replies parts after → IsMachineRun before commands seconds more other → All IsUnhindered replies → All IsUnhindered seconds
      → AreClear tells parts → AreClear tells more → (map without_memory replies ≡ map without_memory seconds) × (after ≡ other)
  same_steps before after other [] [] [] parts more run second unhindered both clear also = (refl, run.1 ∙ sym second.1)
  same_steps before after other [] [] (other_reply ∷ seconds) parts more run second unhindered both clear also = absurd second
  same_steps before after other [] (reply ∷ replies) seconds parts more run second unhindered both clear also = absurd run
  same_steps before after other (command ∷ commands) [] seconds parts more run second unhindered both clear also = absurd run
  same_steps before after other (command ∷ commands) (reply ∷ replies) [] parts more run second unhindered both clear also = absurd second
  same_steps before after other (command ∷ commands) (reply ∷ replies) (answer ∷ seconds) parts more run second unhindered both clear also =
      let all = clear_as tells parts (run.own ++ run.further) run.joined clear in
      let all_second = clear_as tells more (second.own ++ second.further) second.joined also in
      let first = same_step before run.between second.between command reply answer run.own second.own run.step second.step
      (All-head IsUnhindered reply replies unhindered) (All-head IsUnhindered answer seconds both)
      (clear_front tells run.own run.further all) (clear_front tells second.own second.further all_second) in
      let behind = same_steps run.between after other commands replies seconds run.further second.further run.rest
      (subst (λ (repo : Repository). IsMachineRun repo commands seconds second.further other) (sym first.1) second.rest)
      (All-tail IsUnhindered reply replies unhindered) (All-tail IsUnhindered answer seconds both)
      (clear_back tells run.own run.further all) (clear_back tells second.own second.further all_second) in
      (ap₂ (λ (one : Reply) (all : List Reply). one ∷ all) first.0 behind.0, behind.1)

  pub same_runs : (before after other : Repository) (commands : List Command) (replies seconds : List Reply) (parts more : List Part)
      → IsUnhinderedRun tells before commands replies parts after → IsUnhinderedRun tells before commands seconds more other
      → (map without_memory replies ≡ map without_memory seconds) × (after ≡ other)
  same_runs before after other commands replies seconds parts more one two =
      same_steps before after other commands replies seconds parts more one.run two.run one.unhindered two.unhindered
      (record { told = one.told; no_fault = one.no_fault }) (record { told = two.told; no_fault = two.no_fault })

-- ---- what hosts play

-- what is played is a run of the machine
played_steps : (tells : List (List ℕ) → List File → Outcome → Type 0) (from to : Moment) (before after : Repository) (commands : List Command) (replies : List Reply) (parts : List Part)
    → ArePlayed tells from to before commands replies parts after → IsMachineRun before commands replies parts after
played_steps tells from to before after [] [] parts played = (played.no_parts, played.same)
played_steps tells from to before after (command ∷ commands) (reply ∷ replies) parts played = record {
  own = played.first.parts;
  between = played.repo_between;
  further = played.further;
  step = played.first.step;
  rest = played_steps tells played.between to played.repo_between after commands replies played.further played.rest;
  joined = played.joined;
}
played_steps tells from to before after commands replies parts played = absurd played

-- if what is cached at first may be reported, a host without a cache may make the same
pub run_without_memory : (tells : List (List ℕ) → List File → Outcome → Type 0) (from to : Moment) (before after : Repository) (commands : List Command) (replies : List Reply)
    → IsPlay tells from to before commands replies after → IsTold tells from.remembered → IsRunWithoutMemory tells before commands replies after
run_without_memory tells from to before after commands replies it book = record {
  parts = it.parts;
  run = played_steps tells from to before after commands replies it.parts it.played;
  told = it.told book;
}

-- where what is remembered at first is told, no hook is unsteady
module _ (tells : List (List ℕ) → List File → Outcome → Type 0) (alone : OneAnswer tells) where
  steady_reply : (from to : Moment) (before after : Repository) (command : Command) (reply : Reply) → IsPlayed tells from to before command reply after → IsTold tells from.remembered → IsSteady reply
  steady_reply from to before after (Run ask) (Ran passed report changes unsteady) played book =
      let ran = played.step in
      ran.marked ∙ none-unsteady tells alone ran.config (run_ask_of ask before) before.staged ran.trace ran.out (reuse_of ask) from played.between book ran.run
      (subst (AreAnswered tells (reuse_of ask) from played.between) ran.traced played.makes)
  steady_reply from to before after command (Ran passed report changes unsteady) played book = absurd played.step
  steady_reply from to before after command reply played book = tt

  still_told : (from to : Moment) (before after : Repository) (command : Command) (reply : Reply) → IsPlayed tells from to before command reply after → IsTold tells from.remembered
      → IsTold tells to.remembered
  still_told from to before after command reply played book =
      told-adds tells from.remembered to.remembered book (one_adds tells from to before command reply after played)

  steady_replies : (from to : Moment) (before after : Repository) (commands : List Command) (replies : List Reply) (parts : List Part)
      → ArePlayed tells from to before commands replies parts after → IsTold tells from.remembered → All IsSteady replies
  steady_replies from to before after [] [] parts played book = All-nil IsSteady
  steady_replies from to before after (command ∷ commands) (reply ∷ replies) parts played book =
      All-cons IsSteady reply replies
      (steady_reply from played.between before played.repo_between command reply played.first book)
      (steady_replies played.between to played.repo_between after commands replies played.further played.rest
      (still_told from played.between before played.repo_between command reply played.first book))
  steady_replies from to before after commands replies parts played book = absurd played

  pub steady_play : (from to : Moment) (before after : Repository) (commands : List Command) (replies : List Reply)
      → IsPlay tells from to before commands replies after → IsTold tells from.remembered → All IsSteady replies
  steady_play from to before after commands replies it book = steady_replies from to before after commands replies it.parts it.played book

steady_number : (reply : Reply) → IsSteady reply → without_memory reply ≡ without_number reply
steady_number (Ran passed report changes unsteady) steady = ap (Ran passed report changes) (sym steady)
steady_number reply steady = refl

steady_numbers : (replies : List Reply) → All IsSteady replies → map without_memory replies ≡ map without_number replies
steady_numbers [] steady = refl
steady_numbers (reply ∷ replies) steady =
    ap₂ (λ (one : Reply) (all : List Reply). one ∷ all) (steady_number reply (All-head IsSteady reply replies steady))
    (steady_numbers replies (All-tail IsSteady reply replies steady))

unhindered_run : (tells : List (List ℕ) → List File → Outcome → Type 0) (from to : Moment) (before after : Repository) (commands : List Command) (replies : List Reply)
    → (it : IsUnhinderedPlay tells from to before commands replies after) → IsUnhinderedRun tells before commands replies it.play.parts after
unhindered_run tells from to before after commands replies it =
    let counted = faults_at_least tells to after from before commands replies it.play.parts it.play.played in
    let uncounted = it.no_fault in
    record {
      run = played_steps tells from to before after commands replies it.play.parts it.play.played;
      told = it.play.told it.told;
      no_fault = omega arith;
      unhindered = it.unhindered;
    }

-- ---- over two that tell the same

module _ (tells others : List (List ℕ) → List File → Outcome → Type 0) (same : SameTells tells others) (alone : OneAnswer tells) where
  alone_too : OneAnswer others
  alone_too = λ words seen first second told too. alone words seen first second (same.added words seen (Done first) told) (same.added words seen (Done second) too)

  run_back : (before other : Repository) (commands : List Command) (seconds : List Reply) (more : List Part)
      → IsUnhinderedRun others before commands seconds more other → IsUnhinderedRun tells before commands seconds more other
  run_back before other commands seconds more it = record {
    run = it.run;
    told = told-back_to tells others same more it.told;
    no_fault = it.no_fault;
    unhindered = it.unhindered;
  }

  pub same_runs_over : (before after other : Repository) (commands : List Command) (replies seconds : List Reply) (parts more : List Part)
      → IsUnhinderedRun tells before commands replies parts after → IsUnhinderedRun others before commands seconds more other
      → (map without_memory replies ≡ map without_memory seconds) × (after ≡ other)
  same_runs_over before after other commands replies seconds parts more one two =
      same_runs tells alone before after other commands replies seconds parts more one (run_back before other commands seconds more two)

  pub same_plays : (from to start end : Moment) (before after other : Repository) (commands : List Command) (replies seconds : List Reply)
      → IsUnhinderedPlay tells from to before commands replies after → IsUnhinderedPlay others start end before commands seconds other
      → (map without_number replies ≡ map without_number seconds) × (after ≡ other)
  same_plays from to start end before after other commands replies seconds one two =
      let same = same_runs_over before after other commands replies seconds one.play.parts two.play.parts
      (unhindered_run tells from to before after commands replies one) (unhindered_run others start end before other commands seconds two) in
      let first = steady_numbers replies (steady_play tells alone from to before after commands replies one.play one.told) in
      let second = steady_numbers seconds (steady_play others alone_too start end before other commands seconds two.play two.told) in
      (sym first ∙ same.0 ∙ second, same.1)

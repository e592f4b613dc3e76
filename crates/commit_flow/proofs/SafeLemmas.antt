-- How a command that is played is safe, and a list of such commands.
use Rattle.std.proofs.Common.{◌≡◌, inl, inr, sym, subst, refl, ap, ℕ, Bool, List, [], ◌∷◌, ◌++◌}
use Rattle.std.proofs.lemmas.List.{append-nil}
use Rattle.sqlite_trees.specs.declared.store.Store.{Ghosts}
use Rattle.sqlite_trees.specs.Tree.{Trees}
use Rattle.sqlite.specs.Held.{state}
use Rattle.commit_flow.proofs.Kit.{survives_weaker}
use Rattle.hook_base.specs.declared.file.File.{File}
use Rattle.child_port.specs.declared.answer.Outcome.{Outcome}
use Rattle.child_port.specs.Telling.{SameTells}
use Rattle.hook_run.specs.AnswerLemmas.{adds-back_to, adds-same}
use Rattle.hook_run.specs.Moments.{Moment}
use Rattle.hook_run.specs.Parts.{Part}
use Rattle.repo_store.specs.Shown.{Shown, Stands}
use Rattle.result_book.specs.CallLemmas.{have_none}
use Rattle.result_book.specs.Contents.{Contents}
use Rattle.result_book.specs.Told.{AddsTold}
use Rattle.repo_store.specs.StoreBooks.{IsAtRest, MayRemember, remembered_by}
use Rattle.commit_flow.specs.declared.command.Command.{Command}
use Rattle.commit_flow.specs.declared.command.Command.TheVariants.{Run, Message, Commit, Forget, Limit}
use Rattle.commit_flow.specs.declared.host_ask.HostAsk.{HostAsk}
use Rattle.commit_flow.specs.declared.host_refusal.HostRefusal.{HostRefusal}
use Rattle.commit_flow.specs.declared.message_ask.MessageAsk.{MessageAsk}
use Rattle.commit_flow.specs.declared.reply.Reply.{Reply}
use Rattle.commit_flow.specs.declared.reply.Reply.TheVariants.{Refused}
use Rattle.commit_flow.specs.declared.staged_run.StagedRun.{StagedRun}
use Rattle.commit_flow.specs.Commands.{IsDone}
use Rattle.commit_flow.specs.CommitSteps.{IsCommitStep}
use Rattle.commit_flow.specs.MessageSteps.{IsMessageStep}
use Rattle.commit_flow.specs.Plays.{ArePlayed, IsPlay, Makes, RunsHooks}
use Rattle.commit_flow.specs.Preparations.{LeavesTold}
use Rattle.commit_flow.specs.RunSteps.{IsRunStep, IsStoppedStep, reply_of_run}
use Rattle.commit_flow.specs.Steps.{Step}
use Rattle.commit_flow.specs.StoppedPlays.{ArePlayedSafely, ArePlayedSafelyFrom, IsSafePlay}
use Rattle.commit_flow.specs.Stops.{IsCrashSafe, IsOneCommand, IsPlayedSafely, IsRememberedAfter, LeavesDone, LeavesStopped}
use Rattle.commit_flow.proofs.CommitEnds.{IsEnded}
use Rattle.commit_flow.proofs.HookCommandLemmas.{hooks_alone, hooks_unmade}
use Rattle.commit_flow.proofs.PlayLemmas.{commit_played, limited_adds, message_played, play_of, played_back, run_played, runless_played, stopped_played}

-- ---- one command

module _ {S : Type 0} (g : Ghosts S) (tells : List (List ℕ) → List File → Outcome → Type 0) (from to : Moment) (old new : Shown S) (entry : from.remembered ≡ remembered_by old.kept)
    (exit : to.remembered ≡ remembered_by new.kept) where
  -- a run that isn't refused
  pub run_safely : (ask : HostAsk) (ran : StagedRun) (over : IsRunStep tells from to old.kept.repo ask ran new.kept.repo) → IsCrashSafe g tells old new (Run ask) (reply_of_run ran) over.parts
      → IsPlayedSafely g tells from to old new (Run ask) (reply_of_run ran)
  unfolding run_played
  run_safely ask ran over safe = record {
    entry = entry;
    exit = exit;
    played = run_played tells from to old.kept.repo new.kept.repo ask ran over;
    safe = subst (λ (parts : List Part). IsCrashSafe g tells old new (Run ask) (reply_of_run ran) parts) (sym (append-nil over.parts)) safe;
  }

  -- and one that is
  pub stopped_safely : (ask : HostAsk) (refusal : HostRefusal) (over : IsStoppedStep tells from to old.kept.repo ask new.kept refusal)
      → IsCrashSafe g tells old new (Run ask) (Refused refusal) over.parts
      → IsPlayedSafely g tells from to old new (Run ask) (Refused refusal)
  unfolding stopped_played
  stopped_safely ask refusal over safe = record { entry = entry; exit = exit; played = stopped_played tells from to old.kept.repo ask new.kept refusal over; safe = safe }

  -- one whose hooks were stopped
  pub halted_safely : (ask : HostAsk) (refusal : HostRefusal) → IsStoppedStep tells from to old.kept.repo ask new.kept refusal → IsAtRest g old new
      → LeavesTold tells (remembered_by old.kept) (MayRemember g old) (MayRemember g new)
      → IsPlayedSafely g tells from to old new (Run ask) (Refused refusal)
  halted_safely ask refusal over rest left = stopped_safely ask refusal over (hooks_alone g tells (Run ask) old over.parts new refusal rest left)

  -- hooks about a message, which change nothing of the repository
  module _ (ask : MessageAsk) (message : List ℕ) (reply : Reply) (never : ¬ IsDone reply) where
    pub message_safely : IsMessageStep tells from to old.kept.repo ask message reply new.kept.repo → IsAtRest g old new
        → LeavesTold tells (remembered_by old.kept) (MayRemember g old) (MayRemember g new)
        → IsPlayedSafely g tells from to old new (Message ask message) reply
    unfolding message_played
    message_safely over rest left = record {
      entry = entry;
      exit = exit;
      played = message_played tells from to old.kept.repo ask message reply new.kept.repo over;
      safe = hooks_unmade g tells (Message ask message) old (over.parts ++ over.left_out) new reply never rest left;
    }

  module _ (message : List ℕ) (no_verify : Bool) (skip : List (List ℕ)) where
    -- a commit
    pub commit_safely : (reply : Reply) (over : IsCommitStep tells from to old.kept.repo message no_verify skip reply new.kept)
        → IsCrashSafe g tells old new (Commit message no_verify skip) reply (over.parts ++ over.left_out)
        → IsPlayedSafely g tells from to old new (Commit message no_verify skip) reply
    unfolding commit_played
    commit_safely reply over safe = record { entry = entry; exit = exit; played = commit_played tells from to old.kept.repo message no_verify skip reply new.kept over; safe = safe }

    -- one whose stages came to an end
    pub ended_safely : (reply : Reply) (first : List Part) (over : IsEnded tells from to old.kept.repo message no_verify skip reply new.kept first)
        → IsCrashSafe g tells old new (Commit message no_verify skip) reply (first ++ over.front.behind) → IsPlayedSafely g tells from to old new (Commit message no_verify skip) reply
    ended_safely reply first over safe =
        commit_safely reply over.step (subst (λ (parts : List Part). IsCrashSafe g tells old new (Commit message no_verify skip) reply parts) (sym over.front.joined) safe)

  -- a command that runs no hooks
  module _ (command : Command) (reply : Reply) where
    adds_after : (which : Command) (before after : Contents) → IsRememberedAfter which before after → AddsTold tells before after
    adds_after Forget before after forgotten = λ words seen answer holds. absurd (have_none words seen answer after.rows forgotten.none holds)
    adds_after (Limit most) before after limited = limited_adds tells most before after limited
    adds_after which before after same = adds-same tells before after same

    stopped_by : (trees : Trees) → LeavesDone old.kept command trees → LeavesStopped g tells old command [] trees
    stopped_by trees left = record {
      kept = left.kept;
      leaves = left.leaves;
      repo = inr (record { first = []; others = []; stretch = refl; reply = left.reply; done = left.done; step = left.step });
      book = inr (adds_after command (remembered_by old.kept) (remembered_by left.kept) left.remembers);
    }

    one_safe : IsOneCommand g old new command reply → IsCrashSafe g tells old new command reply []
    one_safe one = record {
      stands = one.stands;
      crash = survives_weaker (state g old.conn) (state g new.conn) (LeavesDone old.kept command) (LeavesStopped g tells old command []) (λ _ trees left. stopped_by trees left) one.crash;
      durable = λ done clean trees may. record { kept = new.kept; leaves = one.durable done clean trees may; same = refl };
    }

    pub runless_safely : (¬ RunsHooks command) → Step old.kept.repo command reply [] new.kept.repo → Makes tells from to command reply [] → IsOneCommand g old new command reply
        → IsPlayedSafely g tells from to old new command reply
    unfolding runless_played
    runless_safely runless step makes one =
        record { entry = entry; exit = exit; played = runless_played tells from to old.kept.repo new.kept.repo command reply runless step makes; safe = one_safe one }

-- over children that tell the same
module _ {S : Type 0} (g : Ghosts S) (tells next : List (List ℕ) → List File → Outcome → Type 0) (same : SameTells tells next) (from to : Moment) (old new : Shown S) (command : Command)
    (reply : Reply) where
  stopped_back : (parts : List Part) (trees : Trees) → LeavesStopped g next old command parts trees → LeavesStopped g tells old command parts trees
  stopped_back parts trees left = record {
    kept = left.kept;
    leaves = left.leaves;
    repo = left.repo;
    book = elim left.book [
      | inl earlier ↦ inl earlier
      | inr adds ↦ inr (adds-back_to tells next same (remembered_by old.kept) (remembered_by left.kept) adds)
    ];
  }

  safe_back : (parts : List Part) → IsCrashSafe g next old new command reply parts → IsCrashSafe g tells old new command reply parts
  safe_back parts it = record {
    stands = it.stands;
    crash =
        survives_weaker (state g old.conn) (state g new.conn) (LeavesStopped g next old command parts) (LeavesStopped g tells old command parts) (λ _ trees left. stopped_back parts trees left)
        it.crash;
    durable = it.durable;
  }

  pub safely_back : IsPlayedSafely g next from to old new command reply → IsPlayedSafely g tells from to old new command reply
  unfolding played_back
  safely_back it = record {
    entry = it.entry;
    exit = it.exit;
    played = played_back tells next same from to old.kept.repo new.kept.repo command reply it.played;
    safe = safe_back (it.played.parts ++ it.played.left_out) it.safe;
  }

-- ---- a list of commands

module _ {S : Type 0} (g : Ghosts S) (tells : List (List ℕ) → List File → Outcome → Type 0) where
  one_more : (from at to : Moment) (old mid new : Shown S) (commands : List Command) (replies : List Reply) (answered : List (List Part)) (command : Command) (reply : Reply)
      → ArePlayedSafely g tells from at old mid commands replies answered → (last : IsPlayedSafely g tells at to mid new command reply)
      → ArePlayedSafely g tells from to old new (commands ++ command ∷ []) (replies ++ reply ∷ []) (answered ++ (last.played.parts ++ last.played.left_out) ∷ [])
  one_more from at to old mid new [] [] [] command reply so_far last = alone so_far.unmade so_far.same
    where
      alone : at ≡ from → mid ≡ old → ArePlayedSafelyFrom g tells from old command reply (last.played.parts ++ last.played.left_out)
          (λ between shown. ArePlayedSafely g tells between to shown new [] [] [])
      alone unmade same =
          subst (λ (shown : Shown S). ArePlayedSafelyFrom g tells from shown command reply (last.played.parts ++ last.played.left_out)
          (λ between shown. ArePlayedSafely g tells between to shown new [] [] [])) same
          (subst (λ (start : Moment). ArePlayedSafelyFrom g tells start mid command reply (last.played.parts ++ last.played.left_out)
          (λ between shown. ArePlayedSafely g tells between to shown new [] [] [])) unmade
          (record { between = to; shown = new; first = last; all = refl; rest = record { unmade = refl; same = refl } }))
  one_more from at to old mid new (first ∷ commands) (reply_first ∷ replies) (own ∷ answered) command reply so_far last = record {
    between = so_far.between;
    shown = so_far.shown;
    first = so_far.first;
    all = so_far.all;
    rest = one_more so_far.between at to so_far.shown mid new commands replies answered command reply so_far.rest last;
  }
  one_more from at to old mid new commands replies answered command reply so_far last = absurd so_far

  pub none_safely : (at : Moment) (shown : Shown S) → IsSafePlay g tells at at shown shown [] []
  none_safely at shown = record { answered = []; played = record { unmade = refl; same = refl } }

  -- commands are played, and then one more, by children that tell the same
  pub one_more_safely : (next : List (List ℕ) → List File → Outcome → Type 0) → SameTells tells next
      → (from at to : Moment) (old mid new : Shown S) (commands : List Command) (replies : List Reply) (command : Command) (reply : Reply)
      → IsSafePlay g tells from at old mid commands replies → IsPlayedSafely g next at to mid new command reply
      → IsSafePlay g tells from to old new (commands ++ command ∷ []) (replies ++ reply ∷ [])
  one_more_safely next same from at to old mid new commands replies command reply so_far last =
      let back = safely_back g tells next same at to mid new command reply last in
      record {
        answered = so_far.answered ++ (back.played.parts ++ back.played.left_out) ∷ [];
        played = one_more from at to old mid new commands replies so_far.answered command reply so_far.played
            back;
      }

  -- what is played safely is played, and stands in the tables
  parts_of : (from to : Moment) (old new : Shown S) (commands : List Command) (replies : List Reply) (answered : List (List Part)) → ArePlayedSafely g tells from to old new commands replies answered
      → (parts : List Part) × ArePlayed tells from to old.kept.repo commands replies parts new.kept.repo
  parts_of from to old new [] [] [] played = ([], record { unmade = played.unmade; no_parts = refl; same = ap (λ (shown : Shown S). shown.kept.repo) played.same })
  parts_of from to old new (command ∷ commands) (reply ∷ replies) (own ∷ answered) played =
      let further = parts_of played.between to played.shown new commands replies answered played.rest in (
        played.first.played.parts ++ further.0,
        record {
          between = played.between;
          repo_between = played.shown.kept.repo;
          further = further.0;
          first = played.first.played;
          rest = further.1;
          joined =
              refl;
        },
      )
  parts_of from to old new commands replies answered played = absurd played

  pub play_of_safe : (from to : Moment) (old new : Shown S) (commands : List Command) (replies : List Reply) → IsSafePlay g tells from to old new commands replies
      → IsPlay tells from to old.kept.repo commands replies new.kept.repo
  play_of_safe from to old new commands replies safe =
      let played = parts_of from to old new commands replies safe.answered safe.played in
      play_of tells to new.kept.repo from old.kept.repo commands replies played.0 played.1

  stands_so : (from to : Moment) (old new : Shown S) (commands : List Command) (replies : List Reply) (answered : List (List Part)) → ArePlayedSafely g tells from to old new commands replies answered
      → Stands g old.conn old.kept → Stands g new.conn new.kept
  stands_so from to old new [] [] [] played stands = subst (λ (shown : Shown S). Stands g shown.conn shown.kept) (sym played.same) stands
  stands_so from to old new (command ∷ commands) (reply ∷ replies) (own ∷ answered) played stands =
      stands_so played.between to played.shown new commands replies answered played.rest (played.first.safe.stands stands)
  stands_so from to old new commands replies answered played stands = absurd played

  pub safe_stands : (from to : Moment) (old new : Shown S) (commands : List Command) (replies : List Reply) → IsSafePlay g tells from to old new commands replies
      → Stands g old.conn old.kept → Stands g new.conn new.kept
  safe_stands from to old new commands replies safe = stands_so from to old new commands replies safe.answered safe.played

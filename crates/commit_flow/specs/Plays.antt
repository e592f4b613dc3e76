-- A list of commands that the host runs one after another as a machine, and what each makes of the counts of
-- the children and of what is cached.
use Rattle.std.specs.Prelude.{◌≡◌, ◌⊎◌, ◌-◌, ◌^◌, ℕ, List, [], ◌∷◌, ◌++◌}
use Rattle.hook_base.specs.declared.file.File.{File}
use Rattle.child_port.specs.declared.answer.Outcome.{Outcome}
use Rattle.result_book.specs.Calls.{AfterForget}
use Rattle.result_book.specs.Contents.{Contents, count_of}
use Rattle.result_book.specs.Told.{AddsTold, IsTold}
use Rattle.hook_run.specs.declared.reuse.Reuse.{Reuse}
use Rattle.hook_run.specs.declared.reuse.Reuse.TheVariants as reuse
use Rattle.hook_run.specs.Answers.{AreAnswered, AreAnsweredSoFar}
use Rattle.hook_run.specs.Moments.{Moment}
use Rattle.hook_run.specs.Parts.{AllTold, Part}
use Rattle.repo_store.specs.Repository.{Repository}
use Rattle.commit_flow.specs.declared.command.Command.{Command}
use Rattle.commit_flow.specs.declared.command.Command.TheVariants.{Run, Message, Commit, Forget, Limit}
use Rattle.commit_flow.specs.declared.reply.PostCommit.TheVariants.{Stopped}
use Rattle.commit_flow.specs.declared.reply.Reply.{Reply}
use Rattle.commit_flow.specs.declared.reply.Reply.TheVariants.{Committed, Forgot, Limited, Refused}
use Rattle.commit_flow.specs.AnswerLimits.{IsLimitedTo}
use Rattle.commit_flow.specs.CommitSteps.{HasBegunBefore, HasBegunBehind, HasFurtherBefore, HasFurtherBehind, SaysSpent, StandsOnAll}
use Rattle.commit_flow.specs.MessageRuns.{reuse_about}
use Rattle.commit_flow.specs.MessageSteps.{HasMessageBegun, HasMessageFurther}
use Rattle.commit_flow.specs.RunSteps.{HasRunBegun, HasFurther, IsUnrun}
use Rattle.commit_flow.specs.Runs.{reuse_of}
use Rattle.commit_flow.specs.Steps.{Step}

-- the command runs hooks
abbrev pub RunsHooks : Command → Type 0
RunsHooks (Run ask) = Unit {0}
RunsHooks (Message ask message) = Unit {0}
RunsHooks (Commit message no_verify skip) = Unit {0}
RunsHooks command = ⊥

-- which cached results the hooks of the command may use: those of a commit all
abbrev pub reuse_in : Command → Reuse
reuse_in (Run ask) = reuse_of ask
reuse_in (Message ask message) = reuse_about ask
reuse_in command = reuse.All

-- The hooks that the command runs begin with these parts. They are the hooks of a refused run, those about a
-- message that are refused, those before a refused commit, or those after a commit that was made if they were
-- stopped. The parts may be all that they have, if memory or the store refuses after them.
abbrev pub HooksBegin : Repository → Command → Reply → List Part → Type 0
HooksBegin before (Run ask) (Refused refusal) parts = HasRunBegun before ask parts
HooksBegin before (Message ask message) (Refused refusal) parts =
    HasMessageBegun before ask message parts
HooksBegin before (Commit message no_verify skip) (Refused refusal) parts =
    HasBegunBefore before message no_verify skip parts
HooksBegin before (Commit message no_verify skip) (Committed number reports (Stopped refusal)) parts =
    HasBegunBehind before skip parts
HooksBegin before command reply parts = ⊥

-- these hooks, which the reply picks in the same way, need a child for a further part after these
abbrev pub HooksNeedChild : Repository → Command → Reply → Contents → List Part → Type 0
HooksNeedChild before (Run ask) (Refused refusal) remembered parts = HasFurther before ask remembered parts
HooksNeedChild before (Message ask message) (Refused refusal) remembered parts =
    HasMessageFurther before ask message remembered parts
HooksNeedChild before (Commit message no_verify skip) (Refused refusal) remembered parts =
    HasFurtherBefore before message no_verify skip remembered parts
HooksNeedChild before (Commit message no_verify skip) (Committed number reports (Stopped refusal)) remembered parts =
    HasFurtherBehind before skip remembered parts
HooksNeedChild before command reply remembered parts = ⊥

-- ---- what a command makes of the children's counts and of what is cached

-- All cached results are forgotten, and the reply says how many there were. If the command is refused, all of
-- them stay.
abbrev pub HasForgotten : Contents → Contents → Reply → Type 0
HasForgotten before after (Forgot number) = (number ≡ count_of before) × AfterForget before after
HasForgotten before after reply = after ≡ before

-- so many answers are left at most, those that were used last, and the reply says how many; refused, all of them stay
abbrev pub HasLimited : ℕ → Contents → Contents → Reply → Type 0
HasLimited most before after (Limited number) = (number ≡ count_of after) × IsLimitedTo most before after
HasLimited most before after reply = after ≡ before

-- all are forgotten, and no child gave an outcome
pub record IsForgotten (from to : Moment) (reply : Reply) : Type 0 where
  pub forgotten : HasForgotten from.remembered to.remembered reply
  pub called : to.calls ≡ from.calls
  pub faulted : to.faults ≡ from.faults

-- so many are left, and no child gave an outcome
pub record IsLimited (most : ℕ) (from to : Moment) (reply : Reply) : Type 0 where
  pub limited : HasLimited most from.remembered to.remembered reply
  pub called : to.calls ≡ from.calls
  pub faulted : to.faults ≡ from.faults

-- these parts were answered, or answers are forgotten
abbrev pub Makes : (List (List ℕ) → List File → Outcome → Type 0) → Moment → Moment → Command → Reply → List Part
    → Type 0
Makes tells from to Forget reply parts = (parts ≡ []) × IsForgotten from to reply
Makes tells from to (Limit most) reply parts = (parts ≡ []) × IsLimited most from to reply
Makes tells from to command reply parts = AreAnswered tells (reuse_in command) from to parts

-- The command is a step of the machine between two moments. Its parts make what `Makes` says. After them,
-- from the moment `between`, come some that the reply leaves out. For these nothing was run, or the hooks
-- that were stopped begin with them; there are none if the reply rests on all. The reply says that the
-- children are spent only if these hooks need one more and 2^64 - 1 outcomes, as many as can be counted, are
-- reported. Then what they reported is put, as `Starts` says.
pub record IsPlayed (tells : List (List ℕ) → List File → Outcome → Type 0) (from to : Moment) (before : Repository)
    (command : Command) (reply : Reply) (after : Repository) : Type 0 where
  pub parts : List Part
  pub left_out : List Part
  pub between : Moment
  pub step : Step before command reply parts after
  pub makes : Makes tells from between command reply parts
  pub answered_then : AreAnsweredSoFar tells (reuse_in command) between to left_out
  pub none : StandsOnAll reply → IsUnrun between to left_out
  pub begun : IsUnrun between to left_out ⊎ HooksBegin before command reply left_out
  pub put : SaysSpent reply → answered_then.last ≡ []
  pub spent : SaysSpent reply → to.calls ≡ 2 ^ 64 - 1
  pub needed : SaysSpent reply → HooksNeedChild before command reply to.remembered left_out

-- nothing is played
pub record IsUnplayed (from to : Moment) (before : Repository) (parts : List Part) (after : Repository) : Type 0 where
  pub unmade : to ≡ from
  pub no_parts : parts ≡ []
  pub same : after ≡ before

-- A command is played and leaves a moment and a repository, and more is played from there. The parts are
-- those of this step, then those of the others.
pub record ArePlayedFrom (tells : List (List ℕ) → List File → Outcome → Type 0) (from : Moment)
    (before : Repository) (command : Command) (reply : Reply) (parts : List Part)
    (more : Moment → Repository → List Part → Type 0) : Type 0 where
  pub between : Moment
  pub repo_between : Repository
  pub further : List Part
  pub first : IsPlayed tells from between before command reply repo_between
  pub rest : more between repo_between further
  pub joined : parts ≡ first.parts ++ further

-- The commands are played in order, each on what the one before it left, and each has its reply. The parts
-- are those of all steps, in order.
abbrev pub ArePlayed : (List (List ℕ) → List File → Outcome → Type 0) → Moment → Moment → Repository → List Command
    → List Reply → List Part → Repository → Type 0
ArePlayed tells from to before [] [] parts after = IsUnplayed from to before parts after
ArePlayed tells from to before (command ∷ commands) (reply ∷ replies) parts after =
    ArePlayedFrom tells from before command reply parts
    (λ between repo_between further. ArePlayed tells between to repo_between commands replies further after)
ArePlayed tells from to before commands replies parts after = ⊥

-- A run of the machine between two moments, by all of these commands. If the children may report each result
-- that was cached before, they may report each outcome and each result that is cached afterwards. Each result
-- that is cached afterwards was cached before, or may be reported.
pub record IsPlay (tells : List (List ℕ) → List File → Outcome → Type 0) (from to : Moment) (before : Repository)
    (commands : List Command) (replies : List Reply) (after : Repository) : Type 0 where
  pub parts : List Part
  pub played : ArePlayed tells from to before commands replies parts after
  pub told : IsTold tells from.remembered → AllTold tells parts
  pub told_then : IsTold tells from.remembered → IsTold tells to.remembered
  pub adds : AddsTold tells from.remembered to.remembered

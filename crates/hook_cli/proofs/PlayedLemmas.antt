-- What the program's call makes of a command is a command of a play.
use Rattle.std.proofs.Common.{◌≡◌, ◌∙◌, ap, refl, subst, sym, ℕ, List, [], Result, Ok, Err}
use Rattle.std.specs.Prelude.{IfOk}
use Rattle.sqlite_trees.specs.declared.store.Store.{Ghosts}
use Rattle.hook_base.specs.declared.file.File.{File}
use Rattle.child_port.specs.declared.answer.Outcome.{Outcome}
use Rattle.configuration_run.specs.TryOver.{NoneCalled}
use Rattle.hook_run.specs.Moments.{Moment, moment}
use Rattle.hook_run.specs.declared.reuse.Reuse.TheVariants as reuse
use Rattle.hook_run.specs.AnswerLemmas.{answered-none}
use Rattle.hook_run.specs.Answers.{AreAnswered}
use Rattle.repo_store.specs.AllOrNothing.{IsAllOrNothing}
use Rattle.repo_store.specs.Edits.{all_edited}
use Rattle.repo_store.specs.Kept.{Kept, limiting}
use Rattle.repo_store.specs.StoreBooks.{remembered_by}
use Rattle.repo_store.specs.declared.staging_edit.StagingEdit.{StagingEdit}
use Rattle.result_book.specs.Contents.{Contents, count_of}
use Rattle.commit_flow.specs.declared.command.Command.{Command}
use Rattle.commit_flow.specs.declared.command.Command.TheVariants as command
use Rattle.commit_flow.specs.declared.host.Host.{Host}
use Rattle.commit_flow.specs.declared.host_refusal.HostRefusal.{HostRefusal}
use Rattle.commit_flow.specs.declared.reply.Reply.{Reply}
use Rattle.commit_flow.specs.declared.reply.Reply.TheVariants.{Limited}
use Rattle.commit_flow.specs.Commands.{reply_of, reply_of_staging}
use Rattle.commit_flow.specs.Plays.{HasLimited, Makes, RunsHooks}
use Rattle.commit_flow.specs.Steps.{Step}
use Rattle.commit_flow.specs.Stops.{IsOneCommand, IsPlayedSafely}
use Rattle.commit_flow.proofs.CommandLemmas.{limited_so}
use Rattle.commit_flow.proofs.EditStepLemmas.{edits_remember}
use Rattle.commit_flow.proofs.SafeLemmas.{runless_safely}
use Rattle.hook_cli.specs.declared.command_ending.CommandEnding.{CommandEnding}
use Rattle.hook_cli.specs.CommandOver.{Counts, EachIsPlayed, IsChanged, IsDoneOver, IsForgetOver, IsHookless, IsLimitOver, moment_after, moment_before}
use Rattle.hook_cli.specs.StagingOver.{AreStaged}
use Rattle.text_output.specs.Outputs.{Output}

-- two moments with equal counts and the same cached results are one
same_moment : (calls calls_after faults faults_after : ℕ) (book book_after : Contents) → calls_after ≡ calls → faults_after ≡ faults → book_after ≡ book
    → moment calls_after faults_after book_after ≡ moment calls faults book
same_moment calls calls_after faults faults_after book book_after called faulted same = rw (called, faulted, same) refl

module _ {S : Type 0} (g : Ghosts S) (tells : List (List ℕ) → List File → Outcome → Type 0) (counts : Counts) (old new : Host S) where
  abbrev from : Moment
  from = moment_before counts old

  abbrev to : Moment
  to = moment_after counts new

  abbrev Uncalled : Type 0
  Uncalled = NoneCalled counts.calls counts.calls_after counts.faults counts.faults_after

  abbrev Played : Command → Type 0
  Played done = (reply : Reply) × IsPlayedSafely g tells from to old.store new.store done reply

  -- ---- what is cached

  remembered_all : {A E : Type 0} (answer : Result A E) (after : Kept) → remembered_by after ≡ remembered_by old.store.kept
      → IsAllOrNothing old.store.kept new.store.kept answer after → remembered_by new.store.kept ≡ remembered_by old.store.kept
  remembered_all (Ok x) after same change = ap remembered_by change.done ∙ same
  remembered_all (Err refusal) after same change = ap remembered_by change.same

  unanswered : Uncalled → remembered_by new.store.kept ≡ remembered_by old.store.kept → AreAnswered tells reuse.All from to []
  unanswered none same =
      let is = same_moment counts.calls counts.calls_after counts.faults counts.faults_after (remembered_by old.store.kept) (remembered_by new.store.kept) none.called none.faulted same in
      subst (λ (at : Moment). AreAnswered tells reuse.All from at []) (sym is) (answered-none tells reuse.All from)

  -- ---- commands that run no hooks

  unhooked : (done : Command) (reply : Reply) → (¬ RunsHooks done) → Step old.store.kept.repo done reply [] new.store.kept.repo → Makes tells from to done reply []
      → IsOneCommand g old.store new.store done reply → Played done
  unhooked done reply runless step makes one = (reply, runless_safely g tells from to old.store new.store refl refl done reply runless step makes one)

  changed : (done : Command) (reply : Reply) (after : Kept) (Brings : Type 0) (out err : Output) (ending : CommandEnding) → (¬ RunsHooks done)
      → (AreAnswered tells reuse.All from to [] → (given : Reply) → Makes tells from to done given [])
      → remembered_by after ≡ remembered_by old.store.kept → Uncalled → IsChanged g old new done reply after Brings out err ending → Played done
  changed done reply after Brings out err ending runless makes same none it =
      unhooked done (reply_of (λ _. reply) it.answer) runless it.step (makes (unanswered none (remembered_all it.answer after same it.change)) (reply_of (λ _. reply) it.answer)) it.one

  staged : (edits : List StagingEdit) (err : Output) (ending : CommandEnding) → Uncalled → AreStaged g old new edits err ending → Played (command.Stage edits)
  staged edits err ending none it =
      unhooked (command.Stage edits) (reply_of_staging it.answer) (λ runs. runs) it.step
      (unanswered none (remembered_all it.answer (all_edited edits old.store.kept) (edits_remember edits old.store.kept) it.change)) it.one

  forgotten : (out err : Output) (ending : CommandEnding) → Uncalled → IsForgetOver g old new out err ending → Played command.Forget
  forgotten out err ending none it =
      unhooked command.Forget _ (λ runs. runs) it.step (refl, record { forgotten = it.forgotten; called = none.called; faulted = none.faulted }) it.one

  abbrev IsLeft : Result ℕ HostRefusal → Type 0
  IsLeft answer = IfOk answer (λ number. number ≡ count_of (remembered_by new.store.kept))

  limit_left : (most : ℕ) (answer : Result ℕ HostRefusal) → IsAllOrNothing old.store.kept new.store.kept answer (limiting most old.store.kept)
      → IsLeft answer → HasLimited most (remembered_by old.store.kept) (remembered_by new.store.kept) (reply_of Limited answer)
  limit_left most (Ok number) change left = (left, limited_so most old.store.kept new.store.kept change.done)
  limit_left most (Err refusal) change left = ap remembered_by change.same

  limited : (most : ℕ) (out err : Output) (ending : CommandEnding) → Uncalled → IsLimitOver g old new most out err ending → Played (command.Limit most)
  limited most out err ending none it =
      unhooked (command.Limit most) _ (λ runs. runs) it.step
      (refl, record { limited = limit_left most it.answer it.change it.left; called = none.called; faulted = none.faulted }) it.one

  -- ---- any command

  pub played_over : (done : Command) (out err : Output) (ending : CommandEnding) → IsDoneOver g tells counts old new done out err ending → (IsHookless done → Uncalled) → Played done
  played_over (command.Add path bytes mode) out err ending it none = changed (command.Add path bytes mode) _ _ _ out err ending (λ runs. runs) (λ all _. all) refl (none tt) it
  played_over (command.Remove path) out err ending it none = changed (command.Remove path) _ _ _ out err ending (λ runs. runs) (λ all _. all) refl (none tt) it
  played_over (command.Stage edits) out err ending it none = staged edits err ending (none tt) it.1
  played_over command.Accept out err ending it none = changed command.Accept _ _ _ out err ending (λ runs. runs) (λ all _. all) refl (none tt) it
  played_over (command.Run ask) out err ending it none = (_, it.safe)
  played_over (command.Message ask message) out err ending it none = (_, it.1.safe)
  played_over (command.Commit message no_verify skip) out err ending it none = (_, it.safe)
  played_over command.Forget out err ending it none = forgotten out err ending (none tt) it
  played_over (command.Limit most) out err ending it none = limited most out err ending (none tt) it

pub each_played : {S : Type 0} (g : Ghosts S) (tells : List (List ℕ) → List File → Outcome → Type 0) → EachIsPlayed g tells
each_played g tells = λ counts old new done out err status it. played_over g tells counts old new done out err it.ending it.over it.called

-- The ends of a run whose hooks were run: what each is as a step, and as a change of the store.
use Rattle.std.proofs.Common.{◌≡◌, sym, subst, refl, ℕ, List, Ok, Err}
use Rattle.sqlite_trees.specs.declared.store.Store.{Ghosts}
use Rattle.hook_base.specs.declared.change.Change.{Change}
use Rattle.hook_base.specs.declared.file.File.{File}
use Rattle.child_port.specs.declared.answer.Outcome.{Outcome}
use Rattle.hook_run.specs.Moments.{Moment, moment}
use Rattle.store_faults.specs.declared.fault.StoreFault.{StoreFault}
use Rattle.store_faults.specs.Faults.{IsRefusal}
use Rattle.repo_store.specs.Kept.{FixCollides, HasLarge, Kept, setting}
use Rattle.repo_store.specs.Repository.{staged_changes}
use Rattle.repo_store.specs.Shown.{Shown}
use Rattle.repo_store.specs.StoreBooks.{IsAtRest, MayRemember, remembered_by}
use Rattle.result_book.specs.Told.{AddsTold}
use Rattle.commit_flow.specs.declared.command.Command.TheVariants.{Run}
use Rattle.commit_flow.specs.declared.host_ask.HostAsk.{HostAsk}
use Rattle.commit_flow.specs.declared.host_refusal.HostRefusal.{HostRefusal}
use Rattle.commit_flow.specs.declared.prepared.Prepared.{Prepared}
use Rattle.commit_flow.specs.declared.reply.Reply.TheVariants.{Refused}
use Rattle.commit_flow.specs.declared.staged_run.StagedRun.{StagedRun}
use Rattle.commit_flow.specs.CommitCalls.{IsOneChange}
use Rattle.commit_flow.specs.Preparations.{HasRunReady, IsPrepared, LeavesTold}
use Rattle.commit_flow.specs.Refusals.{of_store}
use Rattle.commit_flow.specs.RunSteps.{IsRunStep, IsStoppedStep, reply_of_run}
use Rattle.commit_flow.specs.Stops.{IsPlayedSafely, Reaches}
use Rattle.commit_flow.proofs.HookCommandLemmas.{hooks_then_done, hooks_then_refused, left_then_change}
use Rattle.commit_flow.proofs.RunLemmas.{IsStoppedShort, ran_reaches, run_step, set_refused, settled}
use Rattle.commit_flow.proofs.SafeLemmas.{run_safely, stopped_safely}

module _ {S : Type 0} (g : Ghosts S) (tells : List (List ℕ) → List File → Outcome → Type 0) (from : Moment) (calls faults : ℕ) (old between new : Shown S)
    (entry : from.remembered ≡ remembered_by old.kept)
    (rest : IsAtRest g old between) (left : LeavesTold tells (remembered_by old.kept) (MayRemember g old) (MayRemember g between))
    (ask : HostAsk) (ready : Prepared) (is : IsPrepared old.kept.repo ask ready) (ran : StagedRun) (has : HasRunReady tells from (moment calls faults (remembered_by between.kept)) ready ran)
    (asked : List Change) (is_asked : asked ≡ ran.changes) where
  adds_so : AddsTold tells (remembered_by old.kept) (remembered_by between.kept)
  adds_so = subst (λ before. AddsTold tells before (remembered_by between.kept)) entry
      (run_step tells from (moment calls faults (remembered_by between.kept)) old.kept.repo ask ready is ran has between.kept rest.repo).adds

  -- the fixes are refused
  module _ (same : new.kept ≡ between.kept) (fault : StoreFault)
      (why : IsRefusal (HasLarge (staged_changes ran.changes between.kept.repo.staged)) ⊥ (FixCollides (staged_changes ran.changes between.kept.repo.staged) between.kept.contents) fault) where
    short : IsStoppedShort tells from (moment calls faults (remembered_by new.kept)) old.kept.repo ask new.kept (of_store fault) (setting ran.changes between.kept).repo
    short = subst (λ (after : Kept). IsStoppedShort tells from (moment calls faults (remembered_by after)) old.kept.repo ask after (of_store fault) (setting ran.changes between.kept).repo) (sym same)
        (set_refused tells from (moment calls faults (remembered_by between.kept)) old.kept.repo ask ready is ran has between.kept rest.repo fault why)

    pub unset_step : IsStoppedStep tells from (moment calls faults (remembered_by new.kept)) old.kept.repo ask new.kept (of_store fault)
    unset_step = short.over

    pub unset_safely : {A : Type 0} (first : HostRefusal) → IsOneChange {A = A} g between new (Err first) (setting asked between.kept)
        → IsPlayedSafely g tells from (moment calls faults (remembered_by new.kept)) old new (Run ask) (Refused (of_store fault))
    unset_safely {A} first one =
        stopped_safely g tells from (moment calls faults (remembered_by new.kept)) old new entry refl ask (of_store fault) short.over
        (hooks_then_refused g tells (Run ask) old short.over.parts between new (setting asked between.kept) rest
        (λ trees leaves. subst (λ (changes : List Change). Reaches old.kept.repo (Run ask) short.over.parts (setting changes between.kept).repo) (sym is_asked) short.reaches)
        {A = A} first (of_store fault) one (left_then_change g tells old between new (Err first) (setting asked between.kept) adds_so left refl one))

  -- the fixes are set
  module _ (done : new.kept ≡ setting asked between.kept) where
    pub set_step : IsRunStep tells from (moment calls faults (remembered_by new.kept)) old.kept.repo ask ran new.kept.repo
    set_step =
        subst (λ (after : Kept). IsRunStep tells from (moment calls faults (remembered_by after)) old.kept.repo ask ran after.repo)
        (sym (settled between.kept new.kept asked ran.changes done is_asked))
        (run_step tells from (moment calls faults (remembered_by between.kept)) old.kept.repo ask ready is ran has between.kept rest.repo)

    pub set_safely : {A : Type 0} (x : A) → IsOneChange g between new (Ok x) (setting asked between.kept)
        → IsPlayedSafely g tells from (moment calls faults (remembered_by new.kept)) old new (Run ask) (reply_of_run ran)
    set_safely x one =
        run_safely g tells from (moment calls faults (remembered_by new.kept)) old new entry refl ask ran set_step
        (hooks_then_done g tells (Run ask) old set_step.parts between new (setting asked between.kept) rest
        (λ trees leaves. subst (λ (after : Kept). Reaches old.kept.repo (Run ask) set_step.parts after.repo) done
        (ran_reaches tells from (moment calls faults (remembered_by new.kept)) old.kept.repo ask ran new.kept.repo set_step))
        x (reply_of_run ran) one (left_then_change g tells old between new (Ok x) (setting asked between.kept) adds_so left refl one))

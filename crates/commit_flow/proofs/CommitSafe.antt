-- The ends of a commit whose stages were run, each as a step that is crash-safe.
use Rattle.std.proofs.Common.{◌≡◌, ◌∙◌, sym, subst, refl, ap, ℕ, ◌+◌, Bool, List, [], ◌++◌, length, Ok, Err}
use Rattle.sqlite_trees.specs.declared.store.Store.{Ghosts}
use Rattle.hook_base.specs.declared.file.File.{File}
use Rattle.hook_base.specs.Trees.{changes_between}
use Rattle.child_port.specs.declared.answer.Outcome.{Outcome}
use Rattle.child_port.specs.Telling.{SameTells}
use Rattle.hook_config.specs.declared.stage.Stage.{Stage}
use Rattle.hook_run.specs.Moments.{Moment, moment}
use Rattle.hook_run.specs.Parts.{Part}
use Rattle.repo_store.specs.Kept.{Kept, committing, setting}
use Rattle.repo_store.specs.Shown.{Shown}
use Rattle.repo_store.specs.StoreBooks.{IsAtRest, MayRemember, remembered_by}
use Rattle.result_book.specs.Told.{AddsTold}
use Rattle.commit_flow.specs.declared.command.Command.TheVariants.{Commit}
use Rattle.commit_flow.specs.declared.commit.Through.{Through}
use Rattle.commit_flow.specs.declared.commit_stages.StagesEnd.TheVariants.{Passed, Failed}
use Rattle.commit_flow.specs.declared.commit_state.CommitState.{CommitState}
use Rattle.commit_flow.specs.declared.host_refusal.HostRefusal.{HostRefusal}
use Rattle.commit_flow.specs.declared.reply.PostCommit.{PostCommit}
use Rattle.commit_flow.specs.declared.reply.Reply.{Reply}
use Rattle.commit_flow.specs.declared.reply.Reply.TheVariants.{Committed, HooksFailed, Refused}
use Rattle.commit_flow.specs.CommitCalls.{IsOneChange, IsPostOver, IsThrough, IsUncommitted, IsUnfixed}
use Rattle.commit_flow.specs.Commits.{MayCommit}
use Rattle.commit_flow.specs.CommitSteps.{IsCommitStep}
use Rattle.commit_flow.specs.Messages.{cleaned_message}
use Rattle.commit_flow.specs.Preparations.{LeavesTold}
use Rattle.commit_flow.specs.Stops.{IsPlayedSafely, Reaches}
use Rattle.commit_flow.proofs.CommitEnds.{IsEnded, committed_step, failed_adds, failed_parts, failed_reached, failed_step, passed_adds, passed_made, passed_parts, passed_reached, uncommitted_safe, uncommitted_step, unfixed_step}
use Rattle.commit_flow.proofs.HookCommandLemmas.{done_between_hooks, hooks_then_done, hooks_then_refused, left_then_change}
use Rattle.commit_flow.proofs.LeftLemmas.{left_then}
use Rattle.commit_flow.proofs.SafeLemmas.{ended_safely}

module _ {S : Type 0} (g : Ghosts S) (tells : List (List ℕ) → List File → Outcome → Type 0) (from : Moment) (calls faults : ℕ) (old between : Shown S)
    (entry : from.remembered ≡ remembered_by old.kept)
    (rest : IsAtRest g old between) (left : LeavesTold tells (remembered_by old.kept) (MayRemember g old) (MayRemember g between)) (message : List ℕ) (no_verify : Bool) (skip : List (List ℕ))
    (through : Through) (ran : IsThrough tells from (moment calls faults (remembered_by between.kept)) old.kept.repo message no_verify skip through) where
  -- a step whose stages came to an end, as the store keeps it after them
  abbrev Steps : Reply → Kept → List Part → Type 0
  Steps reply after first = IsEnded tells from (moment calls faults (remembered_by after)) old.kept.repo message no_verify skip reply after first

  abbrev Safely : Shown S → Reply → Type 0
  Safely new reply = IsPlayedSafely g tells from (moment calls faults (remembered_by new.kept)) old new (Commit message no_verify skip) reply

  -- ---- a hook failed

  module _ (new : Shown S) (stage : Stage) (reports : List (List ℕ)) (course : CommitState) (is : through.end ≡ Failed stage reports course) where
    abbrev first_failed : List Part
    first_failed = failed_parts tells from (moment calls faults (remembered_by between.kept)) old.kept.repo between.kept rest.repo message no_verify skip through ran stage reports course is

    abbrev fixed : Kept
    fixed = setting (changes_between between.kept.repo.staged course.tree) between.kept

    reached_failed : (behind : List Part) → Reaches old.kept.repo (Commit message no_verify skip) (first_failed ++ behind) fixed.repo
    reached_failed = failed_reached tells from (moment calls faults (remembered_by between.kept)) old.kept.repo between.kept rest.repo message no_verify skip through ran stage reports course is

    adds_failed : AddsTold tells (remembered_by old.kept) (remembered_by between.kept)
    adds_failed = subst (λ before. AddsTold tells before (remembered_by between.kept)) entry
        (failed_adds tells from (moment calls faults (remembered_by between.kept)) old.kept.repo between.kept rest.repo message no_verify skip through ran stage reports course is)

    -- and the fixes are refused
    module _ (same : new.kept ≡ between.kept) (refusal : HostRefusal) (why : IsUnfixed between.kept.contents (changes_between between.kept.repo.staged course.tree) refusal) where
      unfixed : Steps (Refused refusal) new.kept first_failed
      unfixed = subst (λ (after : Kept). Steps (Refused refusal) after first_failed) (sym same)
          (unfixed_step tells from (moment calls faults (remembered_by between.kept)) old.kept.repo between.kept rest.repo message no_verify skip through ran stage reports course is refusal why)

      pub unfixed_so : IsCommitStep tells from (moment calls faults (remembered_by new.kept)) old.kept.repo message no_verify skip (Refused refusal) new.kept
      unfixed_so = unfixed.step

      pub unfixed_safely : {A : Type 0} (first : HostRefusal) → IsOneChange {A = A} g between new (Err first) fixed → Safely new (Refused refusal)
      unfixed_safely {A} first one =
          ended_safely g tells from (moment calls faults (remembered_by new.kept)) old new entry refl message no_verify skip (Refused refusal) first_failed unfixed
          (hooks_then_refused g tells (Commit message no_verify skip) old (first_failed ++ unfixed.front.behind) between new fixed rest (λ trees leaves. reached_failed unfixed.front.behind)
          {A = A} first refusal one (left_then_change g tells old between new (Err first) fixed adds_failed left refl one))

    -- and the fixes are set
    module _ (done : new.kept ≡ fixed) where
      failed : Steps (HooksFailed stage reports) new.kept first_failed
      failed = subst (λ (after : Kept). Steps (HooksFailed stage reports) after first_failed) (sym done)
          (failed_step tells from (moment calls faults (remembered_by between.kept)) old.kept.repo between.kept rest.repo message no_verify skip through ran stage reports course is)

      pub failed_so : IsCommitStep tells from (moment calls faults (remembered_by new.kept)) old.kept.repo message no_verify skip (HooksFailed stage reports) new.kept
      failed_so = failed.step

      pub failed_safely : {A : Type 0} (x : A) → IsOneChange g between new (Ok x) fixed → Safely new (HooksFailed stage reports)
      failed_safely x one =
          ended_safely g tells from (moment calls faults (remembered_by new.kept)) old new entry refl message no_verify skip (HooksFailed stage reports) first_failed failed
          (hooks_then_done g tells (Commit message no_verify skip) old (first_failed ++ failed.front.behind) between new fixed rest (λ trees leaves. reached_failed failed.front.behind)
          x (HooksFailed stage reports) one (left_then_change g tells old between new (Ok x) fixed adds_failed left refl one))

  -- ---- the stages passed

  module _ (new : Shown S) (reports : List (List ℕ)) (course : CommitState) (is : through.end ≡ Passed reports course) (last : List ℕ) (same_message : last ≡ course.message) where
    abbrev first_passed : List Part
    first_passed = passed_parts tells from (moment calls faults (remembered_by between.kept)) old.kept.repo between.kept rest.repo message no_verify skip through ran reports course is

    abbrev made : Kept
    made = committing (cleaned_message last) between.kept

    adds_passed : AddsTold tells (remembered_by old.kept) (remembered_by between.kept)
    adds_passed = subst (λ before. AddsTold tells before (remembered_by between.kept)) entry
        (passed_adds tells from (moment calls faults (remembered_by between.kept)) old.kept.repo between.kept rest.repo message no_verify skip through ran reports course is)

    -- and nothing is committed
    module _ (same : new.kept ≡ between.kept) (refusal : HostRefusal) (why : IsUncommitted between.kept.repo (cleaned_message last) refusal) where
      uncommitted : Steps (Refused refusal) new.kept first_passed
      uncommitted = subst (λ (after : Kept). Steps (Refused refusal) after first_passed) (sym same)
          (uncommitted_step tells from (moment calls faults (remembered_by between.kept)) old.kept.repo between.kept rest.repo message no_verify skip through ran reports course is refusal last
          same_message why)

      pub uncommitted_so : IsCommitStep tells from (moment calls faults (remembered_by new.kept)) old.kept.repo message no_verify skip (Refused refusal) new.kept
      uncommitted_so = uncommitted.step

      pub uncommitted_safely : {A : Type 0} (first : HostRefusal) → (cleaned_message last ≡ [] → new ≡ between) → IsOneChange {A = A} g between new (Err first) made → Safely new (Refused refusal)
      uncommitted_safely {A} first unasked one =
          ended_safely g tells from (moment calls faults (remembered_by new.kept)) old new entry refl message no_verify skip (Refused refusal) first_passed uncommitted
          (uncommitted_safe {A = A} g tells (Commit message no_verify skip) old (first_passed ++ uncommitted.front.behind) between new first refusal (cleaned_message last) rest left unasked
          (passed_reached tells from (moment calls faults (remembered_by between.kept)) old.kept.repo between.kept rest.repo message no_verify skip through ran reports course is
          uncommitted.front.behind last same_message)
          one (left_then_change g tells old between new (Err first) made adds_passed left refl one))

    -- and a commit was made, and hooks were run after it
    module _ (next : List (List ℕ) → List File → Outcome → Type 0) (same : SameTells tells next) (after : Shown S) (further : IsAtRest g new after)
        (left_further : LeavesTold next (remembered_by new.kept) (MayRemember g new) (MayRemember g after)) (may : MayCommit between.kept.repo (cleaned_message last)) (done : new.kept ≡ made)
        (number : ℕ) (counted : number ≡ length between.kept.repo.history + 1) (end : Moment) (end_is : end.remembered ≡ remembered_by after.kept) (post : PostCommit)
        (behind : IsPostOver next (moment calls faults (remembered_by between.kept)) end through.config between.kept.repo.staged skip post) where
      committed : IsEnded tells from end old.kept.repo message no_verify skip (Committed number reports post) after.kept first_passed
      committed = committed_step tells from (moment calls faults (remembered_by between.kept)) old.kept.repo between.kept rest.repo message no_verify skip through ran reports course is
          next end number after.kept last post same_message same may counted (further.repo ∙ ap (λ (kept : Kept). kept.repo) done) behind

      pub committed_so : IsCommitStep tells from end old.kept.repo message no_verify skip (Committed number reports post) after.kept
      committed_so = committed.step

      left_all : {A : Type 0} (x : A) → IsOneChange g between new (Ok x) made → LeavesTold tells (remembered_by old.kept) (MayRemember g old) (MayRemember g after)
      left_all x one =
          left_then tells next (remembered_by old.kept) (remembered_by new.kept) (MayRemember g old) (MayRemember g new) (MayRemember g after) same
          (subst (λ (kept : Kept). AddsTold tells (remembered_by old.kept) (remembered_by kept)) (sym done) adds_passed)
          (left_then_change g tells old between new (Ok x) made adds_passed left refl one) left_further

      pub committed_safely : {A : Type 0} (x : A) → IsOneChange g between new (Ok x) made → IsPlayedSafely g tells from end old after (Commit message no_verify skip) (Committed number reports post)
      committed_safely x one =
          ended_safely g tells from end old after entry end_is message no_verify skip (Committed number reports post) first_passed committed
          (done_between_hooks g tells (Commit message no_verify skip) old (first_passed ++ committed.front.behind) between new made rest
          (passed_reached tells from (moment calls faults (remembered_by between.kept)) old.kept.repo between.kept rest.repo message no_verify skip through ran reports course is committed.front.behind
          last same_message may.some)
          after further x (Committed number reports post)
          (passed_made tells from (moment calls faults (remembered_by between.kept)) old.kept.repo between.kept rest.repo message no_verify skip through ran reports course is committed.front.behind
          new.kept last same_message may done)
          one (left_all x one))

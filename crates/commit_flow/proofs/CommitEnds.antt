-- The ends of a commit whose stages were run: what each is as a step, and as a change of the store.
use Rattle.std.proofs.Common.{◌≡◌, ◌∙◌, sym, subst, refl, ap, ℕ, ◌+◌, Bool, List, [], ◌∷◌, ◌++◌, length, Err}
use Rattle.sqlite_trees.specs.declared.store.Store.{Ghosts}
use Rattle.sqlite_trees.specs.Tree.{Trees}
use Rattle.hook_base.specs.declared.file.File.{File}
use Rattle.hook_base.specs.Trees.{changes_between}
use Rattle.child_port.specs.declared.answer.Outcome.{Outcome}
use Rattle.child_port.specs.Telling.{SameTells}
use Rattle.hook_config.specs.declared.stage.Stage.{Stage}
use Rattle.hook_run.specs.declared.reuse.Reuse.TheVariants as reuse
use Rattle.hook_run.specs.AnswerLemmas.{answered-adds}
use Rattle.hook_run.specs.Moments.{Moment}
use Rattle.hook_run.specs.Parts.{Part}
use Rattle.repo_store.specs.Kept.{Kept, committing, setting}
use Rattle.repo_store.specs.Repository.{Repository, with_new_commit}
use Rattle.repo_store.specs.Shown.{Leaves, Shown}
use Rattle.repo_store.specs.StoreBooks.{IsAtRest, MayRemember, remembered_by}
use Rattle.result_book.specs.Told.{AddsTold}
use Rattle.commit_flow.specs.declared.command.Command.{Command}
use Rattle.commit_flow.specs.declared.command.Command.TheVariants.{Commit}
use Rattle.commit_flow.specs.declared.commit.Through.{Through}
use Rattle.commit_flow.specs.declared.commit_stages.StagesEnd.{StagesEnd}
use Rattle.commit_flow.specs.declared.commit_stages.StagesEnd.TheVariants.{Passed, Failed}
use Rattle.commit_flow.specs.declared.commit_state.CommitState.{CommitState}
use Rattle.commit_flow.specs.declared.host_refusal.HostRefusal.{HostRefusal}
use Rattle.commit_flow.specs.declared.reply.PostCommit.{PostCommit}
use Rattle.commit_flow.specs.declared.reply.Reply.{Reply}
use Rattle.commit_flow.specs.declared.reply.Reply.TheVariants.{Committed, HooksFailed, Refused}
use Rattle.commit_flow.specs.CommitCalls.{AreRunOver, AreStagesOver, IsOneChange, IsPostOver, IsThrough, IsUncommitted, IsUnfixed}
use Rattle.commit_flow.specs.CommitStages.{FailedAt, HavePassed, course_of, parts_of_stages, stages_before_commit}
use Rattle.commit_flow.specs.Commits.{IsVerified, MayCommit}
use Rattle.commit_flow.specs.Messages.{cleaned_message}
use Rattle.commit_flow.specs.Runs.{changed_paths}
use Rattle.commit_flow.specs.CommitSteps.{IsCommitStep}
use Rattle.commit_flow.specs.Preparations.{LeavesTold}
use Rattle.commit_flow.specs.Stops.{IsCrashSafe, Reaches}
use Rattle.commit_flow.proofs.CommitLemmas.{IsFront, step_committed, step_committed-front, step_failed, step_failed-front, step_uncommitted, step_uncommitted-front, step_unfixed, step_unfixed-front}
use Rattle.commit_flow.proofs.CommitStoreLemmas.{commit_made, commit_reached, fix_reached, same_fixing}
use Rattle.commit_flow.proofs.HookCommandLemmas.{hooks_alone, hooks_then_refused}

-- The commit is a step between two moments, and these parts are a first stretch of all that was answered for it.
pub record IsEnded (tells : List (List ℕ) → List File → Outcome → Type 0) (from to : Moment) (before : Repository) (message : List ℕ) (no_verify : Bool) (skip : List (List ℕ)) (reply : Reply)
    (after : Kept) (first : List Part) : Type 0 where
  pub step : IsCommitStep tells from to before message no_verify skip reply after
  pub front : IsFront first (step.parts ++ step.left_out)

module _ (tells : List (List ℕ) → List File → Outcome → Type 0) (from to : Moment) (before : Repository) (kept : Kept) (rest : kept.repo ≡ before) (message : List ℕ) (no_verify : Bool)
    (skip : List (List ℕ))
    (through : Through) (ran_before : IsThrough tells from to before message no_verify skip through) where
  -- the stages were run on what is kept after them
  ran : IsThrough tells from to kept.repo message no_verify skip through
  ran = subst (λ (repo : Repository). IsThrough tells from to repo message no_verify skip through) (sym rest) ran_before

  over_as : (end : StagesEnd) → through.end ≡ end
      → AreRunOver tells from to through.config (changed_paths kept.repo) skip (stages_before_commit no_verify) (course_of kept.repo message) end
  over_as end is =
      subst (λ (at : StagesEnd). AreRunOver tells from to through.config (changed_paths kept.repo) skip (stages_before_commit no_verify) (course_of kept.repo message) at) is ran.run

  -- what is answered first is answered in the stages
  step_before : (at : Moment) (reply : Reply) (after : Kept) (front : List Part) → IsEnded tells from at kept.repo message no_verify skip reply after front
      → IsEnded tells from at before message no_verify skip reply after front
  step_before at reply after front over = subst (λ (repo : Repository). IsEnded tells from at repo message no_verify skip reply after front) rest over

  reached_before : (parts : List Part) (after : Repository) → Reaches kept.repo (Commit message no_verify skip) parts after → Reaches before (Commit message no_verify skip) parts after
  reached_before parts after reached = subst (λ (repo : Repository). Reaches repo (Commit message no_verify skip) parts after) rest reached

  -- ---- a hook failed

  module _ (stage : Stage) (reports : List (List ℕ)) (left : CommitState) (is : through.end ≡ Failed stage reports left) where
    over_failed : AreStagesOver tells from to reports (λ told. FailedAt through.config (changed_paths kept.repo) skip (stages_before_commit no_verify) (course_of kept.repo message) told stage left)
    over_failed = over_as (Failed stage reports left) is

    pub failed_parts : List Part
    failed_parts = parts_of_stages over_failed.told

    pub failed_adds : AddsTold tells from.remembered to.remembered
    failed_adds = answered-adds tells reuse.All from to (parts_of_stages over_failed.told) over_failed.answered

    pub unfixed_step : (refusal : HostRefusal) → IsUnfixed kept.contents (changes_between kept.repo.staged left.tree) refusal
        → IsEnded tells from to before message no_verify skip (Refused refusal) kept failed_parts
    unfolding failed_parts
    unfixed_step refusal why =
        step_before to (Refused refusal) kept (parts_of_stages over_failed.told)
        (record {
          step = step_unfixed tells kept.repo message no_verify skip from to ran.committable through.config ran.configured reports stage left over_failed kept refl refusal why;
          front = step_unfixed-front tells kept.repo message no_verify skip from to ran.committable through.config ran.configured reports stage left over_failed kept refl refusal why;
        })

    pub failed_step : IsEnded tells from to before message no_verify skip (HooksFailed stage reports) (setting (changes_between kept.repo.staged left.tree) kept) failed_parts
    unfolding failed_parts
    failed_step =
        step_before to (HooksFailed stage reports) (setting (changes_between kept.repo.staged left.tree) kept) (parts_of_stages over_failed.told)
        (record {
          step =
              step_failed tells kept.repo message no_verify skip from to ran.committable through.config ran.configured reports stage left over_failed
              (setting (changes_between kept.repo.staged left.tree) kept)
              (same_fixing kept.repo left.tree);
          front =
              step_failed-front tells kept.repo message no_verify skip from to ran.committable through.config ran.configured reports stage left over_failed
              (setting (changes_between kept.repo.staged left.tree) kept)
              (same_fixing kept.repo left.tree);
        })

    pub failed_reached : (behind : List Part) → Reaches before (Commit message no_verify skip) (failed_parts ++ behind) (setting (changes_between kept.repo.staged left.tree) kept).repo
    unfolding failed_parts
    failed_reached behind = reached_before (parts_of_stages over_failed.told ++ behind) (setting (changes_between kept.repo.staged left.tree) kept).repo
        (fix_reached message no_verify skip through.config over_failed.told behind kept stage left ran.committable ran.configured over_failed.ran_so)

  -- ---- the stages passed

  module _ (reports : List (List ℕ)) (left : CommitState) (is : through.end ≡ Passed reports left) where
    over_passed : AreStagesOver tells from to reports (λ told. HavePassed through.config (changed_paths kept.repo) skip (stages_before_commit no_verify) (course_of kept.repo message) told left)
    over_passed = over_as (Passed reports left) is

    verified : (last : List ℕ) → last ≡ left.message → IsVerified kept.repo message no_verify skip through.config over_passed.told last
    verified last same_message = record { committable = ran.committable; configured = ran.configured; left = left; passed = over_passed.ran_so; message_left = same_message }

    pub passed_parts : List Part
    passed_parts = parts_of_stages over_passed.told

    pub passed_adds : AddsTold tells from.remembered to.remembered
    passed_adds = answered-adds tells reuse.All from to (parts_of_stages over_passed.told) over_passed.answered

    pub uncommitted_step : (refusal : HostRefusal) (last : List ℕ) → last ≡ left.message → IsUncommitted kept.repo (cleaned_message last) refusal
        → IsEnded tells from to before message no_verify skip (Refused refusal) kept passed_parts
    unfolding passed_parts
    uncommitted_step refusal last same_message why =
        let why_left = subst (λ (bytes : List ℕ). IsUncommitted kept.repo (cleaned_message bytes) refusal) same_message why in
        step_before to (Refused refusal) kept (parts_of_stages over_passed.told)
        (record {
          step = step_uncommitted tells kept.repo message no_verify skip from to ran.committable through.config ran.configured reports left over_passed kept refl refusal why_left;
          front = step_uncommitted-front tells kept.repo message no_verify skip from to ran.committable through.config ran.configured reports left over_passed kept refl refusal why_left;
        })

    -- a commit was made, and hooks were run after it
    pub committed_step : (next : List (List ℕ) → List File → Outcome → Type 0) (end : Moment) (number : ℕ) (after : Kept) (last : List ℕ) (post : PostCommit) → last ≡ left.message
        → SameTells tells next
        → MayCommit kept.repo (cleaned_message last) → number ≡ length kept.repo.history + 1 → after.repo ≡ with_new_commit (cleaned_message last) kept.repo
        → IsPostOver next to end through.config kept.repo.staged skip post
        → IsEnded tells from end before message no_verify skip (Committed number reports post) after passed_parts
    unfolding passed_parts
    committed_step next end number after last post same_message same may counted made behind =
        let may_left = subst (λ (bytes : List ℕ). MayCommit kept.repo (cleaned_message bytes)) same_message may in
        let made_left = made ∙ ap (λ (bytes : List ℕ). with_new_commit (cleaned_message bytes) kept.repo) same_message in
        step_before end (Committed number reports post) after (parts_of_stages over_passed.told)
        (record {
          step =
              step_committed tells kept.repo message no_verify skip from to ran.committable through.config ran.configured reports left over_passed next end number after same may_left counted made_left
              post behind;
          front =
              step_committed-front tells kept.repo message no_verify skip from to ran.committable through.config ran.configured reports left over_passed next end number after same may_left counted
              made_left post behind;
        })

    pub passed_reached : (behind : List Part) (last : List ℕ) → last ≡ left.message → (cleaned_message last ≡ [] → ⊥)
        → (trees : Trees) → Leaves (committing (cleaned_message last) kept) trees
        → Reaches before (Commit message no_verify skip) (passed_parts ++ behind) (committing (cleaned_message last) kept).repo
    unfolding passed_parts
    passed_reached behind last same_message some trees leaves = reached_before (parts_of_stages over_passed.told ++ behind) (committing (cleaned_message last) kept).repo
        (commit_reached message no_verify skip through.config over_passed.told behind kept last (verified last same_message) some trees leaves)

    pub passed_made : (behind : List Part) (made : Kept) (last : List ℕ) → last ≡ left.message → MayCommit kept.repo (cleaned_message last) → made ≡ committing (cleaned_message last) kept
        → Reaches before (Commit message no_verify skip) (passed_parts ++ behind) made.repo
    unfolding passed_parts
    passed_made behind made last same_message may is_made =
        subst (λ (now : Kept). Reaches before (Commit message no_verify skip) (parts_of_stages over_passed.told ++ behind) now.repo) (sym is_made)
        (reached_before (parts_of_stages over_passed.told ++ behind) (committing (cleaned_message last) kept).repo
        (commit_made message no_verify skip through.config over_passed.told behind kept.repo last (verified last same_message) may))

-- where the cleaned message is empty, the store isn't asked
pub uncommitted_safe : {S A : Type 0} (g : Ghosts S) (tells : List (List ℕ) → List File → Outcome → Type 0) (command : Command) (old : Shown S) (parts : List Part) (between new : Shown S)
    (first second : HostRefusal) (cleaned : List ℕ)
    → IsAtRest g old between → LeavesTold tells (remembered_by old.kept) (MayRemember g old) (MayRemember g between) → (cleaned ≡ [] → new ≡ between)
    → ((cleaned ≡ [] → ⊥) → (trees : Trees) → Leaves (committing cleaned between.kept) trees → Reaches old.kept.repo command parts (committing cleaned between.kept).repo)
    → IsOneChange {A = A} g between new (Err first) (committing cleaned between.kept) → LeavesTold tells (remembered_by old.kept) (MayRemember g old) (MayRemember g new)
    → IsCrashSafe g tells old new command (Refused second) parts
uncommitted_safe g tells command old parts between new first second [] rest left unasked reached one left_then =
    subst (λ (at : Shown _). IsCrashSafe g tells old at command (Refused second) parts) (sym (unasked refl)) (hooks_alone g tells command old parts between second rest left)
uncommitted_safe g tells command old parts between new first second (byte ∷ bytes) rest left unasked reached one left_then =
    hooks_then_refused g tells command old parts between new (committing (byte ∷ bytes) between.kept) rest (reached (λ is. cc)) first second one left_then

-- What a commit leaves in the store's tables, from what the store's call leaves.
use Rattle.std.proofs.Common.{◌≡◌, ◌≢◌, ◌∙◌, ℕ, ◌+◌, ◌≤◌, Bool, true, false, List, [], ◌∷◌, ◌++◌, length, length-append, Ok, Err, refl, sym, subst, ap, arith}
use Rattle.std.specs.List.{AllByRecursion}
use Rattle.std.proofs.lemmas.List.{append-nil}
use Rattle.std.specs.Bool.{Decides}
use Rattle.std.specs.Cmp.Lexicographic.{pointwise, pointwise_decides}
use Rattle.sqlite_trees.specs.declared.store.Store.{Ghosts}
use Rattle.sqlite_trees.specs.Tree.{Trees}
use Rattle.sqlite.specs.Held.{state}
use Rattle.hook_base.specs.declared.change.Change.{Change}
use Rattle.hook_base.specs.declared.file.File.{File}
use Rattle.hook_base.specs.AlikeLemmas.{file_decides}
use Rattle.hook_base.specs.contracts.file.FilePartialEq.TheImpl as file_eq
use Rattle.hook_base.specs.Trees.{changes_between}
use Rattle.hook_config.specs.declared.configuration.Config.{Config}
use Rattle.hook_config.specs.declared.stage.Stage.{Stage}
use Rattle.hook_run.specs.declared.run_refusal.RunRefusal.TheVariants as run
use Rattle.hook_run.specs.Parts.{Part}
use Rattle.store_tables.specs.declared.rows.CommitRow.{CommitRow}
use Rattle.store_faults.specs.declared.fault.StoreFault.{StoreFault}
use Rattle.store_faults.specs.declared.fault.StoreFault.TheVariants as store
use Rattle.store_faults.specs.Faults.{IsRefusal}
use Rattle.repo_store.specs.Kept.{FixCollides, HasLarge, Kept, committing, setting}
use Rattle.store_faults.specs.Limits.{IsSmall, most_commits}
use Rattle.repo_store.specs.Repository.{Commit as Entry, Repository, last_tree, staged_changes, with_fixes, with_new_commit}
use Rattle.repo_store.specs.Rows.{commit_rows}
use Rattle.repo_store.specs.Shown.{IsOneTransaction, Leaves, LeavesOnly, Shown}
use Rattle.commit_flow.specs.declared.command.Command.TheVariants.{Commit}
use Rattle.commit_flow.specs.declared.commit_state.CommitState.{CommitState}
use Rattle.commit_flow.specs.declared.host_refusal.HostRefusal.{HostRefusal}
use Rattle.commit_flow.specs.declared.reply.PostCommit.TheVariants.{Stopped}
use Rattle.commit_flow.specs.declared.reply.Reply.TheVariants.{Committed, HooksFailed}
use Rattle.commit_flow.specs.CommitCalls.{IsOneChange, IsUncommitted, IsUnfixed}
use Rattle.commit_flow.specs.CommitStages.{FailedAt, StageTold, course_of, parts_of_stages, reports_of, stages_before_commit}
use Rattle.commit_flow.specs.Commits.{HasNothingNew, IsCommittable, IsVerified, MayCommit}
use Rattle.commit_flow.specs.Configured.{IsConfigured}
use Rattle.commit_flow.specs.Messages.{cleaned_message}
use Rattle.commit_flow.specs.Refusals.{of_store}
use Rattle.commit_flow.specs.Runs.{changed_paths, fixing}
use Rattle.commit_flow.specs.Stops.{Reaches}
use Rattle.commit_flow.proofs.CommandLemmas.{survives_itself}
use Rattle.commit_flow.proofs.FixLemmas.{changes_are_staged}

-- ---- one change of the store

module _ {S : Type 0} (g : Ghosts S) (old new : Shown S) (after : Kept) where
  -- the store isn't asked
  pub change_unasked : {A : Type 0} (refusal : HostRefusal) → new ≡ old → IsOneChange {A = A} g old new (Err refusal) after
  change_unasked {A} refusal same = subst (λ (at : Shown S). IsOneChange {A = A} g old at (Err refusal) after) (sym same)
      (record { stands = λ stands. stands; crash = survives_itself (state g old.conn) (Leaves after); durable = tt })

  pub change_refused : {A B E : Type 0} (fault : E) (refusal : HostRefusal) → IsOneTransaction {A = A} g old new (Err fault) after → IsOneChange {A = B} g old new (Err refusal) after
  change_refused fault refusal one = record { stands = λ _. one.stands; crash = one.crash; durable = tt }

  pub change_done : {A B E : Type 0} (x : A) (y : B) → new.kept ≡ after → IsOneTransaction {E = E} g old new (Ok x) after → IsOneChange g old new (Ok y) after
  change_done x y same one = record { stands = λ _. one.stands; crash = one.crash; durable = subst (LeavesOnly g new.conn) (sym same) one.durable }

-- ---- what is staged

stable : {P : Type 0} (same : Bool) → Decides same P → ((P → ⊥) → ⊥) → P
stable true decides twice = decides.0 refl
stable false decides twice = absurd (twice (λ p. let is = decides.1 p in cc))

-- what doesn't differ is the same
pub nothing_new : (repo : Repository) → ((repo.staged ≢ last_tree repo.history) → ⊥) → HasNothingNew repo
nothing_new repo twice = stable (pointwise file_eq.ghosts.eq repo.staged (last_tree repo.history)) (pointwise_decides file_decides repo.staged (last_tree repo.history)) twice

-- the fixes that are set are all of the changes
pub same_fixing : (repo : Repository) (after : List File) → with_fixes (changes_between repo.staged after) repo ≡ fixing (changes_between repo.staged after) repo
same_fixing repo after = ap (λ (fixes : List Change). record repo { fixes = fixes }) (changes_are_staged repo.staged after)

-- ---- what the store is asked for is what a commit makes

last_small : (n : ℕ) (history : List Entry) (entry : Entry) → AllByRecursion (λ (row : CommitRow). IsSmall row.message) (commit_rows n (history ++ entry ∷ [])) → IsSmall entry.message
last_small n [] entry all = all.0
last_small n (first ∷ history) entry all = last_small (n + 1) history entry all.1

-- the parts of the stages are a first stretch of all that was answered
module _ (message : List ℕ) (no_verify : Bool) (skip : List (List ℕ)) (config : Config) (told : List StageTold) (behind : List Part) where
  -- so a commit that may be made is reached
  pub commit_made : (before : Repository) (last : List ℕ) → IsVerified before message no_verify skip config told last → MayCommit before (cleaned_message last)
      → Reaches before (Commit message no_verify skip) (parts_of_stages told ++ behind) (with_new_commit (cleaned_message last) before)
  commit_made before last verified may = record {
    first = parts_of_stages told;
    others = behind;
    stretch = refl;
    reply = Committed (length before.history + 1) (reports_of told) (Stopped run.OutOfMemory);
    done = tt;
    step = record {
      config = config;
      told = told;
      last = last;
      post_parts = [];
      verified = verified;
      some = may.some;
      small = may.small;
      room = may.room;
      counted = refl;
      reported = refl;
      behind = (λ is. cc, tt, refl);
      traced = sym (append-nil (parts_of_stages told));
      made = refl;
    };
  }

  -- and one that the store has taken may be made
  pub commit_reached : (kept : Kept) (last : List ℕ) → IsVerified kept.repo message no_verify skip config told last → (cleaned_message last ≡ [] → ⊥)
      → (trees : Trees) → Leaves (committing (cleaned_message last) kept) trees
      → Reaches kept.repo (Commit message no_verify skip) (parts_of_stages told ++ behind) (committing (cleaned_message last) kept).repo
  commit_reached kept last verified some trees leaves =
      let numbered = leaves.complete.sound.numbered in
      let long = length-append kept.repo.history (record { message = cleaned_message last; tree = kept.repo.staged } ∷ []) in
      let small = last_small 1 kept.repo.history (record { message = cleaned_message last; tree = kept.repo.staged }) leaves.obeys.commits.messages_small in
      commit_made kept.repo last verified (record { some = λ none. some none; small = small; room = omega arith })

  -- so are the fixes where a hook failed
  pub fix_reached : (kept : Kept) (failed : Stage) (last : CommitState) → IsCommittable kept.repo message → IsConfigured kept.repo config
      → FailedAt config (changed_paths kept.repo) skip (stages_before_commit no_verify) (course_of kept.repo message) told failed last
      → Reaches kept.repo (Commit message no_verify skip) (parts_of_stages told ++ behind) (setting (changes_between kept.repo.staged last.tree) kept).repo
  fix_reached kept failed last committable configured ran = record {
    first = parts_of_stages told;
    others = behind;
    stretch = refl;
    reply = HooksFailed failed (reports_of told);
    done = tt;
    step = record {
      config = config;
      told = told;
      last = last;
      committable = committable;
      configured = configured;
      run = ran;
      reported = refl;
      traced = refl;
      made = same_fixing kept.repo last.tree;
    };
  }

-- ---- why the store refuses

pub uncommitted : (repo : Repository) (cleaned : List ℕ) (fault : StoreFault) → MayCommit repo cleaned → IsRefusal (¬ IsSmall cleaned) (IsSmall cleaned × (most_commits ≤ length repo.history)) ⊥ fault
    → IsUncommitted repo cleaned (of_store fault)
uncommitted repo cleaned store.NotAStore may why = absurd why
uncommitted repo cleaned store.Damaged may why = absurd why
uncommitted repo cleaned (store.Sql error) may why = (tt, may)
uncommitted repo cleaned store.OutOfMemory may why = tt
uncommitted repo cleaned store.Collision may why = absurd why
uncommitted repo cleaned store.TooLarge may why = (tt, why)
uncommitted repo cleaned store.TooMany may why = (may.some, why.0, why.1)

unfixed_so : (contents : List (List ℕ)) (fixes : List Change) (fault : StoreFault) → IsRefusal (HasLarge fixes) ⊥ (FixCollides fixes contents) fault → IsUnfixed contents fixes (of_store fault)
unfixed_so contents fixes store.NotAStore why = absurd why
unfixed_so contents fixes store.Damaged why = absurd why
unfixed_so contents fixes (store.Sql error) why = (tt, tt)
unfixed_so contents fixes store.OutOfMemory why = tt
unfixed_so contents fixes store.Collision why = why
unfixed_so contents fixes store.TooLarge why = (tt, why)
unfixed_so contents fixes store.TooMany why = absurd why

pub unfixed : (kept : Kept) (after : List File) (asked : List Change) (fault : StoreFault) → asked ≡ changes_between kept.repo.staged after
    → IsRefusal (HasLarge (staged_changes asked kept.repo.staged)) ⊥ (FixCollides (staged_changes asked kept.repo.staged) kept.contents) fault
    → IsUnfixed kept.contents (changes_between kept.repo.staged after) (of_store fault)
unfixed kept after asked fault is why =
    let all : staged_changes asked kept.repo.staged ≡ changes_between kept.repo.staged after =
    ap (λ (changes : List Change). staged_changes changes kept.repo.staged) is ∙ changes_are_staged kept.repo.staged after in
    unfixed_so kept.contents (changes_between kept.repo.staged after) fault (subst (λ (fixes : List Change). IsRefusal (HasLarge fixes) ⊥ (FixCollides fixes kept.contents) fault) all why)

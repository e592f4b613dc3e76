-- What a command leaves, from what the store's call leaves.
use Rattle.std.proofs.Common.{◌≡◌, ℕ, List, [], length, Option, Ok, Err, ap, inl, refl, sym, subst, arith}
use Rattle.std.proofs.lemmas.List.{length-map, take-map}
use Rattle.sqlite_trees.specs.declared.store.Store.{Ghosts}
use Rattle.sqlite_trees.specs.Tree.{Trees}
use Rattle.sqlite.specs.Held.{state}
use Rattle.sqlite.specs.State.{State, Survives}
use Rattle.commit_flow.proofs.Kit.{survives_weaker}
use Rattle.hook_base.specs.declared.file.Mode.{Mode}
use Rattle.hook_base.specs.Trees.{entry_of, put_file}
use Rattle.store_faults.specs.declared.fault.StoreFault.{StoreFault}
use Rattle.store_faults.specs.declared.fault.StoreFault.TheVariants as store
use Rattle.repo_store.specs.Contents.{Collides}
use Rattle.store_faults.specs.Faults.{IsRefusal}
use Rattle.store_faults.specs.Limits.{Fits, IsLimit, IsSmall}
use Rattle.repo_store.specs.Kept.{Kept, accepting, forgetting, limiting, staging, unstaging}
use Rattle.repo_store.specs.Repository.{Repository}
use Rattle.repo_store.specs.Shown.{IsOneTransaction, Leaves, LeavesOnly, Shown}
use Rattle.result_book.specs.Calls.{AfterForget}
use Rattle.result_book.specs.Contents.{Contents, count_of, with_rows}
use Rattle.repo_store.specs.StoreBooks.{remembered_by, row_of}
use Rattle.commit_flow.specs.declared.command.Command.{Command}
use Rattle.commit_flow.specs.declared.command.Command.TheVariants.{Add, Remove, Accept, Forget, Limit}
use Rattle.commit_flow.specs.declared.host_refusal.HostRefusal.{HostRefusal}
use Rattle.commit_flow.specs.declared.host_refusal.HostRefusal.TheVariants.{Collision}
use Rattle.commit_flow.specs.declared.reply.Reply.{Reply}
use Rattle.commit_flow.specs.declared.reply.Reply.TheVariants.{Added, Removed, Accepted, Forgot, Limited, Refused}
use Rattle.commit_flow.specs.AnswerLimits.{IsLimitRefusal, IsLimitedTo}
use Rattle.commit_flow.specs.Refusals.{of_store}
use Rattle.commit_flow.specs.StagedPaths.{IsLegal, IsStaged}
use Rattle.commit_flow.specs.Plays.{HasLimited}
use Rattle.commit_flow.specs.Steps.{HasFixes, IsAddable, Step, entry_to_add, mode_to_add}
use Rattle.commit_flow.specs.Stops.{IsOneCommand, LeavesDone}

-- where nothing happens, a crash leaves what it could leave
pub survives_itself : (s : State) (P : Trees → Type 0) → Survives s s P
survives_itself s P = record {
  clean = omega arith;
  shield = λ shielded. shielded;
  counts = omega arith;
  limit = refl;
  closes = λ _ is_open. inl is_open;
  crash = λ _ trees left. inl left;
}

-- a command that asks the store for one change
module _ {S : Type 0} (g : Ghosts S) (old new : Shown S) (command : Command) (asked after : Kept) (is : asked ≡ after)
    (reached : (trees : Trees) → Leaves after trees → LeavesDone old.kept command trees) where
  leaves_done : Survives (state g old.conn) (state g new.conn) (Leaves asked) → Survives (state g old.conn) (state g new.conn) (LeavesDone old.kept command)
  leaves_done =
      survives_weaker (state g old.conn) (state g new.conn) (Leaves asked) (LeavesDone old.kept command) (λ _ trees leaves. reached trees (subst (λ (kept : Kept). Leaves kept trees) is leaves))

  pub refused_command : {A E : Type 0} (fault : E) (refusal : HostRefusal) → IsOneTransaction {A = A} g old new (Err fault) asked → IsOneCommand g old new command (Refused refusal)
  refused_command fault refusal one = record { stands = λ _. one.stands; crash = leaves_done one.crash; durable = λ done. absurd done }

  pub done_command : {A E : Type 0} (x : A) (reply : Reply) → new.kept ≡ asked → IsOneTransaction {E = E} g old new (Ok x) asked → IsOneCommand g old new command reply
  done_command x reply same one = record { stands = λ _. one.stands; crash = leaves_done one.crash; durable = λ _. subst (LeavesOnly g new.conn) (sym same) one.durable }

-- the store refuses a file by contents that collide
pub add_collides : (path bytes : List ℕ) (mode : Mode) (kept : Kept) (fault : StoreFault)
    → IsRefusal (¬ IsSmall bytes) (IsSmall bytes × (¬ Fits (put_file path (record { mode = mode; bytes = bytes }) kept.repo.staged)))
    (IsSmall bytes × Fits (put_file path (record { mode = mode; bytes = bytes }) kept.repo.staged) × Collides bytes kept.contents) fault
    → of_store fault ≡ Collision → Collides bytes kept.contents
add_collides path bytes mode kept store.Collision why is = why.2
add_collides path bytes mode kept store.NotAStore why is = absurd why
add_collides path bytes mode kept store.Damaged why is = absurd why
add_collides path bytes mode kept (store.Sql error) why is = absurd (cc)
add_collides path bytes mode kept store.OutOfMemory why is = absurd (cc)
add_collides path bytes mode kept store.TooLarge why is = absurd (cc)
add_collides path bytes mode kept store.TooMany why is = absurd (cc)

-- what the commands ask the store for, and what they reach
pub same_staging : (kept : Kept) (path bytes : List ℕ) (asked : Option Mode) (taken : List ℕ) (mode : Mode) → taken ≡ path → mode ≡ mode_to_add asked (entry_of taken kept.repo.staged)
    → staging taken (record { mode = mode; bytes = bytes }) kept ≡ staging path (entry_to_add kept.repo path bytes asked) kept
same_staging kept path bytes asked taken mode same is = let moded = rw same at is in rw (same, moded) refl

pub add_reached : (kept : Kept) (path bytes : List ℕ) (asked : Option Mode) → IsAddable kept.repo path bytes → (trees : Trees)
    → Leaves (staging path (entry_to_add kept.repo path bytes asked) kept) trees → LeavesDone kept (Add path bytes asked) trees
add_reached kept path bytes asked addable trees leaves = record {
  kept = staging path (entry_to_add kept.repo path bytes asked) kept;
  reply = Added;
  done = tt;
  step = (record { addable = addable; fits = leaves.complete.sound.staged_fit; made = refl }, refl);
  remembers = refl;
  leaves = leaves;
}

pub remove_reached : (kept : Kept) (path : List ℕ) → IsLegal path → IsStaged path kept.repo → (trees : Trees) → Leaves (unstaging path kept) trees → LeavesDone kept (Remove path) trees
remove_reached kept path legal staged trees leaves = record {
  kept = unstaging path kept;
  reply = Removed;
  done = tt;
  step = (record { legal = legal; staged = staged; made = refl }, refl);
  remembers = refl;
  leaves = leaves;
}

accept_reached : (kept : Kept) → HasFixes kept.repo → (trees : Trees) → Leaves (accepting kept) trees → LeavesDone kept Accept trees
accept_reached kept some trees leaves = record {
  kept = accepting kept;
  reply = Accepted (length kept.repo.fixes);
  done = tt;
  step = (record { some = some; counted = refl; made = refl }, refl);
  remembers = refl;
  leaves = leaves;
}

-- the fixes are accepted, whatever number is answered
module _ {S : Type 0} (g : Ghosts S) (before old new : Shown S) (is : old ≡ before) (some : HasFixes before.kept.repo) where
  kept_fixes : HasFixes old.kept.repo
  kept_fixes = subst (λ (at : Shown S). HasFixes at.kept.repo) (sym is) some

  pub accept_refused : {A E : Type 0} (fault : E) (refusal : HostRefusal) → IsOneTransaction {A = A} g old new (Err fault) (accepting old.kept) → IsOneCommand g before new Accept (Refused refusal)
  accept_refused fault refusal one =
      subst (λ (at : Shown S). IsOneCommand g at new Accept (Refused refusal)) is
      (refused_command g old new Accept (accepting old.kept) (accepting old.kept) refl (accept_reached old.kept kept_fixes) fault refusal one)

  pub accept_done : {A E : Type 0} (x : A) → new.kept ≡ accepting old.kept → IsOneTransaction {E = E} g old new (Ok x) (accepting old.kept) → (number : ℕ)
      → IsOneCommand g before new Accept (Accepted number)
  accept_done x same one number =
      subst (λ (at : Shown S). IsOneCommand g at new Accept (Accepted number)) is
      (done_command g old new Accept (accepting old.kept) (accepting old.kept) refl (accept_reached old.kept kept_fixes) x (Accepted number) same one)

forget_reached : (kept : Kept) (trees : Trees) → Leaves (forgetting kept) trees → LeavesDone kept Forget trees
forget_reached kept trees leaves = record {
  kept = forgetting kept;
  reply = Forgot (length kept.answers);
  done = tt;
  step = (refl, refl);
  remembers = record { none = refl; limit = refl };
  leaves = leaves;
}

-- the answers are forgotten, whatever number is answered
module _ {S : Type 0} (g : Ghosts S) (old new : Shown S) where
  pub forget_refused : {A E : Type 0} (fault : E) (refusal : HostRefusal) → IsOneTransaction {A = A} g old new (Err fault) (forgetting old.kept) → IsOneCommand g old new Forget (Refused refusal)
  forget_refused fault refusal one = refused_command g old new Forget (forgetting old.kept) (forgetting old.kept) refl (forget_reached old.kept) fault refusal one

  pub forget_done : {A E : Type 0} (x : A) (number : ℕ) → new.kept ≡ forgetting old.kept → IsOneTransaction {E = E} g old new (Ok x) (forgetting old.kept)
      → IsOneCommand g old new Forget (Forgot number)
  forget_done x number same one = done_command g old new Forget (forgetting old.kept) (forgetting old.kept) refl (forget_reached old.kept) x (Forgot number) same one

-- as many are remembered as the store has answers, and none once they are forgotten
pub count_remembered : (kept : Kept) → length kept.answers ≡ count_of (remembered_by kept)
count_remembered kept = sym (length-map kept.answers row_of)

pub forgotten_all : (old new : Kept) → new ≡ forgetting old → AfterForget (remembered_by old) (remembered_by new)
forgotten_all old new same = subst (λ (kept : Kept). AfterForget (remembered_by old) (remembered_by kept)) (sym same) (record { none = refl; limit = refl })

-- ---- the limit of what is remembered

-- one transaction of the store is one of the host
module _ {S : Type 0} (g : Ghosts S) (old new : Shown S) (after : Kept) where
  pub refused_transaction : {A B E F : Type 0} (fault : E) (refusal : F) → IsOneTransaction {A = A} g old new (Err fault) after → IsOneTransaction {A = B} g old new (Err refusal) after
  refused_transaction fault refusal one = record { stands = one.stands; crash = one.crash; durable = tt; shut = one.shut; opened = λ _. tt }

  pub done_transaction : {A B E F : Type 0} (x : A) (y : B) → IsOneTransaction {E = E} g old new (Ok x) after → IsOneTransaction {E = F} g old new (Ok y) after
  done_transaction x y one = record { stands = one.stands; crash = one.crash; durable = one.durable; shut = one.shut; opened = one.opened }

-- the first answers are left, as many as the limit
pub limited_so : (limit : ℕ) (old new : Kept) → new ≡ limiting limit old → IsLimitedTo limit (remembered_by old) (remembered_by new)
limited_so limit old new same =
    subst (λ (kept : Kept). IsLimitedTo limit (remembered_by old) (remembered_by kept)) (sym same)
    (ap (with_rows limit) (sym (take-map row_of limit old.answers)))

limit_reached : (most : ℕ) (kept : Kept) (trees : Trees) → Leaves (limiting most kept) trees → LeavesDone kept (Limit most) trees
limit_reached most kept trees leaves = record {
  kept = limiting most kept;
  reply = Limited most;
  done = tt;
  step = (refl, refl);
  remembers = limited_so most kept (limiting most kept) refl;
  leaves = leaves;
}

-- the limit is set, whatever number is answered
module _ {S : Type 0} (g : Ghosts S) (old new : Shown S) (most : ℕ) where
  pub limit_not_set : {A E : Type 0} (fault : E) (refusal : HostRefusal) → IsOneTransaction {A = A} g old new (Err fault) (limiting most old.kept)
      → IsOneCommand g old new (Limit most) (Refused refusal)
  limit_not_set fault refusal one = refused_command g old new (Limit most) (limiting most old.kept) (limiting most old.kept) refl (limit_reached most old.kept) fault refusal one

  pub limit_set : {A E : Type 0} (x : A) (number : ℕ) → new.kept ≡ limiting most old.kept → IsOneTransaction {E = E} g old new (Ok x) (limiting most old.kept)
      → IsOneCommand g old new (Limit most) (Limited number)
  limit_set x number same one = done_command g old new (Limit most) (limiting most old.kept) (limiting most old.kept) refl (limit_reached most old.kept) x (Limited number) same one

-- a limit that is read as a number
pub limit_fits : (most taken : ℕ) → taken ≡ most → IsLimit most → IsLimit taken
limit_fits most taken is within = subst IsLimit (sym is) within

module _ (most taken : ℕ) (is : taken ≡ most) where
  pub limit_step : (before after : Repository) (reply : Reply) → Step before (Limit taken) reply [] after → Step before (Limit most) reply [] after
  limit_step before after reply step = subst (λ (n : ℕ). Step before (Limit n) reply [] after) is step

  pub limit_one : {S : Type 0} (g : Ghosts S) (old new : Shown S) (reply : Reply) → IsOneCommand g old new (Limit taken) reply → IsOneCommand g old new (Limit most) reply
  limit_one g old new reply one = subst (λ (n : ℕ). IsOneCommand g old new (Limit n) reply) is one

  pub limit_made : (before after : Contents) (number : ℕ) → number ≡ count_of after → IsLimitedTo taken before after → HasLimited most before after (Limited number)
  limit_made before after number counted limited = (counted, subst (λ (n : ℕ). IsLimitedTo n before after) is limited)

pub limit_refusal : (fault : StoreFault) → IsRefusal ⊥ ⊥ ⊥ fault → IsLimitRefusal (of_store fault)
limit_refusal (store.Sql error) why = tt
limit_refusal store.OutOfMemory why = tt
limit_refusal store.NotAStore why = absurd why
limit_refusal store.Damaged why = absurd why
limit_refusal store.Collision why = absurd why
limit_refusal store.TooLarge why = absurd why
limit_refusal store.TooMany why = absurd why

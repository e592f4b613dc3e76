-- What a command that runs hooks leaves in the store's tables and remembered, from what rests over its hooks, and what its change
-- of the store leaves.
use Rattle.std.proofs.Common.{◌≡◌, ◌⊎◌, inl, inr, ℕ, List, map, refl, sym, subst, arith, Result, Ok, Err}
use Rattle.sqlite_trees.specs.declared.store.Store.{Ghosts}
use Rattle.sqlite_trees.specs.Tree.{Trees}
use Rattle.sqlite.specs.Held.{state}
use Rattle.sqlite.specs.State.{HasCleanDisk, Survives}
use Rattle.commit_flow.proofs.Kit.{survives_then, survives_weaker}
use Rattle.hook_base.specs.declared.file.File.{File}
use Rattle.child_port.specs.declared.answer.Outcome.{Outcome}
use Rattle.child_port.specs.TellingLemmas.{SameTells-refl}
use Rattle.hook_run.specs.Parts.{Part}
use Rattle.repo_store.specs.Answers.{KeptAnswer}
use Rattle.repo_store.specs.Kept.{Kept}
use Rattle.repo_store.specs.Repository.{Repository}
use Rattle.repo_store.specs.Shown.{Leaves, Shown}
use Rattle.repo_store.proofs.AlikeLemmas.{left_alike}
use Rattle.result_book.specs.Contents.{HaveRow, Holds}
use Rattle.repo_store.specs.StoreBooks.{IsAtRest, LeavesRepository, MayRemember, remembered_by, row_of}
use Rattle.result_book.specs.Told.{AddsTold}
use Rattle.commit_flow.specs.declared.command.Command.{Command}
use Rattle.commit_flow.specs.declared.host_refusal.HostRefusal.{HostRefusal}
use Rattle.commit_flow.specs.declared.reply.Reply.{Reply}
use Rattle.commit_flow.specs.declared.reply.Reply.TheVariants.{Refused}
use Rattle.commit_flow.specs.CommitCalls.{IsOneChange}
use Rattle.commit_flow.specs.Commands.{IsDone}
use Rattle.commit_flow.specs.Preparations.{LeavesTold}
use Rattle.commit_flow.specs.Stops.{IsCrashSafe, LeavesStopped, Reaches}
use Rattle.commit_flow.proofs.LeftLemmas.{left_then}

-- ---- what one change of the store leaves remembered

-- a change that keeps the answers leaves remembered what it could leave before, or no more than what was remembered
pub change_left : {S A : Type 0} (g : Ghosts S) (tells : List (List ℕ) → List File → Outcome → Type 0) (old new : Shown S) (result : Result A HostRefusal) (after : Kept)
    → after.answers ≡ old.kept.answers
    → IsOneChange g old new result after → LeavesTold tells (remembered_by old.kept) (MayRemember g old) (MayRemember g new)
change_left g tells old new result after same one = λ left may.
    elim (one.crash.crash may.clean may.trees may.may) [
      | inl earlier ↦ inl (record { clean = omega (arith, one.crash.clean, may.clean); trees = may.trees; may = earlier; kept = may.kept; leaves = may.leaves; remembers = may.remembers })
      | inr made ↦ inr (λ words seen answer holds.
          let there : Holds words seen answer (remembered_by may.kept) = subst (Holds words seen answer) may.remembers holds in
          let moved : Holds words seen answer (remembered_by after) =
          subst (λ (answers : List KeptAnswer). HaveRow words seen answer (map row_of answers)) (left_alike may.trees may.kept after may.leaves made).answers there in
          inl (subst (λ (answers : List KeptAnswer). Holds words seen answer (remembered_by (record old.kept { answers = answers }))) same moved))
    ]

-- and so it does after hooks
pub left_then_change : {S A : Type 0} (g : Ghosts S) (tells : List (List ℕ) → List File → Outcome → Type 0) (old between new : Shown S) (result : Result A HostRefusal) (after : Kept)
    → AddsTold tells (remembered_by old.kept) (remembered_by between.kept) → LeavesTold tells (remembered_by old.kept) (MayRemember g old) (MayRemember g between)
    → after.answers ≡ between.kept.answers
    → IsOneChange g between new result after → LeavesTold tells (remembered_by old.kept) (MayRemember g old) (MayRemember g new)
left_then_change g tells old between new result after adds left same one =
    left_then tells tells (remembered_by old.kept) (remembered_by between.kept) (MayRemember g old) (MayRemember g between) (MayRemember g new) (SameTells-refl tells) adds left
    (change_left g tells between new result after same one)

-- ---- which repositories are left

module _ {S : Type 0} (g : Ghosts S) (tells : List (List ℕ) → List File → Outcome → Type 0) (command : Command) (old : Shown S) (parts : List Part) where
  -- a store of a repository that the command reaches
  record LeavesReached (trees : Trees) : Type 0 where
    pub kept : Kept
    pub leaves : Leaves kept trees
    pub reaches : Reaches old.kept.repo command parts kept.repo

  abbrev LeavesEither : Trees → Type 0
  LeavesEither trees = LeavesRepository old.kept.repo trees ⊎ LeavesReached trees

  -- a store that is left remembers what may be left remembered
  stopped_so : (new : Shown S) → Survives (state g old.conn) (state g new.conn) LeavesEither → LeavesTold tells (remembered_by old.kept) (MayRemember g old) (MayRemember g new)
      → Survives (state g old.conn) (state g new.conn) (LeavesStopped g tells old command parts)
  stopped_so new crash left = record {
    clean = crash.clean;
    shield = crash.shield;
    counts = crash.counts;
    limit = crash.limit;
    closes = crash.closes;
    crash = λ clean trees may. elim (crash.crash clean trees may) [
      | inl earlier ↦ inl earlier
      | inr either ↦ inr (elim either [
        | inl same ↦ record {
          kept = same.kept;
          leaves = same.leaves;
          repo = inl same.same;
          book = left (remembered_by same.kept) (record { clean = clean; trees = trees; may = may; kept = same.kept; leaves = same.leaves; remembers = refl });
        }
        | inr reached ↦ record {
          kept = reached.kept;
          leaves = reached.leaves;
          repo = inr reached.reaches;
          book = left (remembered_by reached.kept) (record { clean = clean; trees = trees; may = may; kept = reached.kept; leaves = reached.leaves; remembers = refl });
        }
      ])
    ];
  }

  -- hooks were run, and no change of the store was asked for
  pub hooks_unmade : (new : Shown S) (reply : Reply) → (¬ IsDone reply) → IsAtRest g old new → LeavesTold tells (remembered_by old.kept) (MayRemember g old) (MayRemember g new)
      → IsCrashSafe g tells old new command reply parts
  hooks_unmade new reply never rest left = record {
    stands = rest.stands;
    crash = stopped_so new (survives_weaker (state g old.conn) (state g new.conn) (LeavesRepository old.kept.repo) LeavesEither (λ _ trees leaves. inl leaves) rest.survives) left;
    durable = λ done. absurd (never done);
  }

  pub hooks_alone : (new : Shown S) (refusal : HostRefusal) → IsAtRest g old new → LeavesTold tells (remembered_by old.kept) (MayRemember g old) (MayRemember g new)
      → IsCrashSafe g tells old new command (Refused refusal) parts
  hooks_alone new refusal rest left = hooks_unmade new (Refused refusal) (λ done. done) rest left

  -- and then this change was
  module _ (between new : Shown S) (after : Kept) (rest : IsAtRest g old between) (reached : (trees : Trees) → Leaves after trees → Reaches old.kept.repo command parts after.repo) where
    reached_so : (trees : Trees) → Leaves after trees → LeavesReached trees
    reached_so trees leaves = record { kept = after; leaves = leaves; reaches = reached trees leaves }

    leaves_either : Survives (state g between.conn) (state g new.conn) (Leaves after) → Survives (state g old.conn) (state g new.conn) LeavesEither
    leaves_either crash = survives_then (state g old.conn) (state g between.conn) (state g new.conn) (LeavesRepository old.kept.repo) (Leaves after) LeavesEither
        (λ _ trees leaves. inl leaves) (λ _ trees leaves. inr (reached_so trees leaves)) rest.survives crash

    pub hooks_then_refused : {A : Type 0} (first second : HostRefusal) → IsOneChange {A = A} g between new (Err first) after
        → LeavesTold tells (remembered_by old.kept) (MayRemember g old) (MayRemember g new)
        → IsCrashSafe g tells old new command (Refused second) parts
    hooks_then_refused first second one left = record { stands = λ stands. one.stands (rest.stands stands); crash = stopped_so new (leaves_either one.crash) left; durable = λ done. absurd done }

    pub hooks_then_done : {A : Type 0} (x : A) (reply : Reply) → IsOneChange g between new (Ok x) after → LeavesTold tells (remembered_by old.kept) (MayRemember g old) (MayRemember g new)
        → IsCrashSafe g tells old new command reply parts
    hooks_then_done x reply one left = record {
      stands = λ stands. one.stands (rest.stands stands);
      crash = stopped_so new (leaves_either one.crash) left;
      durable = λ done clean trees may. record { kept = new.kept; leaves = one.durable clean trees may; same = refl };
    }

    -- and then hooks were run again
    module _ (last : Shown S) (further : IsAtRest g new last) where
      same_left : (trees : Trees) → LeavesRepository new.kept.repo trees → LeavesRepository last.kept.repo trees
      same_left trees leaves = subst (λ (repo : Repository). LeavesRepository repo trees) (sym further.repo) leaves

      was_clean : HasCleanDisk (state g last.conn) → HasCleanDisk (state g new.conn)
      was_clean clean = omega (arith, further.survives.clean, clean)

      still_reached : Reaches old.kept.repo command parts new.kept.repo → (trees : Trees) → LeavesRepository new.kept.repo trees → LeavesReached trees
      still_reached reaches trees leaves = record { kept = leaves.kept; leaves = leaves.leaves; reaches = subst (Reaches old.kept.repo command parts) (sym leaves.same) reaches }

      pub done_between_hooks : {A : Type 0} (x : A) (reply : Reply) → Reaches old.kept.repo command parts new.kept.repo
          → IsOneChange g between new (Ok x) after → LeavesTold tells (remembered_by old.kept) (MayRemember g old) (MayRemember g last) → IsCrashSafe g tells old last command reply parts
      done_between_hooks x reply reaches one left = record {
        stands = λ stands. further.stands (one.stands (rest.stands stands));
        crash = stopped_so last
            (survives_then (state g old.conn) (state g new.conn) (state g last.conn) LeavesEither (LeavesRepository new.kept.repo) LeavesEither
            (λ _ trees leaves. leaves) (λ _ trees leaves. inr (still_reached reaches trees leaves)) (leaves_either one.crash) further.survives) left;
        durable = λ done clean trees may. same_left trees (elim (further.survives.crash clean trees may) [
          | inl earlier ↦ record { kept = new.kept; leaves = one.durable (was_clean clean) trees earlier; same = refl }
          | inr left_so ↦ left_so
        ]);
      }

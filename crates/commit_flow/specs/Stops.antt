-- What a command leaves in the store's tables, and what a stop leaves of it: the promise on stops. A stop
-- within a command leaves what the command's exit may leave if each later call of the store fails. So the
-- definitions speak only of exits.
use Rattle.std.specs.Prelude.{◌≡◌, ◌⊎◌, ℕ, List, [], ◌++◌}
use Rattle.sqlite_trees.specs.declared.store.Store.{Ghosts}
use Rattle.sqlite_trees.specs.Tree.{Trees}
use Rattle.sqlite.specs.Held.{state}
use Rattle.sqlite.specs.State.{HasCleanDisk, Survives}
use Rattle.hook_base.specs.declared.file.File.{File}
use Rattle.child_port.specs.declared.answer.Outcome.{Outcome}
use Rattle.hook_run.specs.Moments.{Moment}
use Rattle.hook_run.specs.Parts.{Part}
use Rattle.repo_store.specs.Kept.{Kept}
use Rattle.repo_store.specs.Repository.{Repository}
use Rattle.repo_store.specs.Shown.{Leaves, LeavesOnly, Shown, Stands}
use Rattle.result_book.specs.Calls.{AfterForget}
use Rattle.result_book.specs.Contents.{Contents}
use Rattle.repo_store.specs.StoreBooks.{LeavesRepository, MayRemember, remembered_by}
use Rattle.result_book.specs.Told.{AddsTold}
use Rattle.commit_flow.specs.declared.command.Command.{Command}
use Rattle.commit_flow.specs.declared.command.Command.TheVariants.{Forget, Limit}
use Rattle.commit_flow.specs.declared.reply.Reply.{Reply}
use Rattle.commit_flow.specs.AnswerLimits.{IsLimitedTo}
use Rattle.commit_flow.specs.Commands.{IsDone}
use Rattle.commit_flow.specs.Plays.{IsPlayed}
use Rattle.commit_flow.specs.Steps.{Step}

-- ---- a command that runs no hooks

-- what a command makes of the cached results: it forgets all of them, or leaves them
abbrev pub IsRememberedAfter : Command → Contents → Contents → Type 0
IsRememberedAfter Forget before after = AfterForget before after
IsRememberedAfter (Limit most) before after = IsLimitedTo most before after
IsRememberedAfter command before after = after ≡ before

-- Opened again, the trees are a store. It keeps the repository that the command, done, makes of this one, and
-- the cached results that it makes of those before.
pub record LeavesDone (before : Kept) (command : Command) (trees : Trees) : Type 0 where
  pub kept : Kept
  pub reply : Reply
  pub done : IsDone reply
  pub step : Step before.repo command reply [] kept.repo
  pub remembers : IsRememberedAfter command (remembered_by before) (remembered_by kept)
  pub leaves : Leaves kept trees

-- A command without hooks changes the store in one transaction, or not at all. If the store's tables held
-- what it showed before, they hold what it shows after the command, even after a refusal. A crash leaves what
-- it could leave before, or all that the command makes. Once the command is done on a clean disk, it leaves
-- only what the store shows.
pub record IsOneCommand {S : Type 0} (g : Ghosts S) (old new : Shown S) (command : Command)
    (reply : Reply) : Type 0 where
  pub stands : Stands g old.conn old.kept → Stands g new.conn new.kept
  pub crash : Survives (state g old.conn) (state g new.conn) (LeavesDone old.kept command)
  pub durable : IsDone reply → LeavesOnly g new.conn new.kept

-- ---- any command

-- The command, done with the first of these parts, makes this of the repository. So a commit is made only if
-- each stage before it passed, by what these parts were answered.
pub record Reaches (before : Repository) (command : Command) (parts : List Part) (after : Repository) : Type 0 where
  pub first : List Part
  pub others : List Part
  pub stretch : parts ≡ first ++ others
  pub reply : Reply
  pub done : IsDone reply
  pub step : Step before command reply first after

-- Opened again, the trees are a store. Its repository is the one at the command's entry, or the one that the
-- command, done with the first of these parts, makes of it. Its cached results are what a stop could leave at
-- the command's entry, or each of them was cached then or was reported.
pub record LeavesStopped {S : Type 0} (g : Ghosts S) (tells : List (List ℕ) → List File → Outcome → Type 0)
    (entry : Shown S) (command : Command) (parts : List Part) (trees : Trees) : Type 0 where
  pub kept : Kept
  pub leaves : Leaves kept trees
  pub repo : (kept.repo ≡ entry.kept.repo) ⊎ Reaches entry.kept.repo command parts kept.repo
  pub book : MayRemember g entry (remembered_by kept) ⊎ AddsTold tells (remembered_by entry.kept) (remembered_by kept)

-- The promise on stops, for a command that was answered these parts. If the store's tables held what it
-- showed before, they hold what it shows at the command's exit, even after a refusal. A stop leaves what it
-- could leave at the entry. Or it leaves the repository before the command or the one that the command makes,
-- and each cached result of it was cached at the entry or was reported. Once the command is done, on a clean
-- disk, a stop leaves the repository that the store shows, with the commit if one was made.
pub record IsCrashSafe {S : Type 0} (g : Ghosts S) (tells : List (List ℕ) → List File → Outcome → Type 0)
    (old new : Shown S) (command : Command) (reply : Reply) (parts : List Part) : Type 0 where
  pub stands : Stands g old.conn old.kept → Stands g new.conn new.kept
  pub crash : Survives (state g old.conn) (state g new.conn) (LeavesStopped g tells old command parts)
  pub durable : IsDone reply → HasCleanDisk (state g new.conn) → (trees : Trees) → (state g new.conn).may_leave trees
      → LeavesRepository new.kept.repo trees

-- The command is a step of the machine between two moments, which have what the store caches then. It is
-- crash-safe with all parts that were answered for it: those of the step, and those that the reply leaves
-- out.
pub record IsPlayedSafely {S : Type 0} (g : Ghosts S) (tells : List (List ℕ) → List File → Outcome → Type 0)
    (from to : Moment) (old new : Shown S) (command : Command) (reply : Reply) : Type 0 where
  pub entry : from.remembered ≡ remembered_by old.kept
  pub exit : to.remembered ≡ remembered_by new.kept
  pub played : IsPlayed tells from to old.kept.repo command reply new.kept.repo
  pub safe : IsCrashSafe g tells old new command reply (played.parts ++ played.left_out)

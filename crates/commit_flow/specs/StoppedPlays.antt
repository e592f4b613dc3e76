-- Lists of commands that may be stopped anywhere, and go on once the store is opened again.
use Rattle.std.specs.Prelude.{◌≡◌, ◌⊎◌, ℕ, List, [], ◌∷◌, ◌++◌}
use Rattle.sqlite_trees.specs.declared.store.Store.{Ghosts}
use Rattle.sqlite_trees.specs.Tree.{Trees}
use Rattle.sqlite.specs.Held.{state}
use Rattle.sqlite.specs.State.{HasCleanDisk}
use Rattle.hook_base.specs.declared.file.File.{File}
use Rattle.child_port.specs.declared.answer.Outcome.{Outcome}
use Rattle.hook_run.specs.Moments.{Moment}
use Rattle.hook_run.specs.Parts.{Part}
use Rattle.repo_store.specs.Kept.{Kept}
use Rattle.repo_store.specs.Repository.{Repository}
use Rattle.repo_store.specs.Shown.{Leaves, LeavesOnly, Shown}
use Rattle.repo_store.specs.StoreBooks.{remembered_by}
use Rattle.result_book.specs.Told.{IsTold}
use Rattle.commit_flow.specs.declared.command.Command.{Command}
use Rattle.commit_flow.specs.declared.reply.Reply.{Reply}
use Rattle.commit_flow.specs.Commands.{IsDone}
use Rattle.commit_flow.specs.Steps.{Step}
use Rattle.commit_flow.specs.Stops.{IsPlayedSafely, Reaches}

-- ---- a list of commands, each crash-safe

-- nothing is played
pub record IsNothingPlayed {S : Type 0} (from to : Moment) (old new : Shown S) : Type 0 where
  pub unmade : to ≡ from
  pub same : new ≡ old

-- A command is played safely, and all of these parts were answered for it. It leaves a moment and a store,
-- and more is played from there.
pub record ArePlayedSafelyFrom {S : Type 0} (g : Ghosts S) (tells : List (List ℕ) → List File → Outcome → Type 0)
    (from : Moment)
    (old : Shown S) (command : Command) (reply : Reply) (own : List Part)
    (more : Moment → Shown S → Type 0) : Type 0 where
  pub between : Moment
  pub shown : Shown S
  pub first : IsPlayedSafely g tells from between old shown command reply
  pub all : own ≡ first.played.parts ++ first.played.left_out
  pub rest : more between shown

-- The commands are played in order, each safely on the store that the one before it left. Each has its reply,
-- and the parts that were answered for it.
abbrev pub ArePlayedSafely : {S : Type 0} → Ghosts S → (List (List ℕ) → List File → Outcome → Type 0) → Moment → Moment
    → Shown S → Shown S → List Command → List Reply → List (List Part) → Type 0
ArePlayedSafely g tells from to old new [] [] [] = IsNothingPlayed from to old new
ArePlayedSafely g tells from to old new (command ∷ commands) (reply ∷ replies) (own ∷ answered) =
    ArePlayedSafelyFrom g tells from old command reply own
    (λ between shown. ArePlayedSafely g tells between to shown new commands replies answered)
ArePlayedSafely g tells from to old new commands replies answered = ⊥

-- they are played so, whatever was answered for them
pub record IsSafePlay {S : Type 0} (g : Ghosts S) (tells : List (List ℕ) → List File → Outcome → Type 0)
    (from to : Moment) (old new : Shown S) (commands : List Command) (replies : List Reply) : Type 0 where
  pub answered : List (List Part)
  pub played : ArePlayedSafely g tells from to old new commands replies answered

-- ---- what a stop leaves of a list

-- none of the commands was done
abbrev pub AreRefused : List Reply → Type 0
AreRefused [] = Unit {0}
AreRefused (reply ∷ replies) = (¬ IsDone reply) × AreRefused replies

-- a step of the machine with this reply and the first of the parts that were answered
pub record IsStepOver (before : Repository) (command : Command) (reply : Reply) (own : List Part)
    (after : Repository) : Type 0 where
  pub first : List Part
  pub others : List Part
  pub stretch : own ≡ first ++ others
  pub step : Step before command reply first after

-- such steps in order, each from the repository that the one before it made
abbrev pub AreStepsOver : Repository → List Command → List Reply → List (List Part) → Repository → Type 0
AreStepsOver before [] [] [] after = after ≡ before
AreStepsOver before (command ∷ commands) (reply ∷ replies) (own ∷ answered) after =
    (between : Repository) × IsStepOver before command reply own between
    × AreStepsOver between commands replies answered after
AreStepsOver before commands replies answered after = ⊥

-- the first of the commands makes this of the repository, and is done with the first of its parts
abbrev pub IsReachedNext : Repository → List Command → List (List Part) → Repository → Type 0
IsReachedNext before (command ∷ commands) (own ∷ answered) after = Reaches before command own after
IsReachedNext before commands answered after = ⊥

-- This is the repository that a first stretch of the commands makes, with the replies and the parts that were
-- given for them. Or it is what the next command, done, makes of that repository. No reply after the stretch
-- says that its command was done, so none that was done is lost.
pub record IsLeftOf (before : Repository) (commands : List Command) (replies : List Reply) (answered : List (List Part))
    (left : Repository) : Type 0 where
  pub made : List Command
  pub ahead : List Command
  pub split : commands ≡ made ++ ahead
  pub given : List Reply
  pub others : List Reply
  pub replied : replies ≡ given ++ others
  pub refused : AreRefused others
  pub own : List (List Part)
  pub later : List (List Part)
  pub cut : answered ≡ own ++ later
  pub reached : Repository
  pub steps : AreStepsOver before made given own reached
  pub more : (left ≡ reached) ⊎ IsReachedNext reached ahead later left

-- ---- lists that go on

-- commands up to the last that was begun, with their replies and the parts that were answered for each
pub record Session : Type 0 where
  pub commands : List Command
  pub replies : List Reply
  pub answered : List (List Part)

-- The trees were opened as a store, the commands were played on it, each safely, and a stop of it leaves
-- these other trees.
pub record IsSession {S : Type 0} (g : Ghosts S) (tells : List (List ℕ) → List File → Outcome → Type 0) (found : Trees)
    (session : Session) (left : Trees) : Type 0 where
  pub from : Moment
  pub to : Moment
  pub old : Shown S
  pub new : Shown S
  pub opened : Leaves old.kept found
  pub only : LeavesOnly g old.conn old.kept
  pub played : ArePlayedSafely g tells from to old new session.commands session.replies session.answered
  pub clean : HasCleanDisk (state g new.conn)
  pub may : (state g new.conn).may_leave left

-- each session opens what the one before it left
abbrev pub AreSessions : {S : Type 0} → Ghosts S → (List (List ℕ) → List File → Outcome → Type 0) → Trees → List Session
    → Trees → Type 0
AreSessions g tells found [] left = left ≡ found
AreSessions g tells found (session ∷ sessions) left =
    (between : Trees) × IsSession g tells found session between × AreSessions g tells between sessions left

-- each session makes a first stretch of its commands, and at most one more, from what the one before it made
abbrev pub AreLeftOf : Repository → List Session → Repository → Type 0
AreLeftOf before [] left = left ≡ before
AreLeftOf before (session ∷ sessions) left =
    (between : Repository) × IsLeftOf before session.commands session.replies session.answered between
    × AreLeftOf between sessions left

-- Opened again, the trees are a store of what the sessions make of this repository, and each cached result of
-- it was reported.
pub record LeavesSessions (tells : List (List ℕ) → List File → Outcome → Type 0) (before : Repository)
    (sessions : List Session) (trees : Trees) : Type 0 where
  pub kept : Kept
  pub leaves : Leaves kept trees
  pub left : AreLeftOf before sessions kept.repo
  pub book : IsTold tells (remembered_by kept)

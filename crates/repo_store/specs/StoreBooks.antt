-- A store as a book: what it caches, what rests over a call, what a crash leaves, and the refusals.
use Rattle.std.specs.Prelude.{◌≡◌, ℕ, List, map}
use Rattle.child_port.specs.declared.answer.Answer.{Answer}
use Rattle.sqlite_trees.specs.declared.store.Store.{Ghosts}
use Rattle.sqlite_trees.specs.Tree.{Trees}
use Rattle.sqlite.specs.Held.{state}
use Rattle.sqlite.specs.State.{HasCleanDisk, Survives}
use Rattle.store_faults.specs.declared.fault.StoreFault.{StoreFault}
use Rattle.store_faults.specs.declared.fault.StoreFault.TheVariants as store
use Rattle.repo_store.specs.declared.answer_ref.AnswerRef.{AnswerRef}
use Rattle.repo_store.specs.declared.stored_answer.StoredAnswer.{StoredAnswer}
use Rattle.repo_store.specs.Answers.{KeptAnswer}
use Rattle.repo_store.specs.Complete.{IsAmong}
use Rattle.repo_store.specs.Kept.{Kept}
use Rattle.repo_store.specs.Repository.{Repository}
use Rattle.repo_store.specs.Shown.{Leaves, Shown, Stands}
use Rattle.result_book.specs.declared.book_fault.BookFault.{BookFault}
use Rattle.result_book.specs.declared.book_fault.BookFault.TheVariants.{OutOfMemory, Store}
use Rattle.result_book.specs.declared.book_row.BookRow.{BookRow}
use Rattle.result_book.specs.Contents.{Contents, with_rows}

-- ---- what it caches

-- a copy of a store's cached answer, as an answer of a child
abbrev pub answer_in : StoredAnswer → Answer
answer_in answer = record { status = answer.status; output = answer.output; changes = answer.changes }

-- an answer that is given by reference
abbrev pub answer_by : AnswerRef → Answer
answer_by answer = record { status = answer.status; output = answer.output.now; changes = answer.changes.now }

-- a cached answer without its key
abbrev pub given_answer : KeptAnswer → Answer
given_answer answer = record { status = answer.status; output = answer.output; changes = answer.changes }

abbrev pub row_of : KeptAnswer → BookRow
row_of answer = record { words = answer.words; seen = answer.seen; answer = given_answer answer }

-- the cached answers of a store in their order, as those of a book with its limit
abbrev pub remembered_by : Kept → Contents
remembered_by kept = with_rows kept.limit (map row_of kept.answers)

-- ---- what a crash leaves

-- the trees, opened again, are a store of this repository, with any cached answers
pub record LeavesRepository (repo : Repository) (trees : Trees) : Type 0 where
  pub kept : Kept
  pub leaves : Leaves kept trees
  pub same : kept.repo ≡ repo

-- a crash may leave a store of this repository, with any cached answers
pub record MayLeave {S : Type 0} (g : Ghosts S) (shown : Shown S) (repo : Repository) : Type 0 where
  pub trees : Trees
  pub may : (state g shown.conn).may_leave trees
  pub left : LeavesRepository repo trees

-- a store that a crash may leave caches this, once it is opened again
pub record MayRemember {S : Type 0} (g : Ghosts S) (shown : Shown S) (left : Contents) : Type 0 where
  pub clean : HasCleanDisk (state g shown.conn)
  pub trees : Trees
  pub may : (state g shown.conn).may_leave trees
  pub kept : Kept
  pub leaves : Leaves kept trees
  pub remembers : left ≡ remembered_by kept

-- ---- what rests

-- The repository is the same, and the tables hold it if they did before, and no contents are gone. A crash
-- leaves what it could leave before, or a store of this repository. If the tables held the repository, a
-- crash leaves no other repository that it couldn't leave before.
pub record IsAtRest {S : Type 0} (g : Ghosts S) (before after : Shown S) : Type 0 where
  pub repo : after.kept.repo ≡ before.kept.repo
  pub contents : (bytes : List ℕ) → IsAmong before.kept.contents bytes → IsAmong after.kept.contents bytes
  pub stands : Stands g before.conn before.kept → Stands g after.conn after.kept
  pub survives : Survives (state g before.conn) (state g after.conn) (LeavesRepository before.kept.repo)
  pub left : HasCleanDisk (state g after.conn) → Stands g before.conn before.kept → (repo : Repository)
      → MayLeave g after repo → MayLeave g before repo

-- ---- the refusals

-- the database refuses, contents are too large, or others have their digest
abbrev pub IsOfAnswers : StoreFault → Type 0
IsOfAnswers (store.Sql error) = Unit {0}
IsOfAnswers store.TooLarge = Unit {0}
IsOfAnswers store.Collision = Unit {0}
IsOfAnswers fault = ⊥

abbrev pub RefusesAnswers : BookFault → Type 0
RefusesAnswers OutOfMemory = Unit {0}
RefusesAnswers (Store fault) = IsOfAnswers fault

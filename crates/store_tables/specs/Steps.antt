-- What the steps of a transaction leave.
use Rattle.std.specs.Prelude.{◌≡◌, true, Result, OnOk, IfOk, IsTrue}
use Rattle.sqlite_trees.specs.declared.store.Store.{Ghosts}
use Rattle.sqlite_trees.specs.Tree.{Trees}
use Rattle.sqlite.specs.declared.error.Error.{Error}
use Rattle.sqlite.specs.Effect.{Database}
use Rattle.sqlite.specs.Held.{Held, state}
use Rattle.sqlite.specs.State.{State, HasCleanDisk, IsUnchanged, KeepsCommit, Shows, Survives}
use Rattle.sqlite_schema.specs.declared.schema.Schema.{Schema}
use Rattle.store_tables.specs.Schema.{MoreTables, store_with}
use Rattle.store_tables.specs.Tables.{Tables, HoldsIn, KeepsMore}

-- A statement inside a transaction is done: nothing is committed, and it makes this of the tables of a store.
-- Whatever tables are listed after them keep their rows.
pub record IsStatementDone (old new : State) (makes : Tables → Tables) : Type 0 where
  pub shown : Shows old new new.now old.committed true
  pub holds : (more : MoreTables) (t : Tables) → HoldsIn (store_with more) old.now t
      → HoldsIn (store_with more) new.now (makes t)
  pub keeps : (more : MoreTables) → old.now.schema ≡ store_with more → KeepsMore (store_with more) old.now new.now

-- A statement inside a transaction. At `Ok` it is done; otherwise it isn't done, or the transaction is rolled
-- back. A crash leaves nothing that it couldn't leave before.
pub record IsStep {S A : Type 0} (g : Ghosts S) (old new : Held S) (result : Result A Error)
    (makes : Tables → Tables) : Type 0 where
  pub done : HasCleanDisk (state g new) → IsTrue (state g old).in_transaction
      → OnOk result (IsStatementDone (state g old) (state g new) makes)
  pub kept : HasCleanDisk (state g new) → KeepsCommit (state g old) (state g new)
  pub survives : Survives (state g old) (state g new) (λ _. ⊥)

-- The same for a change of the whole database, if it has the tables of a store, whatever tables are listed
-- after them. At `Ok` the database is related by Change to what it was.
pub record IsChange {S A : Type 0} (g : Ghosts S) (old new : Held S) (result : Result A Error)
    (Change : Schema → Database → Database → Type 0) : Type 0 where
  pub done : HasCleanDisk (state g new) → IsTrue (state g old).in_transaction
      → OnOk result (Shows (state g old) (state g new) (state g new).now (state g old).committed true
      × ((more : MoreTables) → (state g old).now.schema ≡ store_with more
      → Change (store_with more) (state g old).now (state g new).now))
  pub kept : HasCleanDisk (state g new) → KeepsCommit (state g old) (state g new)
  pub survives : Survives (state g old) (state g new) (λ _. ⊥)

-- The same for a statement that makes tables: it makes a database with After of one with Before.
pub record IsMade {S A : Type 0} (g : Ghosts S) (old new : Held S) (result : Result A Error)
    (Before After : Database → Type 0) : Type 0 where
  pub done : HasCleanDisk (state g new) → IsTrue (state g old).in_transaction
      → OnOk result (Shows (state g old) (state g new) (state g new).now (state g old).committed true
      × (Before (state g old).now → After (state g new).now))
  pub kept : HasCleanDisk (state g new) → KeepsCommit (state g old) (state g new)
  pub survives : Survives (state g old) (state g new) (λ _. ⊥)

-- A query inside a transaction, if the database has the tables of a store, whatever tables are listed after
-- them. At `Ok` the answer has Rows of its trees, and nothing has changed.
pub record IsRead {S A : Type 0} (g : Ghosts S) (old new : Held S) (result : Result A Error)
    (Rows : A → Trees → Type 0) : Type 0 where
  pub rows : (more : MoreTables) → HasCleanDisk (state g new) → (state g old).now.schema ≡ store_with more
      → IfOk result (λ answer. IsUnchanged (state g old) (state g new) × Rows answer (state g old).now.trees)
  pub kept : HasCleanDisk (state g new) → IsTrue (state g old).in_transaction → KeepsCommit (state g old) (state g new)
  pub survives : Survives (state g old) (state g new) (λ _. ⊥)

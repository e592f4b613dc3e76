-- For private functions of the modules `create`, `stage`, `unstage`, `fixes`, `accept`, `commit`, `blobs`,
-- `remember`, `forget`, `uses` and `migrate`: what a call makes of a connection is one transaction.
use Rattle.std.specs.Prelude.{◌≡◌, false, Result, OnOk, OnErr, IsTrue}
use Rattle.sqlite_trees.specs.declared.store.Store.{Ghosts}
use Rattle.sqlite.specs.Effect.{Database}
use Rattle.sqlite.specs.Held.{Held, state}
use Rattle.sqlite.specs.State.{State, HasCleanDisk, Survives}
use Rattle.store_tables.specs.Uses.{as_store}
use Rattle.repo_store.specs.Calls.{Rests}

-- the connection is open, and shows and has committed a database with P
pub record Commits (s : State) (P : Database → Type 0) : Type 0 where
  pub is_open : IsTrue s.is_open
  pub now : P s.now
  pub committed : P s.committed

-- A whole call outside a transaction, on a database with Before. At `Ok` one with After is committed;
-- otherwise the last commit is what the database holds. A crash leaves what it could leave before, or the
-- trees of a database with After.
pub record IsCall {S A E : Type 0} (g : Ghosts S) (old new : Held S) (result : Result A E)
    (Before After : Database → Type 0) : Type 0 where
  pub outside : new.in_transaction ≡ false
  pub done : HasCleanDisk (state g new) → (IsTrue (state g old).is_open → Before (state g old).now)
      → OnOk result (Commits (state g new) After)
  pub kept : OnErr result (Rests (state g old) (state g new))
  pub survives : (IsTrue (state g old).is_open → Before (state g old).now)
      → Survives (state g old) (state g new) (λ trees. After (as_store trees))

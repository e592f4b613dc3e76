-- What contracts see of a store.
use Rattle.std.specs.Prelude.{◌≡◌, ◌⊎◌, ℕ, false, IsTrue, Result, OnOk, refl}
use Rattle.std.specs.Coded.{Coded, code_by, coded×, coded_ℕ}
use Rattle.sqlite_trees.specs.declared.store.Store.{Ghosts}
use Rattle.sqlite_trees.specs.Tree.{Trees}
use Rattle.sqlite.specs.Held.{Held, held_code, state}
use Rattle.sqlite.specs.State.{HasCleanDisk, Survives}
use Rattle.store_tables.specs.Uses.{as_store}
use Rattle.store_faults.specs.declared.fault.StoreFault.{StoreFault}
use Rattle.repo_store.specs.Bounded.{HoldsStore, IsTakenOver}
use Rattle.sqlite.specs.Effect.{Database}
use Rattle.repo_store.specs.Complete.{IsComplete}
use Rattle.repo_store.specs.Kept.{Kept, kept_code}
use Rattle.repo_store.specs.Rows.{tables_of}
use Rattle.repo_store.specs.RowRules.{AreStoreRows}

-- the connection, what it keeps, and the tick that the next use of an answer gets
pub record Shown (S : Type 0) : Type 0 where
  pub conn : Held S
  pub kept : Kept
  pub next : ℕ

abbrev pub shown_code : {S : Type 0} → Coded S → Coded (Shown S)
shown_code {S} store =
    code_by (Held S × (Kept × ℕ)) (coded× (held_code store) (coded× kept_code coded_ℕ))
    (λ s. (s.conn, (s.kept, s.next))) (λ p. record { conn = p.0; kept = p.1.0; next = p.1.1 }) (λ _. refl)

-- What is kept is one complete repository, and its rows obey the rules by which a store is opened. While the
-- connection is open, its database holds this and has it committed.
pub record Stands {S : Type 0} (g : Ghosts S) (conn : Held S) (kept : Kept) : Type 0 where
  pub outside : conn.in_transaction ≡ false
  pub complete : IsComplete kept
  pub obeys : AreStoreRows (tables_of kept)
  pub now : IsTrue (state g conn).is_open → HoldsStore (state g conn).now kept
  pub committed : IsTrue (state g conn).is_open → HoldsStore (state g conn).committed kept

-- The trees, opened again, are a store that keeps this. It is one complete repository, in rows that obey the
-- rules by which a store is opened.
pub record Leaves (kept : Kept) (trees : Trees) : Type 0 where
  pub holds : HoldsStore (as_store trees) kept
  pub complete : IsComplete kept
  pub obeys : AreStoreRows (tables_of kept)

-- on a clean disk, a crash can leave nothing but this
abbrev pub LeavesOnly : {S : Type 0} (g : Ghosts S) (conn : Held S) (kept : Kept) → Type 0
LeavesOnly g conn kept =
    HasCleanDisk (state g conn) → (trees : Trees) → (state g conn).may_leave trees → Leaves kept trees

-- A call that makes `after` of what a store keeps is one transaction: what the store then shows, also after a
-- refusal, is what its tables hold. A crash leaves what it could leave before, or all of the change; once the
-- call has returned `Ok`, all of it. If the connection was shut, a crash leaves only what it could leave
-- before. On a clean disk it is open once the call has returned `Ok`.
pub record IsOneTransaction {S A E : Type 0} (g : Ghosts S) (old new : Shown S) (result : Result A E)
    (after : Kept) : Type 0 where
  pub stands : Stands g new.conn new.kept
  pub crash : Survives (state g old.conn) (state g new.conn) (Leaves after)
  pub durable : OnOk result (LeavesOnly g new.conn after)
  pub shut : (state g old.conn).is_open ≡ false → Survives (state g old.conn) (state g new.conn) (λ _. ⊥)
  pub opened : HasCleanDisk (state g new.conn) → OnOk result (IsTrue (state g new.conn).is_open)

-- If no tick is left for a use, the uses are renumbered. That is a transaction of its own, which changes
-- nothing of what is kept.
pub record IsNumberedAnew {S : Type 0} (g : Ghosts S) (old new : Shown S) : Type 0 where
  pub stood : Stands g old.conn old.kept
  pub same : new.kept ≡ old.kept
  pub result : Result (Unit {0}) StoreFault
  pub transaction : IsOneTransaction g old new result old.kept

-- A call that uses an answer, or puts one, makes `after` of what the store keeps in one transaction. The uses
-- may be renumbered before it.
pub record IsOneUse {S A E : Type 0} (g : Ghosts S) (old new : Shown S) (result : Result A E)
    (after : Kept) : Type 0 where
  pub between : Shown S
  pub numbered : (between ≡ old) ⊎ IsNumberedAnew g old between
  pub transaction : IsOneTransaction g between new result after

-- The trees, opened again, are the migrated store that was of version 1 in this database.
pub record TakesOver (db : Database) (trees : Trees) : Type 0 where
  pub kept : Kept
  pub taken : IsTakenOver db kept
  pub leaves : Leaves kept trees

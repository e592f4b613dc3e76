-- For private functions of the modules `opening`, `table_rows` and `take_over`: what is read of a store that
-- is opened, and what becomes of it.
use Rattle.std.specs.Prelude.{◌≡◌, ◌⊎◌, false, Result, MatchResult, IfOk, IfErr, OnOk, OnErr, IsTrue}
use Rattle.std.specs.declared.cmp.Ordering.TheVariants.{Less}
use Rattle.sqlite_trees.specs.declared.store.Store.{Ghosts}
use Rattle.sqlite_trees.specs.Tree.{Trees, IsAscending}
use Rattle.sqlite_schema.specs.declared.schema.Schema.{Schema}
use Rattle.sqlite.specs.declared.error.Error.{Error}
use Rattle.sqlite.specs.Effect.{Database, IsDatabase}
use Rattle.sqlite.specs.Held.{Held, state}
use Rattle.sqlite.specs.State.{HasCleanDisk, IsUnchanged, KeepsCommit, Survives}
use Rattle.store_tables.specs.Schema.{MoreTables, schema_with_uses, store_with}
use Rattle.store_tables.specs.Tables.{AreKeyed, HoldsTables}
use Rattle.store_faults.specs.declared.fault.StoreFault.{StoreFault}
use Rattle.repo_store.specs.Bounded.{HoldsNext, HoldsStore, IsTakenOver, key_cmp}
use Rattle.repo_store.specs.Calls.{Rests}
use Rattle.repo_store.specs.Complete.{AreAlike}
use Rattle.store_faults.specs.Faults.{IsRefusal}
use Rattle.repo_store.specs.Index.{key_of}
use Rattle.repo_store.specs.Kept.{Kept, Mirror}
use Rattle.repo_store.specs.Rows.{first_tables_of}
use Rattle.repo_store.specs.RowRules.{AreStoreRows}
use Rattle.repo_store.specs.Shown.{Leaves, LeavesOnly, TakesOver}
use Rattle.repo_store.specs.Standing.{StandsAtTick}
use Rattle.repo_store.specs.Transactions.{Commits}
use Rattle.repo_store.specs.Unfit.{IsUnfit}

-- the rows of the database are those of the lists
abbrev pub IsFoundIn : Database → Mirror → Type 0
IsFoundIn db lists = HoldsNext lists.next db lists.kept

-- The rows of a database of version 1 are those of the lists, which have the answers in the order that a
-- migration gives them.
pub record IsFoundFirst (db : Database) (lists : Mirror) : Type 0 where
  pub holds : HoldsTables db (first_tables_of lists.kept)
  pub meta_keyed : AreKeyed (db.trees 0)
  pub obeys : AreStoreRows (first_tables_of lists.kept)
  pub fall : IsAscending (λ a b. key_cmp (key_of b) (key_of a) ≡ Less) lists.kept.answers

-- Rows are read inside a transaction, if the database has the tables of a store, whatever tables are listed
-- after them. At `Ok` they are Found in its trees, and nothing has changed. Nothing is committed, and a crash
-- leaves nothing that it couldn't leave before.
pub record AreRead {S A : Type 0} (g : Ghosts S) (old new : Held S) (result : Result A Error)
    (Found : A → Trees → Type 0) : Type 0 where
  pub rows : (more : MoreTables) → HasCleanDisk (state g new) → (state g old).now.schema ≡ store_with more
      → IfOk result (λ answer. IsUnchanged (state g old) (state g new) × Found answer (state g old).now.trees)
  pub kept : (more : MoreTables) → HasCleanDisk (state g new) → (state g old).now.schema ≡ store_with more
      → IsTrue (state g old).in_transaction → KeepsCommit (state g old) (state g new)
  pub survives : Survives (state g old) (state g new) (λ _. ⊥)

-- The lists are read in the same way, from a store whose version lists these tables, or the rows are refused.
pub record AreListed {S : Type 0} (listed : Schema) (Found : Database → Mirror → Type 0) (g : Ghosts S)
    (old new : Held S) (result : Result Mirror StoreFault) : Type 0 where
  pub found : HasCleanDisk (state g new) → (state g old).now.schema ≡ listed
      → (IsTrue (state g old).is_open → IsDatabase (state g old).now)
      → MatchResult result (Found (state g old).now) (IsUnfit (state g old).now)
  pub was_open : HasCleanDisk (state g new) → (state g old).now.schema ≡ listed
      → OnOk result (IsUnchanged (state g old) (state g new))
  pub kept : HasCleanDisk (state g new) → (state g old).now.schema ≡ listed → IsTrue (state g old).in_transaction
      → KeepsCommit (state g old) (state g new)
  pub survives : Survives (state g old) (state g new) (λ _. ⊥)

-- The same in a transaction of its own, after which the last commit is what the database holds.
pub record AreListedAlone {S : Type 0} (listed : Schema) (Found : Database → Mirror → Type 0) (g : Ghosts S)
    (old new : Held S) (result : Result Mirror StoreFault) : Type 0 where
  pub outside : new.in_transaction ≡ false
  pub found : HasCleanDisk (state g new) → (state g old).now.schema ≡ listed
      → (IsTrue (state g old).is_open → IsDatabase (state g old).now)
      → MatchResult result (Found (state g old).now) (IsUnfit (state g old).now)
  pub was_open : HasCleanDisk (state g new) → (state g old).now.schema ≡ listed
      → OnOk result (IsTrue (state g old).is_open)
  pub rests : HasCleanDisk (state g new) → (state g old).now.schema ≡ listed → Rests (state g old) (state g new)
  pub survives : Survives (state g old) (state g new) (λ _. ⊥)

-- A store of version 1 is read and migrated in one transaction. If it is refused, the last commit stays what
-- the database holds.
pub record IsTakingOver {S : Type 0} (g : Ghosts S) (old new : Held S)
    (result : Result Mirror StoreFault) : Type 0 where
  pub outside : new.in_transaction ≡ false
  pub taken : HasCleanDisk (state g new) → MatchResult result
      (λ lists. IsTakenOver (state g old).now lists.kept
      × Commits (state g new) (λ db. HoldsNext lists.next db lists.kept)) (IsUnfit (state g old).now)
  pub was_open : HasCleanDisk (state g new) → OnOk result (IsTrue (state g old).is_open)
  pub rests : OnErr result (Rests (state g old) (state g new))
  pub survives : Survives (state g old) (state g new) (TakesOver (state g old).now)

-- A store of either version is found in a database, or refused; one of version 1 is migrated. This is what
-- `open` says.
pub record IsOpening {S : Type 0} (g : Ghosts S) (old new : Held S) (result : Result Mirror StoreFault) : Type 0 where
  pub outside : new.in_transaction ≡ false
  pub stands : IfOk result (λ lists. StandsAtTick g new lists.kept lists.next)
  pub holds : IfOk result (λ lists. IsTrue (state g new).is_open
      → HoldsStore (state g old).committed lists.kept ⊎ IsTakenOver (state g old).committed lists.kept)
  pub again : IfOk result (λ lists. IsTrue (state g new).is_open → (kept : Kept)
      → Leaves kept (state g old).committed.trees → AreAlike lists.kept kept)
  pub same : OnOk result ((state g old).now.schema ≡ schema_with_uses → Rests (state g old) (state g new))
  pub refused : OnErr result (Rests (state g old) (state g new))
  pub why : IfErr result (λ fault. HasCleanDisk (state g new) → IsUnfit (state g old).now fault)
  pub left : IfErr result (λ fault. HasCleanDisk (state g new) → IsTrue (state g old).is_open → (kept : Kept)
      → Leaves kept (state g old).committed.trees → IsRefusal ⊥ ⊥ ⊥ fault)
  pub crash : Survives (state g old) (state g new) (TakesOver (state g old).now)
  pub durable : IfOk result (λ lists. LeavesOnly g new lists.kept)

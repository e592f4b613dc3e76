-- The table of version 2 of a store that is listed after the seven of version 1: how lately each cached
-- answer was used. Its statements keep the rows of all other tables, also of those that a later version lists
-- after it.
use Rattle.std.specs.Prelude.{◌≡◌, ℕ, List, [], ◌∷◌, filter, not, ◌&&◌, Result, IfOk, IsTrue}
use Rattle.std.specs.List.{AllByRecursion}
use Rattle.std.specs.Str.{bytes_eq}
use Rattle.sqlite_value.specs.declared.value.Value.TheVariants.{Int, Blob}
use Rattle.sqlite_value.specs.Order.{Row}
use Rattle.sqlite_trees.specs.declared.store.Store.{Ghosts}
use Rattle.sqlite_trees.specs.Tree.{Trees}
use Rattle.sqlite_schema.specs.declared.schema.Schema.{Schema}
use Rattle.sqlite.specs.declared.error.Error.{Error}
use Rattle.sqlite.specs.Effect.{Database, IsDatabase}
use Rattle.sqlite.specs.Held.{Held, state}
use Rattle.sqlite.specs.State.{HasCleanDisk, IsUnchanged, KeepsCommit, Survives}
use Rattle.store_tables.specs.declared.rows.UseRow.{UseRow}
use Rattle.store_tables.specs.Schema.{uses, MoreTables, store_with, store_schema, schema_with_uses, uses_then}
use Rattle.store_tables.specs.Tables.{Tables, AreKeyed, ChangesOnly, HoldsIn, Stored}

-- a row as SQL shows it
abbrev pub use_cells : UseRow → Row
use_cells row = Blob row.words ∷ Blob row.seen ∷ Int row.tick ∷ []

-- The table has these rows, in no particular order, and each has a rowid of its own.
pub record HoldsUses (trees : Trees) (rows : List UseRow) : Type 0 where
  pub stored : Stored use_cells (1 ∷ 2 ∷ 3 ∷ []) rows (trees 13)
  pub keyed : AreKeyed (trees 13)

-- the tables of version 2 are listed, and perhaps more after them
abbrev pub ListsUses : Schema → Type 0
ListsUses listed = (more : MoreTables) × (listed ≡ store_with (uses_then more))

-- the database has exactly the tables of version 2, obeys their rules, and has these rows in them
abbrev pub HoldsWithUses : Database → Tables → List UseRow → Type 0
HoldsWithUses db t rows = HoldsIn schema_with_uses db t × HoldsUses db.trees rows

-- the same, and each row of `meta` has a rowid of its own, so that it can be replaced
abbrev pub HoldsRows : Database → Tables → List UseRow → Type 0
HoldsRows db t rows = HoldsWithUses db t rows × AreKeyed (db.trees 0)

-- the database of these trees, if they list the tables of version 2
abbrev pub as_store : Trees → Database
as_store trees = record { schema = schema_with_uses; trees = trees }

-- ---- what its statements make

-- It makes this of the rows of the table, and keeps those of the seven.
abbrev pub MakesUses : (List UseRow → List UseRow) → Schema → Database → Database → Type 0
MakesUses makes listed old new =
    ListsUses listed → (t : Tables) (rows : List UseRow) → HoldsIn listed old t → HoldsUses old.trees rows
    → HoldsIn listed new t × HoldsUses new.trees (makes rows)

-- Of the listed tables only this one changes.
abbrev pub ChangesUses : Schema → Database → Database → Type 0
ChangesUses listed old new = ListsUses listed → ChangesOnly uses listed old new

abbrev pub with_use : UseRow → List UseRow → List UseRow
with_use row rows = row ∷ rows

-- a use has the key of its answer: the words of its command and the files that its child saw, by their
-- digests
abbrev pub without_use : List ℕ → List ℕ → List UseRow → List UseRow
without_use words seen rows = filter (λ row. not (bytes_eq row.words words && bytes_eq row.seen seen)) rows

abbrev pub without_uses : List UseRow → List UseRow
without_uses rows = []

-- ---- the table made after those of version 1

-- It has no rows, and the seven keep theirs.
abbrev pub MakesBareUses : Schema → Database → Database → Type 0
MakesBareUses listed old new =
    listed ≡ store_schema → (t : Tables) → HoldsIn store_schema old t
    → HoldsIn schema_with_uses new t × HoldsUses new.trees []

-- The trees of the seven are as they were.
pub record IsAddedTo (old new : Database) : Type 0 where
  pub schema : new.schema ≡ schema_with_uses
  pub sound : IsDatabase new
  pub others : AllByRecursion (λ t. new.trees t.tree ≡ old.trees t.tree) store_schema.tables
  pub bare : new.trees 13 ≡ []

abbrev pub AddsUses : Schema → Database → Database → Type 0
AddsUses listed old new = listed ≡ store_schema → IsAddedTo old new

-- ---- the table read

-- A query inside a transaction, as `IsRead` of the tables of version 2.
pub record IsReadOfUses {S A : Type 0} (g : Ghosts S) (old new : Held S) (result : Result A Error)
    (Rows : A → Trees → Type 0) : Type 0 where
  pub rows : (more : MoreTables) → HasCleanDisk (state g new) → (state g old).now.schema ≡ store_with (uses_then more)
      → IfOk result (λ answer. IsUnchanged (state g old) (state g new) × Rows answer (state g old).now.trees)
  pub kept : HasCleanDisk (state g new) → IsTrue (state g old).in_transaction → KeepsCommit (state g old) (state g new)
  pub survives : Survives (state g old) (state g new) (λ _. ⊥)

-- Why a database isn't opened as a store. What it lacks or breaks is shown, so that no other database is
-- refused for this reason.
use Rattle.std.specs.Prelude.{◌≡◌, ◌≢◌, ◌⊎◌, List, [], ◌∷◌}
use Rattle.sqlite.specs.Effect.{Database}
use Rattle.sqlite_schema.specs.declared.schema.Schema.{Schema}
use Rattle.store_tables.specs.declared.rows.MetaRow.{MetaRow}
use Rattle.store_tables.specs.declared.rows.UseRow.{UseRow}
use Rattle.store_tables.specs.Schema.{schema_with_uses, store_schema}
use Rattle.store_tables.specs.Tables.{Tables, HoldsTables, Stored, meta_cells}
use Rattle.store_tables.specs.Uses.{HoldsWithUses}
use Rattle.store_faults.specs.declared.fault.StoreFault.{StoreFault}
use Rattle.store_faults.specs.declared.fault.StoreFault.TheVariants.{NotAStore, Damaged, Sql, OutOfMemory, Collision, TooLarge, TooMany}
use Rattle.repo_store.specs.Bounded.{AreBoundedRows, AreVersionRows}
use Rattle.repo_store.specs.RowRules.{AreFirstVersionRows, AreStoreRows}

-- The database has the tables that a version lists, but `meta` holds other rows than those of that version.
pub record IsOfNoVersion (listed : Schema) (AreOfVersion : List MetaRow → Type 0) (db : Database) : Type 0 where
  pub schema : db.schema ≡ listed
  pub rows : List MetaRow
  pub stored : Stored meta_cells (1 ∷ 2 ∷ []) rows (db.trees 0)
  pub other : ¬ AreOfVersion rows

-- The database holds the tables of a store of version 1, and their rows break a rule.
pub record IsFirstDamaged (db : Database) : Type 0 where
  pub tables : Tables
  pub holds : HoldsTables db tables
  pub versioned : AreFirstVersionRows tables.meta
  pub broken : ¬ AreStoreRows tables

-- The database holds the tables of a store of version 2, and their rows break a rule.
pub record IsDamaged (db : Database) : Type 0 where
  pub tables : Tables
  pub rows : List UseRow
  pub holds : HoldsWithUses db tables rows
  pub versioned : AreVersionRows tables.meta
  pub broken : ¬ AreBoundedRows tables rows

-- A refusal of a database. It is `NotAStore` only if its tables aren't exactly those of a store of version 1
-- or 2, or if `meta` doesn't say that they are of that version. It is `Damaged` only if the database holds a
-- store whose rows break a rule. Nothing is said about when memory or the database refuses.
abbrev pub IsUnfit : Database → StoreFault → Type 0
IsUnfit db NotAStore =
    ((db.schema ≢ store_schema) × (db.schema ≢ schema_with_uses))
    ⊎ (IsOfNoVersion store_schema AreFirstVersionRows db ⊎ IsOfNoVersion schema_with_uses AreVersionRows db)
IsUnfit db Damaged = IsFirstDamaged db ⊎ IsDamaged db
IsUnfit db (Sql error) = Unit {0}
IsUnfit db OutOfMemory = Unit {0}
IsUnfit db Collision = ⊥
IsUnfit db TooLarge = ⊥
IsUnfit db TooMany = ⊥

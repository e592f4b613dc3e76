-- The seven tables of version 1 of a store, as SQLite's schema of them (docs/REFERENCE.md, "The store").
-- STRICT makes each column of a PRIMARY KEY NOT NULL, even if the statement doesn't say so, except the one
-- that is the rowid (SQLite's "STRICT Tables").
use Rattle.std.specs.Prelude.{◌≡◌, true, false, Bool, List, [], ◌∷◌, ◌++◌, ◌+◌, ℕ, map, Option, Some, None, codes}
use Rattle.std.specs.List.{AllByRecursion}
use Rattle.sqlite_value.specs.declared.value.Value.TheVariants.{Null}
use Rattle.sqlite_value.specs.declared.keys.Collation.TheVariants.{Binary}
use Rattle.sqlite_value.specs.Keys.{plain}
use Rattle.sqlite_schema.specs.declared.schema.Kind.{Kind}
use Rattle.sqlite_schema.specs.declared.schema.Kind.TheVariants.{Integer, Text, Blob}
use Rattle.sqlite_schema.specs.declared.schema.Action.TheVariants.{NoAction}
use Rattle.sqlite_schema.specs.declared.schema.Column.{Column}
use Rattle.sqlite_schema.specs.declared.schema.Reference.{Reference}
use Rattle.sqlite_schema.specs.declared.schema.Table.{Table}
use Rattle.sqlite_schema.specs.declared.schema.Index.{Index}
use Rattle.sqlite_schema.specs.declared.schema.Schema.{Schema}

-- a column of a STRICT table
abbrev pub column_of : List ℕ → Kind → Bool → Column
column_of name kind not_null =
    record { name = name; kind = kind; is_strict = true; not_null = not_null; default = Null; collation = Binary }

-- a reference to the primary key of another table, checked at once and without actions
abbrev pub refers_to : ℕ → List ℕ → Reference
refers_to place parent =
    record {
      columns = place ∷ [];
      parent = parent;
      parent_columns = [];
      on_delete = NoAction;
      on_update = NoAction;
      is_deferred = false;
    }

-- A table by its name, its b-tree, its columns, the places of its PRIMARY KEY, the keys that have an index,
-- and its references.
abbrev pub table_named : List ℕ → ℕ → List Column → Option ℕ → List ℕ → List (List ℕ) → List Reference → Table
table_named name tree columns key primary uniques references = record {
  name = name;
  tree = tree;
  columns = columns;
  key = key;
  primary = primary;
  uniques = uniques;
  orders = map (λ _. plain) uniques;
  checks = [];
  references = references;
  computed = [];
  stamps = record { places = []; terms = []; formats = [] };
  is_counted = false;
}

abbrev pub meta : Table
meta =
    table_named (codes "meta") 0 (column_of (codes "name") Text true ∷ column_of (codes "value") Integer true ∷ []) None
    (1 ∷ []) ((1 ∷ []) ∷ []) []

abbrev pub blobs : Table
blobs =
    table_named (codes "blobs") 2 (column_of (codes "digest") Blob true ∷ column_of (codes "bytes") Blob true ∷ []) None
    (1 ∷ []) ((1 ∷ []) ∷ []) []

abbrev pub staged : Table
staged =
    table_named (codes "staged") 4 (column_of (codes "path") Text true ∷ column_of (codes "mode") Integer
    true ∷ column_of (codes "digest") Blob true ∷ []) None (1 ∷ [])
    ((1 ∷ []) ∷ []) (refers_to 3 (codes "blobs") ∷ [])

abbrev pub fixes : Table
fixes =
    table_named (codes "fixes") 6 (column_of (codes "path") Text true ∷ column_of (codes "gone") Integer
    true ∷ column_of (codes "digest") Blob false ∷ []) None (1 ∷ [])
    ((1 ∷ []) ∷ []) (refers_to 3 (codes "blobs") ∷ [])

abbrev pub commits : Table
commits =
    table_named (codes "commits") 8 (column_of (codes "n") Integer false ∷ column_of (codes "message") Blob true ∷ [])
    (Some 0) (0 ∷ []) [] []

abbrev pub entries : Table
entries =
    table_named (codes "entries") 9
    (column_of (codes "n") Integer true ∷ column_of (codes "path") Text true ∷ column_of (codes "mode") Integer
    true ∷ column_of (codes "digest") Blob true ∷ []) None (1 ∷ 2 ∷ [])
    ((1 ∷ 2 ∷ []) ∷ []) (refers_to 1 (codes "commits") ∷ refers_to 4 (codes "blobs") ∷ [])

abbrev pub answers : Table
answers =
    table_named (codes "answers") 11
    (column_of (codes "words") Blob true ∷ column_of (codes "seen") Blob true ∷ column_of (codes "output") Blob
    true ∷ column_of (codes "changes") Blob true
    ∷ column_of (codes "status") Integer true ∷ []) None (1 ∷ 2 ∷ [])
    ((1 ∷ 2 ∷ []) ∷ []) (refers_to 1 (codes "blobs") ∷ refers_to 2 (codes "blobs") ∷ refers_to 3
    (codes "blobs") ∷ refers_to 4 (codes "blobs") ∷ [])

-- the index that SQLite makes for a PRIMARY KEY that isn't the rowid (SQLite's file format, section 2.6)
abbrev pub key_index : List ℕ → ℕ → List ℕ → Index
key_index name table columns =
    record {
      name = codes "sqlite_autoindex_" ++ (name ++ codes "_1");
      tree = table + 1;
      table = table;
      columns =
          columns;
      order = plain;
      is_unique = true;
    }

abbrev pub no_schema : Schema
no_schema = record { tables = []; indexes = []; views = [] }

abbrev pub store_schema : Schema
store_schema = record {
  tables = meta ∷ blobs ∷ staged ∷ fixes ∷ commits ∷ entries ∷ answers ∷ [];
  indexes =
      key_index (codes "meta") 0 (1 ∷ []) ∷ key_index (codes "blobs") 2 (1 ∷ []) ∷ key_index (codes "staged") 4
      (1 ∷ []) ∷ key_index (codes "fixes") 6 (1 ∷ [])
      ∷ key_index (codes "entries") 9 (1 ∷ 2 ∷ []) ∷ key_index (codes "answers") 11 (1 ∷ 2 ∷ []) ∷ [];
  views = [];
}

-- ---- a store with more tables, as a later version has them

-- no reference acts when a row of its parent is deleted
abbrev pub NoneActs : List Table → Type 0
NoneActs = AllByRecursion (λ t. AllByRecursion (λ (ref : Reference). ref.on_delete ≡ NoAction) t.references)

-- What is listed after the tables of a store and after their indexes.
pub record MoreTables : Type 0 where
  pub tables : List Table
  pub indexes : List Index
  pub rests : NoneActs tables

abbrev pub no_more : MoreTables
no_more = record { tables = []; indexes = []; rests = tt }

abbrev pub store_with : MoreTables → Schema
store_with more =
    record { tables = store_schema.tables ++ more.tables; indexes = store_schema.indexes ++ more.indexes; views = [] }

-- ---- the table that version 2 of a store lists after the seven

abbrev pub uses : Table
uses =
    table_named (codes "uses") 13 (column_of (codes "words") Blob true ∷ column_of (codes "seen") Blob true ∷ column_of
    (codes "tick") Integer true ∷ []) None (1 ∷ 2 ∷ [])
    ((3 ∷ []) ∷ (1 ∷ 2 ∷ []) ∷ []) []

-- the indexes that SQLite makes for its UNIQUE column and for its PRIMARY KEY, in the order of the statement
-- (SQLite's file format, section 2.6)
abbrev pub uses_indexes : List Index
uses_indexes =
    record {
      name = codes "sqlite_autoindex_uses_1";
      tree = 14;
      table = 13;
      columns = 3 ∷ [];
      order = plain;
      is_unique =
          true;
    }
    ∷ record {
      name = codes "sqlite_autoindex_uses_2";
      tree = 15;
      table = 13;
      columns = 1 ∷ 2 ∷ [];
      order = plain;
      is_unique = true;
    } ∷ []

-- the uses, and what a later version lists after them
abbrev pub uses_then : MoreTables → MoreTables
uses_then more =
    record { tables = uses ∷ more.tables; indexes = uses_indexes ++ more.indexes; rests = (tt, more.rests) }

-- the schema of version 2 of a store
abbrev pub schema_with_uses : Schema
schema_with_uses = store_with (uses_then no_more)

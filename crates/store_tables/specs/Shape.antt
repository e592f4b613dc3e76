-- For private functions of the module `schema`: parts of what a table of a store is.
use Rattle.std.specs.Prelude.{◌≡◌, ℕ, false, List, [], map, Option}
use Rattle.sqlite_value.specs.Keys.{plain}
use Rattle.sqlite_schema.specs.declared.schema.Table.{Table}

-- the table has this name and b-tree, and no rules except those of its columns, its keys and its references
pub record IsPlain (table : Table) (name : List ℕ) (tree : ℕ) : Type 0 where
  pub name_is : table.name ≡ name
  pub tree_is : table.tree ≡ tree
  pub unchecked : table.checks ≡ []
  pub uncomputed : table.computed ≡ []
  pub unstamped : table.stamps ≡ record { places = []; terms = []; formats = [] }
  pub uncounted : table.is_counted ≡ false

-- the column that is the rowid, the places of the primary key, and the keys that have an index
pub record IsKeyed (table : Table) (key : Option ℕ) (primary : List ℕ) (uniques : List (List ℕ)) : Type 0 where
  pub key_is : table.key ≡ key
  pub primary_is : table.primary ≡ primary
  pub uniques_are : table.uniques ≡ uniques
  pub orders_are : table.orders ≡ map (λ _. plain) uniques

-- What the rows of a catalog say of the schema that they list.
use Rattle.std.proofs.Common.{◌≡◌}
use Rattle.sqlite_schema.specs.declared.schema.Schema.{Schema}
use Rattle.sqlite_trees.specs.Objects.{catalog_tree}
use Rattle.sqlite_trees.specs.Tree.{Trees}
use Rattle.sqlite_catalog.specs.Listing.{IsSound}
use Rattle.store_tables.proofs.Kit.{lists_once}

-- trees obey one schema at most
pub one_schema : (trees : Trees) (s t : Schema) → IsSound s trees → IsSound t trees → s ≡ t
one_schema trees s t a b = lists_once (trees catalog_tree) s t a.lists b.lists

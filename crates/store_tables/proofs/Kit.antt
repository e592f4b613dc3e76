-- What the proofs of this crate use of the kit's own lemmas. No contract of the kit promises these, so that another kit may
-- lack them or state them otherwise.

-- what a statement that is compiled does to the tables
pub use Rattle.sqlite.proofs.Callers.{IsPlain, command_of, one_step, reads_as, runs_as, statement_of}
-- what a transaction keeps until it ends
pub use Rattle.sqlite.proofs.InsideLemmas.{inside_keeps, keeps_then, unchanged_keeps}
-- what survives a call survives it and another one; what follows from it survives too
pub use Rattle.sqlite.proofs.StateLemmas.{survives_then}
-- the catalog lists each table once
pub use Rattle.sqlite_catalog.proofs.ReadLemmas.{lists_once}
-- lists of rows that are filtered, mapped or in order
pub use Rattle.sqlite_keyed.proofs.ListLemmas.{IsPermutation-filter, all-append, all_both, all_of, all_weaker, along_permutation, ascending-append, ascending-filter, ascending-map, ascending_from_map, ascending_weaker, filter-map, filter_as_flat_map, map-flat_map, map-map}
-- which rows a list has after a filter or a change
pub use Rattle.sqlite_rules.proofs.ListLemmas.{all_has, contains_had, has_contained, has_filtered, has_kept, some_from, some_has, test_from, test_has}
-- a row of a list that is mapped is found
pub use Rattle.sqlite_rules.proofs.ProbeLemmas.{has_mapped}
-- which rows a table has after one is put
pub use Rattle.sqlite_rules.proofs.TableLemmas.{int_is, put_has}
-- what holds of all rows holds after one is put
pub use Rattle.sqlite_trees.proofs.TreeLemmas.{all-put_row}
-- how SQL orders two values of one type
pub use Rattle.sqlite_value.proofs.OrderLemmas.{value_cmp-Blob, value_cmp-Int, value_cmp-Text, value_cmp_total}

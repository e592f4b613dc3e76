-- What the proofs of this crate use of the kit's own lemmas. No contract of the kit promises these, so that another kit may
-- lack them or state them otherwise.

-- a digest has 32 bytes
pub use Rattle.sha2.proofs.Facts256.{length-sha256}
-- what a statement that is compiled does to the tables
pub use Rattle.sqlite.proofs.Callers.{one_permutation}
-- what a transaction keeps until it ends
pub use Rattle.sqlite.proofs.InsideLemmas.{keeps_then}
-- what survives a call survives it and another one; what follows from it survives too
pub use Rattle.sqlite.proofs.StateLemmas.{survives_then, survives_weaker}
-- lists of rows that are filtered, mapped or in order
pub use Rattle.sqlite_keyed.proofs.ListLemmas.{IsPermutation-filter, all-append, ascending-append, ascending_from_map, filter_all, filter_none}
-- a sorted list without doubles is the only one
pub use Rattle.sqlite_keyed.proofs.SortLemmas.{sorted_unique}
-- which rows a list has after a filter or a change
pub use Rattle.sqlite_rules.proofs.ListLemmas.{contains_had}
-- a tree without doubt
pub use Rattle.sqlite_trees.proofs.Doubt.{no_doubt}

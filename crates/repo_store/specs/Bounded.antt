-- What a store holds: a repository, and the cached answers as a list with a limit, the most recently used
-- first (docs/REFERENCE.md, "The store").
use Rattle.std.specs.Prelude.{◌≡◌, ◌⊎◌, ℕ, ◌+◌, ◌≤◌, ℤ, pos, List, [], ◌∷◌, length, map, IsPermutation}
use Rattle.std.specs.List.{AllByRecursion}
use Rattle.std.specs.Ordering.{match_ordering}
use Rattle.std.specs.declared.cmp.Ordering.{Ordering}
use Rattle.std.specs.declared.cmp.Ordering.TheVariants.{Less, Greater}
use Rattle.sqlite.specs.Effect.{Database}
use Rattle.sqlite_trees.specs.Tree.{IsAscending}
use Rattle.hook_base.specs.Rising.{path_cmp}
use Rattle.store_tables.specs.declared.rows.AnswerRow.{AnswerRow}
use Rattle.store_tables.specs.declared.rows.MetaRow.{MetaRow}
use Rattle.store_tables.specs.declared.rows.UseRow.{UseRow}
use Rattle.store_tables.specs.Tables.{Tables, HoldsTables}
use Rattle.store_tables.specs.Uses.{HoldsRows}
use Rattle.repo_store.specs.Answers.{KeptAnswer}
use Rattle.repo_store.specs.Index.{Key, key_of}
use Rattle.repo_store.specs.Kept.{Kept}
use Rattle.store_faults.specs.Limits.{IsLimit, first_limit}
use Rattle.repo_store.specs.RowRules.{AreStoreRows}
use Rattle.repo_store.specs.Rows.{first_tables_of, limit_row, tables_of, version_row}
use Rattle.repo_store.specs.UsedAnswers.{within_limit}
use Rattle.repo_store.specs.UsesOf.{AreUsesOf, greatest_tick}

-- The database has these rows, and its uses give the answers in this order. The next use gets the tick
-- `next`.
pub record HoldsListed (next : ℕ) (answers : List KeptAnswer) (db : Database) (t : Tables) : Type 0 where
  pub rows : List UseRow
  pub holds : HoldsRows db t rows
  pub uses : AreUsesOf next rows answers

-- the database is a store that keeps this
abbrev pub HoldsNext : ℕ → Database → Kept → Type 0
HoldsNext next db kept = HoldsListed next kept.answers db (tables_of kept)

-- The same with some next tick, which is at most one past the greatest.
pub record HoldsStore (db : Database) (kept : Kept) : Type 0 where
  pub next : ℕ
  pub first : 1 ≤ next
  pub last : next ≤ greatest_tick + 1
  pub holds : HoldsNext next db kept

-- ---- the rules that its rows obey

-- The rows of `meta`, in any order, say that the store is of version 2, and nothing else except perhaps its
-- limit.
abbrev pub AreVersionRows : List MetaRow → Type 0
AreVersionRows rows =
    IsPermutation rows (version_row ∷ []) ⊎ ((limit : ℤ) × IsPermutation rows (version_row ∷ limit_row limit ∷ []))

pub record IsTick (number : ℤ) : Type 0 where
  pub tick : ℕ
  pub is : number ≡ pos tick
  pub first : 1 ≤ tick
  pub last : tick ≤ greatest_tick

abbrev pub key_of_answer : AnswerRow → Key
key_of_answer row = (row.words, row.seen)

abbrev pub key_of_use : UseRow → Key
key_of_use row = (row.words, row.seen)

-- The rows, with those of the uses, are those of a store.
pub record AreBoundedRows (t : Tables) (rows : List UseRow) : Type 0 where
  pub store : AreStoreRows t
  -- there is a limit within its range
  pub limit : ℕ
  pub limited : IsPermutation t.meta (version_row ∷ limit_row (pos limit) ∷ [])
  pub within : IsLimit limit
  -- there are no more answers than the limit
  pub few : length t.answers ≤ limit
  -- each answer has a use, and each use an answer
  pub keys : IsPermutation (map key_of_use rows) (map key_of_answer t.answers)
  -- each tick is in its range; that no two are equal is a rule of the table
  pub ticks : AllByRecursion (λ (row : UseRow). IsTick row.tick) rows

-- ---- what becomes of a store of version 1 (docs/REFERENCE.md, "A store of version 1")

abbrev pub key_cmp : Key → Key → Ordering
key_cmp a b = match_ordering (path_cmp a.0 b.0) Less (path_cmp a.1 b.1) Greater

-- Of the answers those with the greatest keys come first, and no more are left than a new store may have.
pub record IsMigrated (answers migrated : List KeptAnswer) : Type 0 where
  pub all : List KeptAnswer
  pub moved : IsPermutation answers all
  pub fall : IsAscending (λ a b. key_cmp (key_of b) (key_of a) ≡ Less) all
  pub first : migrated ≡ within_limit first_limit all

-- The database is a store of version 1, and migrating it makes one that keeps this.
pub record IsTakenOver (db : Database) (kept : Kept) : Type 0 where
  pub first : Kept
  pub holds : HoldsTables db (first_tables_of first)
  pub obeys : AreStoreRows (first_tables_of first)
  pub repo : kept.repo ≡ first.repo
  pub contents : kept.contents ≡ first.contents
  pub answers : IsMigrated first.answers kept.answers
  pub limit : kept.limit ≡ first_limit

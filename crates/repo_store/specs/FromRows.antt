-- For private functions of the modules `from_rows` and `table_rows`: the rows that were read, as tables, and
-- what added files make of the commits.
use Rattle.std.specs.Prelude.{◌≡◌, ◌≤◌, ℕ, zero, suc, ℤ, pos, negsuc, true, List, [], ◌∷◌, ◌++◌, length, map, Option, None, Some, IsPermutation}
use Rattle.std.specs.declared.cmp.Ordering.TheVariants.{Less}
use Rattle.std.specs.List.{AllByRecursion}
use Rattle.hook_base.specs.declared.file.File.{File}
use Rattle.hook_base.specs.Trees.{IsRising}
use Rattle.store_tables.specs.declared.rows.AnswerRow.{AnswerRow}
use Rattle.store_tables.specs.declared.rows.EntryRow.{EntryRow}
use Rattle.store_tables.specs.declared.rows.MetaRow.{MetaRow}
use Rattle.store_tables.specs.declared.rows.UseRow.{UseRow}
use Rattle.store_tables.specs.Tables.{Tables, Stored, AreKeyed, meta_cells, blob_cells, staged_cells, fix_cells, commit_cells, entry_cells, answer_cells}
use Rattle.sqlite_trees.specs.Tree.{Trees}
use Rattle.sqlite_rules.specs.Edit.{have_rowids}
use Rattle.store_faults.specs.declared.fault.StoreFault.{StoreFault}
use Rattle.store_faults.specs.declared.fault.StoreFault.TheVariants.{NotAStore, Damaged, Sql, OutOfMemory, Collision, TooLarge, TooMany}
use Rattle.repo_store.specs.declared.table_rows.StoreRows.{StoreRows}
use Rattle.repo_store.specs.declared.table_rows.TableRows.{TableRows}
use Rattle.repo_store.specs.Repository.{Commit}
use Rattle.repo_store.specs.Kept.{Kept}
use Rattle.repo_store.specs.Rows.{commit_rows, entry_rows, limit_row, tables_of, version_row}
use Rattle.repo_store.specs.Answers.{KeptAnswer}
use Rattle.repo_store.specs.Bounded.{IsTick, key_cmp, key_of_answer, key_of_use}
use Rattle.repo_store.specs.Index.{key_of}
use Rattle.store_faults.specs.Limits.{IsLimit}
use Rattle.repo_store.specs.RowRules.{AreStoreRows}

-- the tables of a store with these rows and these of `meta`
abbrev pub tables_of_rows : List MetaRow → StoreRows → Tables
tables_of_rows meta rows = record {
  meta = meta;
  blobs = rows.blobs.items;
  staged = rows.staged.items;
  fixes = rows.fixes.items;
  commits = rows.commits.items;
  entries = rows.entries.items;
  answers = rows.answers.items;
}

-- all that a database with these tables has in its trees, except `meta`
pub record AreShown (rows : StoreRows) (trees : Trees) : Type 0 where
  pub blobs : Stored blob_cells (1 ∷ 2 ∷ []) rows.blobs.items (trees 2)
  pub staged : Stored staged_cells (1 ∷ 2 ∷ 3 ∷ []) rows.staged.items (trees 4)
  pub staged_keyed : AreKeyed (trees 4)
  pub fixes : Stored fix_cells (1 ∷ 2 ∷ 3 ∷ []) rows.fixes.items (trees 6)
  pub fixes_numbered : have_rowids (trees 6) ≡ true
  pub commits : Stored commit_cells (0 ∷ 2 ∷ []) rows.commits.items (trees 8)
  pub entries : Stored entry_cells (1 ∷ 2 ∷ 3 ∷ 4 ∷ []) rows.entries.items (trees 9)
  pub answers : Stored answer_cells (1 ∷ 2 ∷ 3 ∷ 4 ∷ 5 ∷ []) rows.answers.items (trees 11)
  pub answers_keyed : AreKeyed (trees 11)

-- all that it has in them, with `meta`
pub record AreTablesShown (rows : TableRows) (trees : Trees) : Type 0 where
  pub meta : Stored meta_cells (1 ∷ 2 ∷ []) rows.meta.items (trees 0)
  pub meta_keyed : AreKeyed (trees 0)
  pub store : AreShown rows.store trees

-- the tables of what is kept, with these rows of `meta`
abbrev pub tables_with : List MetaRow → Kept → Tables
tables_with meta kept = record (tables_of kept) { meta = meta }

-- no commit has a file
abbrev pub AreBare : List Commit → Type 0
AreBare = AllByRecursion (λ (commit : Commit). commit.tree ≡ [])

-- the commits with one file more, as the last of the commit at this index
abbrev pub with_file : ℕ → File → List Commit → List Commit
with_file place file [] = []
with_file zero file (commit ∷ more) = record commit { tree = commit.tree ++ file ∷ [] } ∷ more
with_file (suc place) file (commit ∷ more) = commit ∷ with_file place file more

-- Commits that had no files have those of the rows, in the order of their paths.
pub record AreEntered (old new : List Commit) (rows : List EntryRow) : Type 0 where
  pub commits : commit_rows 1 new ≡ commit_rows 1 old
  pub entries : IsPermutation (entry_rows 1 new) rows
  pub rising : AllByRecursion (λ (commit : Commit). IsRising commit.tree) new

-- the same rows in each table, in any order
pub record IsSame (t u : Tables) : Type 0 where
  pub meta : IsPermutation t.meta u.meta
  pub blobs : IsPermutation t.blobs u.blobs
  pub staged : IsPermutation t.staged u.staged
  pub fixes : IsPermutation t.fixes u.fixes
  pub commits : IsPermutation t.commits u.commits
  pub entries : IsPermutation t.entries u.entries
  pub answers : IsPermutation t.answers u.answers

-- ---- the limit, and the uses

-- The rows of `meta` give a limit within its range.
pub record HasLimit (rows : List MetaRow) : Type 0 where
  pub limit : ℕ
  pub limited : IsPermutation rows (version_row ∷ limit_row (pos limit) ∷ [])
  pub within : IsLimit limit

-- Each use has an answer, and each answer a use, with a tick in its range.
pub record AreUsesFor (rows : List UseRow) (answers : List KeptAnswer) : Type 0 where
  pub keys : IsPermutation (map key_of_use rows) (map key_of answers)
  pub ticks : AllByRecursion (λ (row : UseRow). IsTick row.tick) rows

-- the tick of a number, and 0 for a negative one
abbrev pub tick_in : ℤ → ℕ
tick_in (pos n) = n
tick_in (negsuc n) = 0

abbrev pub tick_of : UseRow → ℕ
tick_of row = tick_in row.tick

-- no tick is negative
abbrev pub HaveTicks : List UseRow → Type 0
HaveTicks rows = AllByRecursion (λ (row : UseRow). row.tick ≡ pos (tick_of row)) rows

-- There are no more answers than before. If there are as many, they are the same in some order.
pub record AreMoved (old new : List KeptAnswer) : Type 0 where
  pub fewer : length new ≤ length old
  pub moved : length new ≡ length old → IsPermutation new old

-- ---- the order of the answers

-- the key of the first row comes before that of the second
abbrev pub IsKeyBelow : AnswerRow → AnswerRow → Type 0
IsKeyBelow row later = key_cmp (key_of_answer row) (key_of_answer later) ≡ Less

-- the key of the row comes after that of the last, if there is one
abbrev pub FollowsKey : Option AnswerRow → AnswerRow → Type 0
FollowsKey None row = Unit {0}
FollowsKey (Some last) row = IsKeyBelow last row

-- ---- which rows are refused

-- The rows, except those of `meta`, are those of a store with this limit.
pub record AreRowsWithin (limit : ℕ) (rows : StoreRows) (uses : List UseRow) : Type 0 where
  pub store : AreStoreRows (tables_of_rows [] rows)
  pub few : length rows.answers.items ≤ limit
  pub keys : IsPermutation (map key_of_use uses) (map key_of_answer rows.answers.items)
  pub ticks : AllByRecursion (λ (row : UseRow). IsTick row.tick) uses

-- A refusal of rows. It is `NotAStore` only if they aren't of the version, and `Damaged` only if they are and
-- break a rule. Nothing is said about when memory or the database refuses.
abbrev pub AreRowsRefused : Type 0 → Type 0 → StoreFault → Type 0
AreRowsRefused versioned obeys NotAStore = ¬ versioned
AreRowsRefused versioned obeys Damaged = versioned × (¬ obeys)
AreRowsRefused versioned obeys (Sql error) = Unit {0}
AreRowsRefused versioned obeys OutOfMemory = Unit {0}
AreRowsRefused versioned obeys Collision = ⊥
AreRowsRefused versioned obeys TooLarge = ⊥
AreRowsRefused versioned obeys TooMany = ⊥

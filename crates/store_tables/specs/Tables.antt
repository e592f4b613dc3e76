-- What the b-trees of a database hold, table by table.
use Rattle.std.specs.Prelude.{◌≡◌, ◌≢◌, ◌<◌, ℕ, Bool, true, false, not, ◌&&◌, List, [], ◌∷◌, map, filter, take, pos, Option, None, Some, IsPermutation}
use Rattle.std.specs.Borrow.{Bor}
use Rattle.std.specs.Ordering.{is_eq}
use Rattle.std.specs.Str.{bytes_eq}
use Rattle.sqlite_value.specs.declared.value.Value.TheVariants.{Int, Text, Blob}
use Rattle.sqlite_value.specs.Order.{Row, column, value_cmp}
use Rattle.sqlite_trees.specs.Tree.{Trees, rowid, IsAscending}
use Rattle.sqlite_rules.specs.Edit.{have_rowids}
use Rattle.sqlite.specs.Effect.{Database, IsDatabase}
use Rattle.sqlite.specs.Values.{or_null}
use Rattle.store_tables.specs.declared.rows.MetaRow.{MetaRow}
use Rattle.store_tables.specs.declared.rows.BlobRow.{BlobRow}
use Rattle.store_tables.specs.declared.rows.StagedRow.{StagedRow}
use Rattle.store_tables.specs.declared.rows.FixRow.{FixRow}
use Rattle.store_tables.specs.declared.rows.CommitRow.{CommitRow}
use Rattle.store_tables.specs.declared.rows.EntryRow.{EntryRow}
use Rattle.store_tables.specs.declared.rows.AnswerRow.{AnswerRow}
use Rattle.sqlite_schema.specs.declared.schema.Schema.{Schema}
use Rattle.sqlite_schema.specs.declared.schema.Table.{Table}
use Rattle.std.specs.List.{AllByRecursion}
use Rattle.store_tables.specs.Schema.{store_schema}

-- ---- a row as SQL shows it

abbrev pub meta_cells : MetaRow → Row
meta_cells row = Text row.name ∷ Int row.value ∷ []

abbrev pub blob_cells : BlobRow → Row
blob_cells row = Blob row.digest ∷ Blob row.bytes ∷ []

abbrev pub staged_cells : StagedRow → Row
staged_cells row = Text row.path ∷ Int row.mode ∷ Blob row.digest ∷ []

abbrev pub fix_cells : FixRow → Row
fix_cells row = Text row.path ∷ Int row.gone ∷ or_null Blob row.digest ∷ []

abbrev pub commit_cells : CommitRow → Row
commit_cells row = Int row.n ∷ Blob row.message ∷ []

abbrev pub entry_cells : EntryRow → Row
entry_cells row = Int row.n ∷ Text row.path ∷ Int row.mode ∷ Blob row.digest ∷ []

abbrev pub answer_cells : AnswerRow → Row
answer_cells row = Blob row.words ∷ Blob row.seen ∷ Blob row.output ∷ Blob row.changes ∷ Int row.status ∷ []

-- ---- the tables

-- The rows of each table, in no particular order.
pub record Tables : Type 0 where
  pub meta : List MetaRow
  pub blobs : List BlobRow
  pub staged : List StagedRow
  pub fixes : List FixRow
  pub commits : List CommitRow
  pub entries : List EntryRow
  pub answers : List AnswerRow

abbrev pub no_rows : Tables
no_rows = record { meta = []; blobs = []; staged = []; fixes = []; commits = []; entries = []; answers = [] }

-- the columns at these places of all rows are these rows, in some order
abbrev pub Stored : {X : Type 0} → (X → Row) → List ℕ → List X → List Row → Type 0
Stored cells places xs rows = IsPermutation (map cells xs) (map (λ r. map (column r) places) rows)

abbrev pub have_one_rowid : Row → Row → Bool
have_one_rowid a b = is_eq (value_cmp (rowid a) (rowid b))

-- no rowid comes twice
abbrev pub HaveDistinctRowids : List Row → Type 0
HaveDistinctRowids = IsAscending (λ a b. have_one_rowid a b ≡ false)

-- Each row has a rowid of its own, by which it can be removed.
pub record AreKeyed (rows : List Row) : Type 0 where
  pub numbered : have_rowids rows ≡ true
  pub apart : HaveDistinctRowids rows

-- The database has the listed tables, obeys their rules, and has these rows in the tables of a store. A later
-- version of a store lists more tables.
pub record HoldsIn (listed : Schema) (db : Database) (t : Tables) : Type 0 where
  pub schema : db.schema ≡ listed
  pub sound : IsDatabase db
  pub meta : Stored meta_cells (1 ∷ 2 ∷ []) t.meta (db.trees 0)
  pub blobs : Stored blob_cells (1 ∷ 2 ∷ []) t.blobs (db.trees 2)
  pub staged : Stored staged_cells (1 ∷ 2 ∷ 3 ∷ []) t.staged (db.trees 4)
  pub staged_keyed : AreKeyed (db.trees 4)
  pub fixes : Stored fix_cells (1 ∷ 2 ∷ 3 ∷ []) t.fixes (db.trees 6)
  pub fixes_numbered : have_rowids (db.trees 6) ≡ true
  pub commits : Stored commit_cells (0 ∷ 2 ∷ []) t.commits (db.trees 8)
  pub entries : Stored entry_cells (1 ∷ 2 ∷ 3 ∷ 4 ∷ []) t.entries (db.trees 9)
  pub answers : Stored answer_cells (1 ∷ 2 ∷ 3 ∷ 4 ∷ 5 ∷ []) t.answers (db.trees 11)
  pub answers_keyed : AreKeyed (db.trees 11)

-- the database has exactly the tables of a store, obeys their rules, and has these rows in them
abbrev pub HoldsTables : Database → Tables → Type 0
HoldsTables = HoldsIn store_schema

-- the database of these trees, if they list the tables of a store
abbrev pub with_schema : Trees → Database
with_schema trees = record { schema = store_schema; trees = trees }

-- ---- what a statement leaves as it was

-- the trees of all listed tables except one are as they were
abbrev pub KeepsOthers : Schema → ℕ → Trees → Trees → Type 0
KeepsOthers listed own old new = AllByRecursion (λ t. t.tree ≢ own → new t.tree ≡ old t.tree) listed.tables

-- Of the listed tables only this one changes: the same are listed, and all others have the rows that they
-- had. If each of its own rows had a rowid of its own, each still has.
pub record ChangesOnly (own : Table) (listed : Schema) (old new : Database) : Type 0 where
  pub schema : new.schema ≡ listed
  pub others : KeepsOthers listed own.tree old.trees new.trees
  pub keyed : AreKeyed (old.trees own.tree) → AreKeyed (new.trees own.tree)

-- the greatest tree of the tables of a store and of their indexes
abbrev pub greatest_tree : ℕ
greatest_tree = 12

-- The same tables are listed, and the trees after those of the tables of a store are as they were. If each
-- row of `meta` had a rowid of its own, each still has.
pub record KeepsMore (listed : Schema) (old new : Database) : Type 0 where
  pub schema : new.schema ≡ listed
  pub trees : AllByRecursion (λ t. greatest_tree < t.tree → new.trees t.tree ≡ old.trees t.tree) listed.tables
  pub meta_keyed : AreKeyed (old.trees 0) → AreKeyed (new.trees 0)

abbrev pub ChangesNothing : Schema → Database → Database → Type 0
ChangesNothing listed old new = new ≡ old

-- ---- what the statements make of the tables

-- It makes this of the tables of a store, if each row of the one that it changes has a rowid of its own.
abbrev pub MakesIfKeyed : Table → (Tables → Tables) → Schema → Database → Database → Type 0
MakesIfKeyed own makes listed old new =
    (t : Tables) → HoldsIn listed old t → AreKeyed (old.trees own.tree) → HoldsIn listed new (makes t)

abbrev pub with_meta : MetaRow → Tables → Tables
with_meta row t = record t { meta = row ∷ t.meta }

abbrev pub without_meta : List ℕ → Tables → Tables
without_meta name t = record t { meta = filter (λ row. not (bytes_eq row.name name)) t.meta }

-- the row in place of the one of its name, if there is one
abbrev pub with_new_meta : MetaRow → Tables → Tables
with_new_meta row t = with_meta row (without_meta row.name t)

abbrev pub with_blob : BlobRow → Tables → Tables
with_blob row t = record t { blobs = row ∷ t.blobs }

abbrev pub with_staged : StagedRow → Tables → Tables
with_staged row t = record t { staged = row ∷ t.staged }

abbrev pub without_staged : List ℕ → Tables → Tables
without_staged path t = record t { staged = filter (λ row. not (bytes_eq row.path path)) t.staged }

abbrev pub without_all_staged : Tables → Tables
without_all_staged t = record t { staged = [] }

-- the fix of a path: the digest of its new contents, or none if the file is gone
abbrev pub fix_row_of_digest : List ℕ → Option (Bor (List ℕ)) → FixRow
fix_row_of_digest path None = record { path = path; gone = pos 1; digest = None }
fix_row_of_digest path (Some digest) = record { path = path; gone = pos 0; digest = Some digest.now }

abbrev pub with_fix : FixRow → Tables → Tables
with_fix row t = record t { fixes = row ∷ t.fixes }

abbrev pub without_fixes : Tables → Tables
without_fixes t = record t { fixes = [] }

abbrev pub with_commit : CommitRow → Tables → Tables
with_commit row t = record t { commits = row ∷ t.commits }

abbrev pub with_entry : EntryRow → Tables → Tables
with_entry row t = record t { entries = row ∷ t.entries }

abbrev pub with_answer : AnswerRow → Tables → Tables
with_answer row t = record t { answers = row ∷ t.answers }

-- an answer's key is the words of its command and the files that its child saw, by their digests
abbrev pub without_answer : List ℕ → List ℕ → Tables → Tables
without_answer words seen t =
    record t { answers = filter (λ row. not (bytes_eq row.words words && bytes_eq row.seen seen)) t.answers }

abbrev pub without_answers : Tables → Tables
without_answers t = record t { answers = [] }

-- the database has these tables, with no row in them
pub record IsBare (schema : Schema) (db : Database) : Type 0 where
  pub schema_is : db.schema ≡ schema
  pub sound : IsDatabase db
  pub empty : AllByRecursion (λ t. db.trees t.tree ≡ []) schema.tables

-- the first of the store's tables, and of their indexes
abbrev pub first_tables : ℕ → ℕ → Schema
first_tables tables indexes =
    record { tables = take tables store_schema.tables; indexes = take indexes store_schema.indexes; views = [] }

-- exactly the tables of a store, without any rows
abbrev pub IsEmptyStore : Database → Type 0
IsEmptyStore db = IsBare store_schema db × HoldsTables db no_rows

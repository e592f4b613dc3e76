-- The order of the rows in a table says nothing.
use Rattle.std.proofs.Common.{ℕ, List, ◌∷◌, [], Result, IsPermutation}
use Rattle.std.proofs.lemmas.Result.{on_ok_weaker}
use Rattle.std.proofs.lemmas.List.Sorted.{IsPermutation-refl, IsPermutation-map, IsPermutation-sym, IsPermutation-trans}
use Rattle.sqlite_value.specs.Order.{Row}
use Rattle.sqlite_trees.specs.declared.store.Store.{Ghosts}
use Rattle.sqlite.specs.declared.error.Error.{Error}
use Rattle.sqlite.specs.Effect.{Database}
use Rattle.sqlite.specs.Held.{Held, state}
use Rattle.store_tables.specs.declared.rows.BlobRow.{BlobRow}
use Rattle.store_tables.specs.declared.rows.StagedRow.{StagedRow}
use Rattle.store_tables.specs.declared.rows.FixRow.{FixRow}
use Rattle.store_tables.specs.declared.rows.EntryRow.{EntryRow}
use Rattle.sqlite_schema.specs.declared.schema.Schema.{Schema}
use Rattle.store_tables.specs.Steps.{IsStep, IsStatementDone}
use Rattle.store_tables.specs.Tables.{Tables, HoldsIn, Stored, meta_cells, blob_cells, staged_cells, fix_cells, commit_cells, entry_cells, answer_cells}
pub use Rattle.repo_store.specs.FromRows.{IsSame}

pub same_itself : (t : Tables) → IsSame t t
same_itself t = record {
  meta = IsPermutation-refl t.meta;
  blobs = IsPermutation-refl t.blobs;
  staged = IsPermutation-refl t.staged;
  fixes = IsPermutation-refl t.fixes;
  commits = IsPermutation-refl t.commits;
  entries = IsPermutation-refl t.entries;
  answers = IsPermutation-refl t.answers;
}

pub same_blobs : (t : Tables) (blobs : List BlobRow) → IsPermutation t.blobs blobs → IsSame t (record t { blobs = blobs })
same_blobs t blobs same = record {
  meta = IsPermutation-refl t.meta;
  blobs = same;
  staged = IsPermutation-refl t.staged;
  fixes = IsPermutation-refl t.fixes;
  commits = IsPermutation-refl t.commits;
  entries = IsPermutation-refl t.entries;
  answers = IsPermutation-refl t.answers;
}

pub same_entries : (t : Tables) (entries : List EntryRow) → IsPermutation t.entries entries → IsSame t (record t { entries = entries })
same_entries t entries same = record {
  meta = IsPermutation-refl t.meta;
  blobs = IsPermutation-refl t.blobs;
  staged = IsPermutation-refl t.staged;
  fixes = IsPermutation-refl t.fixes;
  commits = IsPermutation-refl t.commits;
  entries = same;
  answers = IsPermutation-refl t.answers;
}

pub same_fixes : (t : Tables) (fixes : List FixRow) → IsPermutation t.fixes fixes → IsSame t (record t { fixes = fixes })
same_fixes t fixes same = record {
  meta = IsPermutation-refl t.meta;
  blobs = IsPermutation-refl t.blobs;
  staged = IsPermutation-refl t.staged;
  fixes = same;
  commits = IsPermutation-refl t.commits;
  entries = IsPermutation-refl t.entries;
  answers = IsPermutation-refl t.answers;
}

pub same_staged : (t : Tables) (staged : List StagedRow) → IsPermutation t.staged staged → IsSame t (record t { staged = staged })
same_staged t staged same = record {
  meta = IsPermutation-refl t.meta;
  blobs = IsPermutation-refl t.blobs;
  staged = same;
  fixes = IsPermutation-refl t.fixes;
  commits = IsPermutation-refl t.commits;
  entries = IsPermutation-refl t.entries;
  answers = IsPermutation-refl t.answers;
}

restored : {X : Type 0} (cells : X → Row) (places : List ℕ) (xs ys : List X) (rows : List Row) → IsPermutation xs ys → Stored cells places xs rows → Stored cells places ys rows
restored cells places xs ys rows same stored = IsPermutation-trans _ _ _ (IsPermutation-map cells ys xs (IsPermutation-sym xs ys same)) stored

pub holds_same : {listed : Schema} (db : Database) (t u : Tables) → IsSame t u → HoldsIn listed db t → HoldsIn listed db u
holds_same db t u same h = record {
  schema = h.schema;
  sound = h.sound;
  meta = restored meta_cells (1 ∷ 2 ∷ []) t.meta u.meta (db.trees 0) same.meta h.meta;
  blobs = restored blob_cells (1 ∷ 2 ∷ []) t.blobs u.blobs (db.trees 2) same.blobs h.blobs;
  staged = restored staged_cells (1 ∷ 2 ∷ 3 ∷ []) t.staged u.staged (db.trees 4) same.staged h.staged;
  staged_keyed = h.staged_keyed;
  fixes = restored fix_cells (1 ∷ 2 ∷ 3 ∷ []) t.fixes u.fixes (db.trees 6) same.fixes h.fixes;
  fixes_numbered = h.fixes_numbered;
  commits = restored commit_cells (0 ∷ 2 ∷ []) t.commits u.commits (db.trees 8) same.commits h.commits;
  entries = restored entry_cells (1 ∷ 2 ∷ 3 ∷ 4 ∷ []) t.entries u.entries (db.trees 9) same.entries h.entries;
  answers = restored answer_cells (1 ∷ 2 ∷ 3 ∷ 4 ∷ 5 ∷ []) t.answers u.answers (db.trees 11) same.answers h.answers;
  answers_keyed = h.answers_keyed;
}

-- a step, told by rows in another order
pub step_same : {S A : Type 0} (g : Ghosts S) (old new : Held S) (r : Result A Error) (first second : Tables → Tables) → ((t : Tables) → IsSame (first t) (second t)) → IsStep g old new r first
    → IsStep g old new r second
step_same g old new r first second same h = record {
  done =
      λ clean inside. on_ok_weaker r (λ (d : IsStatementDone (state g old) (state g new) first).
      record { shown = d.shown; holds = λ more t before. holds_same (state g new).now (first t) (second t) (same t) (d.holds more t before); keeps = d.keeps }) (h.done clean inside);
  kept = h.kept;
  survives = h.survives;
}

-- Reads of tables in turn.
use Rattle.std.proofs.Common.{◌≡◌, Result, Ok, Err, subst, ap, ◌∙◌, arith}
use Rattle.sqlite_trees.specs.declared.store.Store.{Ghosts}
use Rattle.sqlite_trees.specs.Tree.{Trees}
use Rattle.sqlite.specs.declared.error.Error.{Error}
use Rattle.sqlite.specs.Effect.{Database}
use Rattle.sqlite_schema.specs.declared.schema.Schema.{Schema}
use Rattle.sqlite.specs.Held.{Held, state}
use Rattle.sqlite.specs.State.{State, HasCleanDisk, IsUnchanged, KeepsCommit, Survives}
use Rattle.repo_store.proofs.Kit.{keeps_then, survives_then}
use Rattle.store_tables.specs.Schema.{MoreTables, store_with}
use Rattle.store_tables.specs.Steps.{IsRead}
use Rattle.repo_store.specs.Opening.{AreRead}

pub unchanged_then : (a b c : State) → IsUnchanged a b → IsUnchanged b c → IsUnchanged a c
unchanged_then a b c one two = (
  record { was_open = one.0.was_open; is_open = two.0.is_open; now_is = two.0.now_is ∙ one.0.now_is; committed_is = two.0.committed_is ∙ one.0.committed_is; mode = two.0.mode ∙ one.0.mode },
  record { changes = two.1.changes ∙ one.1.changes; last_rowid = two.1.last_rowid ∙ one.1.last_rowid },
  two.2 ∙ one.2,
)

pub unchanged_kept : (a b : State) → IsUnchanged a b → KeepsCommit a b
unchanged_kept a b one = record { was_open = λ _. one.0.was_open; committed = λ _. one.0.committed_is }

-- some tables are read, and of the trees P is known
pub record Reached {S : Type 0} (g : Ghosts S) (a b : Held S) (P : Trees → Type 0) : Type 0 where
  pub same : (more : MoreTables) → HasCleanDisk (state g b) → (state g a).now.schema ≡ store_with more → IsUnchanged (state g a) (state g b) × P (state g a).now.trees
  pub survives : Survives (state g a) (state g b) (λ _. ⊥)

pub first_read : {S X : Type 0} (g : Ghosts S) (a b : Held S) (x : X) (Rows : X → Trees → Type 0) → IsRead g a b (Ok x) Rows → Reached g a b (Rows x)
first_read g a b x Rows one = record { same = λ more clean ours. one.rows more clean ours; survives = one.survives }

module _ {S : Type 0} (g : Ghosts S) (a b c : Held S) (P : Trees → Type 0) (so_far : Reached g a b P) where
  clean_before : Survives (state g b) (state g c) (λ _. ⊥) → HasCleanDisk (state g c) → HasCleanDisk (state g b)
  clean_before more clean = omega (arith, more.clean)

  still_ours : (listed : Schema) → IsUnchanged (state g a) (state g b) → (state g a).now.schema ≡ listed → (state g b).now.schema ≡ listed
  still_ours listed same ours = ap (λ (db : Database). db.schema) same.0.now_is ∙ ours

  along : Survives (state g b) (state g c) (λ _. ⊥) → Survives (state g a) (state g c) (λ _. ⊥)
  along more = survives_then (state g a) (state g b) (state g c) _ _ (λ _. ⊥) (λ _ db none. none) (λ _ db none. none) so_far.survives more

  pub next_read : {X : Type 0} (x : X) (Rows : X → Trees → Type 0) → IsRead g b c (Ok x) Rows → Reached g a c (λ trees. P trees × Rows x trees)
  next_read x Rows two = record {
    same = λ more clean ours.
        let one = so_far.same more (clean_before two.survives clean) ours in
        let next = two.rows more clean (still_ours (store_with more) one.0 ours) in
        (unchanged_then (state g a) (state g b) (state g c) one.0 next.0, (one.1, subst (λ (db : Database). Rows x db.trees) one.0.0.now_is next.1));
    survives = along two.survives;
  }

  pub read_stops : {X A : Type 0} (e d : Error) (Rows : X → Trees → Type 0) (out : Result A Error) (Found : A → Trees → Type 0) → out ≡ Err d → IsRead {A = X} g b c (Err e) Rows
      → AreRead g a c out Found
  read_stops e d Rows out Found is two = record {
    rows = λ more clean ours. rw is tt;
    kept = λ more clean ours inside.
        let one = so_far.same more (clean_before two.survives clean) ours in
        keeps_then (state g a) (state g b) (state g c) (unchanged_kept (state g a) (state g b) one.0) (two.kept clean (one.0.0.mode ∙ inside));
    survives = along two.survives;
  }

pub first_stops : {S X A : Type 0} (g : Ghosts S) (a b : Held S) (e d : Error) (Rows : X → Trees → Type 0) (out : Result A Error) (Found : A → Trees → Type 0) → out ≡ Err d
    → IsRead {A = X} g a b (Err e) Rows → AreRead g a b out Found
first_stops g a b e d Rows out Found is one = record { rows = λ more clean ours. rw is tt; kept = λ more clean ours inside. one.kept clean inside; survives = one.survives }

pub read_ends : {S A : Type 0} (g : Ghosts S) (a b : Held S) (P : Trees → Type 0) (answer : A) (Found : A → Trees → Type 0) → Reached g a b P → ((trees : Trees) → P trees → Found answer trees)
    → AreRead g a b (Ok answer) Found
read_ends g a b P answer Found so_far finds = record {
  rows = λ more clean ours. let it = so_far.same more clean ours in (it.0, finds (state g a).now.trees it.1);
  kept = λ more clean ours inside. unchanged_kept (state g a) (state g b) (so_far.same more clean ours).0;
  survives = so_far.survives;
}

-- ---- a part that is read by a function of its own

-- the tables are read of a store whose version lists these, and of the trees P is known
pub record ReachedIn {S : Type 0} (listed : Schema) (g : Ghosts S) (a b : Held S) (P : Trees → Type 0) : Type 0 where
  pub same : HasCleanDisk (state g b) → (state g a).now.schema ≡ listed → IsUnchanged (state g a) (state g b) × P (state g a).now.trees
  pub survives : Survives (state g a) (state g b) (λ _. ⊥)

pub reached_in : {S X : Type 0} (more : MoreTables) (g : Ghosts S) (a b : Held S) (x : X) (Found : X → Trees → Type 0) → AreRead g a b (Ok x) Found → ReachedIn (store_with more) g a b (Found x)
reached_in more g a b x Found one = record { same = λ clean ours. one.rows more clean ours; survives = one.survives }

-- after a read of `meta` the others are read
module _ {S X : Type 0} (g : Ghosts S) (a b c : Held S) (x : X) (Rows : X → Trees → Type 0) (first : IsRead g a b (Ok x) Rows) where
  part_clean : Survives (state g b) (state g c) (λ _. ⊥) → HasCleanDisk (state g c) → HasCleanDisk (state g b)
  part_clean more clean = omega (arith, more.clean)

  part_along : Survives (state g b) (state g c) (λ _. ⊥) → Survives (state g a) (state g c) (λ _. ⊥)
  part_along more = survives_then (state g a) (state g b) (state g c) _ _ (λ _. ⊥) (λ _ db none. none) (λ _ db none. none) first.survives more

  part_ours : (listed : Schema) → IsUnchanged (state g a) (state g b) → (state g a).now.schema ≡ listed → (state g b).now.schema ≡ listed
  part_ours listed same ours = ap (λ (db : Database). db.schema) same.0.now_is ∙ ours

  pub part_stops : {Y A : Type 0} (e d : Error) (Found : Y → Trees → Type 0) (out : Result A Error) (All : A → Trees → Type 0) → out ≡ Err d → AreRead {A = Y} g b c (Err e) Found
      → AreRead g a c out All
  part_stops e d Found out All is two = record {
    rows = λ more clean ours. rw is tt;
    kept = λ more clean ours inside.
        let one = first.rows more (part_clean two.survives clean) ours in
        keeps_then (state g a) (state g b) (state g c) (unchanged_kept (state g a) (state g b) one.0) (two.kept more clean (part_ours (store_with more) one.0 ours) (one.0.0.mode ∙ inside));
    survives = part_along two.survives;
  }

  pub parts_read : {Y A : Type 0} (y : Y) (Found : Y → Trees → Type 0) (answer : A) (All : A → Trees → Type 0) → AreRead g b c (Ok y) Found
      → ((trees : Trees) → Rows x trees → Found y trees → All answer trees) → AreRead g a c (Ok answer) All
  parts_read y Found answer All two finds = record {
    rows = λ more clean ours.
        let one = first.rows more (part_clean two.survives clean) ours in
        let next = two.rows more clean (part_ours (store_with more) one.0 ours) in
        (unchanged_then (state g a) (state g b) (state g c) one.0 next.0, finds (state g a).now.trees one.1 (subst (λ (db : Database). Found y db.trees) one.0.0.now_is next.1));
    kept = λ more clean ours inside.
        let one = first.rows more (part_clean two.survives clean) ours in
        let next = two.rows more clean (part_ours (store_with more) one.0 ours) in
        unchanged_kept (state g a) (state g c) (unchanged_then (state g a) (state g b) (state g c) one.0 next.0);
    survives = part_along two.survives;
  }

-- what two clauses say of one read
pub both_read : {S X : Type 0} (g : Ghosts S) (a b : Held S) (x : X) (P Q : X → Trees → Type 0) → IsRead g a b (Ok x) P → IsRead g a b (Ok x) Q
    → IsRead g a b (Ok x) (λ rows trees. P rows trees × Q rows trees)
both_read g a b x P Q one two =
    record { rows = λ more clean ours. let first = one.rows more clean ours in (first.0, (first.1, (two.rows more clean ours).1)); kept = one.kept; survives = one.survives }

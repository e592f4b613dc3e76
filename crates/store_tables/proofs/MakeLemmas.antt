-- What CREATE TABLE makes of a database with no rows.
use Rattle.std.proofs.Common.{◌≡◌, ℕ, List, [], true, false, None, Ok, Err, Result, OnOk, IsTrue, refl, sym, ap, subst, ◌∙◌, arith}
use Rattle.std.specs.List.{AllByRecursion}
use Rattle.std.proofs.lemmas.List.Sorted.{IsPermutation-refl}
use Rattle.sqlite_trees.specs.declared.store.Store.{Ghosts}
use Rattle.sqlite_schema.specs.declared.schema.Table.{Table}
use Rattle.sqlite_schema.specs.declared.schema.Schema.{Schema}
use Rattle.sqlite_schema.specs.declared.command.Command.TheVariants.{CreateTable}
use Rattle.sqlite_resolve.specs.Compile.{table_defined_by}
use Rattle.sqlite_catalog.specs.Change.{created, next_tree}
use Rattle.store_tables.proofs.Kit.{IsPlain, all-append, all_both, command_of, keeps_then, runs_as, statement_of, survives_then}
use Rattle.sqlite_tied.specs.Compute.{everything}
use Rattle.sqlite.specs.declared.error.Error.{Error}
use Rattle.sqlite.specs.declared.error.Error.TheVariants.{SqliteFailure}
use Rattle.sqlite.specs.declared.error.ErrorCode.TheVariants.{TransactionState}
use Rattle.sqlite.specs.Does.{Tally, lacks_sequence}
use Rattle.sqlite.specs.Effect.{Database}
use Rattle.sqlite.specs.Held.{Held, state}
use Rattle.sqlite.specs.Listing.{understood}
use Rattle.sqlite.specs.State.{State, HasCleanDisk, Shows, Survives, Writes, Executes, ExecutesInside}
use Rattle.store_tables.specs.Schema.{meta, blobs, staged, fixes, commits, entries, answers, MoreTables, store_with}
use Rattle.store_tables.specs.Steps.{IsMade}
use Rattle.store_tables.specs.Tables.{HoldsIn, IsBare, first_tables, no_rows}
use Rattle.store_tables.proofs.Compiles as text
use Rattle.store_tables.proofs.Compiles.{unplaced}
use Rattle.store_tables.proofs.StepLemmas.{keeps}
use Rattle.store_tables.proofs.WriteLemmas.{went, same_value}

-- the text makes this table, under this schema
pub record Makes (schema : Schema) (sql : List ℕ) (table : Table) (after : Schema) : Type 0 where
  pub is : command_of (understood schema sql) ≡ CreateTable
  pub plain : IsPlain (understood schema sql)
  pub whole : statement_of sql (understood schema sql) ≡ sql
  pub defined : table_defined_by sql ≡ Ok table
  pub after_is : created schema table ≡ after
  pub uncounted : lacks_sequence after ≡ false

made : (schema : Schema) (sql : List ℕ) (table : Table) (after : Schema) → Makes schema sql table after → (old new : State) (count : ℕ) → IsBare schema old.now → Executes sql [] old new (Ok count)
    → IsBare after new.now
made schema sql table after it old new count bare h =
    let w = subst (λ t. Writes old new None CreateTable t [] count) it.whole (runs_as sql [] old new schema bare.schema_is CreateTable it.is it.plain count h) in
    let all = went w.changed in
    let first = went all.1 in
    let made = first.1 in
    let both : Ok made.table ≡ Ok table = sym made.defined ∙ it.defined in
    let same : made.table ≡ table = same_value both in
    let grown : first.0.schema ≡ created schema table = made.is ∙ ap (λ s. created s made.table) bare.schema_is ∙ ap (created schema) same in
    let none : lacks_sequence first.0.schema ≡ false = ap lacks_sequence (grown ∙ it.after_is) ∙ it.uncounted in
    let now : new.now ≡ first.0 = ap (λ (p : Tally × Database). p.1) (same_value all.2) ∙ same_value (rw none at first.2) in
    let others = subst (λ s. AllByRecursion (λ (t : Table). first.0.trees t.tree ≡ old.now.trees t.tree) s) (ap (λ (s : Schema). s.tables) bare.schema_is) made.others in
    let kept : AllByRecursion (λ (t : Table). first.0.trees t.tree ≡ []) schema.tables =
    all_both (λ (t : Table). first.0.trees t.tree ≡ old.now.trees t.tree) (λ (t : Table). old.now.trees t.tree ≡ []) (λ (t : Table). first.0.trees t.tree ≡ []) (λ t a b. a ∙ b) schema.tables others
    bare.empty in
    let fresh : first.0.trees (next_tree schema) ≡ [] = subst (λ s. first.0.trees (next_tree s) ≡ []) bare.schema_is made.empty in
    let whole : AllByRecursion (λ (t : Table). first.0.trees t.tree ≡ []) (created schema table).tables = all-append (λ (t : Table). first.0.trees t.tree ≡ []) schema.tables _ kept (fresh, tt) in
    record {
      schema_is = ap (λ (d : Database). d.schema) now ∙ grown ∙ it.after_is;
      sound = w.sound;
      empty =
          subst (λ (d : Database). AllByRecursion (λ (t : Table). d.trees t.tree ≡ []) after.tables) (sym now)
          (subst (λ (s : Schema). AllByRecursion (λ (t : Table). first.0.trees t.tree ≡ []) s.tables) it.after_is whole);
    }

pub makes_meta : Makes (first_tables 0 0) text.make_meta (unplaced meta) (first_tables 1 1)
unfolding understood everything
makes_meta = record { is = refl; plain = (refl, refl); whole = refl; defined = text.meta_defined; after_is = refl; uncounted = refl }

pub makes_blobs : Makes (first_tables 1 1) text.make_blobs (unplaced blobs) (first_tables 2 2)
unfolding understood everything
makes_blobs = record { is = refl; plain = (refl, refl); whole = refl; defined = text.blobs_defined; after_is = refl; uncounted = refl }

pub makes_staged : Makes (first_tables 2 2) text.make_staged (unplaced staged) (first_tables 3 3)
unfolding understood everything
makes_staged = record { is = refl; plain = (refl, refl); whole = refl; defined = text.staged_defined; after_is = refl; uncounted = refl }

pub makes_fixes : Makes (first_tables 3 3) text.make_fixes (unplaced fixes) (first_tables 4 4)
unfolding understood everything
makes_fixes = record { is = refl; plain = (refl, refl); whole = refl; defined = text.fixes_defined; after_is = refl; uncounted = refl }

pub makes_commits : Makes (first_tables 4 4) text.make_commits (unplaced commits) (first_tables 5 4)
unfolding understood everything
makes_commits = record { is = refl; plain = (refl, refl); whole = refl; defined = text.commits_defined; after_is = refl; uncounted = refl }

pub makes_entries : Makes (first_tables 5 4) text.make_entries (unplaced entries) (first_tables 6 5)
unfolding understood everything
makes_entries = record { is = refl; plain = (refl, refl); whole = refl; defined = text.entries_defined; after_is = refl; uncounted = refl }

pub makes_answers : Makes (first_tables 6 5) text.make_answers (unplaced answers) (first_tables 7 6)
unfolding understood everything
makes_answers = record { is = refl; plain = (refl, refl); whole = refl; defined = text.answers_defined; after_is = refl; uncounted = refl }

-- all tables are made, and hold nothing
pub made_all : (more : MoreTables) (db : Database) → IsBare (store_with more) db → HoldsIn (store_with more) db no_rows
made_all more db bare =
    let e = bare.empty in
    record {
      schema = bare.schema_is;
      sound = bare.sound;
      meta = rw e.0 (IsPermutation-refl []);
      blobs = rw e.1.0 (IsPermutation-refl []);
      staged = rw e.1.1.0 (IsPermutation-refl []);
      staged_keyed = rw e.1.1.0 (record { numbered = refl; apart = tt });
      fixes = rw e.1.1.1.0 (IsPermutation-refl []);
      fixes_numbered = rw e.1.1.1.0 refl;
      commits = rw e.1.1.1.1.0 (IsPermutation-refl []);
      entries = rw e.1.1.1.1.1.0 (IsPermutation-refl []);
      answers = rw e.1.1.1.1.1.1.0 (IsPermutation-refl []);
      answers_keyed = rw e.1.1.1.1.1.1.0 (record { numbered = refl; apart = tt });
    }

-- ---- in a transaction

module _ {S : Type 0} (g : Ghosts S) (old new : Held S) (sql : List ℕ) (r : Result ℕ Error)
    (ended : old.in_transaction ≡ false → (r ≡ Err (SqliteFailure TransactionState)) × (new ≡ old))
    (runs : HasCleanDisk (state g new) → IsTrue old.in_transaction → ExecutesInside 0 sql [] (state g old) (state g new) r)
    (survives : Survives (state g old) (state g new) (λ _. ⊥)) where
  pub makes_step : (schema : Schema) (table : Table) (after : Schema) → Makes schema sql table after → (count : ℕ) → r ≡ Ok count
      → IsMade {A = Unit {0}} g old new (Ok tt) (IsBare schema) (IsBare after)
  makes_step schema table after it count is = record {
    done = λ clean inside. let ran =
        subst (ExecutesInside 0 sql [] (state g old) (state g new)) is (runs clean inside) in (ran.1, λ bare. made schema sql table after it (state g old) (state g new) count bare ran.0);
    kept = keeps g old new sql [] r ended runs survives;
    survives = survives;
  }

  pub makes_stop : (failed : Result (Unit {0}) Error) (d : Error) (P Q : Database → Type 0) → failed ≡ Err d → IsMade {A = Unit {0}} g old new failed P Q
  makes_stop failed d P Q is = record { done = λ _ _. rw is tt; kept = keeps g old new sql [] r ended runs survives; survives = survives }

abbrev Went : {S : Type 0} (g : Ghosts S) → Held S → Held S → (Database → Type 0) → (Database → Type 0) → Type 0
Went g x y X Y = Shows (state g x) (state g y) (state g y).now (state g x).committed true × (X (state g x).now → Y (state g y).now)

pub made_then : {S A : Type 0} (g : Ghosts S) (a b c : Held S) (r : Result A Error) (P Q R : Database → Type 0) → IsMade {A = Unit {0}} g a b (Ok tt) P Q → IsMade g b c r Q R → IsMade g a c r P R
made_then {S} {A} g a b c r P Q R one two = record {
  done = λ clean inside. let first = one.done (omega (arith, two.survives.clean)) inside in go r (two.done clean first.0.mode) first;
  kept = λ clean. keeps_then (state g a) (state g b) (state g c) (one.kept (omega (arith, two.survives.clean))) (two.kept clean);
  survives = survives_then (state g a) (state g b) (state g c) _ _ (λ _. ⊥) (λ _ db none. none) (λ _ db none. none) one.survives two.survives;
}
  where
    go : (r : Result A Error) → OnOk r (Went g b c Q R) → Went g a b P Q → OnOk r (Went g a c P R)
    go (Err e) second first = tt
    go (Ok x) second first = (
      record { was_open = first.0.was_open; is_open = second.0.is_open; now_is = refl; committed_is = second.0.committed_is ∙ first.0.committed_is; mode = second.0.mode },
      λ p. second.1 (first.1 p),
    )

pub stopped : {S A B : Type 0} (g : Ghosts S) (a b : Held S) (e d : Error) (r : Result B Error) (P Q R : Database → Type 0) → r ≡ Err d → IsMade {A = A} g a b (Err e) P Q → IsMade {A = B} g a b r P R
stopped g a b e d r P Q R is one = record { done = λ _ _. rw is tt; kept = one.kept; survives = one.survives }

pub made_to : {S : Type 0} (g : Ghosts S) (a b : Held S) (P Q R : Database → Type 0) → ((db : Database) → Q db → R db) → IsMade {A = Unit {0}} g a b (Ok tt) P Q
    → IsMade {A = Unit {0}} g a b (Ok tt) P R
made_to g a b P Q R f one = record { done = λ clean inside. let it = one.done clean inside in (it.0, λ p. f (state g b).now (it.1 p)); kept = one.kept; survives = one.survives }

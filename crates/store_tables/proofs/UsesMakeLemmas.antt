-- What CREATE TABLE makes of a database whose tables have rows: the table of uses, after the seven.
use Rattle.std.proofs.Common.{◌≡◌, ℕ, List, [], ◌∷◌, true, false, None, Ok, refl, sym, ap, subst, ◌∙◌}
use Rattle.std.specs.List.{AllByRecursion}
use Rattle.std.proofs.lemmas.List.Sorted.{IsPermutation-refl}
use Rattle.sqlite_value.specs.Order.{Row}
use Rattle.sqlite_schema.specs.declared.schema.Table.{Table}
use Rattle.sqlite_schema.specs.declared.schema.Schema.{Schema}
use Rattle.sqlite_schema.specs.declared.command.Command.TheVariants.{CreateTable}
use Rattle.sqlite_catalog.specs.Change.{created, next_tree}
use Rattle.sqlite_rules.specs.Edit.{have_rowids}
use Rattle.sqlite_tied.specs.Compute.{everything}
use Rattle.sqlite.specs.Does.{Tally, lacks_sequence}
use Rattle.sqlite.specs.Effect.{Database, IsDatabase}
use Rattle.sqlite.specs.Listing.{understood}
use Rattle.sqlite.specs.State.{State, Writes, Executes}
use Rattle.store_tables.proofs.Kit.{runs_as}
use Rattle.store_tables.specs.Schema.{uses, store_schema, schema_with_uses}
use Rattle.store_tables.specs.Tables.{Tables, HoldsIn, AreKeyed, Stored, meta_cells, blob_cells, staged_cells, fix_cells, commit_cells, entry_cells, answer_cells}
use Rattle.store_tables.specs.Uses.{HoldsUses, IsAddedTo, AddsUses, MakesBareUses, use_cells}
use Rattle.store_tables.proofs.Compiles.{unplaced}
use Rattle.store_tables.proofs.MakeLemmas.{Makes}
use Rattle.store_tables.proofs.UsesCompiles as text
use Rattle.store_tables.proofs.WriteLemmas.{went, same_value}

abbrev AreNumbered : List Row → Type 0
AreNumbered rows = have_rowids rows ≡ true

makes_uses : Makes store_schema text.make_uses (unplaced uses) schema_with_uses
unfolding understood everything
makes_uses = record { is = refl; plain = (refl, refl); whole = refl; defined = text.uses_defined; after_is = refl; uncounted = refl }

-- a table made after others, whose rows stay
record Adds (schema after : Schema) (old new : Database) : Type 0 where
  schema_is : new.schema ≡ after
  sound : IsDatabase new
  others : AllByRecursion (λ (t : Table). new.trees t.tree ≡ old.trees t.tree) schema.tables
  bare : new.trees (next_tree schema) ≡ []

added : (schema : Schema) (sql : List ℕ) (table : Table) (after : Schema) → Makes schema sql table after → (old new : State) (count : ℕ) → old.now.schema ≡ schema → Executes sql [] old new (Ok count)
    → Adds schema after old.now new.now
added schema sql table after it old new count has h =
    let w = subst (λ t. Writes old new None CreateTable t [] count) it.whole (runs_as sql [] old new schema has CreateTable it.is it.plain count h) in
    let all = went w.changed in
    let first = went all.1 in
    let made = first.1 in
    let both : Ok made.table ≡ Ok table = sym made.defined ∙ it.defined in
    let same : made.table ≡ table = same_value both in
    let grown : first.0.schema ≡ created schema table = made.is ∙ ap (λ s. created s made.table) has ∙ ap (created schema) same in
    let none : lacks_sequence first.0.schema ≡ false = ap lacks_sequence (grown ∙ it.after_is) ∙ it.uncounted in
    let now : new.now ≡ first.0 = ap (λ (p : Tally × Database). p.1) (same_value all.2) ∙ same_value (rw none at first.2) in
    let others = subst (λ s. AllByRecursion (λ (t : Table). first.0.trees t.tree ≡ old.now.trees t.tree) s) (ap (λ (s : Schema). s.tables) has) made.others in
    let fresh : first.0.trees (next_tree schema) ≡ [] = subst (λ s. first.0.trees (next_tree s) ≡ []) has made.empty in
    record {
      schema_is = ap (λ (d : Database). d.schema) now ∙ grown ∙ it.after_is;
      sound = w.sound;
      others = subst (λ (d : Database). AllByRecursion (λ (t : Table). d.trees t.tree ≡ old.now.trees t.tree) schema.tables) (sym now) others;
      bare = subst (λ (d : Database). d.trees (next_tree schema) ≡ []) (sym now) fresh;
    }

uses_added : (old new : State) (count : ℕ) → old.now.schema ≡ store_schema → Executes text.make_uses [] old new (Ok count) → IsAddedTo old.now new.now
uses_added old new count has ran =
    let a = added store_schema text.make_uses (unplaced uses) schema_with_uses makes_uses old new count has ran in
    record { schema = a.schema_is; sound = a.sound; others = a.others; bare = a.bare }

behind : (old new : Database) (t : Tables) → IsAddedTo old new → HoldsIn store_schema old t → HoldsIn schema_with_uses new t × HoldsUses new.trees []
behind old new t a h =
    let o = a.others in (
      record {
        schema = a.schema;
        sound = a.sound;
        meta = subst (Stored meta_cells (1 ∷ 2 ∷ []) t.meta) (sym o.0) h.meta;
        blobs = subst (Stored blob_cells (1 ∷ 2 ∷ []) t.blobs) (sym o.1.0) h.blobs;
        staged = subst (Stored staged_cells (1 ∷ 2 ∷ 3 ∷ []) t.staged) (sym o.1.1.0) h.staged;
        staged_keyed = subst AreKeyed (sym o.1.1.0) h.staged_keyed;
        fixes = subst (Stored fix_cells (1 ∷ 2 ∷ 3 ∷ []) t.fixes) (sym o.1.1.1.0) h.fixes;
        fixes_numbered = subst AreNumbered (sym o.1.1.1.0) h.fixes_numbered;
        commits = subst (Stored commit_cells (0 ∷ 2 ∷ []) t.commits) (sym o.1.1.1.1.0) h.commits;
        entries = subst (Stored entry_cells (1 ∷ 2 ∷ 3 ∷ 4 ∷ []) t.entries) (sym o.1.1.1.1.1.0) h.entries;
        answers = subst (Stored answer_cells (1 ∷ 2 ∷ 3 ∷ 4 ∷ 5 ∷ []) t.answers) (sym o.1.1.1.1.1.1.0) h.answers;
        answers_keyed = subst AreKeyed (sym o.1.1.1.1.1.1.0) h.answers_keyed;
      },
      record {
        stored = subst (Stored use_cells (1 ∷ 2 ∷ 3 ∷ []) []) (sym a.bare) (IsPermutation-refl []);
        keyed = subst AreKeyed (sym a.bare) (record { numbered = refl; apart = tt });
      },
    )

pub make_uses_only : (listed : Schema) (old new : State) (count : ℕ) → old.now.schema ≡ listed → Executes text.make_uses [] old new (Ok count) → AddsUses listed old.now new.now
make_uses_only listed old new count has ran first = uses_added old new count (has ∙ first) ran

pub make_uses : (listed : Schema) (old new : State) (count : ℕ) → old.now.schema ≡ listed → Executes text.make_uses [] old new (Ok count) → MakesBareUses listed old.now new.now
make_uses listed old new count has ran first t h = behind old.now new.now t (uses_added old new count (has ∙ first) ran) h

-- Statements on the seven tables and on the uses, as steps from one content of a store of version 2 to the next.
use Rattle.std.proofs.Common.{◌≡◌, ◌<◌, List, [], ◌∷◌, Result, Ok, Err, OnOk, refl, sym, subst, arith}
use Rattle.std.specs.List.{AllByRecursion}
use Rattle.std.proofs.lemmas.Result.{on_ok_weaker}
use Rattle.sqlite_trees.specs.declared.store.Store.{Ghosts}
use Rattle.sqlite_schema.specs.declared.schema.Schema.{Schema}
use Rattle.sqlite_schema.specs.declared.schema.Table.{Table}
use Rattle.sqlite.specs.declared.error.Error.{Error}
use Rattle.sqlite.specs.Effect.{Database}
use Rattle.sqlite.specs.Held.{Held, state}
use Rattle.store_tables.specs.declared.rows.UseRow.{UseRow}
use Rattle.store_tables.specs.Schema.{meta, no_more, schema_with_uses, uses_then}
use Rattle.store_tables.specs.Steps.{IsChange, IsStatementDone, IsMade, IsStep}
use Rattle.store_tables.specs.Tables.{Tables, AreKeyed, ChangesOnly, HoldsTables, KeepsMore, MakesIfKeyed, Stored, greatest_tree}
use Rattle.store_tables.specs.Uses.{AddsUses, ChangesUses, ListsUses, HoldsRows, HoldsUses, MakesBareUses, MakesUses, use_cells}
use Rattle.store_tables.proofs.StepLemmas.{Went, only_keeps_more}

-- ---- what a statement on the seven leaves of the uses

pub beside : (listed : Schema) (old new : Database) (rows : List UseRow) → ListsUses listed → KeepsMore listed old new → HoldsUses old.trees rows → HoldsUses new.trees rows
beside listed old new rows lists keeps h =
    let kept = subst (λ (s : Schema). AllByRecursion (λ (t : Table). greatest_tree < t.tree → new.trees t.tree ≡ old.trees t.tree) s.tables) lists.1 keeps.trees in
    let same : new.trees 13 ≡ old.trees 13 = kept.1.1.1.1.1.1.1.0 (omega arith) in
    record { stored = subst (Stored use_cells (1 ∷ 2 ∷ 3 ∷ []) rows) (sym same) h.stored; keyed = subst AreKeyed (sym same) h.keyed }

-- ---- from one content of a store of version 2 to the next

-- two things that a call that is done has made
ok_both : {A E : Type 0} (r : Result A E) (P Q R : Type 0) → (P → Q → R) → OnOk r P → OnOk r Q → OnOk r R
ok_both (Ok x) P Q R f p q = f p q
ok_both (Err e) P Q R f p q = tt

module _ {S A : Type 0} (g : Ghosts S) (old new : Held S) (r : Result A Error) (t : Tables) (rows : List UseRow) where
  abbrev before : Database
  before = (state g old).now

  abbrev after : Database
  after = (state g new).now

  -- a statement on the seven
  pub step_as_made : (makes : Tables → Tables) → IsStep g old new r makes → IsMade g old new r (λ db. HoldsRows db t rows) (λ db. HoldsRows db (makes t) rows)
  step_as_made makes step = record {
    done = λ clean inside. on_ok_weaker r (λ (d : IsStatementDone (state g old) (state g new) makes). (
      d.shown,
      λ h. (
        (d.holds (uses_then no_more) t h.0.0, beside schema_with_uses before after rows (no_more, refl) (d.keeps (uses_then no_more) h.0.0.schema) h.0.1),
        (d.keeps (uses_then no_more) h.0.0.schema).meta_keyed h.1,
      ),
    )) (step.done clean inside);
    kept = step.kept;
    survives = step.survives;
  }

  -- a statement on the uses
  pub change_as_made : (makes : List UseRow → List UseRow) → IsChange g old new r (MakesUses makes) → IsChange g old new r ChangesUses
      → IsMade g old new r (λ db. HoldsRows db t rows) (λ db. HoldsRows db t (makes rows))
  change_as_made makes change only = record {
    done = λ clean inside. ok_both r (Went g old new (MakesUses makes)) (Went g old new ChangesUses) _ (λ d o. (
      d.0,
      λ h. (
        d.1 (uses_then no_more) h.0.0.schema (no_more, refl) t rows h.0.0 h.0.1,
        subst AreKeyed (sym ((o.1 (uses_then no_more) h.0.0.schema (no_more, refl)).others.0 (omega arith))) h.1,
      ),
    )) (change.done clean inside) (only.done clean inside);
    kept = change.kept;
    survives = change.survives;
  }

  -- a row of `meta` in place of another
  pub replaced_as_made : (makes : Tables → Tables) → IsChange g old new r (MakesIfKeyed meta makes) → IsChange g old new r (ChangesOnly meta)
      → IsMade g old new r (λ db. HoldsRows db t rows) (λ db. HoldsRows db (makes t) rows)
  replaced_as_made makes change only = record {
    done = λ clean inside. ok_both r (Went g old new (MakesIfKeyed meta makes)) (Went g old new (ChangesOnly meta)) _ (λ d o. (
      d.0,
      λ h. let keeps = only_keeps_more meta (uses_then no_more) before after (omega arith) (o.1 (uses_then no_more) h.0.0.schema) in (
        (d.1 (uses_then no_more) h.0.0.schema t h.0.0 h.1, beside schema_with_uses before after rows (no_more, refl) keeps h.0.1),
        keeps.meta_keyed h.1,
      ),
    )) (change.done clean inside) (only.done clean inside);
    kept = change.kept;
    survives = change.survives;
  }

-- the table of uses, made after those of version 1
pub grown_as_made : {S A : Type 0} (g : Ghosts S) (old new : Held S) (r : Result A Error) (t : Tables) → IsChange g old new r MakesBareUses → IsChange g old new r AddsUses
    → IsMade g old new r (λ db. HoldsTables db t × AreKeyed (db.trees 0)) (λ db. HoldsRows db t [])
grown_as_made g old new r t change added = record {
  done = λ clean inside. ok_both r (Went g old new MakesBareUses) (Went g old new AddsUses) _ (λ d o. (
    d.0,
    λ h. (d.1 no_more h.0.schema refl t h.0, subst AreKeyed (sym (o.1 no_more h.0.schema refl).others.0) h.1),
  )) (change.done clean inside) (added.done clean inside);
  kept = change.kept;
  survives = change.survives;
}

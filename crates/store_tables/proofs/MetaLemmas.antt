-- One number of the store taken out, by its name.
use Rattle.std.proofs.Common.{◌≡◌, ℕ, List, [], ◌∷◌, filter, true, not, Ok, refl, sym, subst, ◌∙◌, arith}
use Rattle.std.specs.Str.{bytes_eq}
use Rattle.sqlite_value.specs.declared.value.Value.TheVariants.{Text}
use Rattle.sqlite_value.specs.declared.keys.Collation.TheVariants.{Binary}
use Rattle.sqlite_value.specs.Order.{Row}
use Rattle.sqlite_sql.specs.Ops.{binary, is_true}
use Rattle.sqlite_sql.specs.declared.ops.BinaryOp.TheVariants.{Compare}
use Rattle.sqlite_sql.specs.declared.ops.CompareOp.TheVariants.{Eq}
use Rattle.sqlite_schema.specs.declared.schema.Schema.{Schema}
use Rattle.sqlite_rules.specs.Edit.{have_rowids}
use Rattle.sqlite.specs.Effect.{Database}
use Rattle.sqlite.specs.State.{State, Executes}
use Rattle.store_tables.proofs.Kit.{runs_as}
use Rattle.store_tables.specs.declared.rows.MetaRow.{MetaRow}
use Rattle.store_tables.specs.Schema as tables
use Rattle.store_tables.specs.Schema.{MoreTables, store_with}
use Rattle.store_tables.specs.Tables.{Tables, HoldsIn, Stored, AreKeyed, meta_cells, blob_cells, staged_cells, fix_cells, commit_cells, entry_cells, answer_cells, without_meta, with_meta, with_new_meta, MakesIfKeyed}
use Rattle.store_tables.proofs.Compiles as text
use Rattle.store_tables.proofs.Compiles.{first_is_given}
use Rattle.store_tables.proofs.QueryLemmas.{passes_all}
use Rattle.store_tables.proofs.TableLemmas.{stored_filtered, same_text, and_true, other_path}
use Rattle.store_tables.proofs.WriteLemmas.{store_stays, deletes}

abbrev AreNumbered : List Row → Type 0
AreNumbered rows = have_rowids rows ≡ true

others_kept : (name : List ℕ) (xs : List MetaRow) → filter (λ x. other_path name (meta_cells x)) xs ≡ filter (λ row. not (bytes_eq row.name name)) xs
others_kept name xs = λ i. filter (λ (x : MetaRow). not ((and_true (is_true (binary (Compare Eq Binary) (Text x.name) (Text name))) ∙ same_text x.name name) i)) xs

module _ (more : MoreTables) where
  abbrev schema : Schema
  schema = store_with more

  pub take_meta : (old new : State) (t : Tables) (name : List ℕ) (count : ℕ) → HoldsIn schema old.now t → AreKeyed (old.now.trees 0) → Executes text.take_meta (Text name ∷ []) old new (Ok count)
      → HoldsIn schema new.now (without_meta name t)
  take_meta old new t name count h keyed ran =
      let params = Text name ∷ [] in
      let rows = old.now.trees 0 in
      let w = runs_as text.take_meta params old new schema h.schema _ (text.take_meta_is more).0 (text.take_meta_is more).1 count ran in
      let p = deletes schema 0 _ 0 _ _ _ _ _ refl old new h.schema _ params count first_is_given (store_stays more.tables more.rests) keyed.numbered keyed.apart w in
      let q = p.1 in
      let o = q.others in
      record {
        schema = p.0;
        sound = w.sound;
        meta = subst (Stored meta_cells (1 ∷ 2 ∷ []) (without_meta name t).meta) (sym q.rows_are)
            (subst (λ xs. Stored meta_cells (1 ∷ 2 ∷ []) xs (filter (λ r. not (passes_all first_is_given params r)) rows)) (others_kept name t.meta)
            (stored_filtered meta_cells (1 ∷ 2 ∷ []) (other_path name) t.meta rows h.meta));
        blobs = subst (Stored blob_cells (1 ∷ 2 ∷ []) t.blobs) (sym (o.1.0 (omega arith))) h.blobs;
        staged = subst (Stored staged_cells (1 ∷ 2 ∷ 3 ∷ []) t.staged) (sym (o.1.1.0 (omega arith))) h.staged;
        staged_keyed = subst AreKeyed (sym (o.1.1.0 (omega arith))) h.staged_keyed;
        fixes = subst (Stored fix_cells (1 ∷ 2 ∷ 3 ∷ []) t.fixes) (sym (o.1.1.1.0 (omega arith))) h.fixes;
        fixes_numbered = subst AreNumbered (sym (o.1.1.1.0 (omega arith))) h.fixes_numbered;
        commits = subst (Stored commit_cells (0 ∷ 2 ∷ []) t.commits) (sym (o.1.1.1.1.0 (omega arith))) h.commits;
        entries = subst (Stored entry_cells (1 ∷ 2 ∷ 3 ∷ 4 ∷ []) t.entries) (sym (o.1.1.1.1.1.0 (omega arith))) h.entries;
        answers = subst (Stored answer_cells (1 ∷ 2 ∷ 3 ∷ 4 ∷ 5 ∷ []) t.answers) (sym (o.1.1.1.1.1.1.0 (omega arith))) h.answers;
        answers_keyed = subst AreKeyed (sym (o.1.1.1.1.1.1.0 (omega arith))) h.answers_keyed;
      }

-- the row of a name taken out, and another put in its place
pub replaced : (row : MetaRow) (listed : Schema) (x y z : Database) → MakesIfKeyed tables.meta (without_meta row.name) listed x y
    → (y.schema ≡ listed → (t : Tables) → HoldsIn listed y t → HoldsIn listed z (with_meta row t)) → MakesIfKeyed tables.meta (with_new_meta row) listed x z
replaced row listed x y z takes puts t h keyed = let there = takes t h keyed in puts there.schema (without_meta row.name t) there

-- All staged files taken out.
use Rattle.std.proofs.Common.{◌≡◌, ℕ, List, [], ◌∷◌, true, Ok, refl, sym, subst, arith}
use Rattle.std.proofs.lemmas.List.Sorted.{IsPermutation-refl}
use Rattle.sqlite_value.specs.Order.{Row}
use Rattle.sqlite_schema.specs.declared.schema.Schema.{Schema}
use Rattle.sqlite_rules.specs.Edit.{have_rowids}
use Rattle.sqlite.specs.State.{State, Executes}
use Rattle.store_tables.proofs.Kit.{runs_as}
use Rattle.store_tables.specs.Schema.{MoreTables, store_with}
use Rattle.store_tables.specs.Tables.{Tables, HoldsIn, Stored, AreKeyed, meta_cells, blob_cells, staged_cells, fix_cells, commit_cells, entry_cells, answer_cells, without_all_staged}
use Rattle.store_tables.proofs.Compiles as text
use Rattle.store_tables.proofs.WriteLemmas.{store_stays, empties}

abbrev AreNumbered : List Row → Type 0
AreNumbered rows = have_rowids rows ≡ true

module _ (more : MoreTables) where
  abbrev schema : Schema
  schema = store_with more

  pub clear_staged : (old new : State) (t : Tables) (count : ℕ) → HoldsIn schema old.now t → Executes text.clear_staged [] old new (Ok count) → HoldsIn schema new.now (without_all_staged t)
  clear_staged old new t count h ran =
      let w = runs_as text.clear_staged [] old new schema h.schema _ (text.clear_staged_is more).0 (text.clear_staged_is more).1 count ran in
      let p = empties schema 2 _ 4 _ _ _ _ _ refl old new h.schema _ [] count (store_stays more.tables more.rests) h.staged_keyed.numbered w in
      let q = p.1 in
      let o = q.others in
      record {
        schema = p.0;
        sound = w.sound;
        meta = subst (Stored meta_cells (1 ∷ 2 ∷ []) t.meta) (sym (o.0 (omega arith))) h.meta;
        blobs = subst (Stored blob_cells (1 ∷ 2 ∷ []) t.blobs) (sym (o.1.0 (omega arith))) h.blobs;
        staged = subst (Stored staged_cells (1 ∷ 2 ∷ 3 ∷ []) []) (sym q.rows_are) (IsPermutation-refl []);
        staged_keyed = subst AreKeyed (sym q.rows_are) (record { numbered = refl; apart = tt });
        fixes = subst (Stored fix_cells (1 ∷ 2 ∷ 3 ∷ []) t.fixes) (sym (o.1.1.1.0 (omega arith))) h.fixes;
        fixes_numbered = subst AreNumbered (sym (o.1.1.1.0 (omega arith))) h.fixes_numbered;
        commits = subst (Stored commit_cells (0 ∷ 2 ∷ []) t.commits) (sym (o.1.1.1.1.0 (omega arith))) h.commits;
        entries = subst (Stored entry_cells (1 ∷ 2 ∷ 3 ∷ 4 ∷ []) t.entries) (sym (o.1.1.1.1.1.0 (omega arith))) h.entries;
        answers = subst (Stored answer_cells (1 ∷ 2 ∷ 3 ∷ 4 ∷ 5 ∷ []) t.answers) (sym (o.1.1.1.1.1.1.0 (omega arith))) h.answers;
        answers_keyed = subst AreKeyed (sym (o.1.1.1.1.1.1.0 (omega arith))) h.answers_keyed;
      }

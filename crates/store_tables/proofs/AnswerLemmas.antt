-- One answer taken out, by its key.
use Rattle.std.proofs.Common.{◌≡◌, ℕ, List, [], ◌∷◌, filter, Bool, true, not, ◌&&◌, Ok, refl, sym, ap, subst, ◌∙◌, arith}
use Rattle.std.specs.Ordering.{is_eq}
use Rattle.std.specs.Str.{bytes_eq}
use Rattle.std.proofs.lemmas.Map.Text.{is_eq-slice_cmp}
use Rattle.sqlite_value.specs.declared.value.Value.TheVariants.{Blob}
use Rattle.sqlite_value.specs.declared.keys.Collation.TheVariants.{Binary}
use Rattle.sqlite_value.specs.Order.{Row, column, value_cmp}
use Rattle.store_tables.proofs.Kit.{runs_as, value_cmp-Blob}
use Rattle.sqlite_sql.specs.Ops.{binary, is_true}
use Rattle.sqlite_sql.specs.declared.ops.BinaryOp.TheVariants.{Compare}
use Rattle.sqlite_sql.specs.declared.ops.CompareOp.TheVariants.{Eq}
use Rattle.sqlite_schema.specs.declared.schema.Schema.{Schema}
use Rattle.sqlite_rules.specs.Edit.{have_rowids}
use Rattle.sqlite.specs.State.{State, Executes}
use Rattle.store_tables.specs.declared.rows.AnswerRow.{AnswerRow}
use Rattle.store_tables.specs.Schema.{MoreTables, store_with}
use Rattle.store_tables.specs.Tables.{Tables, HoldsIn, Stored, AreKeyed, meta_cells, blob_cells, staged_cells, fix_cells, commit_cells, entry_cells, answer_cells, without_answer}
use Rattle.store_tables.proofs.Compiles as text
use Rattle.store_tables.proofs.Compiles.{two_are_given}
use Rattle.store_tables.proofs.QueryLemmas.{passes_all}
use Rattle.store_tables.proofs.RowLemmas.{filter_keyed, filter_apart}
use Rattle.store_tables.proofs.TableLemmas.{stored_filtered, truth_is, and_true}
use Rattle.store_tables.proofs.WriteLemmas.{store_stays, deletes}

abbrev AreNumbered : List Row → Type 0
AreNumbered rows = have_rowids rows ≡ true

pub same_blob : (a b : List ℕ) → is_true (binary (Compare Eq Binary) (Blob a) (Blob b)) ≡ bytes_eq a b
unfolding binary
same_blob a b = truth_is (is_eq (value_cmp (Blob a) (Blob b))) ∙ ap is_eq (value_cmp-Blob a b) ∙ is_eq-slice_cmp a b

-- whether a row of answers, as it is shown, has another key
abbrev pub other_key : List ℕ → List ℕ → Row → Bool
other_key words seen row = not (is_true (binary (Compare Eq Binary) (column row 0) (Blob words)) && (is_true (binary (Compare Eq Binary) (column row 1) (Blob seen)) && true))

others_kept : (words seen : List ℕ) (xs : List AnswerRow) → filter (λ x. other_key words seen (answer_cells x)) xs ≡ filter (λ row. not (bytes_eq row.words words && bytes_eq row.seen seen)) xs
others_kept words seen xs =
    λ i. filter (λ (x : AnswerRow). not (same_blob x.words words i && (and_true (is_true (binary (Compare Eq Binary) (Blob x.seen) (Blob seen))) ∙ same_blob x.seen seen) i)) xs

module _ (more : MoreTables) where
  abbrev schema : Schema
  schema = store_with more

  pub take_answer : (old new : State) (t : Tables) (words seen : List ℕ) (count : ℕ) → HoldsIn schema old.now t → Executes text.take_answer (Blob words ∷ Blob seen ∷ []) old new (Ok count)
      → HoldsIn schema new.now (without_answer words seen t)
  take_answer old new t words seen count h ran =
      let params = Blob words ∷ Blob seen ∷ [] in
      let rows = old.now.trees 11 in
      let w = runs_as text.take_answer params old new schema h.schema _ (text.take_answer_is more).0 (text.take_answer_is more).1 count ran in
      let p = deletes schema 6 _ 11 _ _ _ _ _ refl old new h.schema _ params count two_are_given (store_stays more.tables more.rests) h.answers_keyed.numbered h.answers_keyed.apart w in
      let q = p.1 in
      let o = q.others in
      record {
        schema = p.0;
        sound = w.sound;
        meta = subst (Stored meta_cells (1 ∷ 2 ∷ []) t.meta) (sym (o.0 (omega arith))) h.meta;
        blobs = subst (Stored blob_cells (1 ∷ 2 ∷ []) t.blobs) (sym (o.1.0 (omega arith))) h.blobs;
        staged = subst (Stored staged_cells (1 ∷ 2 ∷ 3 ∷ []) t.staged) (sym (o.1.1.0 (omega arith))) h.staged;
        staged_keyed = subst AreKeyed (sym (o.1.1.0 (omega arith))) h.staged_keyed;
        fixes = subst (Stored fix_cells (1 ∷ 2 ∷ 3 ∷ []) t.fixes) (sym (o.1.1.1.0 (omega arith))) h.fixes;
        fixes_numbered = subst AreNumbered (sym (o.1.1.1.0 (omega arith))) h.fixes_numbered;
        commits = subst (Stored commit_cells (0 ∷ 2 ∷ []) t.commits) (sym (o.1.1.1.1.0 (omega arith))) h.commits;
        entries = subst (Stored entry_cells (1 ∷ 2 ∷ 3 ∷ 4 ∷ []) t.entries) (sym (o.1.1.1.1.1.0 (omega arith))) h.entries;
        answers = subst (Stored answer_cells (1 ∷ 2 ∷ 3 ∷ 4 ∷ 5 ∷ []) (without_answer words seen t).answers) (sym q.rows_are)
            (subst (λ xs. Stored answer_cells (1 ∷ 2 ∷ 3 ∷ 4 ∷ 5 ∷ []) xs (filter (λ r. not (passes_all two_are_given params r)) rows)) (others_kept words seen t.answers)
            (stored_filtered answer_cells (1 ∷ 2 ∷ 3 ∷ 4 ∷ 5 ∷ []) (other_key words seen) t.answers rows h.answers));
        answers_keyed = subst AreKeyed (sym q.rows_are) (record { numbered = filter_keyed _ rows h.answers_keyed.numbered; apart = filter_apart _ rows h.answers_keyed.apart });
      }

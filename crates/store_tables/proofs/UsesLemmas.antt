-- What each statement on uses makes of their table, whatever tables stand after it, and that it keeps all others.
use Rattle.std.proofs.Common.{◌≡◌, ℕ, List, [], ◌∷◌, filter, true, not, ◌&&◌, Ok, refl, sym, ap, subst, ◌∙◌, arith}
use Rattle.std.specs.Str.{bytes_eq}
use Rattle.std.proofs.lemmas.List.Sorted.{IsPermutation-refl}
use Rattle.sqlite_value.specs.declared.value.Value.TheVariants.{Null, Int, Blob}
use Rattle.sqlite_value.specs.declared.keys.Collation.TheVariants.{Binary}
use Rattle.sqlite_value.specs.Order.{Row}
use Rattle.sqlite_sql.specs.Ops.{binary, is_true}
use Rattle.sqlite_sql.specs.declared.ops.BinaryOp.TheVariants.{Compare}
use Rattle.sqlite_sql.specs.declared.ops.CompareOp.TheVariants.{Eq}
use Rattle.sqlite_schema.specs.declared.schema.Schema.{Schema}
use Rattle.sqlite_schema.specs.declared.schema.Kind.TheVariants.{Integer}
use Rattle.sqlite_schema.specs.declared.command.Source.TheVariants.{Values}
use Rattle.sqlite_schema.specs.declared.command.Command.TheVariants.{Insert}
use Rattle.sqlite_rules.specs.Cast.{cast}
use Rattle.sqlite_rules.specs.Edit.{next_rowid, have_rowids}
use Rattle.sqlite.specs.Effect.{Database, IsDatabase}
use Rattle.sqlite.specs.State.{State, Executes}
use Rattle.store_tables.proofs.Kit.{runs_as}
use Rattle.store_tables.specs.declared.rows.UseRow.{UseRow}
use Rattle.store_tables.specs.Schema.{uses, MoreTables, store_with, uses_then}
use Rattle.store_tables.specs.Tables.{Tables, HoldsIn, KeepsOthers, ChangesOnly, Stored, AreKeyed, meta_cells, blob_cells, staged_cells, fix_cells, commit_cells, entry_cells, answer_cells}
use Rattle.store_tables.specs.Uses.{ListsUses, HoldsUses, MakesUses, ChangesUses, use_cells, with_use, without_use, without_uses}
use Rattle.store_tables.proofs.AnswerLemmas.{same_blob, other_key}
use Rattle.store_tables.proofs.UsesCompiles as text
use Rattle.store_tables.proofs.Compiles.{three, two_are_given}
use Rattle.store_tables.proofs.QueryLemmas.{passes_all}
use Rattle.store_tables.proofs.RowLemmas.{put_apart, put_keyed, filter_apart, filter_keyed}
use Rattle.store_tables.proofs.TableLemmas.{stored_filtered, stored_more, chosen_is, cast_int, and_true}
use Rattle.store_tables.proofs.WriteLemmas.{PutsRow, store_stays, inserts, inserts_only, deletes, deletes_only, empties}

abbrev AreNumbered : List Row → Type 0
AreNumbered rows = have_rowids rows ≡ true

others_kept : (words seen : List ℕ) (xs : List UseRow) → filter (λ x. other_key words seen (use_cells x)) xs ≡ without_use words seen xs
others_kept words seen xs =
    λ i. filter (λ (x : UseRow). not (same_blob x.words words i && (and_true (is_true (binary (Compare Eq Binary) (Blob x.seen) (Blob seen))) ∙ same_blob x.seen seen) i)) xs

module _ (more : MoreTables) where
  abbrev schema : Schema
  schema = store_with (uses_then more)

  -- the seven keep their rows
  store_kept : (old new : Database) (t : Tables) → new.schema ≡ schema → IsDatabase new → KeepsOthers schema 13 old.trees new.trees → HoldsIn schema old t → HoldsIn schema new t
  store_kept old new t is sound o h = record {
    schema = is;
    sound = sound;
    meta = subst (Stored meta_cells (1 ∷ 2 ∷ []) t.meta) (sym (o.0 (omega arith))) h.meta;
    blobs = subst (Stored blob_cells (1 ∷ 2 ∷ []) t.blobs) (sym (o.1.0 (omega arith))) h.blobs;
    staged = subst (Stored staged_cells (1 ∷ 2 ∷ 3 ∷ []) t.staged) (sym (o.1.1.0 (omega arith))) h.staged;
    staged_keyed = subst AreKeyed (sym (o.1.1.0 (omega arith))) h.staged_keyed;
    fixes = subst (Stored fix_cells (1 ∷ 2 ∷ 3 ∷ []) t.fixes) (sym (o.1.1.1.0 (omega arith))) h.fixes;
    fixes_numbered = subst AreNumbered (sym (o.1.1.1.0 (omega arith))) h.fixes_numbered;
    commits = subst (Stored commit_cells (0 ∷ 2 ∷ []) t.commits) (sym (o.1.1.1.1.0 (omega arith))) h.commits;
    entries = subst (Stored entry_cells (1 ∷ 2 ∷ 3 ∷ 4 ∷ []) t.entries) (sym (o.1.1.1.1.1.0 (omega arith))) h.entries;
    answers = subst (Stored answer_cells (1 ∷ 2 ∷ 3 ∷ 4 ∷ 5 ∷ []) t.answers) (sym (o.1.1.1.1.1.1.0 (omega arith))) h.answers;
    answers_keyed = subst AreKeyed (sym (o.1.1.1.1.1.1.0 (omega arith))) h.answers_keyed;
  }

  -- ---- the rows

  pub put_use : (old new : State) (t : Tables) (rows : List UseRow) (row : UseRow) (count : ℕ) → HoldsIn schema old.now t → HoldsUses old.now.trees rows
      → Executes text.put_use (Blob row.words ∷ Blob row.seen ∷ Int row.tick ∷ []) old new (Ok count) → HoldsIn schema new.now t × HoldsUses new.now.trees (with_use row rows)
  put_use old new t xs row count h own ran =
      let params = Blob row.words ∷ Blob row.seen ∷ Int row.tick ∷ [] in
      let rows = old.now.trees 13 in
      let new_row = Int (next_rowid rows) ∷ Blob row.words ∷ Blob row.seen ∷ Int row.tick ∷ [] in
      let w = runs_as text.put_use params old new schema h.schema (Insert 7 (Values three 4)) (text.put_use_is more).0 (text.put_use_is more).1 count ran in
      let p = inserts schema 7 _ 13 _ _ _ _ _ refl old new h.schema _ params count three 4 (Null ∷ Blob row.words ∷ Blob row.seen ∷ Int row.tick ∷ []) refl w in
      let q : PutsRow schema 13 new_row old.now.trees new.now.trees =
      subst (λ x. PutsRow schema 13 x old.now.trees new.now.trees) (chosen_is rows (Blob row.words ∷ Blob row.seen ∷ cast Integer (Int row.tick) ∷ [])
      ∙ ap (λ v. Int (next_rowid rows) ∷ Blob row.words ∷ Blob row.seen ∷ v ∷ []) (cast_int row.tick)) p.1 in (
        store_kept old.now new.now t p.0 w.sound q.others h,
        record {
          stored = subst (Stored use_cells (1 ∷ 2 ∷ 3 ∷ []) (row ∷ xs)) (sym q.rows) (stored_more use_cells (1 ∷ 2 ∷ 3 ∷ []) row xs new_row rows refl q.free own.stored);
          keyed = subst AreKeyed (sym q.rows) (record { numbered = put_keyed new_row rows q.keyed own.keyed.numbered; apart = put_apart new_row rows q.free own.keyed.apart });
        },
      )

  pub take_use : (old new : State) (t : Tables) (rows : List UseRow) (words seen : List ℕ) (count : ℕ) → HoldsIn schema old.now t → HoldsUses old.now.trees rows
      → Executes text.take_use (Blob words ∷ Blob seen ∷ []) old new (Ok count) → HoldsIn schema new.now t × HoldsUses new.now.trees (without_use words seen rows)
  take_use old new t xs words seen count h own ran =
      let params = Blob words ∷ Blob seen ∷ [] in
      let rows = old.now.trees 13 in
      let w = runs_as text.take_use params old new schema h.schema _ (text.take_use_is more).0 (text.take_use_is more).1 count ran in
      let p = deletes schema 7 _ 13 _ _ _ _ _ refl old new h.schema _ params count two_are_given (store_stays (uses_then more).tables (uses_then more).rests) own.keyed.numbered own.keyed.apart w in
      let q = p.1 in (
        store_kept old.now new.now t p.0 w.sound q.others h,
        record {
          stored = subst (Stored use_cells (1 ∷ 2 ∷ 3 ∷ []) (without_use words seen xs)) (sym q.rows_are)
              (subst (λ l. Stored use_cells (1 ∷ 2 ∷ 3 ∷ []) l (filter (λ r. not (passes_all two_are_given params r)) rows)) (others_kept words seen xs)
              (stored_filtered use_cells (1 ∷ 2 ∷ 3 ∷ []) (other_key words seen) xs rows own.stored));
          keyed = subst AreKeyed (sym q.rows_are) (record { numbered = filter_keyed _ rows own.keyed.numbered; apart = filter_apart _ rows own.keyed.apart });
        },
      )

  pub clear_uses : (old new : State) (t : Tables) (rows : List UseRow) (count : ℕ) → HoldsIn schema old.now t → HoldsUses old.now.trees rows → Executes text.clear_uses [] old new (Ok count)
      → HoldsIn schema new.now t × HoldsUses new.now.trees (without_uses rows)
  clear_uses old new t xs count h own ran =
      let w = runs_as text.clear_uses [] old new schema h.schema _ (text.clear_uses_is more).0 (text.clear_uses_is more).1 count ran in
      let p = empties schema 7 _ 13 _ _ _ _ _ refl old new h.schema _ [] count (store_stays (uses_then more).tables (uses_then more).rests) own.keyed.numbered w in
      let q = p.1 in (
        store_kept old.now new.now t p.0 w.sound q.others h,
        record {
          stored = subst (Stored use_cells (1 ∷ 2 ∷ 3 ∷ []) []) (sym q.rows_are) (IsPermutation-refl []);
          keyed = subst AreKeyed (sym q.rows_are) (record { numbered = refl; apart = tt });
        },
      )

  -- ---- only this table

  pub put_use_only : (old new : State) (row : UseRow) (count : ℕ) → old.now.schema ≡ schema → Executes text.put_use (Blob row.words ∷ Blob row.seen ∷ Int row.tick ∷ []) old new (Ok count)
      → ChangesOnly uses schema old.now new.now
  put_use_only old new row count has ran =
      let params = Blob row.words ∷ Blob row.seen ∷ Int row.tick ∷ [] in
      inserts_only schema 7 _ 13 _ _ _ _ _ refl old new has _ params count three 4 (Null ∷ Blob row.words ∷ Blob row.seen ∷ Int row.tick ∷ []) refl
      (runs_as text.put_use params old new schema has (Insert 7 (Values three 4)) (text.put_use_is more).0 (text.put_use_is more).1 count ran)

  pub take_use_only : (old new : State) (words seen : List ℕ) (count : ℕ) → old.now.schema ≡ schema → Executes text.take_use (Blob words ∷ Blob seen ∷ []) old new (Ok count)
      → ChangesOnly uses schema old.now new.now
  take_use_only old new words seen count has ran =
      deletes_only schema 7 _ 13 _ _ _ _ _ refl old new has _ (Blob words ∷ Blob seen ∷ []) count two_are_given (store_stays (uses_then more).tables (uses_then more).rests)
      (runs_as text.take_use (Blob words ∷ Blob seen ∷ []) old new schema has _ (text.take_use_is more).0 (text.take_use_is more).1 count ran)

  pub clear_uses_only : (old new : State) (count : ℕ) → old.now.schema ≡ schema → Executes text.clear_uses [] old new (Ok count) → ChangesOnly uses schema old.now new.now
  clear_uses_only old new count has ran =
      deletes_only schema 7 _ 13 _ _ _ _ _ refl old new has _ [] count [] (store_stays (uses_then more).tables (uses_then more).rests)
      (runs_as text.clear_uses [] old new schema has _ (text.clear_uses_is more).0 (text.clear_uses_is more).1 count ran)

-- ---- as a clause says it, of any schema that lists the uses

pub told : (listed : Schema) (old new : Database) (makes : List UseRow → List UseRow) → old.schema ≡ listed
    → ((more : MoreTables) (t : Tables) (rows : List UseRow) → HoldsIn (store_with (uses_then more)) old t → HoldsUses old.trees rows
    → HoldsIn (store_with (uses_then more)) new t × HoldsUses new.trees (makes rows))
    → MakesUses makes listed old new
told listed old new makes has does lists =
    subst (λ s. (t : Tables) (rows : List UseRow) → HoldsIn s old t → HoldsUses old.trees rows → HoldsIn s new t × HoldsUses new.trees (makes rows)) (sym lists.1) (does lists.0)

pub told_only : (listed : Schema) (old new : Database) → old.schema ≡ listed → ((more : MoreTables) → old.schema ≡ store_with (uses_then more) → ChangesOnly uses (store_with (uses_then more)) old new)
    → ChangesUses listed old new
told_only listed old new has does lists = subst (λ s. ChangesOnly uses s old new) (sym lists.1) (does lists.0 (has ∙ lists.1))

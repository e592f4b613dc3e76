-- What each statement makes of the tables of a store.
use Rattle.std.proofs.Common.{◌≡◌, ℕ, ℤ, pos, List, [], ◌∷◌, map, filter, Bool, true, false, not, cond, ◌&&◌, None, Some, Option, Bor, is_some, Ok, refl, sym, ap, subst, ◌∙◌, arith, IsPermutation}
use Rattle.std.specs.Str.{bytes_eq}
use Rattle.std.specs.Ordering.{is_eq}
use Rattle.std.proofs.lemmas.List.Sorted.{IsPermutation-refl, IsPermutation-cons, IsPermutation-trans, IsPermutation-map}
use Rattle.std.proofs.lemmas.Map.Text.{is_eq-slice_cmp}
use Rattle.sqlite_value.specs.declared.value.Value.{Value}
use Rattle.sqlite_value.specs.declared.value.Value.TheVariants.{Null, Int, Text, Blob}
use Rattle.sqlite_value.specs.Order.{Row, column, value_cmp}
use Rattle.sqlite_value.specs.declared.keys.Collation.TheVariants.{Binary}
use Rattle.store_tables.proofs.Kit.{IsPermutation-filter, filter-map, runs_as, value_cmp-Text}
use Rattle.sqlite_trees.specs.Tree.{put_row}
use Rattle.sqlite_sql.specs.Ops.{unary, binary, is_true, from_truth}
use Rattle.sqlite_sql.specs.declared.ops.BinaryOp.TheVariants.{Compare}
use Rattle.sqlite_sql.specs.declared.ops.CompareOp.TheVariants.{Eq}
use Rattle.sqlite_schema.specs.declared.schema.Schema.{Schema}
use Rattle.sqlite_schema.specs.declared.schema.Kind.TheVariants.{Integer}
use Rattle.sqlite_schema.specs.declared.command.Source.TheVariants.{Values}
use Rattle.sqlite_schema.specs.declared.command.Command.TheVariants.{Insert}
use Rattle.sqlite_rules.specs.declared.error.Rowids.TheVariants.{Chosen}
use Rattle.sqlite_rules.specs.Cast.{cast}
use Rattle.sqlite_rules.specs.Edit.{with_rowid, next_rowid, is_taken, have_rowids}
use Rattle.sqlite.specs.State.{State, Executes}
use Rattle.sqlite.specs.Values.{or_null, bound_value}
use Rattle.store_tables.specs.declared.rows.MetaRow.{MetaRow}
use Rattle.store_tables.specs.declared.rows.BlobRow.{BlobRow}
use Rattle.store_tables.specs.declared.rows.StagedRow.{StagedRow}
use Rattle.store_tables.specs.declared.rows.FixRow.{FixRow}
use Rattle.store_tables.specs.declared.rows.CommitRow.{CommitRow}
use Rattle.store_tables.specs.declared.rows.EntryRow.{EntryRow}
use Rattle.store_tables.specs.declared.rows.AnswerRow.{AnswerRow}
use Rattle.store_tables.specs.Schema.{MoreTables, store_with}
use Rattle.store_tables.specs.Tables.{Tables, HoldsIn, Stored, AreKeyed, meta_cells, blob_cells, staged_cells, fix_cells, commit_cells, entry_cells, answer_cells, with_meta, with_blob, with_staged, without_staged, with_fix, fix_row_of_digest, without_fixes, with_commit, with_entry, with_answer, without_answers}
use Rattle.store_tables.proofs.Compiles as text
use Rattle.store_tables.proofs.Compiles.{two, three, four, five, keyed_two, first_is_given}
use Rattle.store_tables.proofs.QueryLemmas.{passes_all}
use Rattle.store_tables.proofs.RowLemmas.{put_permutes, put_apart, put_keyed, filter_apart, filter_keyed}
use Rattle.store_tables.proofs.WriteLemmas.{PutsRow, store_stays, inserts, deletes, empties}

abbrev AreNumbered : List Row → Type 0
AreNumbered rows = have_rowids rows ≡ true

-- ---- values that a column takes as they are

either : (b : Bool) (x : Value) → cond b x x ≡ x
either true x = refl
either false x = refl

cast_null : cast Integer Null ≡ Null
unfolding unary
cast_null = either _ Null

pub cast_int : (n : ℤ) → cast Integer (Int n) ≡ Int n
unfolding unary
cast_int n = either _ (Int n)

-- ---- rows in and out

pub chosen_is : (rows : List Row) (cells : Row) → with_rowid Chosen rows (cast Integer Null ∷ cells) ≡ Int (next_rowid rows) ∷ cells
chosen_is rows cells = rw cast_null refl

pub stored_more : {X : Type 0} (cells : X → Row) (places : List ℕ) (x : X) (xs : List X) (row : Row) (rows : List Row) → map (column row) places ≡ cells x → is_taken rows row ≡ false
    → Stored cells places xs rows
    → Stored cells places (x ∷ xs) (put_row row rows)
stored_more cells places x xs row rows shows free h =
    let show = λ (r : Row). map (column r) places in
    IsPermutation-trans (cells x ∷ map cells xs) (show row ∷ map show rows) (map show (put_row row rows))
    (subst (λ v. IsPermutation (cells x ∷ map cells xs) (v ∷ map show rows)) (sym shows) (IsPermutation-cons (cells x) (map cells xs) (map show rows) h))
    (IsPermutation-map show (row ∷ rows) (put_row row rows) (put_permutes row rows free))

pub stored_filtered : {X : Type 0} (cells : X → Row) (places : List ℕ) (keeps : Row → Bool) (xs : List X) (rows : List Row) → Stored cells places xs rows
    → Stored cells places (filter (λ x. keeps (cells x)) xs) (filter (λ r. keeps (map (column r) places)) rows)
stored_filtered cells places keeps xs rows h =
    let show = λ (r : Row). map (column r) places in
    subst (λ l. IsPermutation l (map show (filter (λ r. keeps (show r)) rows))) (filter-map keeps cells xs)
    (subst (IsPermutation (filter keeps (map cells xs))) (filter-map keeps show rows) (IsPermutation-filter keeps (map cells xs) (map show rows) h))

pub truth_is : (c : Bool) → is_true (from_truth (Some c)) ≡ c
truth_is true = refl
truth_is false = refl

pub and_true : (b : Bool) → (b && true) ≡ b
and_true true = refl
and_true false = refl

pub same_text : (a b : List ℕ) → is_true (binary (Compare Eq Binary) (Text a) (Text b)) ≡ bytes_eq a b
unfolding binary
same_text a b = truth_is (is_eq (value_cmp (Text a) (Text b))) ∙ ap is_eq (value_cmp-Text a b) ∙ is_eq-slice_cmp a b

-- whether a row of staged files, as it is shown, has another path, or one of `meta` another name
abbrev pub other_path : List ℕ → Row → Bool
other_path path row = not (is_true (binary (Compare Eq Binary) (column row 0) (Text path)) && true)

others_kept : (path : List ℕ) (xs : List StagedRow) → filter (λ x. other_path path (staged_cells x)) xs ≡ filter (λ row. not (bytes_eq row.path path)) xs
others_kept path xs = λ i. filter (λ (x : StagedRow). not ((and_true (is_true (binary (Compare Eq Binary) (Text x.path) (Text path))) ∙ same_text x.path path) i)) xs

commit_row : (rows : List Row) (n : ℤ) (message : List ℕ) → with_rowid Chosen rows (cast Integer (Int n) ∷ cast Integer Null ∷ Blob message ∷ []) ≡ Int n ∷ Null ∷ Blob message ∷ []
commit_row rows n message = rw (cast_int n, cast_null) refl

-- ---- the statements, whatever tables stand after those of a store

module _ (more : MoreTables) where
  abbrev schema : Schema
  schema = store_with more

  -- ---- INSERT

  pub put_meta : (old new : State) (t : Tables) (row : MetaRow) (count : ℕ) → HoldsIn schema old.now t → Executes text.put_meta (Text row.name ∷ Int row.value ∷ []) old new (Ok count)
      → HoldsIn schema new.now (with_meta row t)
  put_meta old new t row count h ran =
      let params = Text row.name ∷ Int row.value ∷ [] in
      let rows = old.now.trees 0 in
      let new_row = Int (next_rowid rows) ∷ Text row.name ∷ Int row.value ∷ [] in
      let w = runs_as text.put_meta params old new schema h.schema (Insert 0 (Values two 3)) (text.put_meta_is more).0 (text.put_meta_is more).1 count ran in
      let p = inserts schema 0 _ 0 _ _ _ _ _ refl old new h.schema _ params count two 3 (Null ∷ Text row.name ∷ Int row.value ∷ []) refl w in
      let q : PutsRow schema 0 new_row old.now.trees new.now.trees =
      subst (λ x. PutsRow schema 0 x old.now.trees new.now.trees) (chosen_is rows (Text row.name ∷ cast Integer (Int row.value) ∷ [])
      ∙ ap (λ v. Int (next_rowid rows) ∷ Text row.name ∷ v ∷ []) (cast_int row.value)) p.1 in
      let o = q.others in
      record {
        schema = p.0;
        sound = w.sound;
        meta = subst (Stored meta_cells (1 ∷ 2 ∷ []) (row ∷ t.meta)) (sym q.rows) (stored_more meta_cells (1 ∷ 2 ∷ []) row t.meta new_row rows refl q.free h.meta);
        blobs = subst (Stored blob_cells (1 ∷ 2 ∷ []) t.blobs) (sym (o.1.0 (omega arith))) h.blobs;
        staged = subst (Stored staged_cells (1 ∷ 2 ∷ 3 ∷ []) t.staged) (sym (o.1.1.0 (omega arith))) h.staged;
        staged_keyed = subst AreKeyed (sym (o.1.1.0 (omega arith))) h.staged_keyed;
        fixes = subst (Stored fix_cells (1 ∷ 2 ∷ 3 ∷ []) t.fixes) (sym (o.1.1.1.0 (omega arith))) h.fixes;
        fixes_numbered = subst AreNumbered (sym (o.1.1.1.0 (omega arith))) h.fixes_numbered;
        commits = subst (Stored commit_cells (0 ∷ 2 ∷ []) t.commits) (sym (o.1.1.1.1.0 (omega arith))) h.commits;
        entries = subst (Stored entry_cells (1 ∷ 2 ∷ 3 ∷ 4 ∷ []) t.entries) (sym (o.1.1.1.1.1.0 (omega arith))) h.entries;
        answers = subst (Stored answer_cells (1 ∷ 2 ∷ 3 ∷ 4 ∷ 5 ∷ []) t.answers) (sym (o.1.1.1.1.1.1.0 (omega arith))) h.answers;
        answers_keyed = subst AreKeyed (sym (o.1.1.1.1.1.1.0 (omega arith))) h.answers_keyed;
      }

  pub put_blob : (old new : State) (t : Tables) (row : BlobRow) (count : ℕ) → HoldsIn schema old.now t → Executes text.put_blob (Blob row.digest ∷ Blob row.bytes ∷ []) old new (Ok count)
      → HoldsIn schema new.now (with_blob row t)
  put_blob old new t row count h ran =
      let params = Blob row.digest ∷ Blob row.bytes ∷ [] in
      let rows = old.now.trees 2 in
      let new_row = Int (next_rowid rows) ∷ Blob row.digest ∷ Blob row.bytes ∷ [] in
      let w = runs_as text.put_blob params old new schema h.schema (Insert 1 (Values two 3)) (text.put_blob_is more).0 (text.put_blob_is more).1 count ran in
      let p = inserts schema 1 _ 2 _ _ _ _ _ refl old new h.schema _ params count two 3 (Null ∷ Blob row.digest ∷ Blob row.bytes ∷ []) refl w in
      let q : PutsRow schema 2 new_row old.now.trees new.now.trees = subst (λ x. PutsRow schema 2 x old.now.trees new.now.trees) (chosen_is rows (Blob row.digest ∷ Blob row.bytes ∷ [])) p.1 in
      let o = q.others in
      record {
        schema = p.0;
        sound = w.sound;
        meta = subst (Stored meta_cells (1 ∷ 2 ∷ []) t.meta) (sym (o.0 (omega arith))) h.meta;
        blobs = subst (Stored blob_cells (1 ∷ 2 ∷ []) (row ∷ t.blobs)) (sym q.rows) (stored_more blob_cells (1 ∷ 2 ∷ []) row t.blobs new_row rows refl q.free h.blobs);
        staged = subst (Stored staged_cells (1 ∷ 2 ∷ 3 ∷ []) t.staged) (sym (o.1.1.0 (omega arith))) h.staged;
        staged_keyed = subst AreKeyed (sym (o.1.1.0 (omega arith))) h.staged_keyed;
        fixes = subst (Stored fix_cells (1 ∷ 2 ∷ 3 ∷ []) t.fixes) (sym (o.1.1.1.0 (omega arith))) h.fixes;
        fixes_numbered = subst AreNumbered (sym (o.1.1.1.0 (omega arith))) h.fixes_numbered;
        commits = subst (Stored commit_cells (0 ∷ 2 ∷ []) t.commits) (sym (o.1.1.1.1.0 (omega arith))) h.commits;
        entries = subst (Stored entry_cells (1 ∷ 2 ∷ 3 ∷ 4 ∷ []) t.entries) (sym (o.1.1.1.1.1.0 (omega arith))) h.entries;
        answers = subst (Stored answer_cells (1 ∷ 2 ∷ 3 ∷ 4 ∷ 5 ∷ []) t.answers) (sym (o.1.1.1.1.1.1.0 (omega arith))) h.answers;
        answers_keyed = subst AreKeyed (sym (o.1.1.1.1.1.1.0 (omega arith))) h.answers_keyed;
      }

  pub put_staged : (old new : State) (t : Tables) (row : StagedRow) (count : ℕ) → HoldsIn schema old.now t
      → Executes text.put_staged (Text row.path ∷ Int row.mode ∷ Blob row.digest ∷ []) old new (Ok count) → HoldsIn schema new.now (with_staged row t)
  put_staged old new t row count h ran =
      let params = Text row.path ∷ Int row.mode ∷ Blob row.digest ∷ [] in
      let rows = old.now.trees 4 in
      let new_row = Int (next_rowid rows) ∷ Text row.path ∷ Int row.mode ∷ Blob row.digest ∷ [] in
      let w = runs_as text.put_staged params old new schema h.schema (Insert 2 (Values three 4)) (text.put_staged_is more).0 (text.put_staged_is more).1 count ran in
      let p = inserts schema 2 _ 4 _ _ _ _ _ refl old new h.schema _ params count three 4 (Null ∷ Text row.path ∷ Int row.mode ∷ Blob row.digest ∷ []) refl w in
      let q : PutsRow schema 4 new_row old.now.trees new.now.trees =
      subst (λ x. PutsRow schema 4 x old.now.trees new.now.trees) (chosen_is rows (Text row.path ∷ cast Integer (Int row.mode) ∷ Blob row.digest ∷ [])
      ∙ ap (λ v. Int (next_rowid rows) ∷ Text row.path ∷ v ∷ Blob row.digest ∷ []) (cast_int row.mode)) p.1 in
      let o = q.others in
      record {
        schema = p.0;
        sound = w.sound;
        meta = subst (Stored meta_cells (1 ∷ 2 ∷ []) t.meta) (sym (o.0 (omega arith))) h.meta;
        blobs = subst (Stored blob_cells (1 ∷ 2 ∷ []) t.blobs) (sym (o.1.0 (omega arith))) h.blobs;
        staged = subst (Stored staged_cells (1 ∷ 2 ∷ 3 ∷ []) (row ∷ t.staged)) (sym q.rows) (stored_more staged_cells (1 ∷ 2 ∷ 3 ∷ []) row t.staged new_row rows refl q.free h.staged);
        staged_keyed = subst AreKeyed (sym q.rows) (record { numbered = put_keyed new_row rows q.keyed h.staged_keyed.numbered; apart = put_apart new_row rows q.free h.staged_keyed.apart });
        fixes = subst (Stored fix_cells (1 ∷ 2 ∷ 3 ∷ []) t.fixes) (sym (o.1.1.1.0 (omega arith))) h.fixes;
        fixes_numbered = subst AreNumbered (sym (o.1.1.1.0 (omega arith))) h.fixes_numbered;
        commits = subst (Stored commit_cells (0 ∷ 2 ∷ []) t.commits) (sym (o.1.1.1.1.0 (omega arith))) h.commits;
        entries = subst (Stored entry_cells (1 ∷ 2 ∷ 3 ∷ 4 ∷ []) t.entries) (sym (o.1.1.1.1.1.0 (omega arith))) h.entries;
        answers = subst (Stored answer_cells (1 ∷ 2 ∷ 3 ∷ 4 ∷ 5 ∷ []) t.answers) (sym (o.1.1.1.1.1.1.0 (omega arith))) h.answers;
        answers_keyed = subst AreKeyed (sym (o.1.1.1.1.1.1.0 (omega arith))) h.answers_keyed;
      }

  pub put_fix : (old new : State) (t : Tables) (row : FixRow) (count : ℕ) → HoldsIn schema old.now t
      → Executes text.put_fix (Text row.path ∷ Int row.gone ∷ or_null Blob row.digest ∷ []) old new (Ok count) → HoldsIn schema new.now (with_fix row t)
  put_fix old new t row count h ran =
      let params = Text row.path ∷ Int row.gone ∷ or_null Blob row.digest ∷ [] in
      let rows = old.now.trees 6 in
      let new_row = Int (next_rowid rows) ∷ Text row.path ∷ Int row.gone ∷ or_null Blob row.digest ∷ [] in
      let w = runs_as text.put_fix params old new schema h.schema (Insert 3 (Values three 4)) (text.put_fix_is more).0 (text.put_fix_is more).1 count ran in
      let p = inserts schema 3 _ 6 _ _ _ _ _ refl old new h.schema _ params count three 4 (Null ∷ Text row.path ∷ Int row.gone ∷ or_null Blob row.digest ∷ []) refl w in
      let q : PutsRow schema 6 new_row old.now.trees new.now.trees =
      subst (λ x. PutsRow schema 6 x old.now.trees new.now.trees) (chosen_is rows (Text row.path ∷ cast Integer (Int row.gone) ∷ or_null Blob row.digest ∷ [])
      ∙ ap (λ v. Int (next_rowid rows) ∷ Text row.path ∷ v ∷ or_null Blob row.digest ∷ []) (cast_int row.gone)) p.1 in
      let o = q.others in
      record {
        schema = p.0;
        sound = w.sound;
        meta = subst (Stored meta_cells (1 ∷ 2 ∷ []) t.meta) (sym (o.0 (omega arith))) h.meta;
        blobs = subst (Stored blob_cells (1 ∷ 2 ∷ []) t.blobs) (sym (o.1.0 (omega arith))) h.blobs;
        staged = subst (Stored staged_cells (1 ∷ 2 ∷ 3 ∷ []) t.staged) (sym (o.1.1.0 (omega arith))) h.staged;
        staged_keyed = subst AreKeyed (sym (o.1.1.0 (omega arith))) h.staged_keyed;
        fixes = subst (Stored fix_cells (1 ∷ 2 ∷ 3 ∷ []) (row ∷ t.fixes)) (sym q.rows) (stored_more fix_cells (1 ∷ 2 ∷ 3 ∷ []) row t.fixes new_row rows refl q.free h.fixes);
        fixes_numbered = subst AreNumbered (sym q.rows) (put_keyed new_row rows q.keyed h.fixes_numbered);
        commits = subst (Stored commit_cells (0 ∷ 2 ∷ []) t.commits) (sym (o.1.1.1.1.0 (omega arith))) h.commits;
        entries = subst (Stored entry_cells (1 ∷ 2 ∷ 3 ∷ 4 ∷ []) t.entries) (sym (o.1.1.1.1.1.0 (omega arith))) h.entries;
        answers = subst (Stored answer_cells (1 ∷ 2 ∷ 3 ∷ 4 ∷ 5 ∷ []) t.answers) (sym (o.1.1.1.1.1.1.0 (omega arith))) h.answers;
        answers_keyed = subst AreKeyed (sym (o.1.1.1.1.1.1.0 (omega arith))) h.answers_keyed;
      }

  pub put_commit : (old new : State) (t : Tables) (row : CommitRow) (count : ℕ) → HoldsIn schema old.now t → Executes text.put_commit (Int row.n ∷ Blob row.message ∷ []) old new (Ok count)
      → HoldsIn schema new.now (with_commit row t)
  put_commit old new t row count h ran =
      let params = Int row.n ∷ Blob row.message ∷ [] in
      let rows = old.now.trees 8 in
      let new_row = Int row.n ∷ Null ∷ Blob row.message ∷ [] in
      let w = runs_as text.put_commit params old new schema h.schema (Insert 4 (Values keyed_two 3)) (text.put_commit_is more).0 (text.put_commit_is more).1 count ran in
      let p = inserts schema 4 _ 8 _ _ _ _ _ refl old new h.schema _ params count keyed_two 3 (Int row.n ∷ Null ∷ Blob row.message ∷ []) refl w in
      let q : PutsRow schema 8 new_row old.now.trees new.now.trees = subst (λ x. PutsRow schema 8 x old.now.trees new.now.trees) (commit_row rows row.n row.message) p.1 in
      let o = q.others in
      record {
        schema = p.0;
        sound = w.sound;
        meta = subst (Stored meta_cells (1 ∷ 2 ∷ []) t.meta) (sym (o.0 (omega arith))) h.meta;
        blobs = subst (Stored blob_cells (1 ∷ 2 ∷ []) t.blobs) (sym (o.1.0 (omega arith))) h.blobs;
        staged = subst (Stored staged_cells (1 ∷ 2 ∷ 3 ∷ []) t.staged) (sym (o.1.1.0 (omega arith))) h.staged;
        staged_keyed = subst AreKeyed (sym (o.1.1.0 (omega arith))) h.staged_keyed;
        fixes = subst (Stored fix_cells (1 ∷ 2 ∷ 3 ∷ []) t.fixes) (sym (o.1.1.1.0 (omega arith))) h.fixes;
        fixes_numbered = subst AreNumbered (sym (o.1.1.1.0 (omega arith))) h.fixes_numbered;
        commits = subst (Stored commit_cells (0 ∷ 2 ∷ []) (row ∷ t.commits)) (sym q.rows) (stored_more commit_cells (0 ∷ 2 ∷ []) row t.commits new_row rows refl q.free h.commits);
        entries = subst (Stored entry_cells (1 ∷ 2 ∷ 3 ∷ 4 ∷ []) t.entries) (sym (o.1.1.1.1.1.0 (omega arith))) h.entries;
        answers = subst (Stored answer_cells (1 ∷ 2 ∷ 3 ∷ 4 ∷ 5 ∷ []) t.answers) (sym (o.1.1.1.1.1.1.0 (omega arith))) h.answers;
        answers_keyed = subst AreKeyed (sym (o.1.1.1.1.1.1.0 (omega arith))) h.answers_keyed;
      }

  pub put_entry : (old new : State) (t : Tables) (row : EntryRow) (count : ℕ) → HoldsIn schema old.now t
      → Executes text.put_entry (Int row.n ∷ Text row.path ∷ Int row.mode ∷ Blob row.digest ∷ []) old new (Ok count) → HoldsIn schema new.now (with_entry row t)
  put_entry old new t row count h ran =
      let params = Int row.n ∷ Text row.path ∷ Int row.mode ∷ Blob row.digest ∷ [] in
      let rows = old.now.trees 9 in
      let new_row = Int (next_rowid rows) ∷ Int row.n ∷ Text row.path ∷ Int row.mode ∷ Blob row.digest ∷ [] in
      let w = runs_as text.put_entry params old new schema h.schema (Insert 5 (Values four 5)) (text.put_entry_is more).0 (text.put_entry_is more).1 count ran in
      let p = inserts schema 5 _ 9 _ _ _ _ _ refl old new h.schema _ params count four 5 (Null ∷ Int row.n ∷ Text row.path ∷ Int row.mode ∷ Blob row.digest ∷ []) refl w in
      let q : PutsRow schema 9 new_row old.now.trees new.now.trees =
      subst (λ x. PutsRow schema 9 x old.now.trees new.now.trees) (chosen_is rows (cast Integer (Int row.n) ∷ Text row.path ∷ cast Integer (Int row.mode) ∷ Blob row.digest ∷ [])
      ∙ ap (λ v. Int (next_rowid rows) ∷ v ∷ Text row.path ∷ cast Integer (Int row.mode) ∷ Blob row.digest ∷ []) (cast_int row.n)
      ∙ ap (λ v. Int (next_rowid rows) ∷ Int row.n ∷ Text row.path ∷ v ∷ Blob row.digest ∷ []) (cast_int row.mode)) p.1 in
      let o = q.others in
      record {
        schema = p.0;
        sound = w.sound;
        meta = subst (Stored meta_cells (1 ∷ 2 ∷ []) t.meta) (sym (o.0 (omega arith))) h.meta;
        blobs = subst (Stored blob_cells (1 ∷ 2 ∷ []) t.blobs) (sym (o.1.0 (omega arith))) h.blobs;
        staged = subst (Stored staged_cells (1 ∷ 2 ∷ 3 ∷ []) t.staged) (sym (o.1.1.0 (omega arith))) h.staged;
        staged_keyed = subst AreKeyed (sym (o.1.1.0 (omega arith))) h.staged_keyed;
        fixes = subst (Stored fix_cells (1 ∷ 2 ∷ 3 ∷ []) t.fixes) (sym (o.1.1.1.0 (omega arith))) h.fixes;
        fixes_numbered = subst AreNumbered (sym (o.1.1.1.0 (omega arith))) h.fixes_numbered;
        commits = subst (Stored commit_cells (0 ∷ 2 ∷ []) t.commits) (sym (o.1.1.1.1.0 (omega arith))) h.commits;
        entries = subst (Stored entry_cells (1 ∷ 2 ∷ 3 ∷ 4 ∷ []) (row ∷ t.entries)) (sym q.rows) (stored_more entry_cells (1 ∷ 2 ∷ 3 ∷ 4 ∷ []) row t.entries new_row rows refl q.free h.entries);
        answers = subst (Stored answer_cells (1 ∷ 2 ∷ 3 ∷ 4 ∷ 5 ∷ []) t.answers) (sym (o.1.1.1.1.1.1.0 (omega arith))) h.answers;
        answers_keyed = subst AreKeyed (sym (o.1.1.1.1.1.1.0 (omega arith))) h.answers_keyed;
      }

  pub put_answer : (old new : State) (t : Tables) (row : AnswerRow) (count : ℕ) → HoldsIn schema old.now t
      → Executes text.put_answer (Blob row.words ∷ Blob row.seen ∷ Blob row.output ∷ Blob row.changes ∷ Int row.status ∷ []) old new (Ok count) → HoldsIn schema new.now (with_answer row t)
  put_answer old new t row count h ran =
      let params = Blob row.words ∷ Blob row.seen ∷ Blob row.output ∷ Blob row.changes ∷ Int row.status ∷ [] in
      let rows = old.now.trees 11 in
      let new_row = Int (next_rowid rows) ∷ Blob row.words ∷ Blob row.seen ∷ Blob row.output ∷ Blob row.changes ∷ Int row.status ∷ [] in
      let w = runs_as text.put_answer params old new schema h.schema (Insert 6 (Values five 6)) (text.put_answer_is more).0 (text.put_answer_is more).1 count ran in
      let p = inserts schema 6 _ 11 _ _ _ _ _ refl old new h.schema _ params count five 6 (Null ∷ Blob row.words ∷ Blob row.seen ∷ Blob row.output ∷ Blob row.changes ∷ Int row.status ∷ []) refl w in
      let q : PutsRow schema 11 new_row old.now.trees new.now.trees =
      subst (λ x. PutsRow schema 11 x old.now.trees new.now.trees) (chosen_is rows (Blob row.words ∷ Blob row.seen ∷ Blob row.output ∷ Blob row.changes ∷ cast Integer (Int row.status) ∷ [])
      ∙ ap (λ v. Int (next_rowid rows) ∷ Blob row.words ∷ Blob row.seen ∷ Blob row.output ∷ Blob row.changes ∷ v ∷ []) (cast_int row.status)) p.1 in
      let o = q.others in
      record {
        schema = p.0;
        sound = w.sound;
        meta = subst (Stored meta_cells (1 ∷ 2 ∷ []) t.meta) (sym (o.0 (omega arith))) h.meta;
        blobs = subst (Stored blob_cells (1 ∷ 2 ∷ []) t.blobs) (sym (o.1.0 (omega arith))) h.blobs;
        staged = subst (Stored staged_cells (1 ∷ 2 ∷ 3 ∷ []) t.staged) (sym (o.1.1.0 (omega arith))) h.staged;
        staged_keyed = subst AreKeyed (sym (o.1.1.0 (omega arith))) h.staged_keyed;
        fixes = subst (Stored fix_cells (1 ∷ 2 ∷ 3 ∷ []) t.fixes) (sym (o.1.1.1.0 (omega arith))) h.fixes;
        fixes_numbered = subst AreNumbered (sym (o.1.1.1.0 (omega arith))) h.fixes_numbered;
        commits = subst (Stored commit_cells (0 ∷ 2 ∷ []) t.commits) (sym (o.1.1.1.1.0 (omega arith))) h.commits;
        entries = subst (Stored entry_cells (1 ∷ 2 ∷ 3 ∷ 4 ∷ []) t.entries) (sym (o.1.1.1.1.1.0 (omega arith))) h.entries;
        answers =
            subst (Stored answer_cells (1 ∷ 2 ∷ 3 ∷ 4 ∷ 5 ∷ []) (row ∷ t.answers)) (sym q.rows) (stored_more answer_cells (1 ∷ 2 ∷ 3 ∷ 4 ∷ 5 ∷ []) row t.answers new_row rows refl q.free h.answers);
        answers_keyed = subst AreKeyed (sym q.rows) (record { numbered = put_keyed new_row rows q.keyed h.answers_keyed.numbered; apart = put_apart new_row rows q.free h.answers_keyed.apart });
      }

  -- ---- DELETE

  pub take_staged : (old new : State) (t : Tables) (path : List ℕ) (count : ℕ) → HoldsIn schema old.now t → Executes text.take_staged (Text path ∷ []) old new (Ok count)
      → HoldsIn schema new.now (without_staged path t)
  take_staged old new t path count h ran =
      let params = Text path ∷ [] in
      let rows = old.now.trees 4 in
      let w = runs_as text.take_staged params old new schema h.schema _ (text.take_staged_is more).0 (text.take_staged_is more).1 count ran in
      let p = deletes schema 2 _ 4 _ _ _ _ _ refl old new h.schema _ params count first_is_given (store_stays more.tables more.rests) h.staged_keyed.numbered h.staged_keyed.apart w in
      let q = p.1 in
      let o = q.others in
      record {
        schema = p.0;
        sound = w.sound;
        meta = subst (Stored meta_cells (1 ∷ 2 ∷ []) t.meta) (sym (o.0 (omega arith))) h.meta;
        blobs = subst (Stored blob_cells (1 ∷ 2 ∷ []) t.blobs) (sym (o.1.0 (omega arith))) h.blobs;
        staged = subst (Stored staged_cells (1 ∷ 2 ∷ 3 ∷ []) (without_staged path t).staged) (sym q.rows_are)
            (subst (λ xs. Stored staged_cells (1 ∷ 2 ∷ 3 ∷ []) xs (filter (λ r. not (passes_all first_is_given params r)) rows)) (others_kept path t.staged)
            (stored_filtered staged_cells (1 ∷ 2 ∷ 3 ∷ []) (other_path path) t.staged rows h.staged));
        staged_keyed = subst AreKeyed (sym q.rows_are) (record { numbered = filter_keyed _ rows h.staged_keyed.numbered; apart = filter_apart _ rows h.staged_keyed.apart });
        fixes = subst (Stored fix_cells (1 ∷ 2 ∷ 3 ∷ []) t.fixes) (sym (o.1.1.1.0 (omega arith))) h.fixes;
        fixes_numbered = subst AreNumbered (sym (o.1.1.1.0 (omega arith))) h.fixes_numbered;
        commits = subst (Stored commit_cells (0 ∷ 2 ∷ []) t.commits) (sym (o.1.1.1.1.0 (omega arith))) h.commits;
        entries = subst (Stored entry_cells (1 ∷ 2 ∷ 3 ∷ 4 ∷ []) t.entries) (sym (o.1.1.1.1.1.0 (omega arith))) h.entries;
        answers = subst (Stored answer_cells (1 ∷ 2 ∷ 3 ∷ 4 ∷ 5 ∷ []) t.answers) (sym (o.1.1.1.1.1.1.0 (omega arith))) h.answers;
        answers_keyed = subst AreKeyed (sym (o.1.1.1.1.1.1.0 (omega arith))) h.answers_keyed;
      }

  pub clear_fixes : (old new : State) (t : Tables) (count : ℕ) → HoldsIn schema old.now t → Executes text.clear_fixes [] old new (Ok count) → HoldsIn schema new.now (without_fixes t)
  clear_fixes old new t count h ran =
      let w = runs_as text.clear_fixes [] old new schema h.schema _ (text.clear_fixes_is more).0 (text.clear_fixes_is more).1 count ran in
      let p = empties schema 3 _ 6 _ _ _ _ _ refl old new h.schema _ [] count (store_stays more.tables more.rests) h.fixes_numbered w in
      let q = p.1 in
      let o = q.others in
      record {
        schema = p.0;
        sound = w.sound;
        meta = subst (Stored meta_cells (1 ∷ 2 ∷ []) t.meta) (sym (o.0 (omega arith))) h.meta;
        blobs = subst (Stored blob_cells (1 ∷ 2 ∷ []) t.blobs) (sym (o.1.0 (omega arith))) h.blobs;
        staged = subst (Stored staged_cells (1 ∷ 2 ∷ 3 ∷ []) t.staged) (sym (o.1.1.0 (omega arith))) h.staged;
        staged_keyed = subst AreKeyed (sym (o.1.1.0 (omega arith))) h.staged_keyed;
        fixes = subst (Stored fix_cells (1 ∷ 2 ∷ 3 ∷ []) []) (sym q.rows_are) (IsPermutation-refl []);
        fixes_numbered = subst AreNumbered (sym q.rows_are) refl;
        commits = subst (Stored commit_cells (0 ∷ 2 ∷ []) t.commits) (sym (o.1.1.1.1.0 (omega arith))) h.commits;
        entries = subst (Stored entry_cells (1 ∷ 2 ∷ 3 ∷ 4 ∷ []) t.entries) (sym (o.1.1.1.1.1.0 (omega arith))) h.entries;
        answers = subst (Stored answer_cells (1 ∷ 2 ∷ 3 ∷ 4 ∷ 5 ∷ []) t.answers) (sym (o.1.1.1.1.1.1.0 (omega arith))) h.answers;
        answers_keyed = subst AreKeyed (sym (o.1.1.1.1.1.1.0 (omega arith))) h.answers_keyed;
      }

  pub clear_answers : (old new : State) (t : Tables) (count : ℕ) → HoldsIn schema old.now t → Executes text.clear_answers [] old new (Ok count) → HoldsIn schema new.now (without_answers t)
  clear_answers old new t count h ran =
      let w = runs_as text.clear_answers [] old new schema h.schema _ (text.clear_answers_is more).0 (text.clear_answers_is more).1 count ran in
      let p = empties schema 6 _ 11 _ _ _ _ _ refl old new h.schema _ [] count (store_stays more.tables more.rests) h.answers_keyed.numbered w in
      let q = p.1 in
      let o = q.others in
      record {
        schema = p.0;
        sound = w.sound;
        meta = subst (Stored meta_cells (1 ∷ 2 ∷ []) t.meta) (sym (o.0 (omega arith))) h.meta;
        blobs = subst (Stored blob_cells (1 ∷ 2 ∷ []) t.blobs) (sym (o.1.0 (omega arith))) h.blobs;
        staged = subst (Stored staged_cells (1 ∷ 2 ∷ 3 ∷ []) t.staged) (sym (o.1.1.0 (omega arith))) h.staged;
        staged_keyed = subst AreKeyed (sym (o.1.1.0 (omega arith))) h.staged_keyed;
        fixes = subst (Stored fix_cells (1 ∷ 2 ∷ 3 ∷ []) t.fixes) (sym (o.1.1.1.0 (omega arith))) h.fixes;
        fixes_numbered = subst AreNumbered (sym (o.1.1.1.0 (omega arith))) h.fixes_numbered;
        commits = subst (Stored commit_cells (0 ∷ 2 ∷ []) t.commits) (sym (o.1.1.1.1.0 (omega arith))) h.commits;
        entries = subst (Stored entry_cells (1 ∷ 2 ∷ 3 ∷ 4 ∷ []) t.entries) (sym (o.1.1.1.1.1.0 (omega arith))) h.entries;
        answers = subst (Stored answer_cells (1 ∷ 2 ∷ 3 ∷ 4 ∷ 5 ∷ []) []) (sym q.rows_are) (IsPermutation-refl []);
        answers_keyed = subst AreKeyed (sym q.rows_are) (record { numbered = refl; apart = tt });
      }

-- ---- parameters

-- what is bound for a fix is what its row shows
pub fix_params : (path : List ℕ) (now : Option (Bor (List ℕ))) (gone : Bool) → is_some now ≡ not gone
    → Text path ∷ Int (cond gone (pos 1) (pos 0)) ∷ bound_value (or_null (λ (b : Bor (List ℕ)). Blob b.now) now) ∷ [] ≡ fix_cells (fix_row_of_digest path now)
fix_params path None true h = refl
fix_params path None false h = cc
fix_params path (Some b) true h = cc
fix_params path (Some b) false h = refl

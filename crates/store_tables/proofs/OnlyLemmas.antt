-- Each statement changes only its own table, whatever tables stand after those of a store.
use Rattle.std.proofs.Common.{◌≡◌, ℕ, ℤ, List, [], ◌∷◌, Ok, refl}
use Rattle.sqlite_value.specs.declared.value.Value.TheVariants.{Null, Int, Text, Blob}
use Rattle.sqlite_schema.specs.declared.schema.Schema.{Schema}
use Rattle.sqlite_schema.specs.declared.command.Source.TheVariants.{Values}
use Rattle.sqlite_schema.specs.declared.command.Command.TheVariants.{Insert}
use Rattle.sqlite.specs.State.{State, Executes}
use Rattle.sqlite.specs.Values.{or_null}
use Rattle.store_tables.proofs.Kit.{runs_as}
use Rattle.store_tables.specs.declared.rows.FixRow.{FixRow}
use Rattle.store_tables.specs.Schema.{meta, blobs, staged, fixes, commits, entries, answers, MoreTables, store_with}
use Rattle.store_tables.specs.Tables.{ChangesOnly}
use Rattle.store_tables.proofs.Compiles as text
use Rattle.store_tables.proofs.Compiles.{two, three, four, five, keyed_two, first_is_given, two_are_given}
use Rattle.store_tables.proofs.WriteLemmas.{store_stays, inserts_only, deletes_only}

module _ (more : MoreTables) where
  abbrev schema : Schema
  schema = store_with more

  pub put_meta : (old new : State) (name : List ℕ) (value : ℤ) (count : ℕ) → old.now.schema ≡ schema → Executes text.put_meta (Text name ∷ Int value ∷ []) old new (Ok count)
      → ChangesOnly meta schema old.now new.now
  put_meta old new name value count has ran =
      let params = Text name ∷ Int value ∷ [] in
      inserts_only schema 0 _ 0 _ _ _ _ _ refl old new has _ params count two 3 (Null ∷ Text name ∷ Int value ∷ []) refl
      (runs_as text.put_meta params old new schema has (Insert 0 (Values two 3)) (text.put_meta_is more).0 (text.put_meta_is more).1 count ran)

  pub put_blob : (old new : State) (digest bytes : List ℕ) (count : ℕ) → old.now.schema ≡ schema → Executes text.put_blob (Blob digest ∷ Blob bytes ∷ []) old new (Ok count)
      → ChangesOnly blobs schema old.now new.now
  put_blob old new digest bytes count has ran =
      let params = Blob digest ∷ Blob bytes ∷ [] in
      inserts_only schema 1 _ 2 _ _ _ _ _ refl old new has _ params count two 3 (Null ∷ Blob digest ∷ Blob bytes ∷ []) refl
      (runs_as text.put_blob params old new schema has (Insert 1 (Values two 3)) (text.put_blob_is more).0 (text.put_blob_is more).1 count ran)

  pub put_staged : (old new : State) (path : List ℕ) (mode : ℤ) (digest : List ℕ) (count : ℕ) → old.now.schema ≡ schema
      → Executes text.put_staged (Text path ∷ Int mode ∷ Blob digest ∷ []) old new (Ok count) → ChangesOnly staged schema old.now new.now
  put_staged old new path mode digest count has ran =
      let params = Text path ∷ Int mode ∷ Blob digest ∷ [] in
      inserts_only schema 2 _ 4 _ _ _ _ _ refl old new has _ params count three 4 (Null ∷ Text path ∷ Int mode ∷ Blob digest ∷ []) refl
      (runs_as text.put_staged params old new schema has (Insert 2 (Values three 4)) (text.put_staged_is more).0 (text.put_staged_is more).1 count ran)

  pub put_fix : (old new : State) (row : FixRow) (count : ℕ) → old.now.schema ≡ schema → Executes text.put_fix (Text row.path ∷ Int row.gone ∷ or_null Blob row.digest ∷ []) old new (Ok count)
      → ChangesOnly fixes schema old.now new.now
  put_fix old new row count has ran =
      let params = Text row.path ∷ Int row.gone ∷ or_null Blob row.digest ∷ [] in
      inserts_only schema 3 _ 6 _ _ _ _ _ refl old new has _ params count three 4 (Null ∷ Text row.path ∷ Int row.gone ∷ or_null Blob row.digest ∷ []) refl
      (runs_as text.put_fix params old new schema has (Insert 3 (Values three 4)) (text.put_fix_is more).0 (text.put_fix_is more).1 count ran)

  pub put_commit : (old new : State) (n : ℤ) (message : List ℕ) (count : ℕ) → old.now.schema ≡ schema → Executes text.put_commit (Int n ∷ Blob message ∷ []) old new (Ok count)
      → ChangesOnly commits schema old.now new.now
  put_commit old new n message count has ran =
      let params = Int n ∷ Blob message ∷ [] in
      inserts_only schema 4 _ 8 _ _ _ _ _ refl old new has _ params count keyed_two 3 (Int n ∷ Null ∷ Blob message ∷ []) refl
      (runs_as text.put_commit params old new schema has (Insert 4 (Values keyed_two 3)) (text.put_commit_is more).0 (text.put_commit_is more).1 count ran)

  pub put_entry : (old new : State) (n : ℤ) (path : List ℕ) (mode : ℤ) (digest : List ℕ) (count : ℕ) → old.now.schema ≡ schema
      → Executes text.put_entry (Int n ∷ Text path ∷ Int mode ∷ Blob digest ∷ []) old new (Ok count) → ChangesOnly entries schema old.now new.now
  put_entry old new n path mode digest count has ran =
      let params = Int n ∷ Text path ∷ Int mode ∷ Blob digest ∷ [] in
      inserts_only schema 5 _ 9 _ _ _ _ _ refl old new has _ params count four 5 (Null ∷ Int n ∷ Text path ∷ Int mode ∷ Blob digest ∷ []) refl
      (runs_as text.put_entry params old new schema has (Insert 5 (Values four 5)) (text.put_entry_is more).0 (text.put_entry_is more).1 count ran)

  pub put_answer : (old new : State) (words seen output changes : List ℕ) (status : ℤ) (count : ℕ) → old.now.schema ≡ schema
      → Executes text.put_answer (Blob words ∷ Blob seen ∷ Blob output ∷ Blob changes ∷ Int status ∷ []) old new (Ok count) → ChangesOnly answers schema old.now new.now
  put_answer old new words seen output changes status count has ran =
      let params = Blob words ∷ Blob seen ∷ Blob output ∷ Blob changes ∷ Int status ∷ [] in
      inserts_only schema 6 _ 11 _ _ _ _ _ refl old new has _ params count five 6 (Null ∷ Blob words ∷ Blob seen ∷ Blob output ∷ Blob changes ∷ Int status ∷ []) refl
      (runs_as text.put_answer params old new schema has (Insert 6 (Values five 6)) (text.put_answer_is more).0 (text.put_answer_is more).1 count ran)

  pub take_meta : (old new : State) (name : List ℕ) (count : ℕ) → old.now.schema ≡ schema → Executes text.take_meta (Text name ∷ []) old new (Ok count) → ChangesOnly meta schema old.now new.now
  take_meta old new name count has ran =
      deletes_only schema 0 _ 0 _ _ _ _ _ refl old new has _ (Text name ∷ []) count first_is_given (store_stays more.tables more.rests)
      (runs_as text.take_meta (Text name ∷ []) old new schema has _ (text.take_meta_is more).0 (text.take_meta_is more).1 count ran)

  pub take_staged : (old new : State) (path : List ℕ) (count : ℕ) → old.now.schema ≡ schema → Executes text.take_staged (Text path ∷ []) old new (Ok count) → ChangesOnly staged schema old.now new.now
  take_staged old new path count has ran =
      deletes_only schema 2 _ 4 _ _ _ _ _ refl old new has _ (Text path ∷ []) count first_is_given (store_stays more.tables more.rests)
      (runs_as text.take_staged (Text path ∷ []) old new schema has _ (text.take_staged_is more).0 (text.take_staged_is more).1 count ran)

  pub take_answer : (old new : State) (words seen : List ℕ) (count : ℕ) → old.now.schema ≡ schema → Executes text.take_answer (Blob words ∷ Blob seen ∷ []) old new (Ok count)
      → ChangesOnly answers schema old.now new.now
  take_answer old new words seen count has ran =
      deletes_only schema 6 _ 11 _ _ _ _ _ refl old new has _ (Blob words ∷ Blob seen ∷ []) count two_are_given (store_stays more.tables more.rests)
      (runs_as text.take_answer (Blob words ∷ Blob seen ∷ []) old new schema has _ (text.take_answer_is more).0 (text.take_answer_is more).1 count ran)

  pub clear_staged : (old new : State) (count : ℕ) → old.now.schema ≡ schema → Executes text.clear_staged [] old new (Ok count) → ChangesOnly staged schema old.now new.now
  clear_staged old new count has ran =
      deletes_only schema 2 _ 4 _ _ _ _ _ refl old new has _ [] count [] (store_stays more.tables more.rests)
      (runs_as text.clear_staged [] old new schema has _ (text.clear_staged_is more).0 (text.clear_staged_is more).1 count ran)

  pub clear_fixes : (old new : State) (count : ℕ) → old.now.schema ≡ schema → Executes text.clear_fixes [] old new (Ok count) → ChangesOnly fixes schema old.now new.now
  clear_fixes old new count has ran =
      deletes_only schema 3 _ 6 _ _ _ _ _ refl old new has _ [] count [] (store_stays more.tables more.rests)
      (runs_as text.clear_fixes [] old new schema has _ (text.clear_fixes_is more).0 (text.clear_fixes_is more).1 count ran)

  pub clear_answers : (old new : State) (count : ℕ) → old.now.schema ≡ schema → Executes text.clear_answers [] old new (Ok count) → ChangesOnly answers schema old.now new.now
  clear_answers old new count has ran =
      deletes_only schema 6 _ 11 _ _ _ _ _ refl old new has _ [] count [] (store_stays more.tables more.rests)
      (runs_as text.clear_answers [] old new schema has _ (text.clear_answers_is more).0 (text.clear_answers_is more).1 count ran)

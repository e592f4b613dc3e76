-- What the texts of the statements compile to.
use Rattle.std.proofs.Common.{◌≡◌, ℕ, List, [], ◌∷◌, codes, Ok, false, refl}
use Rattle.sqlite_value.specs.declared.value.Value.TheVariants.{Null}
use Rattle.sqlite_value.specs.declared.keys.Key.{Key}
use Rattle.sqlite_value.specs.declared.keys.Collation.TheVariants.{Binary}
use Rattle.sqlite_value.specs.Keys.{ascending}
use Rattle.sqlite_sql.specs.Term.{Term, lit, col, op2}
use Rattle.sqlite_sql.specs.declared.ops.BinaryOp.TheVariants.{Compare}
use Rattle.sqlite_sql.specs.declared.ops.CompareOp.TheVariants.{Eq}
use Rattle.sqlite_schema.specs.declared.command.Source.TheVariants.{Values}
use Rattle.sqlite_schema.specs.declared.command.Command.{Command}
use Rattle.sqlite_schema.specs.declared.command.Command.TheVariants.{Insert, Delete, Select}
use Rattle.store_tables.proofs.Kit.{IsPlain, command_of}
use Rattle.store_tables.proofs.QueryLemmas.{plain_query}
use Rattle.sqlite_resolve.specs.Compile.{table_defined_by}
use Rattle.sqlite_tied.specs.Compute.{everything}
use Rattle.sqlite.specs.Listing.{understood, reads_listing}
use Rattle.sqlite_schema.specs.declared.schema.Table.{Table}
use Rattle.sqlite_schema.specs.declared.schema.Schema.{Schema}
use Rattle.store_tables.specs.Schema.{meta, blobs, staged, fixes, commits, entries, answers, MoreTables, store_with}

-- a table before it is given its tree
abbrev pub unplaced : Table → Table
unplaced table = record table { tree = 0 }

abbrev pub make_meta : List ℕ
make_meta = codes "CREATE TABLE meta (name TEXT PRIMARY KEY, value INTEGER NOT NULL) STRICT"

abbrev pub make_blobs : List ℕ
make_blobs = codes "CREATE TABLE blobs (digest BLOB PRIMARY KEY, bytes BLOB NOT NULL) STRICT"

abbrev pub make_staged : List ℕ
make_staged = codes "CREATE TABLE staged (path TEXT PRIMARY KEY, mode INTEGER NOT NULL, digest BLOB NOT NULL REFERENCES blobs) STRICT"

abbrev pub make_fixes : List ℕ
make_fixes = codes "CREATE TABLE fixes (path TEXT PRIMARY KEY, gone INTEGER NOT NULL, digest BLOB REFERENCES blobs) STRICT"

abbrev pub make_commits : List ℕ
make_commits = codes "CREATE TABLE commits (n INTEGER PRIMARY KEY, message BLOB NOT NULL) STRICT"

abbrev pub make_entries : List ℕ
make_entries =
    codes "CREATE TABLE entries (n INTEGER NOT NULL REFERENCES commits, path TEXT NOT NULL, mode INTEGER NOT NULL, digest BLOB NOT NULL REFERENCES blobs, PRIMARY KEY (n, path)) STRICT"

abbrev pub make_answers : List ℕ
make_answers =
    codes
    "CREATE TABLE answers (words BLOB NOT NULL REFERENCES blobs, seen BLOB NOT NULL REFERENCES blobs, output BLOB NOT NULL REFERENCES blobs, changes BLOB NOT NULL REFERENCES blobs, status INTEGER NOT NULL, PRIMARY KEY (words, seen)) STRICT"

pub meta_defined : table_defined_by make_meta ≡ Ok (unplaced meta)
unfolding table_defined_by everything
meta_defined = refl

pub blobs_defined : table_defined_by make_blobs ≡ Ok (unplaced blobs)
unfolding table_defined_by everything
blobs_defined = refl

pub staged_defined : table_defined_by make_staged ≡ Ok (unplaced staged)
unfolding table_defined_by everything
staged_defined = refl

pub fixes_defined : table_defined_by make_fixes ≡ Ok (unplaced fixes)
unfolding table_defined_by everything
fixes_defined = refl

pub commits_defined : table_defined_by make_commits ≡ Ok (unplaced commits)
unfolding table_defined_by everything
commits_defined = refl

pub entries_defined : table_defined_by make_entries ≡ Ok (unplaced entries)
unfolding table_defined_by everything
entries_defined = refl

pub answers_defined : table_defined_by make_answers ≡ Ok (unplaced answers)
unfolding table_defined_by everything
answers_defined = refl

-- ---- rows

abbrev pub put_meta : List ℕ
put_meta = codes "INSERT INTO meta (name, value) VALUES (?1, ?2)"

abbrev pub put_blob : List ℕ
put_blob = codes "INSERT INTO blobs (digest, bytes) VALUES (?1, ?2)"

abbrev pub put_staged : List ℕ
put_staged = codes "INSERT INTO staged (path, mode, digest) VALUES (?1, ?2, ?3)"

abbrev pub put_fix : List ℕ
put_fix = codes "INSERT INTO fixes (path, gone, digest) VALUES (?1, ?2, ?3)"

abbrev pub put_commit : List ℕ
put_commit = codes "INSERT INTO commits (n, message) VALUES (?1, ?2)"

abbrev pub put_entry : List ℕ
put_entry = codes "INSERT INTO entries (n, path, mode, digest) VALUES (?1, ?2, ?3, ?4)"

abbrev pub put_answer : List ℕ
put_answer = codes "INSERT INTO answers (words, seen, output, changes, status) VALUES (?1, ?2, ?3, ?4, ?5)"

abbrev pub two : List Term
two = lit Null ∷ col 0 0 ∷ col 0 1 ∷ []

abbrev pub three : List Term
three = lit Null ∷ col 0 0 ∷ col 0 1 ∷ col 0 2 ∷ []

abbrev pub four : List Term
four = lit Null ∷ col 0 0 ∷ col 0 1 ∷ col 0 2 ∷ col 0 3 ∷ []

abbrev pub five : List Term
five = lit Null ∷ col 0 0 ∷ col 0 1 ∷ col 0 2 ∷ col 0 3 ∷ col 0 4 ∷ []

-- the first parameter is the rowid
abbrev pub keyed_two : List Term
keyed_two = col 0 0 ∷ lit Null ∷ col 0 1 ∷ []

abbrev pub Compiles : Schema → List ℕ → Command → Type 0
Compiles schema text command = (command_of (understood schema text) ≡ command) × IsPlain (understood schema text)

abbrev pub take_staged : List ℕ
take_staged = codes "DELETE FROM staged WHERE path = ?1"

abbrev pub take_meta : List ℕ
take_meta = codes "DELETE FROM meta WHERE name = ?1"

abbrev pub take_answer : List ℕ
take_answer = codes "DELETE FROM answers WHERE words = ?1 AND seen = ?2"

abbrev pub clear_staged : List ℕ
clear_staged = codes "DELETE FROM staged"

abbrev pub clear_fixes : List ℕ
clear_fixes = codes "DELETE FROM fixes"

abbrev pub clear_answers : List ℕ
clear_answers = codes "DELETE FROM answers"

-- the first column is the first parameter, as are a path and a name
abbrev pub first_is_given : List Term
first_is_given = op2 (Compare Eq Binary) (col 1 1) (col 0 0) ∷ []

abbrev pub two_are_given : List Term
two_are_given = op2 (Compare Eq Binary) (col 1 1) (col 0 0) ∷ op2 (Compare Eq Binary) (col 1 2) (col 0 1) ∷ []

-- ---- queries

abbrev pub all_meta : List ℕ
all_meta = codes "SELECT rowid, name, value FROM meta ORDER BY name"

abbrev pub all_blobs : List ℕ
all_blobs = codes "SELECT rowid, digest, bytes FROM blobs ORDER BY digest"

abbrev pub all_staged : List ℕ
all_staged = codes "SELECT rowid, path, mode, digest FROM staged ORDER BY path"

abbrev pub all_fixes : List ℕ
all_fixes = codes "SELECT rowid, path, gone, digest FROM fixes ORDER BY path"

abbrev pub all_commits : List ℕ
all_commits = codes "SELECT n, message FROM commits ORDER BY n"

abbrev pub all_entries : List ℕ
all_entries = codes "SELECT rowid, n, path, mode, digest FROM entries ORDER BY n, path"

abbrev pub all_answers : List ℕ
all_answers = codes "SELECT rowid, words, seen, output, changes, status FROM answers ORDER BY words, seen"

-- the text is a query over one table, that shows these places in this order
abbrev pub Selects : Schema → List ℕ → ℕ → List Term → List (Term × Key) → List (List ℕ) → Type 0
Selects schema text tree project order names =
    Compiles schema text (Select (record { lets = []; body = plain_query tree [] project order }) names) × (reads_listing schema text ≡ false)

abbrev pub rising : ℕ → Term × Key
rising place = (col 1 place, ascending Binary)

-- ---- what they compile to, whatever tables stand after those of a store

module _ (more : MoreTables) where
  abbrev schema : Schema
  schema = store_with more

  pub put_meta_is : Compiles schema put_meta (Insert 0 (Values two 3))
  unfolding understood everything
  put_meta_is = (refl, (refl, refl))

  pub put_blob_is : Compiles schema put_blob (Insert 1 (Values two 3))
  unfolding understood everything
  put_blob_is = (refl, (refl, refl))

  pub put_staged_is : Compiles schema put_staged (Insert 2 (Values three 4))
  unfolding understood everything
  put_staged_is = (refl, (refl, refl))

  pub put_fix_is : Compiles schema put_fix (Insert 3 (Values three 4))
  unfolding understood everything
  put_fix_is = (refl, (refl, refl))

  pub put_commit_is : Compiles schema put_commit (Insert 4 (Values keyed_two 3))
  unfolding understood everything
  put_commit_is = (refl, (refl, refl))

  pub put_entry_is : Compiles schema put_entry (Insert 5 (Values four 5))
  unfolding understood everything
  put_entry_is = (refl, (refl, refl))

  pub put_answer_is : Compiles schema put_answer (Insert 6 (Values five 6))
  unfolding understood everything
  put_answer_is = (refl, (refl, refl))

  pub take_staged_is : Compiles schema take_staged (Delete 2 (record { lets = []; body = plain_query 4 first_is_given (col 1 0 ∷ []) [] }))
  unfolding understood everything
  take_staged_is = (refl, (refl, refl))

  pub take_meta_is : Compiles schema take_meta (Delete 0 (record { lets = []; body = plain_query 0 first_is_given (col 1 0 ∷ []) [] }))
  unfolding understood everything
  take_meta_is = (refl, (refl, refl))

  pub take_answer_is : Compiles schema take_answer (Delete 6 (record { lets = []; body = plain_query 11 two_are_given (col 1 0 ∷ []) [] }))
  unfolding understood everything
  take_answer_is = (refl, (refl, refl))

  pub clear_staged_is : Compiles schema clear_staged (Delete 2 (record { lets = []; body = plain_query 4 [] (col 1 0 ∷ []) [] }))
  unfolding understood everything
  clear_staged_is = (refl, (refl, refl))

  pub clear_fixes_is : Compiles schema clear_fixes (Delete 3 (record { lets = []; body = plain_query 6 [] (col 1 0 ∷ []) [] }))
  unfolding understood everything
  clear_fixes_is = (refl, (refl, refl))

  pub clear_answers_is : Compiles schema clear_answers (Delete 6 (record { lets = []; body = plain_query 11 [] (col 1 0 ∷ []) [] }))
  unfolding understood everything
  clear_answers_is = (refl, (refl, refl))

  pub all_meta_is : Selects schema all_meta 0 (col 1 0 ∷ col 1 1 ∷ col 1 2 ∷ []) (rising 1 ∷ []) (codes "rowid" ∷ codes "name" ∷ codes "value" ∷ [])
  unfolding understood everything
  all_meta_is = ((refl, (refl, refl)), refl)

  pub all_blobs_is : Selects schema all_blobs 2 (col 1 0 ∷ col 1 1 ∷ col 1 2 ∷ []) (rising 1 ∷ []) (codes "rowid" ∷ codes "digest" ∷ codes "bytes" ∷ [])
  unfolding understood everything
  all_blobs_is = ((refl, (refl, refl)), refl)

  pub all_staged_is : Selects schema all_staged 4 (col 1 0 ∷ col 1 1 ∷ col 1 2 ∷ col 1 3 ∷ []) (rising 1 ∷ []) (codes "rowid" ∷ codes "path" ∷ codes "mode" ∷ codes "digest" ∷ [])
  unfolding understood everything
  all_staged_is = ((refl, (refl, refl)), refl)

  pub all_fixes_is : Selects schema all_fixes 6 (col 1 0 ∷ col 1 1 ∷ col 1 2 ∷ col 1 3 ∷ []) (rising 1 ∷ []) (codes "rowid" ∷ codes "path" ∷ codes "gone" ∷ codes "digest" ∷ [])
  unfolding understood everything
  all_fixes_is = ((refl, (refl, refl)), refl)

  pub all_commits_is : Selects schema all_commits 8 (col 1 0 ∷ col 1 2 ∷ []) (rising 0 ∷ []) (codes "n" ∷ codes "message" ∷ [])
  unfolding understood everything
  all_commits_is = ((refl, (refl, refl)), refl)

  pub all_entries_is : Selects schema all_entries 9 (col 1 0 ∷ col 1 1 ∷ col 1 2 ∷ col 1 3 ∷ col 1 4 ∷ []) (rising 1 ∷ rising 2 ∷ [])
      (codes "rowid" ∷ codes "n" ∷ codes "path" ∷ codes "mode" ∷ codes "digest" ∷ [])
  unfolding understood everything
  all_entries_is = ((refl, (refl, refl)), refl)

  pub all_answers_is : Selects schema all_answers 11 (col 1 0 ∷ col 1 1 ∷ col 1 2 ∷ col 1 3 ∷ col 1 4 ∷ col 1 5 ∷ []) (rising 1 ∷ rising 2 ∷ [])
      (codes "rowid" ∷ codes "words" ∷ codes "seen" ∷ codes "output" ∷ codes "changes" ∷ codes "status" ∷ [])
  unfolding understood everything
  all_answers_is = ((refl, (refl, refl)), refl)

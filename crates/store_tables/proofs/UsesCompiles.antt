-- What the texts of the statements on uses compile to, whatever tables stand after them.
use Rattle.std.proofs.Common.{◌≡◌, ℕ, List, [], ◌∷◌, codes, Ok, refl}
use Rattle.sqlite_sql.specs.Term.{col}
use Rattle.sqlite_schema.specs.declared.command.Source.TheVariants.{Values}
use Rattle.sqlite_schema.specs.declared.command.Command.TheVariants.{Insert, Delete}
use Rattle.sqlite_resolve.specs.Compile.{table_defined_by}
use Rattle.sqlite_tied.specs.Compute.{everything}
use Rattle.sqlite.specs.Listing.{understood}
use Rattle.sqlite_schema.specs.declared.schema.Schema.{Schema}
use Rattle.store_tables.specs.Schema.{uses, MoreTables, store_with, uses_then}
use Rattle.store_tables.proofs.Compiles.{Compiles, Selects, rising, three, two_are_given, unplaced}
use Rattle.store_tables.proofs.QueryLemmas.{plain_query}

abbrev pub make_uses : List ℕ
make_uses = codes "CREATE TABLE uses (words BLOB NOT NULL, seen BLOB NOT NULL, tick INTEGER NOT NULL UNIQUE, PRIMARY KEY (words, seen)) STRICT"

pub uses_defined : table_defined_by make_uses ≡ Ok (unplaced uses)
unfolding table_defined_by everything
uses_defined = refl

abbrev pub put_use : List ℕ
put_use = codes "INSERT INTO uses (words, seen, tick) VALUES (?1, ?2, ?3)"

abbrev pub take_use : List ℕ
take_use = codes "DELETE FROM uses WHERE words = ?1 AND seen = ?2"

abbrev pub clear_uses : List ℕ
clear_uses = codes "DELETE FROM uses"

abbrev pub uses_by_key : List ℕ
uses_by_key = codes "SELECT rowid, words, seen, tick FROM uses ORDER BY words, seen"

abbrev pub uses_by_tick : List ℕ
uses_by_tick = codes "SELECT rowid, words, seen, tick FROM uses ORDER BY tick"

module _ (more : MoreTables) where
  abbrev schema : Schema
  schema = store_with (uses_then more)

  pub put_use_is : Compiles schema put_use (Insert 7 (Values three 4))
  unfolding understood everything
  put_use_is = (refl, (refl, refl))

  pub take_use_is : Compiles schema take_use (Delete 7 (record { lets = []; body = plain_query 13 two_are_given (col 1 0 ∷ []) [] }))
  unfolding understood everything
  take_use_is = (refl, (refl, refl))

  pub clear_uses_is : Compiles schema clear_uses (Delete 7 (record { lets = []; body = plain_query 13 [] (col 1 0 ∷ []) [] }))
  unfolding understood everything
  clear_uses_is = (refl, (refl, refl))

  pub uses_by_key_is : Selects schema uses_by_key 13 (col 1 0 ∷ col 1 1 ∷ col 1 2 ∷ col 1 3 ∷ []) (rising 1 ∷ rising 2 ∷ []) (codes "rowid" ∷ codes "words" ∷ codes "seen" ∷ codes "tick" ∷ [])
  unfolding understood everything
  uses_by_key_is = ((refl, (refl, refl)), refl)

  pub uses_by_tick_is : Selects schema uses_by_tick 13 (col 1 0 ∷ col 1 1 ∷ col 1 2 ∷ col 1 3 ∷ []) (rising 3 ∷ []) (codes "rowid" ∷ codes "words" ∷ codes "seen" ∷ codes "tick" ∷ [])
  unfolding understood everything
  uses_by_tick_is = ((refl, (refl, refl)), refl)

-- The empty statement.
use Rattle.std.proofs.Common.{◌≡◌, ◌<◌, ℕ, [], Ok, refl, sym, subst}
use Rattle.store_tables.proofs.Kit.{all_of, runs_as}
use Rattle.sqlite_schema.specs.declared.schema.Schema.{Schema}
use Rattle.sqlite_schema.specs.declared.schema.Table.{Table}
use Rattle.sqlite_schema.specs.declared.command.Command.TheVariants.{Nothing}
use Rattle.sqlite_tied.specs.Compute.{everything}
use Rattle.sqlite.specs.Effect.{Database}
use Rattle.sqlite.specs.Listing.{understood}
use Rattle.sqlite.specs.State.{State, Executes}
use Rattle.store_tables.specs.Schema.{MoreTables, store_with}
use Rattle.store_tables.specs.Tables.{Tables, HoldsIn, KeepsMore, greatest_tree}
use Rattle.store_tables.proofs.Compiles.{Compiles}

module _ (more : MoreTables) where
  abbrev schema : Schema
  schema = store_with more

  nothing_is : Compiles schema [] Nothing
  unfolding understood everything
  nothing_is = (refl, (refl, refl))

  pub is_unchanged : (old new : State) (count : ℕ) → old.now.schema ≡ schema → Executes [] [] old new (Ok count) → new.now ≡ old.now
  is_unchanged old new count has ran = (runs_as [] [] old new schema has Nothing nothing_is.0 nothing_is.1 count ran).0.0.now_is

  pub changes_nothing : (old new : State) (t : Tables) (count : ℕ) → HoldsIn schema old.now t → Executes [] [] old new (Ok count) → HoldsIn schema new.now t
  changes_nothing old new t count h ran =
      subst (λ (db : Database). HoldsIn schema db t) (sym (is_unchanged old new count h.schema ran)) h

  pub keeps_all : (old new : State) (count : ℕ) → old.now.schema ≡ schema → Executes [] [] old new (Ok count) → KeepsMore schema old.now new.now
  keeps_all old new count has ran =
      subst (KeepsMore schema old.now) (sym (is_unchanged old new count has ran))
      (record { schema = has; trees = all_of (λ (t : Table). greatest_tree < t.tree → old.now.trees t.tree ≡ old.now.trees t.tree) (λ t above. refl) schema.tables; meta_keyed = λ keyed. keyed })

-- What a query of the uses shows of their table, whatever tables stand after it.
use Rattle.std.proofs.Common.{◌≡◌, ℕ, List, [], ◌∷◌, map, drop, Result, Ok, Err, IfOk, refl}
use Rattle.std.proofs.lemmas.Result.{IfOk-at_ok}
use Rattle.sqlite_value.specs.Order.{Row}
use Rattle.sqlite_value.specs.declared.keys.Key.{Key}
use Rattle.sqlite_trees.specs.declared.store.Store.{Ghosts}
use Rattle.sqlite_trees.specs.Tree.{Trees}
use Rattle.sqlite_sql.specs.Term.{Term, col}
use Rattle.sqlite.specs.declared.error.Error.{Error}
use Rattle.sqlite.specs.Held.{Held, state}
use Rattle.sqlite.specs.State.{Survives, Shown}
use Rattle.store_tables.specs.declared.rows.UseRow.{UseRow}
use Rattle.store_tables.specs.Rowids.{ShowRowids}
use Rattle.store_tables.specs.Schema.{MoreTables, store_with, uses_then}
use Rattle.store_tables.specs.Uses.{HoldsUses, IsReadOfUses, use_cells}
use Rattle.store_tables.proofs.Compiles.{Selects}
use Rattle.store_tables.proofs.ReadLemmas.{Answered, Refused, keyed_as_shown, query_keeps, read_rows, table_shown}

-- the rowid, and each column in its place
abbrev pub all_columns : List Term
all_columns = col 1 0 ∷ col 1 1 ∷ col 1 2 ∷ col 1 3 ∷ []

module _ {S V : Type 0} (g : Ghosts S) (old new : Held S) (sql : List ℕ) (items : V → List Row) (r : Result V Error) (ok : Answered g old new sql items r) (err : Refused g old new sql r)
    (survives : Survives (state g old) (state g new) (λ _. ⊥)) where
  pub uses_fail : {W : Type 0} (out : Result W Error) (d : Error) → out ≡ Err d → (Rows : W → Trees → Type 0) → IsReadOfUses g old new out Rows
  uses_fail out d is Rows = record { rows = λ _ _ _. rw is tt; kept = query_keeps g old new sql items r ok err; survives = survives }

  pub uses_shown : {W : Type 0} (order : List (Term × Key)) (names : List (List ℕ)) → ((more : MoreTables) → Selects (store_with (uses_then more)) sql 13 all_columns order names) → (shown : V)
      → r ≡ Ok shown
      → (out : Result W Error) (listed : W → List UseRow) → IfOk out (λ w. map use_cells (listed w) ≡ map (drop 1) (items shown)) → IfOk out (λ w. ShowRowids (items shown))
      → IsReadOfUses g old new out (λ w trees. HoldsUses trees (listed w))
  uses_shown order names text shown is (Err e) listed done apart = uses_fail (Err e) e refl _
  uses_shown order names text shown is (Ok w) listed done apart = record {
    rows = λ more clean has.
        let rows = (state g old).now.trees 13 in
        let it = table_shown g old new sql (store_with (uses_then more)) 13 all_columns order names (text more) (items shown) has
        (IfOk-at_ok (λ v. Shown sql [] (state g old) (state g new) (items v)) is (ok clean)) in (
          it.0,
          record {
            stored = read_rows use_cells (1 ∷ 2 ∷ 3 ∷ []) 1 all_columns (listed w) rows (items shown) (λ row. refl) it.1 done;
            keyed = keyed_as_shown all_columns rows (items shown) (λ row. refl) it.1 apart;
          },
        );
    kept = query_keeps g old new sql items r ok err;
    survives = survives;
  }

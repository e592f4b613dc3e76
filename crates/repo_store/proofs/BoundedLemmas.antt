-- Statements on the tables of a store, as steps from one content to the next.
use Rattle.std.proofs.Common.{[], true, Result, refl, sym, subst}
use Rattle.std.proofs.lemmas.List.Sorted.{IsPermutation-refl}
use Rattle.std.proofs.lemmas.Result.{on_ok_weaker}
use Rattle.sqlite_trees.specs.declared.store.Store.{Ghosts}
use Rattle.sqlite.specs.declared.error.Error.{Error}
use Rattle.sqlite.specs.Effect.{Database}
use Rattle.sqlite.specs.Held.{Held, state}
use Rattle.sqlite.specs.State.{Shows}
use Rattle.store_tables.specs.Steps.{IsChange, IsMade}
use Rattle.store_tables.specs.Tables.{AreKeyed, HoldsTables, IsEmptyStore, no_rows}
use Rattle.store_tables.specs.Uses.{AddsUses, HoldsRows, MakesBareUses}
use Rattle.store_tables.proofs.UsesStepLemmas.{grown_as_made}
use Rattle.repo_store.specs.Bounded.{HoldsNext}
use Rattle.repo_store.specs.Kept.{nothing_kept}
use Rattle.repo_store.specs.Rows.{tables_of}

module _ {S A : Type 0} (g : Ghosts S) (old new : Held S) (r : Result A Error) where
  -- the table of uses, made after those of an empty store
  pub bare_as_made : IsChange g old new r MakesBareUses → IsChange g old new r AddsUses → IsMade g old new r IsEmptyStore (λ db. HoldsRows db no_rows [])
  bare_as_made change added =
      let made = grown_as_made g old new r no_rows change added in
      record {
        done =
            λ clean inside. on_ok_weaker r (λ (d : Shows (state g old) (state g new) (state g new).now (state g old).committed true
            × (HoldsTables (state g old).now no_rows × AreKeyed ((state g old).now.trees 0) → HoldsRows (state g new).now no_rows [])).
            (d.0, λ empty. d.1 (empty.1, subst AreKeyed (sym empty.0.empty.0) (record { numbered = refl; apart = tt })))) (made.done clean inside);
        kept = made.kept;
        survives = made.survives;
      }

  -- what is made, told of more
  pub made_as : (P Q R : Database → Type 0) → ((db : Database) → Q db → R db) → IsMade g old new r P Q → IsMade g old new r P R
  made_as P Q R f made = record {
    done =
        λ clean inside. on_ok_weaker r (λ (d : Shows (state g old) (state g new) (state g new).now (state g old).committed true × (P (state g old).now → Q (state g new).now)).
        (d.0, λ p. f (state g new).now (d.1 p))) (made.done clean inside);
    kept = made.kept;
    survives = made.survives;
  }

-- an empty store
pub holds_nothing : (db : Database) → HoldsRows db (tables_of nothing_kept) [] → HoldsNext 1 db nothing_kept
holds_nothing db h = record {
  rows = [];
  holds = h;
  uses = record { ticks = []; as_many = refl; fall = tt; rows_are = IsPermutation-refl [] };
}

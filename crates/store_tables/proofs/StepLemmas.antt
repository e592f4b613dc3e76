-- From what a transaction says of a statement to what the statement makes of the tables.
use Rattle.std.proofs.Common.{◌≡◌, ◌≢◌, ◌≤◌, ◌<◌, inl, inr, ℕ, zero, suc, List, true, false, Result, Ok, Err, OnOk, IsTrue, refl, sym, subst, ◌∙◌, arith}
use Rattle.std.proofs.lemmas.Bool.{cases_Bool}
use Rattle.std.proofs.lemmas.Result.{on_ok_weaker}
use Rattle.sqlite_value.specs.Order.{Row}
use Rattle.sqlite_trees.specs.declared.store.Store.{Ghosts}
use Rattle.sqlite.specs.declared.error.Error.{Error}
use Rattle.sqlite.specs.declared.error.Error.TheVariants.{SqliteFailure}
use Rattle.sqlite.specs.declared.error.ErrorCode.TheVariants.{TransactionState}
use Rattle.sqlite.specs.Held.{Held, state}
use Rattle.sqlite.specs.Effect.{Database}
use Rattle.sqlite.specs.State.{State, HasCleanDisk, KeepsCommit, Shows, Survives, Executes, ExecutesInside}
use Rattle.store_tables.proofs.Kit.{all_both, all_weaker, inside_keeps, keeps_then, survives_then}
use Rattle.sqlite_schema.specs.declared.schema.Schema.{Schema}
use Rattle.sqlite_schema.specs.declared.schema.Table.{Table}
use Rattle.store_tables.specs.Tables.{Tables, AreKeyed, HoldsIn, ChangesOnly, KeepsMore, greatest_tree}
use Rattle.store_tables.specs.Schema.{MoreTables, store_with}
use Rattle.store_tables.specs.Steps.{IsStep, IsStatementDone, IsChange}

pub keeps_itself : (s : State) → KeepsCommit s s
keeps_itself s = record { was_open = λ h. h; committed = λ _. refl }

module _ {S : Type 0} (g : Ghosts S) (old new : Held S) (sql : List ℕ) (params : Row) (r : Result ℕ Error)
    (ended : old.in_transaction ≡ false → (r ≡ Err (SqliteFailure TransactionState)) × (new ≡ old))
    (runs : HasCleanDisk (state g new) → IsTrue old.in_transaction → ExecutesInside 0 sql params (state g old) (state g new) r)
    (survives : Survives (state g old) (state g new) (λ _. ⊥)) where
  pub keeps : HasCleanDisk (state g new) → KeepsCommit (state g old) (state g new)
  keeps clean = elim (cases_Bool old.in_transaction) [
    | inl inside ↦ inside_keeps (state g old) (state g new) 0 false sql params r (runs clean inside)
    | inr outside ↦ subst (λ h. KeepsCommit (state g old) (state g h)) (sym (ended outside).1) (keeps_itself (state g old))
  ]

  pub fails : (makes : Tables → Tables) (e : Error) → IsStep {A = Unit {0}} g old new (Err e) makes
  fails makes e = record { done = λ _ _. tt; kept = keeps; survives = survives }

  pub finishes : (makes : Tables → Tables) (count : ℕ) → r ≡ Ok count
      → ((more : MoreTables) (t : Tables) → HoldsIn (store_with more) (state g old).now t → Executes sql params (state g old) (state g new) (Ok count)
      → HoldsIn (store_with more) (state g new).now (makes t))
      → ((more : MoreTables) → (state g old).now.schema ≡ store_with more → Executes sql params (state g old) (state g new) (Ok count)
      → KeepsMore (store_with more) (state g old).now (state g new).now)
      → IsStep {A = Unit {0}} g old new (Ok tt) makes
  finishes makes count is does keeps_more = record {
    done = λ clean inside. let ran =
        subst (ExecutesInside 0 sql params (state g old) (state g new)) is
        (runs clean inside) in record { shown = ran.1; holds = λ more t h. does more t h ran.0; keeps = λ more has. keeps_more more has ran.0 };
    kept = keeps;
    survives = survives;
  }

  pub fails_to_change : (Change : Schema → Database → Database → Type 0) (e : Error) → IsChange {A = Unit {0}} g old new (Err e) Change
  fails_to_change Change e = record { done = λ _ _. tt; kept = keeps; survives = survives }

  pub changes : (Change : Schema → Database → Database → Type 0) (count : ℕ) → r ≡ Ok count
      → ((more : MoreTables) → (state g old).now.schema ≡ store_with more → Executes sql params (state g old) (state g new) (Ok count) → Change (store_with more) (state g old).now (state g new).now)
      → IsChange {A = Unit {0}} g old new (Ok tt) Change
  changes Change count is does = record {
    done = λ clean inside. let ran = subst (ExecutesInside 0 sql params (state g old) (state g new)) is (runs clean inside) in (ran.1, λ more has. does more has ran.0);
    kept = keeps;
    survives = survives;
  }

-- ---- two statements in turn

abbrev Relation : Type 1
Relation = Schema → Database → Database → Type 0

abbrev pub Went : {S : Type 0} (g : Ghosts S) → Held S → Held S → Relation → Type 0
Went g x y Change =
    Shows (state g x) (state g y) (state g y).now (state g x).committed true
    × ((more : MoreTables) → (state g x).now.schema ≡ store_with more → Change (store_with more) (state g x).now (state g y).now)

pub change_then : {S A : Type 0} (g : Ghosts S) (a b c : Held S) (r : Result A Error) (First Second Both : Relation)
    → ((listed : Schema) (x y z : Database) → First listed x y → (y.schema ≡ listed → Second listed y z) → Both listed x z) → IsChange {A = Unit {0}} g a b (Ok tt) First → IsChange g b c r Second
    → IsChange g a c r Both
change_then {S} {A} g a b c r First Second Both join one two = record {
  done = λ clean inside. let first = one.done (omega (arith, two.survives.clean)) inside in go r (two.done clean first.0.mode) first;
  kept = λ clean. keeps_then (state g a) (state g b) (state g c) (one.kept (omega (arith, two.survives.clean))) (two.kept clean);
  survives = survives_then (state g a) (state g b) (state g c) _ _ (λ _. ⊥) (λ _ db none. none) (λ _ db none. none) one.survives two.survives;
}
  where
    go : (r : Result A Error) → OnOk r (Went g b c Second) → Went g a b First → OnOk r (Went g a c Both)
    go (Err e) second first = tt
    go (Ok x) second first = (
      record { was_open = first.0.was_open; is_open = second.0.is_open; now_is = refl; committed_is = second.0.committed_is ∙ first.0.committed_is; mode = second.0.mode },
      λ more has. join (store_with more) (state g a).now (state g b).now (state g c).now (first.1 more has) (λ listed. second.1 more listed),
    )

pub change_stops : {S A B : Type 0} (g : Ghosts S) (a b : Held S) (e d : Error) (r : Result B Error) (First Both : Relation) → r ≡ Err d → IsChange {A = A} g a b (Err e) First → IsChange g a b r Both
change_stops g a b e d r First Both is one = record { done = λ _ _. rw is tt; kept = one.kept; survives = one.survives }

-- what a statement makes of the tables, as a change
pub step_as_change : {S A : Type 0} (g : Ghosts S) (old new : Held S) (r : Result A Error) (makes : Tables → Tables) → IsStep g old new r makes
    → IsChange g old new r (λ listed x y. (t : Tables) → HoldsIn listed x t → HoldsIn listed y (makes t))
step_as_change g old new r makes h = record {
  done = λ clean inside. on_ok_weaker r (λ (d : IsStatementDone (state g old) (state g new) makes). (d.shown, λ more has t before. d.holds more t before)) (h.done clean inside);
  kept = h.kept;
  survives = h.survives;
}

-- two changes of one table are one of it
pub only_then : (own : Table) (listed : Schema) (x y z : Database) → ChangesOnly own listed x y → (y.schema ≡ listed → ChangesOnly own listed y z) → ChangesOnly own listed x z
only_then own listed x y z first later =
    let second = later first.schema in
    record {
      schema = second.schema;
      others = all_both (λ (t : Table). t.tree ≢ own.tree → y.trees t.tree ≡ x.trees t.tree) (λ (t : Table). t.tree ≢ own.tree → z.trees t.tree ≡ y.trees t.tree)
          (λ (t : Table). t.tree ≢ own.tree → z.trees t.tree ≡ x.trees t.tree) (λ t a b other. b other ∙ a other) listed.tables first.others second.others;
      keyed = λ k. second.keyed (first.keyed k);
    }

-- a change of one of a store's tables keeps those after them
pub only_keeps_more : (own : Table) (more : MoreTables) (old new : Database) → own.tree ≤ greatest_tree → ChangesOnly own (store_with more) old new → KeepsMore (store_with more) old new
only_keeps_more own more old new within only = record {
  schema = only.schema;
  trees = all_weaker (λ (t : Table). t.tree ≢ own.tree → new.trees t.tree ≡ old.trees t.tree) (λ (t : Table). greatest_tree < t.tree → new.trees t.tree ≡ old.trees t.tree)
      (λ t other above. other (omega (arith, within, above))) (store_with more).tables only.others;
  meta_keyed = λ keyed. (elim own.tree as (λ (n : ℕ). own.tree ≡ n → AreKeyed (new.trees 0)) [
    | zero ↦ λ e. subst (λ (n : ℕ). AreKeyed (new.trees n)) e (only.keyed (subst (λ (n : ℕ). AreKeyed (old.trees n)) (sym e) keyed))
    | suc n ↦ λ e. subst AreKeyed (sym (only.others.0 (omega (arith, e)))) keyed
  ]) refl;
}

-- what two statements in turn keep
pub more_then : (listed : Schema) (x y z : Database) → KeepsMore listed x y → KeepsMore listed y z → KeepsMore listed x z
more_then listed x y z first second = record {
  schema = second.schema;
  trees = all_both (λ (t : Table). greatest_tree < t.tree → y.trees t.tree ≡ x.trees t.tree) (λ (t : Table). greatest_tree < t.tree → z.trees t.tree ≡ y.trees t.tree)
      (λ (t : Table). greatest_tree < t.tree → z.trees t.tree ≡ x.trees t.tree) (λ t a b above. b above ∙ a above) listed.tables first.trees second.trees;
  meta_keyed = λ keyed. second.meta_keyed (first.meta_keyed keyed);
}

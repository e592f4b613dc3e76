-- From the steps of a transaction and its end to a whole call.
use Rattle.std.proofs.Common.{◌≡◌, ℕ, List, [], Bool, true, false, Result, Ok, Err, OnOk, OnErr, IsTrue, refl, sym, subst, ◌∙◌, arith}
use Rattle.std.proofs.lemmas.Bool.{both_ways}
use Rattle.sqlite_trees.specs.declared.store.Store.{Ghosts}
use Rattle.sqlite_trees.specs.Tree.{Trees}
use Rattle.sqlite_trees.specs.View.{doubt}
use Rattle.repo_store.proofs.Kit.{keeps_then, no_doubt, survives_then}
use Rattle.sqlite.specs.declared.error.Error.{Error}
use Rattle.sqlite.specs.Effect.{Database}
use Rattle.sqlite.specs.Held.{Held, state}
use Rattle.sqlite.specs.State.{State, HasCleanDisk, Survives}
use Rattle.store_tables.specs.declared.rows.UseRow.{UseRow}
use Rattle.store_tables.specs.Schema.{store_with}
use Rattle.store_tables.specs.Steps.{IsMade, IsStep, IsStatementDone}
use Rattle.store_tables.specs.Tables.{Tables}
use Rattle.store_tables.specs.Uses.{HoldsRows, as_store}
use Rattle.store_tables.proofs.StepLemmas.{more_then}
use Rattle.store_tables.proofs.UsesStepLemmas as uses
use Rattle.repo_store.specs.Answers.{KeptAnswer}
use Rattle.repo_store.specs.Bounded.{HoldsListed}
use Rattle.repo_store.specs.Calls.{Rests}
use Rattle.repo_store.specs.Transactions.{Commits, IsCall}
use Rattle.repo_store.specs.UsesOf.{AreUsesOf}

-- what is made of the tables and of the rows of uses, whichever these are, as a step from one list of answers to the next
pub listed_as_made : {S A : Type 0} (g : Ghosts S) (old new : Held S) (r : Result A Error) (t u : Tables) (makes : List UseRow → List UseRow) (next after : ℕ) (answers others : List KeptAnswer)
    → ((rows : List UseRow) → IsMade g old new r (λ db. HoldsRows db t rows) (λ db. HoldsRows db u (makes rows)))
    → ((rows : List UseRow) → AreUsesOf next rows answers → AreUsesOf after (makes rows) others)
    → IsMade g old new r (λ db. HoldsListed next answers db t) (λ db. HoldsListed after others db u)
listed_as_made g old new (Ok x) t u makes next after answers others made follows = record {
  done = λ clean inside. (
    ((made []).done clean inside).0,
    λ h. record { rows = makes h.rows; holds = ((made h.rows).done clean inside).1 h.holds; uses = follows h.rows h.uses },
  );
  kept = (made []).kept;
  survives = (made []).survives;
}
listed_as_made g old new (Err e) t u makes next after answers others made follows = record { done = λ clean inside. tt; kept = (made []).kept; survives = (made []).survives }

-- a statement on the seven tables, which leaves the answers in their order
pub step_as_made : {S A : Type 0} (g : Ghosts S) (old new : Held S) (r : Result A Error) (t : Tables) (next : ℕ) (answers : List KeptAnswer) (makes : Tables → Tables)
    → IsStep g old new r makes → IsMade g old new r (λ db. HoldsListed next answers db t) (λ db. HoldsListed next answers db (makes t))
step_as_made g old new r t next answers makes step =
    listed_as_made g old new r t (makes t) (λ rows. rows) next next answers answers (λ rows. uses.step_as_made g old new r t rows makes step) (λ rows h. h)

-- a store that is open is on a clean disk
pub clean_if_open : (clean opened : Bool) → (clean ≡ false → opened ≡ false) → IsTrue opened → doubt clean ≡ 0
clean_if_open true opened law h = no_doubt true refl
clean_if_open false opened law h = absurd (both_ways _ (law refl) h)

-- ---- a call, from what it does on a clean disk

pub record IsCleanCall {S A : Type 0} (g : Ghosts S) (old new : Held S) (result : Result A Error) (Before After : Database → Type 0) : Type 0 where
  pub outside : new.in_transaction ≡ false
  pub done : HasCleanDisk (state g new) → (IsTrue (state g old).is_open → Before (state g old).now) → OnOk result (Commits (state g new) After)
  pub kept : HasCleanDisk (state g new) → OnErr result (Rests (state g old) (state g new))
  pub survives : (IsTrue (state g old).is_open → Before (state g old).now) → Survives (state g old) (state g new) (λ trees. After (as_store trees))

rests_always : {A : Type 0} (r : Result A Error) (old new : State) → (new.is_clean ≡ false → new.is_open ≡ false) → (HasCleanDisk new → OnErr r (Rests old new)) → OnErr r (Rests old new)
rests_always (Ok x) old new dirty clean = tt
rests_always (Err e) old new dirty clean = record {
  was_open = λ h. (clean (clean_if_open new.is_clean new.is_open dirty h)).was_open h;
  now = λ h. (clean (clean_if_open new.is_clean new.is_open dirty h)).now h;
  committed = λ h. (clean (clean_if_open new.is_clean new.is_open dirty h)).committed h;
}

pub whole_call : {S A : Type 0} (g : Ghosts S) (old new : Held S) (r : Result A Error) (Before After : Database → Type 0) → ((state g new).is_clean ≡ false → (state g new).is_open ≡ false)
    → IsCleanCall g old new r Before After → IsCall g old new r Before After
whole_call g old new r Before After dirty call = record {
  outside = call.outside;
  done = call.done;
  kept = rests_always r (state g old) (state g new) dirty call.kept;
  survives = call.survives;
}

-- the trees of a store, under its schema
pub holds_as : (db : Database) (next : ℕ) (answers : List KeptAnswer) (t : Tables) → HoldsListed next answers db t → HoldsListed next answers (as_store db.trees) t
holds_as db next answers t h = record { rows = h.rows; holds = subst (λ s. HoldsRows (record { schema = s; trees = db.trees }) t h.rows) h.holds.0.0.schema h.holds; uses = h.uses }

pub leaves_commit : (db : Database) (trees : Trees) (next : ℕ) (answers : List KeptAnswer) (t : Tables) → HoldsListed next answers db t → trees ≡ db.trees → HoldsListed next answers (as_store trees) t
leaves_commit db trees next answers t h is = subst (λ (l : Trees). HoldsListed next answers (as_store l) t) (sym is) (holds_as db next answers t h)

module _ {S A : Type 0} (g : Ghosts S) (a b c : Held S) (r : Result A Error) (first second : Tables → Tables) (one : IsStep {A = Unit {0}} g a b (Ok tt) first) (two : IsStep g b c r second) where
  both_done : (r : Result A Error) → IsStatementDone (state g a) (state g b) first → OnOk r (IsStatementDone (state g b) (state g c) second)
      → OnOk r (IsStatementDone (state g a) (state g c) (λ t. second (first t)))
  both_done (Err e) p q = tt
  both_done (Ok x) p q = record {
    shown = record { was_open = p.shown.was_open; is_open = q.shown.is_open; now_is = refl; committed_is = q.shown.committed_is ∙ p.shown.committed_is; mode = q.shown.mode };
    holds = λ more t h. q.holds more (first t) (p.holds more t h);
    keeps = λ more has. let one = p.keeps more has in more_then (store_with more) (state g a).now (state g b).now (state g c).now one (q.keeps more one.schema);
  }

  -- two statements in turn
  pub step_then : IsStep g a c r (λ t. second (first t))
  step_then = record {
    done = λ clean inside. let p = one.done (omega (arith, two.survives.clean)) inside in both_done r p (two.done clean p.shown.mode);
    kept = λ clean. keeps_then (state g a) (state g b) (state g c) (one.kept (omega (arith, two.survives.clean))) (two.kept clean);
    survives = survives_then (state g a) (state g b) (state g c) _ _ (λ _. ⊥) (λ _ db none. none) (λ _ db none. none) one.survives two.survives;
  }

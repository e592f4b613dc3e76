-- Lemmas on what is at rest over calls of a store as a book.
use Rattle.std.specs.Prelude.{refl}
use Rattle.std.proofs.Common.{◌∙◌, inl, arith}
use Rattle.sqlite_trees.specs.declared.store.Store.{Ghosts}
use Rattle.sqlite_trees.specs.Tree.{Trees}
use Rattle.sqlite.specs.Held.{state}
use Rattle.sqlite.specs.State.{State, Survives}
use Rattle.sqlite.proofs.StateLemmas.{survives_then}
use Rattle.repo_store.specs.Shown.{Shown}
use Rattle.repo_store.specs.StoreBooks.{IsAtRest, LeavesRepository}

survives_itself : (s : State) (P : Trees → Type 0) → Survives s s P
survives_itself s P =
    record {
      clean = omega arith;
      shield = λ shielded. shielded;
      counts = omega arith;
      limit = refl;
      closes = λ _
          is_open. inl is_open;
      crash = λ _ trees may. inl may;
    }

pub rests_itself : {S : Type 0} (g : Ghosts S) (shown : Shown S) → IsAtRest g shown shown
rests_itself g shown = record {
  repo = refl;
  contents = λ bytes among. among;
  stands = λ stands. stands;
  survives = survives_itself (state g shown.conn) (LeavesRepository shown.kept.repo);
  left = λ _ _ repo may. may;
}

pub rests_on : {S : Type 0} (g : Ghosts S) (first second third : Shown S) → IsAtRest g first second
    → IsAtRest g second third → IsAtRest g first third
rests_on g first second third one two = record {
  repo = two.repo ∙ one.repo;
  contents = λ bytes among. two.contents bytes (one.contents bytes among);
  stands = λ stands. two.stands (one.stands stands);
  survives =
      survives_then (state g first.conn) (state g second.conn) (state g third.conn) (LeavesRepository first.kept.repo)
      (LeavesRepository second.kept.repo) (LeavesRepository first.kept.repo)
      (λ _ trees left. left) (λ _ trees left.
      record { kept = left.kept; leaves = left.leaves; same = left.same ∙ one.repo }) one.survives two.survives;
  left =
      λ clean stands repo may. one.left (omega (arith, two.survives.clean, clean)) stands repo
      (two.left clean (one.stands stands) repo may);
}

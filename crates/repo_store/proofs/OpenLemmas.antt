-- What `open` says of a store that is found in a database.
use Rattle.std.proofs.Common.{◌≡◌, false, Result, Ok, Err, IfOk, IsTrue, inl, inr, refl, sym, subst, ◌∙◌}
use Rattle.sqlite_trees.specs.declared.store.Store.{Ghosts}
use Rattle.sqlite_trees.specs.Tree.{Trees}
use Rattle.sqlite.specs.Effect.{Database, IsDatabase}
use Rattle.sqlite.specs.Held.{Held, state}
use Rattle.sqlite.specs.State.{State}
use Rattle.repo_store.proofs.Kit.{survives_weaker}
use Rattle.store_tables.specs.Schema.{schema_with_uses, store_schema}
use Rattle.store_faults.specs.declared.fault.StoreFault.{StoreFault}
use Rattle.store_faults.specs.declared.fault.StoreFault.TheVariants.{NotAStore}
use Rattle.repo_store.specs.Bounded.{IsTakenOver}
use Rattle.repo_store.specs.Complete.{IsComplete}
use Rattle.repo_store.specs.Kept.{Mirror}
use Rattle.repo_store.specs.ListedAnswers.{IsNextTick}
use Rattle.repo_store.specs.Opening.{AreListedAlone, IsFoundIn, IsOpening, IsTakingOver}
use Rattle.repo_store.specs.RowRules.{AreStoreRows}
use Rattle.repo_store.specs.Rows.{tables_of}
use Rattle.repo_store.specs.Shown.{TakesOver}
use Rattle.repo_store.proofs.CallLemmas.{leaves_commit}
use Rattle.repo_store.proofs.FitLemmas.{left_fit, left_other, two_versions}
use Rattle.repo_store.proofs.ListedLemmas.{opened_again, opened_durable, opened_holds, opened_stands_at, rests_if_open}
use Rattle.repo_store.proofs.StandLemmas.{ShutIfDirty, clean_of, store_of, survives_itself}

-- what may be left of an open store is what it has committed
abbrev pub IsSettled : State → Type 0
IsSettled s = (trees : Trees) → IsTrue s.is_open → s.may_leave trees → trees ≡ s.committed.trees

module _ {S : Type 0} (g : Ghosts S) (old : Held S) (live : IsTrue (state g old).is_open → IsDatabase (state g old).now)
    (settled : IsTrue (state g old).is_open → (state g old).now ≡ (state g old).committed) where
  -- a database of neither version
  pub no_store : old.in_transaction ≡ false → ((state g old).now.schema ≡ store_schema → ⊥) → ((state g old).now.schema ≡ schema_with_uses → ⊥) → IsOpening g old old (Err NotAStore)
  no_store outside not_first not_second = record {
    outside = outside;
    stands = tt;
    holds = tt;
    again = tt;
    same = tt;
    refused = record { was_open = λ h. h; now = λ h. settled h; committed = λ h. refl };
    why = λ clean. inl (not_first, not_second);
    left = λ clean is_open kept left. left_fit (state g old) NotAStore live settled (inl (not_first, not_second)) is_open kept left;
    crash = survives_itself (state g old) (TakesOver (state g old).now);
    durable = tt;
  }

  -- one of version 2
  module _ (new : Held S) (dirty : ShutIfDirty (state g new)) (ours : (state g old).now.schema ≡ schema_with_uses) (law : IsSettled (state g old)) where
    pub second_opened : (r : Result Mirror StoreFault) → AreListedAlone schema_with_uses IsFoundIn g old new r → IfOk r (λ lists. IsNextTick lists.next) → IfOk r (λ lists. IsComplete lists.kept)
        → IfOk r (λ lists. AreStoreRows (tables_of lists.kept)) → IsOpening g old new r
    second_opened (Ok lists) load next complete obeys = record {
      outside = load.outside;
      stands = opened_stands_at g old new lists next complete obeys ours live settled load dirty;
      holds = λ h. inl (opened_holds g old new lists next complete obeys ours live settled load dirty h);
      again = λ h kept left. opened_again g old new lists next complete obeys ours live settled load dirty h kept left;
      same = λ _. rests_if_open schema_with_uses IsFoundIn g old new (Ok lists) ours load dirty;
      refused = tt;
      why = tt;
      left = tt;
      crash = survives_weaker (state g old) (state g new) (λ _. ⊥) (TakesOver (state g old).now) (λ _ _ none. absurd none) load.survives;
      durable = opened_durable g old new lists next complete obeys ours live settled load dirty law;
    }
    second_opened (Err fault) load next complete obeys = record {
      outside = load.outside;
      stands = tt;
      holds = tt;
      again = tt;
      same = tt;
      refused = rests_if_open schema_with_uses IsFoundIn g old new (Err fault) ours load dirty;
      why = λ clean. load.found clean ours live;
      left = λ clean is_open kept left. left_fit (state g old) fault live settled (load.found clean ours live) is_open kept left;
      crash = survives_weaker (state g old) (state g new) (λ _. ⊥) (TakesOver (state g old).now) (λ _ _ none. absurd none) load.survives;
      durable = tt;
    }

  -- one of version 1
  module _ (new : Held S) (dirty : ShutIfDirty (state g new)) (ours : (state g old).now.schema ≡ store_schema) (law : IsSettled (state g new)) where
    pub first_opened : (r : Result Mirror StoreFault) → IsTakingOver g old new r → IfOk r (λ lists. IsNextTick lists.next) → IfOk r (λ lists. IsComplete lists.kept)
        → IfOk r (λ lists. AreStoreRows (tables_of lists.kept))
        → IsOpening g old new r
    first_opened (Ok lists) it next complete obeys = record {
      outside = it.outside;
      stands = record {
        outside = it.outside;
        complete = complete;
        obeys = obeys;
        first = next.first;
        last = next.last;
        now = λ h. (it.taken (clean_of (state g new) dirty h)).1.now;
        committed = λ h. (it.taken (clean_of (state g new) dirty h)).1.committed;
      };
      holds = λ h. let clean = clean_of (state g new) dirty h in inr (subst (λ (db : Database). IsTakenOver db lists.kept) (settled (it.was_open clean)) (it.taken clean).0);
      again = λ h kept left. absurd (left_other (state g old) live settled ours (it.was_open (clean_of (state g new) dirty h)) kept left);
      same = λ second. absurd (two_versions (sym ours ∙ second));
      refused = tt;
      why = tt;
      left = tt;
      crash = it.survives;
      durable = λ clean trees left.
          let done = (it.taken clean).1 in
          record {
            holds =
                store_of lists.next _ lists.kept (next.first, next.last) (leaves_commit (state g new).committed trees lists.next lists.kept.answers (tables_of lists.kept) done.committed
                (law trees done.is_open left));
            complete = complete;
            obeys = obeys;
          };
    }
    first_opened (Err fault) it next complete obeys = record {
      outside = it.outside;
      stands = tt;
      holds = tt;
      again = tt;
      same = tt;
      refused = it.rests;
      why = λ clean. it.taken clean;
      left = λ clean is_open kept left. left_fit (state g old) fault live settled (it.taken clean) is_open kept left;
      crash = it.survives;
      durable = tt;
    }

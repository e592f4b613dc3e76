-- What a call leaves of a store, from what it makes of the tables.
use Rattle.std.proofs.Common.{◌≡◌, ◌+◌, ◌≤◌, ℕ, List, false, [], length, inl, inr, Result, Ok, Err, IsTrue, refl, sym, subst, arith}
use Rattle.std.proofs.lemmas.Bool.{both_ways}
use Rattle.std.proofs.lemmas.List.Sorted.{length_permutation}
use Rattle.sqlite_trees.specs.declared.store.Store.{Ghosts}
use Rattle.sqlite_trees.specs.Tree.{Trees}
use Rattle.sqlite.specs.Effect.{Database}
use Rattle.sqlite.specs.Held.{Held, state}
use Rattle.sqlite.specs.State.{State, HasCleanDisk, Survives}
use Rattle.repo_store.proofs.Kit.{survives_weaker}
use Rattle.store_tables.specs.Schema.{no_schema}
use Rattle.store_tables.specs.Tables.{Tables, IsBare}
use Rattle.store_tables.specs.Uses.{as_store}
use Rattle.repo_store.specs.Answers.{KeptAnswer}
use Rattle.repo_store.specs.Bounded.{HoldsListed, HoldsNext, HoldsStore}
use Rattle.repo_store.specs.Transactions.{IsCall}
use Rattle.repo_store.specs.Complete.{IsComplete}
use Rattle.repo_store.specs.Kept.{Kept, nothing_kept}
pub use Rattle.repo_store.specs.Rows.{tables_of}
use Rattle.repo_store.specs.Shown.{Shown, Stands, Leaves, IsOneTransaction}
use Rattle.repo_store.specs.Standing.{StandsAtTick}
use Rattle.repo_store.specs.RowRules.{AreStoreRows}
use Rattle.repo_store.specs.UsesOf.{greatest_tick}
use Rattle.repo_store.proofs.CallLemmas.{clean_if_open, leaves_commit}
use Rattle.repo_store.proofs.CompleteLemmas.{complete_empty}
use Rattle.repo_store.proofs.RowRuleLemmas.{same_meta}
use Rattle.repo_store.proofs.RuleLemmas.{obeys_empty}
use Rattle.repo_store.proofs.SameLemmas.{IsSame, holds_same}

-- the same tables without what the store says of itself
abbrev unnamed : Tables → Tables
unnamed t = record t { meta = [] }

abbrev pub unnamed_in : Kept → Tables
unnamed_in kept = unnamed (tables_of kept)

-- the rows told in another order
pub listed_same : (db : Database) (t u : Tables) (next : ℕ) (answers : List KeptAnswer) → IsSame t u → HoldsListed next answers db t → HoldsListed next answers db u
listed_same db t u next answers same h = record { rows = h.rows; holds = ((holds_same db t u same h.holds.0.0, h.holds.0.1), h.holds.1); uses = h.uses }

same_count : (t u : Tables) (next other : ℕ) (answers others : List KeptAnswer) (trees : Trees) → HoldsListed next answers (as_store trees) t → HoldsListed other others (as_store trees) u
    → length t.meta ≡ length u.meta
same_count t u next other answers others trees a b = sym (length_permutation t.meta u.meta (same_meta t.meta u.meta (trees 0) a.holds.0.0.meta b.holds.0.0.meta))

-- a call from what is kept to these tables and answers
abbrev pub Calls : {S A F : Type 0} → Ghosts S → Held S → Held S → ℕ → Kept → ℕ → List KeptAnswer → Tables → Result A F → Type 0
Calls g old new next kept later answers t r = IsCall g old new r (λ db. HoldsNext next db kept) (λ db. HoldsListed later answers db t)

-- a store that is not open on a disk that is not clean
abbrev pub ShutIfDirty : State → Type 0
ShutIfDirty s = s.is_clean ≡ false → s.is_open ≡ false

pub clean_of : (s : State) → ShutIfDirty s → IsTrue s.is_open → HasCleanDisk s
clean_of s dirty h = clean_if_open s.is_clean s.is_open dirty h

-- ---- where a store stands

abbrev pub IsNextTick : ℕ → Type 0
IsNextTick next = (1 ≤ next) × (next ≤ greatest_tick + 1)

pub store_of : (next : ℕ) (db : Database) (kept : Kept) → IsNextTick next → HoldsNext next db kept → HoldsStore db kept
store_of next db kept within holds = record { next = next; first = within.0; last = within.1; holds = holds }

pub stands_of : {S : Type 0} (g : Ghosts S) (conn : Held S) (kept : Kept) (next : ℕ) → StandsAtTick g conn kept next → Stands g conn kept
stands_of g conn kept next it = record {
  outside = it.outside;
  complete = it.complete;
  obeys = it.obeys;
  now = λ h. store_of next (state g conn).now kept (it.first, it.last) (it.now h);
  committed = λ h. store_of next (state g conn).committed kept (it.first, it.last) (it.committed h);
}

-- trees that hold these rows are a store of it
pub leaves_same : (after : Kept) (later : ℕ) (t : Tables) → IsSame t (tables_of after) → IsComplete after → AreStoreRows (tables_of after) → IsNextTick later
    → (trees : Trees) → HoldsListed later after.answers (as_store trees) t → Leaves after trees
leaves_same after later t is complete obeys within trees h =
    record { holds = store_of later (as_store trees) after within (listed_same (as_store trees) t (tables_of after) later after.answers is h); complete = complete; obeys = obeys }

module _ {S A F : Type 0} (g : Ghosts S) (old new : Held S) (next later : ℕ) (kept after : Kept) (t : Tables) (stands : StandsAtTick g old kept next) (is : IsSame t (tables_of after))
    (dirty : ShutIfDirty (state g new))
    (complete : IsComplete after) (obeys : AreStoreRows (tables_of after)) (within : IsNextTick later) where
  abbrev Goes : Result A F → Type 0
  Goes r = Calls g old new next kept later after.answers t r

  rests : (e : F) → Goes (Err e) → StandsAtTick g new kept next
  rests e call = record {
    outside = call.outside;
    complete = stands.complete;
    obeys = stands.obeys;
    first = stands.first;
    last = stands.last;
    now = λ h. subst (λ (db : Database). HoldsNext next db kept) (sym (call.kept.now h)) (stands.committed (call.kept.was_open h));
    committed = λ h. subst (λ (db : Database). HoldsNext next db kept) (sym (call.kept.committed h)) (stands.committed (call.kept.was_open h));
  }

  stands_on : (x : A) → Goes (Ok x) → StandsAtTick g new after later
  stands_on x call = record {
    outside = call.outside;
    complete = complete;
    obeys = obeys;
    first = within.0;
    last = within.1;
    now = λ h. listed_same (state g new).now t (tables_of after) later after.answers is (call.done (clean_of (state g new) dirty h) stands.now).now;
    committed = λ h. listed_same (state g new).committed t (tables_of after) later after.answers is (call.done (clean_of (state g new) dirty h) stands.now).committed;
  }

  crash_leaves : (r : Result A F) → Goes r → Survives (state g old) (state g new) (Leaves after)
  crash_leaves r call =
      survives_weaker (state g old) (state g new) (λ trees. HoldsListed later after.answers (as_store trees) t) (Leaves after) (λ _ trees h. leaves_same after later t is complete obeys within trees h)
      (call.survives stands.now)

  pub refused_stands : (tick : ℕ) → tick ≡ next → (now : Kept) → now ≡ kept → (e : F) → Goes (Err e) → StandsAtTick g new now tick
  refused_stands tick at now same e call = subst (λ (k : Kept). StandsAtTick g new k tick) (sym same) (subst (StandsAtTick g new kept) (sym at) (rests e call))

  pub done_stands : (tick : ℕ) → tick ≡ later → (now : Kept) → now ≡ after → (x : A) → Goes (Ok x) → StandsAtTick g new now tick
  done_stands tick at now same x call = subst (λ (k : Kept). StandsAtTick g new k tick) (sym same) (subst (StandsAtTick g new after) (sym at) (stands_on x call))

  -- A connection that is shut holds other tables as well as these, so that nothing it leaves can be both.
  shut_leaves : (r : Result A F) → Goes r → (Before : Database → Type 0) (u : Tables) (other : ℕ) (others : List KeptAnswer) → IsCall g old new r Before (λ db. HoldsListed other others db u)
      → (length t.meta ≡ length u.meta → ⊥)
      → (state g old).is_open ≡ false → Survives (state g old) (state g new) (λ _. ⊥)
  shut_leaves r call Before u other others also apart shut =
      let here = call.survives (λ h. absurd (both_ways _ shut h)) in
      let there = also.survives (λ h. absurd (both_ways _ shut h)) in
      record {
        clean = here.clean;
        shield = here.shield;
        counts = here.counts;
        limit = here.limit;
        closes = here.closes;
        crash = λ clean trees left. elim (here.crash clean trees left) [
          | inl before ↦ inl before
          | inr holds ↦ elim (there.crash clean trees left) [ inl before ↦ inl before | inr both ↦ absurd (apart (same_count t u later other after.answers others trees holds both)) ]
        ];
      }

  pub refused_transaction : {B E : Type 0} (tick : ℕ) → tick ≡ next → (now : Kept) → now ≡ kept → (e : F) → Goes (Err e) → (fault : E)
      → (Before : Database → Type 0) (u : Tables) (other : ℕ) (others : List KeptAnswer)
      → IsCall {A = A} {E = F} g old new (Err e) Before (λ db. HoldsListed other others db u) → (length t.meta ≡ length u.meta → ⊥)
      → IsOneTransaction {A = B} g (record { conn = old; kept = kept; next = next }) (record { conn = new; kept = now; next = tick }) (Err fault) after
  refused_transaction tick at now same e call fault Before u other others also apart = record {
    stands = stands_of g new now tick (refused_stands tick at now same e call);
    crash = crash_leaves (Err e) call;
    durable = tt;
    shut = shut_leaves (Err e) call Before u other others also apart;
    opened = λ clean. tt;
  }

  pub done_transaction : {B E : Type 0} → ((trees : Trees) → IsTrue (state g new).is_open → (state g new).may_leave trees → trees ≡ (state g new).committed.trees) → (tick : ℕ) → tick ≡ later
      → (now : Kept) → now ≡ after → (x : A) → Goes (Ok x) → (y : B)
      → (Before : Database → Type 0) (u : Tables) (other : ℕ) (others : List KeptAnswer) → IsCall {A = A} {E = F} g old new (Ok x) Before (λ db. HoldsListed other others db u)
      → (length t.meta ≡ length u.meta → ⊥)
      → IsOneTransaction {E = E} g (record { conn = old; kept = kept; next = next }) (record { conn = new; kept = now; next = tick }) (Ok y) after
  done_transaction settled tick at now same x call y Before u other others also apart = record {
    stands = stands_of g new now tick (done_stands tick at now same x call);
    crash = crash_leaves (Ok x) call;
    durable = λ clean trees left.
        let it = call.done clean stands.now in
        record {
          holds = store_of later (as_store trees) after within
              (leaves_commit (state g new).committed trees later after.answers (tables_of after) ((stands_on x call).committed it.is_open) (settled trees it.is_open left));
          complete = complete;
          obeys = obeys;
        };
    shut = shut_leaves (Ok x) call Before u other others also apart;
    opened = λ clean. (call.done clean stands.now).is_open;
  }

pub survives_itself : (s : State) (P : Trees → Type 0) → Survives s s P
survives_itself s P = record {
  clean = omega arith;
  shield = λ shielded. shielded;
  counts = omega arith;
  limit = refl;
  closes = λ _ is_open. inl is_open;
  crash = λ _ trees left. inl left;
}

-- a call that asks nothing of the database
pub unasked : {S A E : Type 0} (g : Ghosts S) (shown : Shown S) (fault : E) (after : Kept) → Stands g shown.conn shown.kept → IsOneTransaction {A = A} g shown shown (Err fault) after
unasked g shown fault after stands = record {
  stands = stands;
  crash = survives_itself (state g shown.conn) (Leaves after);
  durable = tt;
  shut = λ shut. survives_itself (state g shown.conn) (λ _. ⊥);
  opened = λ clean. tt;
}

-- an empty store in a database that had no tables
pub made_stands : {S A F : Type 0} (g : Ghosts S) (old new : Held S) (now : Kept) (tick : ℕ) (x : A) → IsCall {A = A} {E = F} g old new (Ok x) (IsBare no_schema) (λ db. HoldsNext 1 db nothing_kept)
    → (IsTrue (state g old).is_open → IsBare no_schema (state g old).now)
    → ShutIfDirty (state g new) → now ≡ nothing_kept → tick ≡ 1 → StandsAtTick g new now tick
made_stands g old new now tick x call bare dirty is at =
    subst (λ (k : Kept). StandsAtTick g new k tick) (sym is) (subst (StandsAtTick g new nothing_kept) (sym at) (record {
      outside = call.outside;
      complete = complete_empty;
      obeys = obeys_empty;
      first = omega arith;
      last = omega arith;
      now = λ h. (call.done (clean_of (state g new) dirty h) bare).now;
      committed = λ h. (call.done (clean_of (state g new) dirty h) bare).committed;
    }))

pub empty_leaves : (trees : Trees) → HoldsNext 1 (as_store trees) nothing_kept → Leaves nothing_kept trees
empty_leaves trees h = record { holds = record { next = 1; first = omega arith; last = omega arith; holds = h }; complete = complete_empty; obeys = obeys_empty }

pub made_survives : (old new : State) → Survives old new (λ trees. HoldsNext 1 (as_store trees) nothing_kept) → Survives old new (Leaves nothing_kept)
made_survives old new survives = survives_weaker old new (λ trees. HoldsNext 1 (as_store trees) nothing_kept) (Leaves nothing_kept) (λ _ trees h. empty_leaves trees h) survives

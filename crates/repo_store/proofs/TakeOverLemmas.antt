-- A store of version 1 that is read, and then migrated.
use Rattle.std.proofs.Common.{◌≡◌, ℕ, zero, suc, ◌+◌, ◌≤◌, pos, List, [], ◌∷◌, ◌++◌, map, reverse, take, drop, length, Result, Ok, Err, IsTrue, refl, sym, ap, subst, ◌∙◌, arith}
use Rattle.std.specs.List.{AllByRecursion}
use Rattle.std.proofs.lemmas.List.{take-append-drop}
use Rattle.std.proofs.lemmas.List.Sorted.{IsPermutation-refl}
use Rattle.std.proofs.lemmas.Result.{on_ok_weaker}
use Rattle.sqlite_trees.specs.declared.store.Store.{Ghosts}
use Rattle.sqlite_trees.specs.Tree.{Trees}
use Rattle.sqlite.specs.declared.error.Error.{Error}
use Rattle.sqlite.specs.Effect.{Database, IsDatabase}
use Rattle.sqlite.specs.Held.{Held, state}
use Rattle.sqlite.specs.State.{HasCleanDisk, Survives}
use Rattle.repo_store.proofs.Kit.{survives_then, survives_weaker}
use Rattle.store_tables.specs.declared.rows.AnswerRow.{AnswerRow}
use Rattle.store_tables.specs.Schema.{store_schema}
use Rattle.store_tables.specs.Tables.{AreKeyed, HoldsTables, Tables, with_meta, with_new_meta}
use Rattle.store_tables.specs.Uses.{as_store}
use Rattle.store_faults.specs.declared.fault.StoreFault.{StoreFault}
use Rattle.repo_store.specs.Answers.{HaveOwnKeys, KeptAnswer}
use Rattle.repo_store.specs.Bounded.{HoldsListed, HoldsNext, IsTakenOver}
use Rattle.repo_store.specs.Calls.{Rests}
use Rattle.repo_store.specs.Complete.{IsComplete}
use Rattle.store_faults.specs.Faults.{IsRefusal}
use Rattle.repo_store.specs.FromRows.{IsSame}
use Rattle.repo_store.specs.Index.{Key, key_of}
use Rattle.repo_store.specs.Kept.{Kept, Mirror, limiting}
use Rattle.store_faults.specs.Limits.{first_limit}
use Rattle.repo_store.specs.Opening.{AreListedAlone, IsFoundFirst, IsTakingOver}
use Rattle.repo_store.specs.RowRules.{AreStoreRows, IsAnswerRow}
use Rattle.repo_store.specs.Rows.{answer_row, blob_row, commit_rows, entry_rows, first_tables_of, fix_row, limit_row, staged_row, tables_of, version_row}
use Rattle.repo_store.specs.Shown.{Leaves, TakesOver}
use Rattle.repo_store.specs.Standing.{TellKeys}
use Rattle.repo_store.specs.Transactions.{Commits, IsCall}
use Rattle.repo_store.specs.UsesOf.{TellTheirKeys, greatest_tick, without_all}
use Rattle.repo_store.proofs.AnswerTableLemmas.{behind_out, told_behind}
use Rattle.repo_store.proofs.ListedLemmas.{refused_unfit, rests_if_open}
use Rattle.repo_store.proofs.SameLemmas.{same_itself}
use Rattle.repo_store.proofs.StandLemmas.{ShutIfDirty, clean_of, leaves_same, listed_same}

-- ---- what a migrated store keeps

-- the tables that the migration makes, the answers under these keys taken out
abbrev pub moved_tables : List Key → Tables → Tables
moved_tables keys t = with_new_meta version_row (with_meta (limit_row (pos first_limit)) (without_all keys t))

module _ (first : Kept) (own : HaveOwnKeys first.answers) (tells : TellKeys first.answers) where
  pub moved_same : IsSame (moved_tables (map key_of (reverse (drop first_limit first.answers))) (first_tables_of first)) (tables_of (limiting first_limit first))
  moved_same =
      let out = behind_out first_limit first.answers (first_tables_of first) refl own tells in
      subst (λ (t : Tables). IsSame (with_new_meta version_row (with_meta (limit_row (pos first_limit)) t)) (tables_of (limiting first_limit first))) (sym out) (record {
        meta = IsPermutation-refl (version_row ∷ limit_row (pos first_limit) ∷ []);
        blobs = IsPermutation-refl (map blob_row first.contents);
        staged = IsPermutation-refl (map staged_row first.repo.staged);
        fixes = IsPermutation-refl (map fix_row first.repo.fixes);
        commits = IsPermutation-refl (commit_rows 1 first.repo.history);
        entries = IsPermutation-refl (entry_rows 1 first.repo.history);
        answers = IsPermutation-refl (map answer_row (take first_limit first.answers));
      })

rows_taken : (P : AnswerRow → Type 0) (n : ℕ) (answers : List KeptAnswer) → AllByRecursion P (map answer_row answers) → AllByRecursion P (map answer_row (take n answers))
rows_taken P zero [] all = tt
rows_taken P zero (answer ∷ answers) all = tt
rows_taken P (suc n) [] all = tt
rows_taken P (suc n) (answer ∷ answers) all = (all.0, rows_taken P n answers all.1)

pub moved_obey : (first : Kept) → AreStoreRows (first_tables_of first) → AreStoreRows (tables_of (limiting first_limit first))
moved_obey first h = record {
  blobs = h.blobs;
  staged = h.staged;
  fixes = h.fixes;
  commits = h.commits;
  entries = h.entries;
  answers = rows_taken (IsAnswerRow (map blob_row first.contents)) first_limit first.answers h.answers;
}

pub taken_is : (db : Database) (lists : Mirror) → IsFoundFirst db lists → IsTakenOver db (limiting first_limit lists.kept)
taken_is db lists found = record {
  first = lists.kept;
  holds = found.holds;
  obeys = found.obeys;
  repo = refl;
  contents = refl;
  answers = record { all = lists.kept.answers; moved = IsPermutation-refl lists.kept.answers; fall = found.fall; first = refl };
  limit = refl;
}

-- ---- the migration, told of the lists that were read

-- what a call makes, told of more
call_as : {S A F : Type 0} (g : Ghosts S) (old new : Held S) (r : Result A F) (P Q R : Database → Type 0) → ((db : Database) → Q db → R db) → IsCall g old new r P Q → IsCall g old new r P R
call_as g old new r P Q R f call = record {
  outside = call.outside;
  done =
      λ clean before. on_ok_weaker r (λ (c : Commits (state g new) Q). record { is_open = c.is_open; now = f (state g new).now c.now; committed = f (state g new).committed c.committed })
      (call.done clean before);
  kept = call.kept;
  survives = λ before. survives_weaker (state g old) (state g new) (λ trees. Q (as_store trees)) (λ trees. R (as_store trees)) (λ _ trees h. f (as_store trees) h) (call.survives before);
}

abbrev pub Moves : {S : Type 0} → Ghosts S → Held S → Held S → Result (Unit {0}) Error → List Key → ℕ → Type 0
Moves g old new r keys dropped =
    (t : Tables) (front back : List KeptAnswer) → keys ≡ map key_of (reverse (front ++ back)) → dropped ≡ length back → HaveOwnKeys (front ++ back) → TellTheirKeys (front ++ back) back
    → IsCall g old new r (λ db. HoldsTables db t × AreKeyed (db.trees 0))
    (λ db. (length keys ≤ greatest_tick) × HoldsListed (length (front ++ back) + 1) front db (moved_tables (map key_of (reverse back)) t))

-- the database is the migrated store, and there were no more answers than ticks
abbrev pub IsMoved : List Key → Kept → Database → Type 0
IsMoved keys first db = (length keys ≤ greatest_tick) × HoldsNext (length first.answers + 1) db (limiting first_limit first)

moved_call : {S : Type 0} (g : Ghosts S) (old new : Held S) (r : Result (Unit {0}) Error) (keys : List Key) (dropped : ℕ) (first : Kept) → HaveOwnKeys first.answers → TellKeys first.answers
    → keys ≡ map key_of (reverse first.answers) → dropped ≡ length (drop first_limit first.answers) → Moves g old new r keys dropped
    → IsCall g old new r (λ db. HoldsTables db (first_tables_of first) × AreKeyed (db.trees 0)) (IsMoved keys first)
moved_call g old new r keys dropped first own tells keys_are count moves =
    let front = take first_limit first.answers in
    let back = drop first_limit first.answers in
    let whole : front ++ back ≡ first.answers = take-append-drop first_limit first.answers in
    let t = first_tables_of first in
    let gone = map key_of (reverse back) in
    call_as g old new r (λ db. HoldsTables db t × AreKeyed (db.trees 0)) (λ db. (length keys ≤ greatest_tick) × HoldsListed (length (front ++ back) + 1) front db (moved_tables gone t))
    (IsMoved keys first)
    (λ db h. (
      h.0,
      listed_same db (moved_tables gone t) (tables_of (limiting first_limit first)) (length first.answers + 1) front (moved_same first own tells)
          (subst (λ (n : ℕ). HoldsListed n front db (moved_tables gone t)) (ap (λ (l : List KeptAnswer). length l + 1) whole) h.1),
    ))
    (moves t front back (keys_are ∙ ap (λ (l : List KeptAnswer). map key_of (reverse l)) (sym whole)) count (subst HaveOwnKeys (sym whole) own) (told_behind first_limit first.answers tells))

-- ---- all of it

module _ {S : Type 0} (g : Ghosts S) (old mid : Held S) (ours : (state g old).now.schema ≡ store_schema) (live : IsTrue (state g old).is_open → IsDatabase (state g old).now)
    (settled : IsTrue (state g old).is_open → (state g old).now ≡ (state g old).committed) (dirty : ShutIfDirty (state g mid)) where
  read_rests : (r : Result Mirror StoreFault) → AreListedAlone store_schema IsFoundFirst g old mid r → Rests (state g old) (state g mid)
  read_rests r load = rests_if_open store_schema IsFoundFirst g old mid r ours load dirty

  read_survives : (r : Result Mirror StoreFault) → AreListedAlone store_schema IsFoundFirst g old mid r → Survives (state g old) (state g mid) (TakesOver (state g old).now)
  read_survives r load = survives_weaker (state g old) (state g mid) (λ _. ⊥) (TakesOver (state g old).now) (λ _ _ none. absurd none) load.survives

  pub unread_taken : (fault : StoreFault) → AreListedAlone store_schema IsFoundFirst g old mid (Err fault) → IsTakingOver g old mid (Err fault)
  unread_taken fault load = record {
    outside = load.outside;
    taken = λ clean. load.found clean ours live;
    was_open = λ clean. tt;
    rests = read_rests (Err fault) load;
    survives = read_survives (Err fault) load;
  }

  module _ (lists : Mirror) (load : AreListedAlone store_schema IsFoundFirst g old mid (Ok lists)) where
    -- memory refuses after the read
    pub unmoved_taken : (fault : StoreFault) → IsRefusal ⊥ ⊥ ⊥ fault → IsTakingOver g old mid (Err fault)
    unmoved_taken fault why = record {
      outside = load.outside;
      taken = λ clean. refused_unfit (state g old).now fault why;
      was_open = λ clean. tt;
      rests = read_rests (Ok lists) load;
      survives = read_survives (Ok lists) load;
    }

    module _ (own : HaveOwnKeys lists.kept.answers) (tells : TellKeys lists.kept.answers) (complete : IsComplete (limiting first_limit lists.kept)) (obeys : AreStoreRows (first_tables_of lists.kept))
        (new : Held S) (keys : List Key) (dropped : ℕ) (keys_are : keys ≡ map key_of (reverse lists.kept.answers)) (count : dropped ≡ length (drop first_limit lists.kept.answers))
        (as_many : length keys ≡ length lists.kept.answers) where
      call_of : (r : Result (Unit {0}) Error) → Moves g mid new r keys dropped
          → IsCall g mid new r (λ db. HoldsTables db (first_tables_of lists.kept) × AreKeyed (db.trees 0)) (IsMoved keys lists.kept)
      call_of r moves = moved_call g mid new r keys dropped lists.kept own tells keys_are count moves

      before : IsTrue (state g mid).is_open → HoldsTables (state g mid).now (first_tables_of lists.kept) × AreKeyed ((state g mid).now.trees 0)
      before h =
          let rest = read_rests (Ok lists) load in
          let was = rest.was_open h in
          let found = load.found (clean_mid h) ours live in
          let same : (state g mid).now ≡ (state g old).now = rest.now h ∙ sym (settled was) in
          subst (λ (db : Database). HoldsTables db (first_tables_of lists.kept) × AreKeyed (db.trees 0)) (sym same) (found.holds, found.meta_keyed)
        where
          clean_mid : IsTrue (state g mid).is_open → HasCleanDisk (state g mid)
          clean_mid h = clean_of (state g mid) dirty h

      leaves_moved : (trees : Trees) → IsMoved keys lists.kept (as_store trees) → Leaves (limiting first_limit lists.kept) trees
      leaves_moved trees h =
          let few = h.0 in
          leaves_same (limiting first_limit lists.kept) (length lists.kept.answers + 1) (tables_of (limiting first_limit lists.kept)) (same_itself (tables_of (limiting first_limit lists.kept)))
          complete (moved_obey lists.kept obeys)
          (omega arith, omega arith) trees h.1

      pub move_survives : (r : Result (Unit {0}) Error) → Moves g mid new r keys dropped → Survives (state g old) (state g new) (TakesOver (state g old).now)
      move_survives r moves =
          let two = (call_of r moves).survives before in
          survives_then (state g old) (state g mid) (state g new) (λ _. ⊥) (λ trees. IsMoved keys lists.kept (as_store trees)) (TakesOver (state g old).now) (λ _ _ none. absurd none)
          (λ clean trees h. record {
            kept = limiting first_limit lists.kept;
            taken = taken_is (state g old).now lists (load.found (omega (arith, two.clean, clean)) ours live);
            leaves = leaves_moved
                trees h;
          }) load.survives two

      pub refused_taken : (e : Error) (fault : StoreFault) → IsRefusal ⊥ ⊥ ⊥ fault → Moves g mid new (Err e) keys dropped → IsTakingOver g old new (Err fault)
      refused_taken e fault why moves =
          let call = call_of (Err e) moves in
          let rest = read_rests (Ok lists) load in
          record {
            outside = call.outside;
            taken = λ clean. refused_unfit (state g old).now fault why;
            was_open = λ clean. tt;
            rests = record {
              was_open = λ h. rest.was_open (call.kept.was_open h);
              now = λ h. call.kept.now h ∙ rest.committed (call.kept.was_open h);
              committed = λ h. call.kept.committed h ∙ rest.committed (call.kept.was_open h);
            };
            survives = move_survives (Err e) moves;
          }

      pub moved_taken : (after : Mirror) → after.kept ≡ limiting first_limit lists.kept → after.next ≡ length lists.kept.answers + 1 → Moves g mid new (Ok tt) keys dropped
          → IsTakingOver g old new (Ok after)
      moved_taken after kept_is next_is moves =
          let call = call_of (Ok tt) moves in
          let two = call.survives before in
          let shown =
          λ (db : Database) (h : HoldsNext (length lists.kept.answers + 1) db (limiting first_limit lists.kept)). subst (λ (n : ℕ). HoldsNext n db after.kept) (sym next_is)
          (subst (λ (k : Kept). HoldsNext (length lists.kept.answers + 1) db k) (sym kept_is) h) in
          record {
            outside = call.outside;
            taken = λ clean.
                let it = call.done clean before in (
                  subst (λ (k : Kept). IsTakenOver (state g old).now k) (sym kept_is) (taken_is (state g old).now lists (load.found (omega (arith, two.clean, clean)) ours live)),
                  record { is_open = it.is_open; now = shown (state g new).now it.now.1; committed = shown (state g new).committed it.committed.1 },
                );
            was_open = λ clean. load.was_open (omega (arith, two.clean, clean)) ours;
            rests = tt;
            survives = move_survives (Ok tt) moves;
          }

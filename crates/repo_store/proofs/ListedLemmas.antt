-- From the rows that were read to the lists, or to the refusal.
use Rattle.std.proofs.Common.{◌≡◌, List, Result, Ok, Err, IfOk, IfErr, OnOk, MatchResult, IsTrue, true, false, Less, refl, sym, ap, subst, ◌∙◌, inl, inr, arith}
use Rattle.sqlite_schema.specs.declared.schema.Schema.{Schema}
use Rattle.sqlite_trees.specs.declared.store.Store.{Ghosts}
use Rattle.sqlite_trees.specs.Tree.{Trees, IsAscending}
use Rattle.sqlite.specs.declared.error.Error.{Error}
use Rattle.sqlite.specs.Effect.{Database, IsDatabase}
use Rattle.sqlite.specs.Held.{Held, state}
use Rattle.sqlite.specs.State.{HasCleanDisk, IsUnchanged, IsRolledBack, Survives}
use Rattle.repo_store.proofs.Kit.{keeps_then, survives_then}
use Rattle.store_tables.specs.declared.rows.UseRow.{UseRow}
use Rattle.store_tables.specs.Schema.{MoreTables, no_more, schema_with_uses, store_schema, store_with}
use Rattle.store_tables.specs.Tables.{Tables, HoldsTables, HoldsIn}
use Rattle.store_tables.specs.Uses.{HoldsUses, HoldsWithUses, IsReadOfUses, as_store}
use Rattle.store_faults.specs.declared.fault.StoreFault.{StoreFault}
use Rattle.store_faults.specs.declared.fault.StoreFault.TheVariants.{NotAStore, Damaged, Sql, OutOfMemory, Collision, TooLarge, TooMany}
use Rattle.repo_store.specs.declared.table_rows.TableRows.{TableRows}
use Rattle.repo_store.specs.Bounded.{AreBoundedRows, AreVersionRows, HoldsNext, HoldsStore, key_cmp}
use Rattle.repo_store.specs.Calls.{Rests}
use Rattle.repo_store.specs.Complete.{AreAlike, IsComplete}
use Rattle.store_faults.specs.Faults.{IsRefusal}
use Rattle.repo_store.specs.FromRows.{AreRowsRefused, AreTablesShown, IsSame, tables_of_rows}
use Rattle.repo_store.specs.Index.{key_of}
use Rattle.repo_store.specs.Kept.{Kept, Mirror}
use Rattle.repo_store.specs.ListedAnswers.{IsNextTick}
use Rattle.repo_store.specs.Opening.{AreListed, AreListedAlone, AreRead, IsFoundFirst, IsFoundIn}
use Rattle.repo_store.specs.Rows.{first_tables_of, tables_of}
use Rattle.repo_store.specs.RowRules.{AreFirstVersionRows, AreStoreRows}
use Rattle.repo_store.specs.Shown.{Leaves}
use Rattle.repo_store.specs.Standing.{StandsAtTick}
use Rattle.repo_store.specs.Unfit.{IsUnfit}
use Rattle.repo_store.specs.UsesOf.{AreUsesOf}
use Rattle.repo_store.proofs.AlikeLemmas.{left_alike}
use Rattle.repo_store.proofs.CallLemmas.{clean_if_open}
use Rattle.repo_store.proofs.ReadingLemmas.{ReachedIn, unchanged_kept, unchanged_then}
use Rattle.repo_store.proofs.RowRuleLemmas.{obeys_same}
use Rattle.repo_store.proofs.SameLemmas.{holds_same}
use Rattle.repo_store.proofs.StandLemmas.{ShutIfDirty}

pub refused_unfit : (db : Database) (fault : StoreFault) → IsRefusal ⊥ ⊥ ⊥ fault → IsUnfit db fault
refused_unfit db NotAStore h = absurd h
refused_unfit db Damaged h = absurd h
refused_unfit db (Sql error) h = tt
refused_unfit db OutOfMemory h = tt
refused_unfit db Collision h = h
refused_unfit db TooLarge h = h
refused_unfit db TooMany h = h

-- ---- what was read, and what it comes to

on_ok : {P : Type 0} (r : Result Mirror StoreFault) → P → OnOk r P
on_ok (Ok lists) p = p
on_ok (Err fault) p = tt

-- rows that were not read
pub unread : {S A : Type 0} (more : MoreTables) (Found : Database → Mirror → Type 0) (g : Ghosts S) (a c : Held S) (e : Error) (Rows : A → Trees → Type 0) (fault : StoreFault)
    → AreRead {A = A} g a c (Err e) Rows → IsRefusal ⊥ ⊥ ⊥ fault
    → AreListed (store_with more) Found g a c (Err fault)
unread more Found g a c e Rows fault read why = record {
  found = λ clean ours live. refused_unfit (state g a).now fault why;
  was_open = λ clean ours. tt;
  kept = λ clean ours inside. read.kept more clean ours inside;
  survives = read.survives;
}

-- rows that were read
pub listed_from : {S : Type 0} (listed : Schema) (Found : Database → Mirror → Type 0) (g : Ghosts S) (a c : Held S) (P : Trees → Type 0) (r : Result Mirror StoreFault) → ReachedIn listed g a c P
    → ((db : Database) → db.schema ≡ listed → IsDatabase db → P db.trees → MatchResult r (Found db) (IsUnfit db)) → AreListed listed Found g a c r
listed_from listed Found g a c P r so_far decide = record {
  found = λ clean ours live. let it = so_far.same clean ours in decide (state g a).now ours (live it.0.0.was_open) it.1;
  was_open = λ clean ours. on_ok r (so_far.same clean ours).0;
  kept = λ clean ours inside. unchanged_kept (state g a) (state g c) (so_far.same clean ours).0;
  survives = so_far.survives;
}

-- the uses are read after the others
module _ {S : Type 0} (g : Ghosts S) (a b c : Held S) (P : Trees → Type 0) (so_far : ReachedIn schema_with_uses g a b P) where
  before_uses : Survives (state g b) (state g c) (λ _. ⊥) → HasCleanDisk (state g c) → HasCleanDisk (state g b)
  before_uses more clean = omega (arith, more.clean)

  ours_still : IsUnchanged (state g a) (state g b) → (state g a).now.schema ≡ schema_with_uses → (state g b).now.schema ≡ schema_with_uses
  ours_still same ours = ap (λ (db : Database). db.schema) same.0.now_is ∙ ours

  along_uses : Survives (state g b) (state g c) (λ _. ⊥) → Survives (state g a) (state g c) (λ _. ⊥)
  along_uses more = survives_then (state g a) (state g b) (state g c) _ _ (λ _. ⊥) (λ _ db none. none) (λ _ db none. none) so_far.survives more

  pub uses_unread : {A : Type 0} (Found : Database → Mirror → Type 0) (e : Error) (Rows : A → Trees → Type 0) (fault : StoreFault) → IsReadOfUses {A = A} g b c (Err e) Rows → IsRefusal ⊥ ⊥ ⊥ fault
      → AreListed schema_with_uses Found g a c (Err fault)
  uses_unread Found e Rows fault two why = record {
    found = λ clean ours live. refused_unfit (state g a).now fault why;
    was_open = λ clean ours. tt;
    kept = λ clean ours inside.
        let first = so_far.same (before_uses two.survives clean) ours in
        keeps_then (state g a) (state g b) (state g c) (unchanged_kept (state g a) (state g b) first.0) (two.kept clean (first.0.0.mode ∙ inside));
    survives = along_uses two.survives;
  }

  pub uses_read : {A : Type 0} (x : A) (Rows : A → Trees → Type 0) → IsReadOfUses g b c (Ok x) Rows → ReachedIn schema_with_uses g a c (λ trees. P trees × Rows x trees)
  uses_read x Rows two = record {
    same = λ clean ours.
        let first = so_far.same (before_uses two.survives clean) ours in
        let second = two.rows no_more clean (ours_still first.0 ours) in
        (unchanged_then (state g a) (state g b) (state g c) first.0 second.0, (first.1, subst (λ (db : Database). Rows x db.trees) first.0.0.now_is second.1));
    survives = along_uses two.survives;
  }

-- ---- the rows of each version

shown_holds : (listed : Schema) (db : Database) (tables : TableRows) → db.schema ≡ listed → IsDatabase db → AreTablesShown tables db.trees
    → HoldsIn listed db (tables_of_rows tables.meta.items tables.store)
shown_holds listed db tables ours live shown =
    let store = shown.store in
    record {
      schema = ours;
      sound = live;
      meta = shown.meta;
      blobs = store.blobs;
      staged = store.staged;
      staged_keyed = store.staged_keyed;
      fixes = store.fixes;
      fixes_numbered = store.fixes_numbered;
      commits = store.commits;
      entries = store.entries;
      answers = store.answers;
      answers_keyed = store.answers_keyed;
    }

first_unfit : (db : Database) (t : Tables) → HoldsTables db t → (fault : StoreFault) → AreRowsRefused (AreFirstVersionRows t.meta) (AreStoreRows t) fault → IsUnfit db fault
first_unfit db t hold NotAStore h = inr (inl (record { schema = hold.schema; rows = t.meta; stored = hold.meta; other = h }))
first_unfit db t hold Damaged h = inl (record { tables = t; holds = hold; versioned = h.0; broken = h.1 })
first_unfit db t hold (Sql error) h = tt
first_unfit db t hold OutOfMemory h = tt
first_unfit db t hold Collision h = h
first_unfit db t hold TooLarge h = h
first_unfit db t hold TooMany h = h

second_unfit : (db : Database) (t : Tables) (uses : List UseRow) → HoldsWithUses db t uses → (fault : StoreFault) → AreRowsRefused (AreVersionRows t.meta) (AreBoundedRows t uses) fault
    → IsUnfit db fault
second_unfit db t uses hold NotAStore h = inr (inr (record { schema = hold.0.schema; rows = t.meta; stored = hold.0.meta; other = h }))
second_unfit db t uses hold Damaged h = inr (record { tables = t; rows = uses; holds = hold; versioned = h.0; broken = h.1 })
second_unfit db t uses hold (Sql error) h = tt
second_unfit db t uses hold OutOfMemory h = tt
second_unfit db t uses hold Collision h = h
second_unfit db t uses hold TooLarge h = h
second_unfit db t uses hold TooMany h = h

module _ (tables : TableRows) (db : Database) where
  abbrev t : Tables
  t = tables_of_rows tables.meta.items tables.store

  pub first_decided : (r : Result Mirror StoreFault) → IfOk r (λ lists. IsSame t (first_tables_of lists.kept))
      → IfOk r (λ lists. IsAscending (λ a b. key_cmp (key_of b) (key_of a) ≡ Less) lists.kept.answers) → OnOk r (AreStoreRows t)
      → IfErr r (AreRowsRefused (AreFirstVersionRows t.meta) (AreStoreRows t)) → db.schema ≡ store_schema → IsDatabase db → AreTablesShown tables db.trees
      → MatchResult r (IsFoundFirst db) (IsUnfit db)
  first_decided (Ok lists) same fall obeys refused ours live shown = record {
    holds = holds_same db t (first_tables_of lists.kept) same (shown_holds store_schema db tables ours live shown);
    meta_keyed = shown.meta_keyed;
    obeys = obeys_same t (first_tables_of lists.kept) same obeys;
    fall = fall;
  }
  first_decided (Err fault) same fall obeys refused ours live shown = first_unfit db t (shown_holds store_schema db tables ours live shown) fault refused

  pub second_decided : (uses : List UseRow) (r : Result Mirror StoreFault) → IfOk r (λ lists. IsSame t (tables_of lists.kept)) → IfOk r (λ lists. AreUsesOf lists.next uses lists.kept.answers)
      → IfErr r (AreRowsRefused (AreVersionRows t.meta) (AreBoundedRows t uses)) → db.schema ≡ schema_with_uses → IsDatabase db → AreTablesShown tables db.trees × HoldsUses db.trees uses
      → MatchResult r (IsFoundIn db) (IsUnfit db)
  second_decided uses (Ok lists) same used refused ours live shown = record {
    rows = uses;
    holds = ((holds_same db t (tables_of lists.kept) same (shown_holds schema_with_uses db tables ours live shown.0), shown.1), shown.0.meta_keyed);
    uses = used;
  }
  second_decided uses (Err fault) same used refused ours live shown = second_unfit db t uses (shown_holds schema_with_uses db tables ours live shown.0, shown.1) fault refused

-- and those rows obey the rules
pub listed_obey : (own : Kept → Tables) (t : Tables) (r : Result Mirror StoreFault) → IfOk r (λ lists. IsSame t (own lists.kept)) → OnOk r (AreStoreRows t)
    → IfOk r (λ lists. AreStoreRows (own lists.kept))
listed_obey own t (Ok lists) same obeys = obeys_same t (own lists.kept) same obeys
listed_obey own t (Err fault) same obeys = same

-- in a transaction of its own, which is rolled back
pub loaded : {S : Type 0} (listed : Schema) (Found : Database → Mirror → Type 0) (g : Ghosts S) (old mid end new : Held S) (r : Result Mirror StoreFault) → mid ≡ record old { in_transaction = true }
    → AreListed listed Found g mid end r
    → new.in_transaction ≡ false
    → (HasCleanDisk (state g new) → IsRolledBack (state g end) (state g new)) → Survives (state g end) (state g new) (λ _. ⊥) → AreListedAlone listed Found g old new r
loaded {S} listed Found g old mid end new r begun read outside undone survives = record {
  outside = outside;
  found = λ clean ours live. it.found (clean_end clean) ours live;
  was_open = λ clean ours. open_at r (it.was_open (clean_end clean) ours);
  rests = λ clean ours.
      let back = undone clean in
      let kept = it.kept (clean_end clean) ours refl in
      record {
        was_open = λ h. kept.was_open (back.was_open h);
        now = λ h. (back.undone h).0 ∙ kept.committed (back.was_open h);
        committed = λ h. (back.undone h).1 ∙ kept.committed (back.was_open h);
      };
  survives =
      let all =
      survives_then (state g (record old { in_transaction = true })) (state g end) (state g new) _ _ (λ _. ⊥) (λ _ db none. none) (λ _ db none. none) it.survives
      survives in record { clean = all.clean; shield = all.shield; counts = all.counts; limit = all.limit; closes = all.closes; crash = all.crash };
}
  where
    open_at : (r : Result Mirror StoreFault) → OnOk r (IsUnchanged (state g (record old { in_transaction = true })) (state g end)) → OnOk r (IsTrue (state g old).is_open)
    open_at (Ok lists) same = same.0.was_open
    open_at (Err fault) same = same

    it : AreListed listed Found g (record old { in_transaction = true }) end r
    it = subst (λ (h : Held S). AreListed listed Found g h end r) begun read

    clean_end : HasCleanDisk (state g new) → HasCleanDisk (state g end)
    clean_end clean = omega (arith, survives.clean)

-- ---- what stands in a store that was opened

found_stored : (db : Database) (lists : Mirror) → IsNextTick lists.next → IsFoundIn db lists → HoldsStore db lists.kept
found_stored db lists next found = record { next = lists.next; first = next.first; last = next.last; holds = found }

-- the trees of a store, whatever lists them
pub stored_as : (db : Database) (kept : Kept) → HoldsStore db kept → HoldsStore (as_store db.trees) kept
stored_as db kept holds = subst (λ (s : Schema). HoldsStore (record { schema = s; trees = db.trees }) kept) holds.holds.holds.0.0.schema holds

module _ {S : Type 0} (g : Ghosts S) (old new : Held S) (lists : Mirror) (next : IsNextTick lists.next) (complete : IsComplete lists.kept) (obeys : AreStoreRows (tables_of lists.kept)) (ours :
    (state g old).now.schema ≡ schema_with_uses)
    (live : IsTrue (state g old).is_open → IsDatabase (state g old).now) (settled : IsTrue (state g old).is_open → (state g old).now ≡ (state g old).committed)
    (load : AreListedAlone schema_with_uses IsFoundIn g old new (Ok lists))
    (dirty : ShutIfDirty (state g new)) where
  clean_new : IsTrue (state g new).is_open → HasCleanDisk (state g new)
  clean_new h = clean_if_open (state g new).is_clean (state g new).is_open dirty h

  pub opened_at : IsTrue (state g new).is_open → HoldsNext lists.next (state g old).committed lists.kept
  opened_at h =
      let rest = load.rests (clean_new h) ours in
      subst (λ (db : Database). HoldsNext lists.next db lists.kept) (settled (rest.was_open h)) (load.found (clean_new h) ours live)

  pub opened_holds : IsTrue (state g new).is_open → HoldsStore (state g old).committed lists.kept
  opened_holds h = found_stored (state g old).committed lists next (opened_at h)

  pub opened_stands_at : StandsAtTick g new lists.kept lists.next
  opened_stands_at = record {
    outside = load.outside;
    complete = complete;
    obeys = obeys;
    first = next.first;
    last = next.last;
    now = λ h. let rest = load.rests (clean_new h) ours in subst (λ (db : Database). HoldsNext lists.next db lists.kept) (sym (rest.now h)) (opened_at h);
    committed = λ h. let rest = load.rests (clean_new h) ours in subst (λ (db : Database). HoldsNext lists.next db lists.kept) (sym (rest.committed h)) (opened_at h);
  }

  -- the repository that was left is the one that is opened
  pub opened_again : IsTrue (state g new).is_open → (kept : Kept) → Leaves kept (state g old).committed.trees → AreAlike lists.kept kept
  opened_again h kept left =
      left_alike (state g old).committed.trees lists.kept kept (record { holds = stored_as (state g old).committed lists.kept (opened_holds h); complete = complete; obeys = obeys }) left

  -- what a crash may leave was there before, and is what was committed
  pub opened_durable : ((trees : Trees) → IsTrue (state g old).is_open → (state g old).may_leave trees → trees ≡ (state g old).committed.trees)
      → HasCleanDisk (state g new) → (trees : Trees) → (state g new).may_leave trees → Leaves lists.kept trees
  opened_durable law clean trees left =
      let was : IsTrue (state g old).is_open = load.was_open clean ours in
      let holds : HoldsStore (state g old).committed lists.kept =
      subst (λ (db : Database). HoldsStore db lists.kept) (settled was) (found_stored (state g old).now lists next (load.found clean ours live)) in
      let same : trees ≡ (state g old).committed.trees = law trees was (elim (load.survives.crash clean trees left) [ inl before ↦ before | inr none ↦ absurd none ]) in
      record { holds = subst (λ (l : Trees). HoldsStore (as_store l) lists.kept) (sym same) (stored_as (state g old).committed lists.kept holds); complete = complete; obeys = obeys }

-- a read that left the connection open left the last commit
pub rests_if_open : {S : Type 0} (listed : Schema) (Found : Database → Mirror → Type 0) (g : Ghosts S) (old new : Held S) (r : Result Mirror StoreFault) → (state g old).now.schema ≡ listed
    → AreListedAlone listed Found g old new r
    → ShutIfDirty (state g new) → Rests (state g old) (state g new)
rests_if_open listed Found g old new r ours load dirty =
    let clean = λ (h : IsTrue (state g new).is_open). clean_if_open (state g new).is_clean (state g new).is_open dirty h in
    record { was_open = λ h. (load.rests (clean h) ours).was_open h; now = λ h. (load.rests (clean h) ours).now h; committed = λ h. (load.rests (clean h) ours).committed h }

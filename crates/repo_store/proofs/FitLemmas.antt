-- A database that holds a complete store is refused neither as damaged nor as no store.
use Rattle.std.proofs.Common.{◌≡◌, ℕ, ◌+◌, ◌≤◌, pos, List, [], ◌∷◌, map, length, inl, inr, IsTrue, IsPermutation, refl, sym, ap, subst, ◌∙◌, arith}
use Rattle.std.specs.List.{AllByRecursion}
use Rattle.std.proofs.lemmas.List.{length-map}
use Rattle.std.proofs.lemmas.List.Sorted.{IsPermutation-map, IsPermutation-refl, IsPermutation-sym, IsPermutation-trans, length_permutation}
use Rattle.sqlite.specs.Effect.{Database, IsDatabase}
use Rattle.sqlite.specs.State.{State}
use Rattle.sqlite_schema.specs.declared.schema.Schema.{Schema}
use Rattle.sqlite_trees.specs.Tree.{Trees}
use Rattle.store_tables.proofs.CatalogLemmas.{one_schema}
use Rattle.store_tables.specs.declared.rows.UseRow.{UseRow}
use Rattle.store_tables.specs.Schema.{schema_with_uses, store_schema}
use Rattle.store_tables.specs.Tables.{Tables}
use Rattle.store_tables.specs.Uses.{as_store}
use Rattle.store_faults.specs.declared.fault.StoreFault.{StoreFault}
use Rattle.store_faults.specs.declared.fault.StoreFault.TheVariants.{NotAStore, Damaged, Sql, OutOfMemory, Collision, TooLarge, TooMany}
use Rattle.repo_store.specs.Answers.{KeptAnswer}
use Rattle.repo_store.specs.Bounded.{AreBoundedRows, HoldsStore, IsTick, key_of_answer, key_of_use}
use Rattle.repo_store.specs.Complete.{IsComplete}
use Rattle.store_faults.specs.Faults.{IsRefusal}
use Rattle.repo_store.specs.FromRows.{IsSame}
use Rattle.repo_store.specs.Index.{Key, key_of}
use Rattle.repo_store.specs.Kept.{Kept}
use Rattle.repo_store.specs.Rows.{answer_row, limit_row, tables_of, version_row}
use Rattle.repo_store.specs.RowRules.{AreStoreRows}
use Rattle.repo_store.specs.Shown.{Leaves}
use Rattle.repo_store.specs.Unfit.{IsUnfit}
use Rattle.repo_store.specs.UsesOf.{AreUsesOf, FallBelow, greatest_tick, use_rows}
use Rattle.repo_store.proofs.RowRuleLemmas.{all_same, holds_one, obeys_same, same_meta, same_uses}

-- ---- the rows of a complete store

used_keys : (answers : List KeptAnswer) (ticks : List ℕ) → length ticks ≡ length answers → map key_of_use (use_rows answers ticks) ≡ map key_of_answer (map answer_row answers)
used_keys [] ticks same = refl
used_keys (answer ∷ answers) [] same = absurd (omega arith)
used_keys (answer ∷ answers) (tick ∷ ticks) same = ap (λ (keys : List Key). key_of answer ∷ keys) (used_keys answers ticks (omega arith))

used_ticks : (high : ℕ) (answers : List KeptAnswer) (ticks : List ℕ) → high ≤ greatest_tick + 1 → FallBelow high ticks → AllByRecursion (λ (row : UseRow). IsTick row.tick) (use_rows answers ticks)
used_ticks high [] ticks most fall = tt
used_ticks high (answer ∷ answers) [] most fall = tt
used_ticks high (answer ∷ answers) (tick ∷ ticks) most fall =
    let below = fall.1.0 in
    (record { tick = tick; is = refl; first = fall.0; last = omega arith }, used_ticks tick answers ticks (omega arith) fall.1.1)

pub bounded_rows : (kept : Kept) (next : ℕ) (rows : List UseRow) → IsComplete kept → AreStoreRows (tables_of kept) → next ≤ greatest_tick + 1 → AreUsesOf next rows kept.answers
    → AreBoundedRows (tables_of kept) rows
bounded_rows kept next rows complete obeys most uses =
    let all = use_rows kept.answers uses.ticks in
    record {
      store = obeys;
      limit = kept.limit;
      limited = IsPermutation-refl (version_row ∷ limit_row (pos kept.limit) ∷ []);
      within = complete.limited;
      few = let few = complete.few in let count = length-map kept.answers answer_row in omega arith;
      keys = subst (IsPermutation (map key_of_use rows)) (used_keys kept.answers uses.ticks uses.as_many) (IsPermutation-map key_of_use rows all uses.rows_are);
      ticks = all_same (λ (row : UseRow). IsTick row.tick) all rows (IsPermutation-sym rows all uses.rows_are) (used_ticks next kept.answers uses.ticks most uses.fall);
    }

-- what holds of rows, holds of them in another order
pub bounded_same : (t u : Tables) (rows others : List UseRow) → IsSame t u → IsPermutation rows others → AreBoundedRows t rows → AreBoundedRows u others
bounded_same t u rows others same moved it = record {
  store = obeys_same t u same it.store;
  limit = it.limit;
  limited = IsPermutation-trans u.meta t.meta (version_row ∷ limit_row (pos it.limit) ∷ []) (IsPermutation-sym t.meta u.meta same.meta) it.limited;
  within = it.within;
  few = let few = it.few in let count = length_permutation t.answers u.answers same.answers in omega arith;
  keys =
      IsPermutation-trans (map key_of_use others) (map key_of_use rows) (map key_of_answer u.answers) (IsPermutation-map key_of_use others rows (IsPermutation-sym rows others moved))
      (IsPermutation-trans (map key_of_use rows) (map key_of_answer t.answers) (map key_of_answer u.answers) it.keys (IsPermutation-map key_of_answer t.answers u.answers same.answers));
  ticks = all_same (λ (row : UseRow). IsTick row.tick) rows others moved it.ticks;
}

-- ---- no refusal

pub two_versions : store_schema ≡ schema_with_uses → ⊥
two_versions same = let count = ap (λ (s : Schema). length s.tables) same in absurd (omega arith)

module _ (db : Database) (kept : Kept) (holds : HoldsStore db kept) (complete : IsComplete kept) (obeys : AreStoreRows (tables_of kept)) where
  versioned_fit : ¬ IsUnfit db NotAStore
  versioned_fit unfit =
      let here = holds.holds.holds.0.0 in
      elim unfit [
        | inl other ↦ other.1 here.schema
        | inr (inl first) ↦ two_versions (sym first.schema ∙ here.schema)
        | inr (inr second) ↦ second.other (inr (pos kept.limit, same_meta second.rows (version_row ∷ limit_row (pos kept.limit) ∷ []) (db.trees 0) second.stored here.meta))
      ]

  obeys_fit : ¬ IsUnfit db Damaged
  obeys_fit unfit =
      let here = holds.holds.holds.0 in
      elim unfit [
        | inl first ↦ two_versions (sym first.holds.schema ∙ here.0.schema)
        | inr damaged ↦
            damaged.broken (bounded_same (tables_of kept) damaged.tables holds.holds.rows damaged.rows (holds_one db (tables_of kept) damaged.tables here.0 damaged.holds.0)
            (same_uses holds.holds.rows damaged.rows (db.trees 13) here.1.stored damaged.holds.1.stored) (bounded_rows kept holds.next holds.holds.rows complete obeys holds.last holds.holds.uses))
      ]

pub held_fit : (db : Database) (kept : Kept) (fault : StoreFault) → HoldsStore db kept → IsComplete kept → AreStoreRows (tables_of kept) → IsUnfit db fault → IsRefusal ⊥ ⊥ ⊥ fault
held_fit db kept NotAStore holds complete obeys unfit = absurd (versioned_fit db kept holds complete obeys unfit)
held_fit db kept Damaged holds complete obeys unfit = absurd (obeys_fit db kept holds complete obeys unfit)
held_fit db kept (Sql error) holds complete obeys unfit = tt
held_fit db kept OutOfMemory holds complete obeys unfit = tt
held_fit db kept Collision holds complete obeys unfit = unfit
held_fit db kept TooLarge holds complete obeys unfit = unfit
held_fit db kept TooMany holds complete obeys unfit = unfit

pub left_undamaged : (trees : Trees) (kept : Kept) → Leaves kept trees → ¬ IsUnfit (as_store trees) Damaged
left_undamaged trees kept left unfit = held_fit (as_store trees) kept Damaged left.holds left.complete left.obeys unfit

pub left_versioned : (trees : Trees) (kept : Kept) → Leaves kept trees → ¬ IsUnfit (as_store trees) NotAStore
left_versioned trees kept left unfit = held_fit (as_store trees) kept NotAStore left.holds left.complete left.obeys unfit

-- A database with the trees of a store has its tables, whatever it takes them for.
left_holds : (db : Database) (kept : Kept) → Leaves kept db.trees → IsDatabase db → HoldsStore db kept
left_holds db kept left live =
    subst (λ (s : Schema). HoldsStore (record { schema = s; trees = db.trees }) kept) (sym (one_schema db.trees db.schema schema_with_uses live left.holds.holds.holds.0.0.sound)) left.holds

-- so what was left of a store is opened, or memory or the database refuses
pub left_fit : (s : State) (fault : StoreFault) → (IsTrue s.is_open → IsDatabase s.now) → (IsTrue s.is_open → s.now ≡ s.committed) → IsUnfit s.now fault → IsTrue s.is_open → (kept : Kept)
    → Leaves kept s.committed.trees → IsRefusal ⊥ ⊥ ⊥ fault
left_fit s fault live settled unfit is_open kept left =
    let here = subst (λ (db : Database). Leaves kept db.trees) (sym (settled is_open)) left in held_fit s.now kept fault (left_holds s.now kept here (live is_open)) left.complete left.obeys unfit

-- and nothing of a store of version 2 was left where the tables are those of version 1
pub left_other : (s : State) → (IsTrue s.is_open → IsDatabase s.now) → (IsTrue s.is_open → s.now ≡ s.committed) → s.now.schema ≡ store_schema → IsTrue s.is_open → (kept : Kept)
    → Leaves kept s.committed.trees → ⊥
left_other s live settled ours is_open kept left =
    let here = subst (λ (db : Database). Leaves kept db.trees) (sym (settled is_open)) left in two_versions (sym ours ∙ (left_holds s.now kept here (live is_open)).holds.holds.0.0.schema)

-- From the rows of a store of each version to its lists, or to the refusal.
use Rattle.std.proofs.Common.{◌≡◌, ℕ, ◌≤◌, pos, List, [], ◌∷◌, map, length, reverse, take, Result, Ok, Err, IfOk, IfErr, OnOk, IsPermutation, refl, sym, ap, subst, ◌∙◌, arith}
use Rattle.std.specs.List.{AllByRecursion}
use Rattle.std.proofs.lemmas.List.{length-map, length-reverse}
use Rattle.std.proofs.lemmas.List.Sorted.{IsPermutation-map, IsPermutation-reverse, IsPermutation-sym, IsPermutation-trans, length_permutation}
use Rattle.sqlite_trees.specs.Tree.{IsAscending}
use Rattle.std.specs.declared.cmp.Ordering.TheVariants.{Less}
use Rattle.store_tables.specs.declared.rows.AnswerRow.{AnswerRow}
use Rattle.store_tables.specs.declared.rows.MetaRow.{MetaRow}
use Rattle.store_tables.specs.declared.rows.UseRow.{UseRow}
use Rattle.store_tables.specs.Tables.{Tables}
use Rattle.store_faults.specs.declared.fault.StoreFault.{StoreFault}
use Rattle.store_faults.specs.declared.fault.StoreFault.TheVariants.{NotAStore, Damaged, Sql, OutOfMemory, Collision, TooLarge, TooMany}
use Rattle.repo_store.specs.declared.table_rows.StoreRows.{StoreRows}
use Rattle.repo_store.specs.Answers.{HaveOwnKeys, KeptAnswer}
use Rattle.repo_store.specs.Bounded.{AreBoundedRows, AreVersionRows, key_cmp, key_of_answer, key_of_use}
use Rattle.repo_store.specs.Complete.{HasRecords, IsComplete}
use Rattle.store_faults.specs.Faults.{IsDamage}
use Rattle.repo_store.specs.FromRows.{AreRowsRefused, AreRowsWithin, AreUsesFor, IsKeyBelow, IsSame, tables_of_rows, tables_with}
use Rattle.repo_store.specs.Index.{Key, key_of}
use Rattle.repo_store.specs.Kept.{Kept, Mirror, limiting}
use Rattle.store_faults.specs.Limits.{IsLimit}
use Rattle.repo_store.specs.RowRules.{AreFirstVersionRows, AreStoreRows}
use Rattle.repo_store.specs.Rows.{answer_row, first_tables_of, first_version_row, limit_row, tables_of, version_row}
use Rattle.repo_store.specs.SoundAnswers.{IsSoundAnswer}
use Rattle.repo_store.proofs.KeyOrderLemmas.{answers_fall}
use Rattle.repo_store.proofs.MetaLemmas.{one_limit}
use Rattle.repo_store.proofs.RowRuleLemmas.{all_same}
use Rattle.repo_store.proofs.TakenLemmas.{all_stay}

-- ---- answers and their rows

keys_mapped : (answers : List KeptAnswer) → map key_of_answer (map answer_row answers) ≡ map key_of answers
keys_mapped [] = refl
keys_mapped (answer ∷ answers) = ap (λ (keys : List Key). key_of answer ∷ keys) (keys_mapped answers)

module _ (rows : List AnswerRow) (answers : List KeptAnswer) (order : map answer_row answers ≡ reverse rows) where
  pub answers_count : length answers ≡ length rows
  answers_count = sym (length-map answers answer_row) ∙ ap length order ∙ length-reverse rows

  same_rows : IsPermutation rows (map answer_row answers)
  same_rows = subst (IsPermutation rows) (sym order) (IsPermutation-reverse rows)

  keys_as_rows : IsPermutation (map key_of_answer rows) (map key_of answers)
  keys_as_rows = subst (IsPermutation (map key_of_answer rows)) (keys_mapped answers) (IsPermutation-map key_of_answer rows (map answer_row answers) same_rows)

pub uses_for : (limit : ℕ) (rows : StoreRows) (uses : List UseRow) (answers : List KeptAnswer) → map answer_row answers ≡ reverse rows.answers.items → AreRowsWithin limit rows uses
    → AreUsesFor uses answers
uses_for limit rows uses answers order it = record {
  keys = IsPermutation-trans (map key_of_use uses) (map key_of_answer rows.answers.items) (map key_of answers) it.keys (keys_as_rows rows.answers.items answers order);
  ticks = it.ticks;
}

-- ---- the answers in another order

pub same_moved : (t : Tables) (meta : List MetaRow) (old : Kept) (answers : List KeptAnswer) (new : Kept) → new ≡ record old { answers = answers } → IsSame t (tables_with meta old)
    → IsPermutation answers old.answers → IsSame t (tables_with meta new)
same_moved t meta old answers new is same moved =
    subst (λ (k : Kept). IsSame t (tables_with meta k)) (sym is) (record {
      meta = same.meta;
      blobs = same.blobs;
      staged = same.staged;
      fixes = same.fixes;
      commits = same.commits;
      entries = same.entries;
      answers =
          IsPermutation-trans t.answers (map answer_row old.answers) (map answer_row answers) same.answers
          (IsPermutation-map answer_row old.answers answers (IsPermutation-sym answers old.answers moved));
    })

pub complete_moved : (old : Kept) (limit : ℕ) (answers : List KeptAnswer) (new : Kept) → new ≡ record old { answers = answers } → old.limit ≡ limit → length old.answers ≤ limit
    → IsComplete (limiting limit old) → IsPermutation answers old.answers
    → HaveOwnKeys answers → IsComplete new
complete_moved old limit answers new is limit_is few it moved keys =
    let all : take limit old.answers ≡ old.answers = all_stay limit old.answers few in
    let back = IsPermutation-sym answers old.answers moved in
    let count = length_permutation old.answers answers back in
    let most : length answers ≤ old.limit = omega arith in
    subst IsComplete (sym is) (record {
      sound = it.sound;
      staged = it.staged;
      fixes = it.fixes;
      trees = it.trees;
      sound_answers = all_same IsSoundAnswer old.answers answers back (subst (AllByRecursion IsSoundAnswer) all it.sound_answers);
      answers = all_same (HasRecords old.contents) old.answers answers back (subst (AllByRecursion (HasRecords old.contents)) all it.answers);
      keys = keys;
      apart = it.apart;
      limited = subst IsLimit (sym limit_is) it.limited;
      few = most;
    })

-- ---- version 2

same_meta_as : (rows : StoreRows) (meta other : List MetaRow) (kept : Kept) → IsPermutation meta other → IsSame (tables_of_rows meta rows) (tables_with meta kept)
    → IsSame (tables_of_rows meta rows) (tables_with other kept)
same_meta_as rows meta other kept moved same =
    record { meta = moved; blobs = same.blobs; staged = same.staged; fixes = same.fixes; commits = same.commits; entries = same.entries; answers = same.answers }

module _ (rows : StoreRows) (meta : List MetaRow) (limit : ℕ) (limited : IsPermutation meta (version_row ∷ limit_row (pos limit) ∷ [])) where
  pub second_same : (r : Result Mirror StoreFault) → IfOk r (λ lists. (meta : List MetaRow) → IsSame (tables_of_rows meta rows) (tables_with meta lists.kept))
      → IfOk r (λ lists. lists.kept.limit ≡ limit)
      → IfOk r (λ lists. IsSame (tables_of_rows meta rows) (tables_of lists.kept))
  second_same (Ok lists) same is =
      same_meta_as rows meta (version_row ∷ limit_row (pos lists.kept.limit) ∷ []) lists.kept (subst (λ (n : ℕ). IsPermutation meta (version_row ∷ limit_row (pos n) ∷ [])) (sym is) limited)
      (same meta)
  second_same (Err fault) same is = same

  rows_within : (uses : List UseRow) → AreBoundedRows (tables_of_rows meta rows) uses → AreRowsWithin limit rows uses
  rows_within uses it = record {
    store = bare_rules it.store;
    few = subst (λ (n : ℕ). length rows.answers.items ≤ n) (one_limit meta it.limit limit it.limited limited) it.few;
    keys = it.keys;
    ticks = it.ticks;
  }
    where
      bare_rules : AreStoreRows (tables_of_rows meta rows) → AreStoreRows (tables_of_rows [] rows)
      bare_rules h = record { blobs = h.blobs; staged = h.staged; fixes = h.fixes; commits = h.commits; entries = h.entries; answers = h.answers }

  pub second_refused : (uses : List UseRow) (r : Result Mirror StoreFault) → AreVersionRows meta → IfErr r (IsDamage (¬ AreRowsWithin limit rows uses))
      → IfErr r (AreRowsRefused (AreVersionRows meta) (AreBoundedRows (tables_of_rows meta rows) uses))
  second_refused uses (Ok lists) versioned broken = broken
  second_refused uses (Err fault) versioned broken = go fault broken
    where
      go : (fault : StoreFault) → IsDamage (¬ AreRowsWithin limit rows uses) fault → AreRowsRefused (AreVersionRows meta) (AreBoundedRows (tables_of_rows meta rows) uses) fault
      go NotAStore h = absurd h
      go Damaged h = (versioned, λ it. h (rows_within uses it))
      go (Sql error) h = tt
      go OutOfMemory h = tt
      go Collision h = h
      go TooLarge h = h
      go TooMany h = h

pub rules_at : (rows : StoreRows) (meta : List MetaRow) (r : Result Mirror StoreFault) → OnOk r ((meta : List MetaRow) → AreStoreRows (tables_of_rows meta rows))
    → OnOk r (AreStoreRows (tables_of_rows meta rows))
rules_at rows meta (Ok lists) obeys = obeys meta
rules_at rows meta (Err fault) obeys = obeys

-- ---- version 1

module _ (rows : StoreRows) (meta : List MetaRow) (versioned : AreFirstVersionRows meta) where
  pub first_same : (r : Result Mirror StoreFault) → IfOk r (λ lists. (meta : List MetaRow) → IsSame (tables_of_rows meta rows) (tables_with meta lists.kept))
      → IfOk r (λ lists. IsSame (tables_of_rows meta rows) (first_tables_of lists.kept))
  first_same (Ok lists) same = same_meta_as rows meta (first_version_row ∷ []) lists.kept versioned (same meta)
  first_same (Err fault) same = same

  pub first_refused : (r : Result Mirror StoreFault) → IfErr r (IsDamage ((meta : List MetaRow) → ¬ AreStoreRows (tables_of_rows meta rows)))
      → IfErr r (AreRowsRefused (AreFirstVersionRows meta) (AreStoreRows (tables_of_rows meta rows)))
  first_refused (Ok lists) broken = broken
  first_refused (Err fault) broken = go fault broken
    where
      go : (fault : StoreFault) → IsDamage ((meta : List MetaRow) → ¬ AreStoreRows (tables_of_rows meta rows)) fault
          → AreRowsRefused (AreFirstVersionRows meta) (AreStoreRows (tables_of_rows meta rows)) fault
      go NotAStore h = absurd h
      go Damaged h = (versioned, h meta)
      go (Sql error) h = tt
      go OutOfMemory h = tt
      go Collision h = h
      go TooLarge h = h
      go TooMany h = h

pub first_fall : (rows : List AnswerRow) (r : Result Mirror StoreFault) → IsAscending IsKeyBelow rows → IfOk r (λ lists. map answer_row lists.kept.answers ≡ reverse rows)
    → IfOk r (λ lists. IsAscending (λ a b. key_cmp (key_of b) (key_of a) ≡ Less) lists.kept.answers)
first_fall rows (Ok lists) up order = answers_fall rows lists.kept.answers up order
first_fall rows (Err fault) up order = order

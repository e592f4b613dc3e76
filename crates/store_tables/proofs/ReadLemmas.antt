-- From what a transaction says of a query to the rows of a table.
use Rattle.std.proofs.Common.{◌≡◌, ◌⊎◌, inl, inr, ℕ, ℤ, List, [], map, drop, true, cond, Option, None, Some, Result, Ok, Err, IfOk, IfErr, IsTrue, refl, sym, ap, subst, ◌∙◌, IsPermutation}
use Rattle.std.proofs.lemmas.Bool.{both_ways}
use Rattle.std.proofs.lemmas.Result.{IfOk-at_ok, IfOk-weaker}
use Rattle.std.proofs.lemmas.List.Sorted.{IsPermutation-map, IsPermutation-sym}
use Rattle.sqlite_value.specs.declared.value.Value.TheVariants.{Int}
use Rattle.sqlite_value.specs.declared.keys.Key.{Key}
use Rattle.sqlite_value.specs.Order.{Row, column}
use Rattle.sqlite_trees.specs.Tree.{Trees, rowid}
use Rattle.sqlite_trees.specs.View.{is_int}
use Rattle.sqlite_trees.specs.declared.store.Store.{Ghosts}
use Rattle.sqlite_sql.specs.Term.{Term}
use Rattle.sqlite_schema.specs.declared.command.Returning.{Returning}
use Rattle.sqlite_schema.specs.declared.schema.Schema.{Schema}
use Rattle.sqlite_rules.specs.Edit.{have_rowids}
use Rattle.store_tables.proofs.Kit.{IsPlain, has_mapped, map-map, reads_as, test_from, unchanged_keeps}
use Rattle.sqlite.specs.declared.error.Error.{Error}
use Rattle.sqlite.specs.Clock.{timed}
use Rattle.sqlite.specs.Held.{Held, state}
use Rattle.sqlite.specs.Listing.{understood}
use Rattle.sqlite.specs.State.{State, HasCleanDisk, IsUnchanged, KeepsCommit, Survives, Shown, ShowsRows, FailsToQuery, FailsToShow, IsNotRun, IsTooLate}
use Rattle.store_tables.specs.Schema.{MoreTables, store_with}
use Rattle.store_tables.specs.Steps.{IsRead}
use Rattle.store_tables.specs.Rowids.{ShowRowids}
use Rattle.store_tables.specs.Tables.{Stored, AreKeyed}
use Rattle.store_tables.proofs.Compiles.{Selects}
use Rattle.store_tables.proofs.QueryLemmas.{shown_as}
use Rattle.store_tables.proofs.RisingLemmas.{apart_from_ids}
use Rattle.store_tables.proofs.RowLemmas.{has_permuted, mapped_has}
use Rattle.store_tables.proofs.WriteLemmas.{shows}

-- ---- nothing is committed

shown_keeps : (sql : List ℕ) (params : Row) (old new : State) (rows : List Row) → IsTrue old.in_transaction → Shown sql params old new rows → KeepsCommit old new
unfolding Shown
shown_keeps sql params old new rows inside h = go h.0.returning h.2
  where
    go : (o : Option Returning) → ShowsRows old new sql h.0 (timed params h.0.formats h.1.now) rows o → KeepsCommit old new
    go None it = unchanged_keeps old new (inl it.3)
    go (Some what) it =
        let shown = it.1.shown in
        record { was_open = λ _. shown.was_open; committed = λ _. shown.committed_is ∙ ap (λ b. cond b old.committed new.now) inside }

refused_keeps : (sql : List ℕ) (params : Row) (old new : State) (e : Error) → FailsToQuery sql params old new e → KeepsCommit old new
unfolding FailsToQuery IsNotRun
refused_keeps sql params old new e (inl (inl h)) = unchanged_keeps old new (inl h.1)
refused_keeps sql params old new e (inl (inr h)) = unchanged_keeps old new (inr h.3)
refused_keeps sql params old new e (inr h) = go h.0.returning h.2
  where
    go : (o : Option Returning) → FailsToShow old new sql h.0 (timed params h.0.formats h.1.now) e o → KeepsCommit old new
    go None it = unchanged_keeps old new (inl it.3)
    go (Some what) (inl it) = unchanged_keeps old new (inl it.1)
    go (Some what) (inr it) = unchanged_keeps old new (inr it.3)

shown_unchanged : (sql : List ℕ) (params : Row) (old new : State) (rows : List Row) → IsPlain (understood old.now.schema sql) → Shown sql params old new rows → IsUnchanged old new
unfolding Shown
shown_unchanged sql params old new rows plain h =
    let none = (subst IsPlain h.1.is plain).0 in (subst (ShowsRows old new sql h.0 (timed params h.0.formats h.1.now) rows) none h.2).3

-- ---- the rows

pub read_rows : {X : Type 0} (cells : X → Row) (places : List ℕ) (first : ℕ) (project : List Term) (items : List X) (rows shown : List Row)
    → ((r : Row) → drop first (shown_as project [] r) ≡ map (column r) places)
    → IsPermutation (map (shown_as project []) rows) shown → map cells items ≡ map (drop first) shown → Stored cells places items rows
read_rows cells places first project items rows shown each same items_are =
    let dropped = IsPermutation-map (drop first) (map (shown_as project []) rows) shown same in
    let cut : map (drop first) (map (shown_as project []) rows) ≡ map (λ r. map (column r) places) rows = map-map (drop first) (shown_as project []) rows ∙ (λ i. map (λ r. each r i) rows) in
    IsPermutation-sym _ _ (subst (IsPermutation (map (λ r. map (column r) places) rows)) (sym items_are) (subst (λ l. IsPermutation l (map (drop first) shown)) cut dropped))

-- the rowids that the first column shows
pub ids_shown : (project : List Term) (rows shown : List Row) (ids : List ℤ) → ((r : Row) → column (shown_as project [] r) 0 ≡ rowid r) → IsPermutation (map (shown_as project []) rows) shown
    → map Int ids ≡ map (λ r. column r 0) shown → IsPermutation (map rowid rows) (map Int ids)
ids_shown project rows shown ids each same ids_are =
    let heads = IsPermutation-map (λ (r : Row). column r 0) (map (shown_as project []) rows) shown same in
    let cut : map (λ (r : Row). column r 0) (map (shown_as project []) rows) ≡ map rowid rows = map-map (λ (r : Row). column r 0) (shown_as project []) rows ∙ (λ i. map (λ r. each r i) rows) in
    subst (IsPermutation (map rowid rows)) (sym ids_are) (subst (λ l. IsPermutation l (map (λ (r : Row). column r 0) shown)) cut heads)

pub ids_number : (rows : List Row) (ids : List ℤ) → IsPermutation (map rowid rows) (map Int ids) → have_rowids rows ≡ true
ids_number rows ids same =
    test_from (λ r. is_int (rowid r)) rows (λ r h.
    let n = has_mapped Int ids (rowid r) (has_permuted (map rowid rows) (map Int ids) (rowid r) same (mapped_has rowid rows r h)) in ap is_int n.2)

-- rowids of which none is shown twice
pub keyed_as_shown : (project : List Term) (rows shown : List Row) → ((r : Row) → column (shown_as project [] r) 0 ≡ rowid r) → IsPermutation (map (shown_as project []) rows) shown → ShowRowids shown
    → AreKeyed rows
keyed_as_shown project rows shown each same it =
    let ids = ids_shown project rows shown it.0 each same it.1 in record { numbered = ids_number rows it.0 ids; apart = apart_from_ids rows it.0 ids it.2 }

module _ {S : Type 0} (g : Ghosts S) (old new : Held S) (sql : List ℕ) where
  abbrev pub Answered : {V : Type 0} → (V → List Row) → Result V Error → Type 0
  Answered items r = HasCleanDisk (state g new) → IfOk r (λ rows. Shown sql [] (state g old) (state g new) (items rows))

  abbrev pub Refused : {V : Type 0} → Result V Error → Type 0
  Refused r = HasCleanDisk (state g new) → IfErr r (λ e. FailsToQuery sql [] (state g old) (state g new) e ⊎ IsTooLate sql [] (state g old) (state g new) e)

  pub query_keeps : {V : Type 0} (items : V → List Row) (r : Result V Error) → Answered items r → Refused r → HasCleanDisk (state g new) → IsTrue (state g old).in_transaction
      → KeepsCommit (state g old) (state g new)
  query_keeps items (Ok rows) ok err clean inside = shown_keeps sql [] (state g old) (state g new) (items rows) inside (ok clean)
  query_keeps items (Err e) ok err clean inside = elim (err clean) [
    | inl failed ↦ refused_keeps sql [] (state g old) (state g new) e failed
    | inr late ↦ absurd (both_ways _ late.3 inside)
  ]

  -- the rows of the table that the text selects, and that nothing has changed
  pub table_shown : (schema : Schema) (tree : ℕ) (project : List Term) (order : List (Term × Key)) (names : List (List ℕ)) → Selects schema sql tree project order names → (rows : List Row)
      → (state g old).now.schema ≡ schema
      → Shown sql [] (state g old) (state g new) rows → IsUnchanged (state g old) (state g new) × IsPermutation (map (shown_as project []) ((state g old).now.trees tree)) rows
  table_shown schema tree project order names text rows has h = (
    shown_unchanged sql [] (state g old) (state g new) rows (subst (λ s. IsPlain (understood s sql)) (sym has) text.0.1) h,
    shows (state g old).now tree project order names [] rows (reads_as sql [] (state g old) (state g new) schema has _ text.0.0 text.0.1 text.1 rows h),
  )

  module _ {V : Type 0} (items : V → List Row) (r : Result V Error) (ok : Answered items r) (err : Refused r) (survives : Survives (state g old) (state g new) (λ _. ⊥)) where
    pub read_fails : {W : Type 0} (out : Result W Error) (d : Error) → out ≡ Err d → (Rows : W → Trees → Type 0) → IsRead g old new out Rows
    read_fails out d is Rows = record { rows = λ _ _ _. rw is tt; kept = query_keeps items r ok err; survives = survives }

    module _ (tree : ℕ) (project : List Term) (order : List (Term × Key)) (names : List (List ℕ)) (text : (more : MoreTables) → Selects (store_with more) sql tree project order names) (shown : V)
        (is : r ≡ Ok shown) where
      answer : (more : MoreTables) → HasCleanDisk (state g new) → (state g old).now.schema ≡ store_with more
          → IsUnchanged (state g old) (state g new) × IsPermutation (map (shown_as project []) ((state g old).now.trees tree)) (items shown)
      answer more clean has =
          table_shown (store_with more) tree project order names (text more) (items shown) has (IfOk-at_ok (λ rows. Shown sql [] (state g old) (state g new) (items rows)) is (ok clean))

      -- with what else the answer shows of the rows
      pub read_also : {W X : Type 0} (K : List Row → Type 0) (out : Result W Error) (listed : W → List X) (cells : X → Row) (places : List ℕ) (first : ℕ)
          → ((row : Row) → drop first (shown_as project [] row) ≡ map (column row) places)
          → (values : List Row) → values ≡ items shown → ((rows : List Row) → IsPermutation (map (shown_as project []) rows) values → K rows)
          → IfOk out (λ w. map cells (listed w) ≡ map (drop first) values)
          → IsRead g old new out (λ w trees. Stored cells places (listed w) (trees tree) × K (trees tree))
      read_also K out listed cells places first each values same also done = record {
        rows = λ more clean has.
            let it = answer more clean has in
            let values_are = subst (IsPermutation (map (shown_as project []) ((state g old).now.trees tree))) (sym same) it.1 in
            IfOk-weaker out _ _ (λ w e. (it.0, (read_rows cells places first project (listed w) ((state g old).now.trees tree) values each values_are e, also _ values_are))) done;
        kept = query_keeps items r ok err;
        survives = survives;
      }

      -- with the rowids, in the first column
      pub read_keyed : {W X : Type 0} (out : Result W Error) (listed : W → List X) (cells : X → Row) (places : List ℕ) → ((row : Row) → drop 1 (shown_as project [] row) ≡ map (column row) places)
          → ((row : Row) → column (shown_as project [] row) 0 ≡ rowid row)
          → (values : List Row) → values ≡ items shown → IfOk out (λ w. map cells (listed w) ≡ map (drop 1) values) → IfOk out (λ w. ShowRowids values)
          → IsRead g old new out (λ w trees. Stored cells places (listed w) (trees tree) × AreKeyed (trees tree))
      read_keyed (Err e) listed cells places each ids values same done apart = read_fails (Err e) e refl _
      read_keyed (Ok w) listed cells places each ids values same done apart =
          read_also AreKeyed (Ok w) listed cells places 1 each values same (λ rows there. keyed_as_shown project rows values ids there apart) done

      pub read_ends : {W X : Type 0} (out : Result W Error) (listed : W → List X) (cells : X → Row) (places : List ℕ) (first : ℕ)
          → ((row : Row) → drop first (shown_as project [] row) ≡ map (column row) places)
          → (values : List Row) → values ≡ items shown → IfOk out (λ w. map cells (listed w) ≡ map (drop first) values) → IsRead g old new out (λ w trees. Stored cells places (listed w) (trees tree))
      read_ends out listed cells places first each values same done =
          let it = read_also (λ _. Unit {0}) out listed cells places first each values same (λ _ _. tt) done in
          record { rows = λ more clean has. IfOk-weaker out _ _ (λ w e. (e.0, e.1.0)) (it.rows more clean has); kept = it.kept; survives = it.survives }

-- what is told of less
pub read_weaker : {S W : Type 0} (g : Ghosts S) (old new : Held S) (out : Result W Error) (Rows Fewer : W → Trees → Type 0) → ((w : W) (trees : Trees) → Rows w trees → Fewer w trees)
    → IsRead g old new out Rows → IsRead g old new out Fewer
read_weaker g old new out Rows Fewer weaker it =
    record { rows = λ more clean has. IfOk-weaker out _ _ (λ w e. (e.0, weaker w (state g old).now.trees e.1)) (it.rows more clean has); kept = it.kept; survives = it.survives }

-- What INSERT and DELETE make of a table that states no default, check or action.
use Rattle.std.proofs.Common.{◌≡◌, ◌⊎◌, inl, inr, ℕ, ◌/◌, List, [], ◌∷◌, ◌++◌, length, map, filter, flat_map, slice_get, true, false, not, eqb, Option, Some, None, Result, Ok, Err, refl, sym, ap, subst, ◌∙◌, IsPermutation}
use Rattle.std.specs.List.{AllByRecursion, filter_map}
use Rattle.std.proofs.lemmas.Bool.{and_parts, not-true, and_right}
use Rattle.sqlite_value.specs.Order.{Row}
use Rattle.sqlite_trees.specs.Tree.{Trees, rowid, put_row}
use Rattle.sqlite_trees.specs.View.{is_int}
use Rattle.sqlite_sql.specs.Term.{Term, col}
use Rattle.sqlite_schema.specs.declared.schema.Action.TheVariants.{NoAction}
use Rattle.sqlite_schema.specs.declared.schema.Column.{Column}
use Rattle.sqlite_schema.specs.declared.schema.Keys.{Keys}
use Rattle.sqlite_schema.specs.declared.schema.Keys.TheVariants.{Enforced}
use Rattle.sqlite_schema.specs.declared.schema.Reference.{Reference}
use Rattle.sqlite_schema.specs.declared.schema.Table.{Table}
use Rattle.sqlite_schema.specs.declared.schema.Schema.{Schema}
use Rattle.sqlite_schema.specs.declared.program.Program.{Program}
use Rattle.sqlite_schema.specs.declared.command.Source.TheVariants.{Values}
use Rattle.sqlite_schema.specs.declared.command.Command.TheVariants.{Insert, Delete, Select}
use Rattle.sqlite_value.specs.declared.keys.Key.{Key}
use Rattle.sqlite_schema.specs.Rules.{ParentKey, parent_key}
use Rattle.sqlite_rules.specs.declared.error.Rowids.TheVariants.{Chosen, Given}
use Rattle.sqlite_rules.specs.declared.action.Deed.{Deed}
use Rattle.sqlite_rules.specs.Cast.{cast_row}
use Rattle.sqlite_rules.specs.Calls.{ids_of}
use Rattle.sqlite_rules.specs.Edit.{edit_of, Applies, with_rowid, is_taken, have_rowids, taken_by, without_all}
use Rattle.sqlite_rules.specs.Action.{work_by, work_for, deed_for}
use Rattle.sqlite.specs.Effect.{value_rows}
use Rattle.sqlite.specs.Does.{Does, Tally}
use Rattle.sqlite.specs.Effect.{Database, Reads}
use Rattle.sqlite.specs.Rows.{Written}
use Rattle.sqlite.specs.State.{State, Writes, mode_of}
use Rattle.store_tables.proofs.Kit.{one_step}
use Rattle.store_tables.specs.Schema.{NoneActs, store_schema, table_named}
use Rattle.store_tables.proofs.QueryLemmas.{plain_query, passes_all, shown_as, selected}
use Rattle.store_tables.proofs.RowLemmas.{passing_out, all_out, all_kept, put_apart, put_keyed, left_keyed}
use Rattle.store_tables.specs.Tables.{HaveDistinctRowids, AreKeyed, ChangesOnly, KeepsOthers}

-- a part that gave a value did not stop on the way
pub went : {B E R : Type 0} {b : B} {Stops : E → Type 0} → ((stop : E) × Stops stop × (Ok b ≡ Err stop)) ⊎ R → R
went (inl stopped) = absurd (let e = stopped.2 in cc)
went (inr on) = on

pub same_value : {B E : Type 0} {a b : B} → ◌≡◌ {A = Result B E} (Ok a) (Ok b) → a ≡ b
same_value e = cc

-- ---- no foreign key acts

none_mapped : {X Y : Type 0} (f : X → Option Y) (xs : List X) → AllByRecursion (λ x. f x ≡ None) xs → filter_map f xs ≡ []
none_mapped f [] all = refl
none_mapped f (x ∷ xs) all = rw all.0 (none_mapped f xs all.1)

nothing_moved : (depth tree : ℕ) (child : Table) (ref : Reference) (deed : Option Deed) (key : Option ParentKey) → work_by depth tree [] child ref deed key ≡ None
nothing_moved depth tree child ref None key = refl
nothing_moved depth tree child ref (Some deed) None = refl
nothing_moved depth tree child ref (Some deed) (Some key) = rw (and_right (eqb key.0 tree) false refl)

module _ (schema : Schema) (keys : Keys) (depth tree : ℕ) (news : List Row) where
  from_none : (child : Table) (refs : List Reference) → AllByRecursion (λ ref. work_for schema keys depth tree [] news child ref ≡ None) refs
  from_none child [] = tt
  from_none child (ref ∷ refs) = (nothing_moved depth tree child ref (deed_for keys (eqb (length news) 0) ref) (parent_key schema.tables ref), from_none child refs)

  unmoved : (tables : List Table) → flat_map (λ child. filter_map (work_for schema keys depth tree [] news child) child.references) tables ≡ []
  unmoved [] = refl
  unmoved (t ∷ tables) = rw (none_mapped (work_for schema keys depth tree [] news t) t.references (from_none t t.references)) (unmoved tables)

-- no reference of a store acts
pub store_stays : (tables : List Table) → NoneActs tables → NoneActs (store_schema.tables ++ tables)
store_stays tables stay = (tt, ((tt, ((refl, tt), ((refl, tt), (tt, ((refl, (refl, tt)), ((refl, (refl, (refl, (refl, tt)))), stay))))))))

module _ (schema : Schema) (depth tree : ℕ) (olds : List Row) where
  quiet_refs : (child : Table) (refs : List Reference) → AllByRecursion (λ (ref : Reference). ref.on_delete ≡ NoAction) refs
      → AllByRecursion (λ ref. work_for schema Enforced depth tree olds [] child ref ≡ None) refs
  quiet_refs child [] none = tt
  quiet_refs child (ref ∷ refs) none = (rw none.0, quiet_refs child refs none.1)

  quiet : (tables : List Table) → NoneActs tables
      → flat_map (λ child. filter_map (work_for schema Enforced depth tree olds [] child) child.references) tables ≡ []
  quiet [] none = refl
  quiet (t ∷ tables) none = rw (none_mapped (work_for schema Enforced depth tree olds [] t) t.references (quiet_refs t t.references none.0)) (quiet tables none.1)

-- ---- the statements

-- one row was put where its rowid was free
pub record PutsRow (schema : Schema) (tree : ℕ) (row : Row) (old new : Trees) : Type 0 where
  pub rows : new tree ≡ put_row row (old tree)
  pub free : is_taken (old tree) row ≡ false
  pub keyed : is_int (rowid row) ≡ true
  pub others : KeepsOthers schema tree old new

pub record LeavesRows (schema : Schema) (tree : ℕ) (rows : List Row) (old new : Trees) : Type 0 where
  pub rows_are : new tree ≡ rows
  pub others : KeepsOthers schema tree old new

module _ (schema : Schema) (at : ℕ) (name : List ℕ) (tree : ℕ) (columns : List Column) (key : Option ℕ) (primary : List ℕ) (uniques : List (List ℕ)) (references : List Reference)
    (listed : slice_get schema.tables at ≡ Some (table_named name tree columns key primary uniques references)) (old new : State) (has : old.now.schema ≡ schema) (text : List ℕ) (params : Row)
    (count : ℕ) where
  abbrev table : Table
  table = table_named name tree columns key primary uniques references

  pub inserts : (terms : List Term) (width : ℕ) (source : Row) → value_rows (params ++ []) width (length terms / width) terms ≡ source ∷ []
      → Writes old new None (Insert at (Values terms width)) text params count
      → (new.now.schema ≡ schema) × PutsRow schema tree (with_rowid Chosen (old.now.trees tree) (cast_row table source)) old.now.trees new.now.trees
  inserts terms width source one w =
      let db = old.now.trees in
      let moved = subst (λ s. Does old.step_limit (mode_of old) params (record old.now { schema = s }) text None (Insert at (Values terms width)) (Ok (w.tally, new.now))) has w.changed in
      let done = went (rw listed at moved) in
      let now = ap (λ (p : Tally × Database). p.1) (same_value (went (went done.2).2).2) in
      let given = went done.1 in
      let written = went (went given.2).2 in
      let counted = went written.2 in
      let trees : done.0.trees ≡ written.0 = ap (λ (it : Written). it.trees) (same_value counted.2) ∙ same_value counted.1 in
      let edit = edit_of db table [] Chosen 0 given.0 in
      let a = one_step schema Enforced db written.0 edit (unmoved schema Enforced 0 tree edit.news schema.tables) written.1 in
      let applied : Applies schema Enforced db (edit_of db table [] Chosen 0 (source ∷ [])) new.now.trees =
      subst (λ t. Applies schema Enforced db (edit_of db table [] Chosen 0 (source ∷ [])) t) (sym (ap (λ (d : Database). d.trees) now ∙ trees))
      (subst (λ rows. Applies schema Enforced db (edit_of db table [] Chosen 0 rows) written.0) (given.1.1 ∙ one) a) in (
        ap (λ (d : Database). d.schema) now,
        record { rows = applied.rows; free = not-true _ (and_parts _ _ applied.fresh).0; keyed = (and_parts _ _ applied.keyed).0; others = applied.tables },
      )

  pub inserts_only : (terms : List Term) (width : ℕ) (source : Row) → value_rows (params ++ []) width (length terms / width) terms ≡ source ∷ []
      → Writes old new None (Insert at (Values terms width)) text params count → ChangesOnly table schema old.now new.now
  inserts_only terms width source one w =
      let it = inserts terms width source one w in
      let p = it.1 in
      let row = with_rowid Chosen (old.now.trees tree) (cast_row table source) in
      record {
        schema = it.0;
        others = p.others;
        keyed = λ k. subst AreKeyed (sym p.rows) (record { numbered = put_keyed row (old.now.trees tree) p.keyed k.numbered; apart = put_apart row (old.now.trees tree) p.free k.apart });
      }

  abbrev pub rowids_where : List Term → Program
  rowids_where tests = record { lets = []; body = plain_query tree tests (col 1 0 ∷ []) [] }

  -- the rows are taken out by the rowids of those that pass
  taken : (tests : List Term) → NoneActs schema.tables → Writes old new None (Delete at (rowids_where tests)) text params count
      → (new.now.schema ≡ schema) × (shown : List Row) × IsPermutation (map (λ r. rowid r ∷ []) (filter (passes_all tests params) (old.now.trees tree))) shown
      × LeavesRows schema tree (without_all (old.now.trees tree) (ids_of shown)) old.now.trees new.now.trees
  taken tests none w =
      let db = old.now.trees in
      let moved = subst (λ s. Does old.step_limit (mode_of old) params (record old.now { schema = s }) text None (Delete at (rowids_where tests)) (Ok (w.tally, new.now))) has w.changed in
      let done = went (rw listed at moved) in
      let now = ap (λ (p : Tally × Database). p.1) (same_value (went (went done.2).2).2) in
      let given = went done.1 in
      let written = went given.2 in
      let trees : done.0.trees ≡ written.0 = ap (λ (it : Written). it.trees) (same_value written.2) in
      let edit = edit_of db table (ids_of given.0) Given 0 [] in
      let a = one_step schema Enforced db written.0 edit (quiet schema 0 tree (taken_by db edit) schema.tables none) written.1 in
      let applied : Applies schema Enforced db edit new.now.trees = subst (λ t. Applies schema Enforced db edit t) (sym (ap (λ (d : Database). d.trees) now ∙ trees)) a in
      (ap (λ (d : Database). d.schema) now, given.0, selected tree tests (col 1 0 ∷ []) [] db params given.0 given.1.answer, record { rows_are = applied.rows; others = applied.tables })

  -- DELETE with a test takes out the rows that pass
  pub deletes : (tests : List Term) → NoneActs schema.tables → have_rowids (old.now.trees tree) ≡ true → HaveDistinctRowids (old.now.trees tree)
      → Writes old new None (Delete at (rowids_where tests)) text params count
      → (new.now.schema ≡ schema) × LeavesRows schema tree (filter (λ r. not (passes_all tests params r)) (old.now.trees tree)) old.now.trees new.now.trees
  deletes tests none keyed apart w =
      let it = taken tests none w in
      (it.0, record { rows_are = it.3.rows_are ∙ passing_out (old.now.trees tree) keyed (passes_all tests params) it.1 it.2 apart; others = it.3.others })

  pub deletes_only : (tests : List Term) → NoneActs schema.tables → Writes old new None (Delete at (rowids_where tests)) text params count → ChangesOnly table schema old.now new.now
  deletes_only tests none w =
      let it = taken tests none w in record { schema = it.0; others = it.3.others; keyed = λ k. subst AreKeyed (sym it.3.rows_are) (left_keyed (ids_of it.1) (old.now.trees tree) k) }

  -- and without one all rows
  pub empties : NoneActs schema.tables → have_rowids (old.now.trees tree) ≡ true → Writes old new None (Delete at (rowids_where [])) text params count
      → (new.now.schema ≡ schema) × LeavesRows schema tree [] old.now.trees new.now.trees
  empties none keyed w =
      let it = taken [] none w in
      (it.0, record { rows_are = it.3.rows_are ∙ all_out (old.now.trees tree) keyed (passes_all [] params) it.1 it.2 (λ r h. refl); others = it.3.others })

-- what a SELECT over one table shows
pub shows : (db : Database) (tree : ℕ) (project : List Term) (order : List (Term × Key)) (names : List (List ℕ)) (params : Row) (rows : List Row)
    → Reads (Select (record { lets = []; body = plain_query tree [] project order }) names) db params rows → IsPermutation (map (shown_as project params) (db.trees tree)) rows
shows db tree project order names params rows h =
    subst (λ l. IsPermutation (map (shown_as project params) l) rows) (sym (all_kept (db.trees tree))) (selected tree [] project order db.trees params rows h.answer)

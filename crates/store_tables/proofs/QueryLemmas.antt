-- What a query over one table answers.
use Rattle.std.proofs.Common.{◌≡◌, ℕ, ◌-◌, ◌^◌, List, [], ◌∷◌, map, filter, flat_map, slice_get, unwrap_or, Bool, true, false, cond, pos, negsuc, None, refl, sym, ap, subst, ◌∙◌, IsPermutation}
use Rattle.std.specs.Prelude.{nat_le}
use Rattle.std.specs.List.{list_all}
use Rattle.std.proofs.lemmas.List.Sorted.{IsPermutation-map}
use Rattle.sqlite_value.specs.declared.value.Value.TheVariants.{Null, Int}
use Rattle.sqlite_value.specs.declared.keys.Key.{Key}
use Rattle.sqlite_value.specs.Order.{Row}
use Rattle.sqlite_trees.specs.Tree.{Trees}
use Rattle.sqlite_sql.specs.Term.{Term, lit, eval_all, holds}
use Rattle.sqlite_sql.specs.Query.{Query, inner, end, matches, IsAnswer, IsSureAnswer, Output, output}
use Rattle.sqlite_sql.specs.Program.{overlay}
use Rattle.store_tables.proofs.Kit.{filter_as_flat_map, map-flat_map, map-map}

-- a query over one table, with no limit
abbrev pub plain_query : ℕ → List Term → List Term → List (Term × Key) → Query
plain_query tree tests project order = record {
  from = inner tree end;
  filter = tests;
  group = None;
  project = project;
  distinct = false;
  collations = [];
  order = order;
  limit = lit (Int (negsuc 0));
  offset = lit (Int (pos 0));
}

abbrev pub passes_all : List Term → Row → Row → Bool
passes_all tests params r = list_all (holds (params ∷ r ∷ [])) tests

abbrev pub shown_as : List Term → Row → Row → Row
shown_as project params r = eval_all project (params ∷ r ∷ [])

no_list : (n : ℕ) → slice_get {X = List Row} [] n ≡ None
no_list n = refl

no_tables : (db : Trees) (t : ℕ) → overlay db [] t ≡ db t
no_tables db t =
    elim (nat_le (2 ^ 31) t) as (λ b. unwrap_or (cond b (slice_get {X = List Row} [] (t - 2 ^ 31)) None) (db t) ≡ db t) [ true ↦ ap (λ o. unwrap_or o (db t)) (no_list (t - 2 ^ 31)) | false ↦ refl ]

-- one environment for each row that passes
found : (db : Trees) (tree : ℕ) (tests : List Term) (params : Row) → matches db tests (inner tree end) (params ∷ []) ≡ map (λ r. params ∷ r ∷ []) (filter (passes_all tests params) (db tree))
found db tree tests params =
    sym (ap (map (λ r. params ∷ r ∷ [])) (filter_as_flat_map (passes_all tests params) (db tree)) ∙ map-flat_map _ _ (db tree) ∙ (λ i. flat_map (λ r. once r i) (db tree)))
  where
    once : (r : Row) → map (λ s. params ∷ s ∷ []) (cond (passes_all tests params r) (r ∷ []) []) ≡ cond (passes_all tests params r) ((params ∷ r ∷ []) ∷ []) []
    once r = elim (passes_all tests params r) as (λ b. map (λ s. params ∷ s ∷ []) (cond b (r ∷ []) []) ≡ cond b ((params ∷ r ∷ []) ∷ []) []) [ true ↦ refl | false ↦ refl ]

-- the rows that pass, as they are shown, in some order
pub selected : (tree : ℕ) (tests project : List Term) (order : List (Term × Key)) (db : Trees) (params : Row) (rows : List Row)
    → IsSureAnswer (plain_query tree tests project order) (overlay db []) params rows
    → IsPermutation (map (shown_as project params) (filter (passes_all tests params) (db tree))) rows
selected tree tests project order db params rows sure =
    let q = plain_query tree tests project order in
    let a : IsAnswer q (overlay db []) params rows = sure Null in
    let each = found (overlay db []) tree tests params ∙ ap (λ (l : List Row). map (λ r. params ∷ r ∷ []) (filter (passes_all tests params) l)) (no_tables db tree) in
    let kept : a.kept ≡ map (output q) (map (λ r. params ∷ r ∷ []) (filter (passes_all tests params) (db tree))) = a.distinct ∙ ap (map (output q)) (a.grouped ∙ each) in
    let shown : map (λ (o : Output). o.1) a.kept ≡ map (shown_as project params) (filter (passes_all tests params) (db tree)) =
    ap (map (λ (o : Output). o.1)) kept ∙ map-map (λ (o : Output). o.1) (output q) _ ∙ map-map _ _ _ in
    subst (λ l. IsPermutation l rows) shown (subst (IsPermutation (map (λ (o : Output). o.1) a.kept)) (sym a.shown) (IsPermutation-map (λ (o : Output). o.1) a.kept a.ordered a.same))

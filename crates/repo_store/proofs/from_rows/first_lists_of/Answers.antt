use Rattle.std.proofs.Common.{◌≡◌, true, false, [], ◌∷◌, sym, subst, ◌∙◌}
use Rattle.std.proofs.lemmas.List.Sorted.{IsPermutation-sym}
use Rattle.repo_store.proofs.Kit.{one_permutation}
use Rattle.sqlite_trees.specs.Tree.{IsAscending}
use Rattle.repo_store.specs.FromRows.{IsKeyBelow}
use Rattle.repo_store.specs.Rows.{first_version_row}
use Rattle.repo_store.proofs.FromRowsLemmas.{perm_same}
use Rattle.repo_store.proofs.VersionLemmas.{first_fall, first_refused, first_same, rules_at}
use Rattle.repo_store.proofs.from_rows.first_lists_of.Goals as goal

pub returns-then-not-is_first_version-clause-refused : goal.returns-then-not-is_first_version-clause-refused
returns-then-not-is_first_version-clause-refused c = λ same.
    let meta = c.args.tables.meta.items in
    let versioned = c.is_first_version.ensures.1 (c.as_slice.ensures.value ∙ one_permutation first_version_row meta (IsPermutation-sym meta (first_version_row ∷ []) same)) in
    absurd (let never : false ≡ true = sym c.if-not-is_first_version.true ∙ versioned in cc)

pub returns-clause-same : goal.returns-clause-same
returns-clause-same c =
    let meta = c.args.tables.meta.items in
    first_same c.args.tables.store meta (perm_same meta (first_version_row ∷ []) (sym c.as_slice.ensures.value ∙ c.is_first_version.ensures.0 c.if-not-is_first_version.false)) c.lists_of.result
    c.lists_of.ensures.same

pub returns-clause-fall : goal.returns-clause-fall
returns-clause-fall c =
    first_fall c.args.tables.store.answers.items c.lists_of.result (subst (IsAscending IsKeyBelow) c.as_slice-2.ensures.value (c.answers_rise.ensures c.if-not-answers_rise.false))
    c.lists_of.ensures.order

pub returns-clause-obeys : goal.returns-clause-obeys
returns-clause-obeys c = rules_at c.args.tables.store c.args.tables.meta.items c.lists_of.result c.lists_of.ensures.obeys

pub returns-clause-refused : goal.returns-clause-refused
returns-clause-refused c =
    let meta = c.args.tables.meta.items in
    first_refused c.args.tables.store meta (perm_same meta (first_version_row ∷ []) (sym c.as_slice.ensures.value ∙ c.is_first_version.ensures.0 c.if-not-is_first_version.false)) c.lists_of.result
    c.lists_of.ensures.broken

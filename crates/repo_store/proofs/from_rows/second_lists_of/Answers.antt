use Rattle.std.proofs.Common.{List, pos, [], ◌∷◌, IfErr, IsPermutation, sym, subst}
use Rattle.store_tables.specs.declared.rows.MetaRow.{MetaRow}
use Rattle.store_tables.specs.declared.rows.UseRow.{UseRow}
use Rattle.repo_store.specs.Bounded.{AreVersionRows}
use Rattle.repo_store.specs.FromRows.{AreRowsWithin, HasLimit}
use Rattle.store_faults.specs.Faults.{IsDamage}
use Rattle.repo_store.specs.Rows.{limit_row, version_row}
use Rattle.repo_store.proofs.VersionLemmas.{rules_at, second_refused, second_same}
use Rattle.repo_store.proofs.from_rows.second_lists_of.Goals as goal

pub returns-in-Some-clause-same : goal.returns-in-Some-clause-same
returns-in-Some-clause-same c =
    let meta = c.args.tables.meta.items in
    let limited = subst (λ (l : List MetaRow). IsPermutation l (version_row ∷ limit_row (pos c.in-Some.limit) ∷ [])) c.as_slice-2.ensures.value c.in-Some.ensures.limit in
    second_same c.args.tables.store meta c.in-Some.limit limited c.lists_within.result c.lists_within.ensures.same c.lists_within.ensures.limit

pub returns-in-Some-clause-obeys : goal.returns-in-Some-clause-obeys
returns-in-Some-clause-obeys c = rules_at c.args.tables.store c.args.tables.meta.items c.lists_within.result c.lists_within.ensures.obeys

pub returns-in-Some-clause-refused : goal.returns-in-Some-clause-refused
returns-in-Some-clause-refused c =
    let meta = c.args.tables.meta.items in
    let store = c.args.tables.store in
    let r = c.lists_within.result in
    let limited = subst (λ (l : List MetaRow). IsPermutation l (version_row ∷ limit_row (pos c.in-Some.limit) ∷ [])) c.as_slice-2.ensures.value c.in-Some.ensures.limit in
    let versioned = subst AreVersionRows c.as_slice.ensures.value (c.is_second_version.ensures.0 c.if-not-is_second_version.false) in
    second_refused store meta c.in-Some.limit limited c.args.uses.items r versioned
    (subst (λ (l : List UseRow). IfErr r (IsDamage (¬ AreRowsWithin c.in-Some.limit store l))) c.as_slice-in-Some.ensures.value c.lists_within.ensures.broken)

pub returns-clause-refused : goal.returns-clause-refused
returns-clause-refused c = (
  subst AreVersionRows c.as_slice.ensures.value (c.is_second_version.ensures.0 c.if-not-is_second_version.false),
  λ it. c.in-None.ensures.none (subst HasLimit (sym c.as_slice-2.ensures.value) (record { limit = it.limit; limited = it.limited; within = it.within })),
)

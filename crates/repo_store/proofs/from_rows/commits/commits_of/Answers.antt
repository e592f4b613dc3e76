use Rattle.std.proofs.Common.{ℕ, map, sym, subst}
use Rattle.std.specs.List.{AllByRecursion}
use Rattle.std.proofs.lemmas.Result.{err_from_is_err_and}
use Rattle.repo_store.specs.Rows.{blob_row}
use Rattle.repo_store.specs.RowRules.{IsEntryRow}
use Rattle.repo_store.proofs.FromRowsLemmas.{damage_of, history_length}
use Rattle.repo_store.proofs.from_rows.commits.commits_of.Goals as goal

pub returns-clause-obeys : goal.returns-clause-obeys
returns-clause-obeys c = (
  c.in_ok-history.ensures.obeys,
  subst (λ (n : ℕ). AllByRecursion (IsEntryRow (map blob_row c.args.contents.now) n) c.args.entries.items)
      (history_length c.in_ok-history.history.items c.args.commits.items c.in_ok-history.ensures.commits) c.in_ok-add_entries.ensures.obeys,
)

pub returns-in_err-add_entries-clause-broken : goal.returns-in_err-add_entries-clause-broken
returns-in_err-add_entries-clause-broken c =
    let p = err_from_is_err_and c.from_residual-in_err-add_entries.result c.from_residual-in_err-add_entries.ensures.1 in
    rw (p.1, p.2) (damage_of _ _ c.in_err-add_entries.field-0.0 (λ breaks h. breaks
    (subst (λ (n : ℕ). AllByRecursion (IsEntryRow (map blob_row c.args.contents.now) n) c.args.entries.items)
    (sym (history_length c.in_ok-history.history.items c.args.commits.items c.in_ok-history.ensures.commits)) h.1)) c.in_err-add_entries.ensures.broken)

use Rattle.std.proofs.Common.{◌≡◌, ℕ, ◌+◌, ◌≤◌, pos, [], ◌∷◌, ◌++◌, map, length, length-append, append_assoc, refl, sym, ap, subst, ◌∙◌, arith}
use Rattle.std.proofs.lemmas.Grind.{common_steps}
use Rattle.std.proofs.lemmas.Result.{err_from_is_err_and}
use Rattle.std.specs.Vec.Iter.{into_iter_items}
use Rattle.store_tables.specs.Rowids.{AreRisingRowids as IsRisingNumbers}
use Rattle.store_faults.specs.Limits.{most_commits}
use Rattle.repo_store.specs.RowRules.{commit_number_in}
use Rattle.repo_store.proofs.FromRowsLemmas.{AreNumbered, bare_more, commits_obey, history_broken, history_more, numbered_more}
use Rattle.repo_store.proofs.from_rows.commits.history_of.Goals as goal

pub returns-in_err-commit-clause-broken : goal.returns-in_err-commit-clause-broken
returns-in_err-commit-clause-broken c =
    let rises = subst (λ l. IsRisingNumbers (map commit_number_in l)) c.as_slice.ensures.value (c.if-not-commits_rise.ensures refl) in
    let p = err_from_is_err_and c.from_residual.result c.from_residual.ensures.1 in
    rw (p.1, p.2) (history_broken c.rows.yielded c.in-Some.row _ _ c.args.rows.items c.len-in-rows.result _ rises c.rows.invariant.left (c.in-Some.ensures.steps.0)
    (let long = c.len-in-rows.ensures in let obeys = c.rows.history.ok.0 in let count = c.rows.invariant.count in omega arith) c.in_err-commit.ensures.broken)

pub rows-preserved : goal.rows-preserved
rows-preserved c =
    let row = c.in-Some.row in
    let rows = c.rows.yielded in
    let old = c.rows.history.items in
    let pushed = c.in_ok-push.ensures.items in
    let long = c.len-in-rows.ensures in
    let kept = c.rows.history.ok.0 in
    let count = c.rows.invariant.count in
    let place : c.len-in-rows.result ≡ length old = omega arith in
    let number : row.n ≡ pos (length old + 1) = c.in_ok-commit.ensures.obeys.0 ∙ ap (λ (n : ℕ). pos (n + 1)) place in
    let one = ap length pushed in
    record {
      left = append_assoc rows (row ∷ []) (into_iter_items c.next.new.self) ∙ ap (λ l. rows ++ l) (sym (c.in-Some.ensures.steps.0)) ∙ c.rows.invariant.left;
      commits = history_more old c.push.new.self.items c.in_ok-commit.commit rows row pushed c.in_ok-commit.ensures.commit number c.rows.invariant.commits;
      bare = bare_more old c.push.new.self.items c.in_ok-commit.commit row.message pushed c.in_ok-commit.ensures.commit c.rows.invariant.bare;
      count = omega (arith, length-append old (c.in_ok-commit.commit ∷ []), length-append rows (row ∷ []));
      obeys = numbered_more rows row (length old) c.rows.invariant.obeys count number c.in_ok-commit.ensures.obeys.1;
    }

pub returns-clause-obeys : goal.returns-clause-obeys
returns-clause-obeys c =
    let all : c.rows.yielded ≡ c.args.rows.items = grind (arith, common_steps) in
    let few : length c.args.rows.items ≤ most_commits = let limit = c.if-len-gt-MOST_COMMITS.false in let long = c.len.ensures in let kept = c.args.rows.ok.0 in omega arith in
    commits_obey c.args.rows.items (subst (AreNumbered 1) all c.rows.invariant.obeys) few

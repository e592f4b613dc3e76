use Rattle.std.proofs.Common.{◌≡◌, true, false, List, ℕ, map, is_some, sym, ap, subst, ◌∙◌}
use Rattle.hook_base.specs.Trees.{entry_of}
use Rattle.repo_store.specs.Lists.{file_of}
use Rattle.repo_store.specs.RowRules.{IsPathText}
use Rattle.repo_store.proofs.FromRowsLemmas.{staged_as_entry}
use Rattle.repo_store.proofs.from_rows.fixes.fix_of_row.Goals as goal

pub returns-then-not-has_path-clause-broken : goal.returns-then-not-has_path-clause-broken
returns-then-not-has_path-clause-broken c h =
    let files = map file_of c.args.staged.now in
    let path = c.in_ok-path.ensures.path ∙ c.as_slice.ensures in
    let there : is_some (entry_of c.in_ok-path.path files) ≡ true = ap (λ (p : List ℕ). is_some (entry_of p files)) path ∙ staged_as_entry c.args.row.now.path files ∙ h.file_staged in
    let absent : is_some (entry_of c.in_ok-path.path files) ≡ false = sym c.has_path.ensures ∙ (c.if-not-has_path.true) in
    absurd (let never : true ≡ false = sym there ∙ absent in cc)

pub returns-clause-obeys : goal.returns-clause-obeys
returns-clause-obeys c =
    let files = map file_of c.args.staged.now in
    let path = c.in_ok-path.ensures.path ∙ c.as_slice.ensures in
    let there : is_some (entry_of c.in_ok-path.path files) ≡ true = sym c.has_path.ensures ∙ (c.if-not-has_path.false) in
    record {
      path_legal = subst IsPathText c.as_slice.ensures c.in_ok-path.ensures.legal;
      marked = c.in_ok-now.ensures.marked;
      file_staged = sym (staged_as_entry c.args.row.now.path files) ∙ ap (λ (p : List ℕ). is_some (entry_of p files)) (sym path) ∙ there;
    }

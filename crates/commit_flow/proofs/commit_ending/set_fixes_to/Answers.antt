use Rattle.std.proofs.Common.{◌∙◌, ap, List}
use Rattle.std.proofs.lemmas.Result.{err_from_is_err_and}
use Rattle.hook_base.specs.declared.file.File.{File}
use Rattle.hook_base.specs.Trees.{changes_between}
use Rattle.commit_flow.proofs.CommitStoreLemmas.{unfixed}
use Rattle.commit_flow.proofs.commit_ending.set_fixes_to.Goals as goal

pub returns-in_err-set_fixes-clause-refused : goal.returns-in_err-set_fixes-clause-refused
returns-in_err-set_fixes-clause-refused g c =
    let p = err_from_is_err_and c.from_residual-in_err-set_fixes.result c.from_residual-in_err-set_fixes.ensures.1 in
    rw (p.1, p.2) (unfixed c.args.store.now.kept c.args.tree.now c.as_slice.result.now c.in_err-set_fixes.field-0.0
    (c.as_slice.ensures.same ∙ c.in_ok-changes.ensures ∙ ap (λ (from : List File). changes_between from c.args.tree.now) c.in_ok-staged.ensures.tree) c.in_err-set_fixes.ensures.why)

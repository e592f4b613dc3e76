use Rattle.std.proofs.Common.{◌∙◌, List, ap, sym, subst, arith, is_some}
use Rattle.hook_base.specs.declared.file.File.{File}
use Rattle.hook_base.specs.Places.{IsAt, IsGap}
use Rattle.hook_base.specs.Trees.{IsRising}
use Rattle.hook_base.specs.TreeLemmas.{at_within, entry_of-at, entry_of-gap, remove_file-at, remove_file-gap, IsRising-remove_file}
use Rattle.hook_base.proofs.rows.remove_row.Goals as goal

pub remove-requires : goal.remove-requires
remove-requires c =
    let within = at_within c.args.path.now c.as_slice.result.now c.in-At.index c.in-At.ensures in
    omega arith

pub returns-in-At-clause-found : goal.returns-in-At-clause-found
returns-in-At-clause-found c =
    sym (ap is_some (entry_of-at c.args.path.now c.args.rows.now.items c.in-At.index c.remove.result
    (subst (λ (rows : List File). IsAt c.args.path.now rows c.in-At.index) c.as_slice.ensures.value c.in-At.ensures)))

pub returns-in-At-clause-removed : goal.returns-in-At-clause-removed
returns-in-At-clause-removed c =
    c.remove.ensures.items ∙ sym (remove_file-at c.args.path.now c.args.rows.now.items c.in-At.index c.requires
    (subst (λ (rows : List File). IsAt c.args.path.now rows c.in-At.index) c.as_slice.ensures.value c.in-At.ensures))

pub returns-in-At-clause-rising : goal.returns-in-At-clause-rising
returns-in-At-clause-rising c =
    subst IsRising
    (sym (c.remove.ensures.items ∙ sym (remove_file-at c.args.path.now c.args.rows.now.items c.in-At.index c.requires
    (subst (λ (rows : List File). IsAt c.args.path.now rows c.in-At.index) c.as_slice.ensures.value c.in-At.ensures))))
    (IsRising-remove_file c.args.path.now c.args.rows.now.items c.requires)

pub returns-in-Before-clause-found : goal.returns-in-Before-clause-found
returns-in-Before-clause-found c =
    sym (ap is_some (entry_of-gap c.args.path.now c.args.rows.now.items c.in-Before.field-0
    (subst (λ (rows : List File). IsGap c.args.path.now rows c.in-Before.field-0) c.as_slice.ensures.value c.in-Before.ensures)))

pub returns-in-Before-clause-removed : goal.returns-in-Before-clause-removed
returns-in-Before-clause-removed c =
    sym (remove_file-gap c.args.path.now c.args.rows.now.items c.in-Before.field-0
    (subst (λ (rows : List File). IsGap c.args.path.now rows c.in-Before.field-0) c.as_slice.ensures.value c.in-Before.ensures))

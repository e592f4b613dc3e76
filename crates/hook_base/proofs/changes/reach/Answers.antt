use Rattle.std.proofs.Common.{◌∙◌, Some, ap, sym}
use Rattle.std.proofs.lemmas.Option.{get_or_from_slice_get}
use Rattle.hook_base.specs.declared.file.File.{File}
use Rattle.hook_base.specs.TreeLemmas.{at_within, entry_of-at, entry_of-gap}
use Rattle.hook_base.proofs.PlaceLemmas.{UpTo-at, UpTo-gap}
use Rattle.hook_base.proofs.changes.reach.Goals as goal

pub entry-requires : goal.entry-requires
entry-requires c = at_within c.args.path.now c.args.after.now c.in-At.index c.in-At.ensures

pub returns-in-At-clause-entry : goal.returns-in-At-clause-entry
returns-in-At-clause-entry c =
    let row = c.entry.result.now in
    let at = get_or_from_slice_get c.args.after.now c.in-At.index row row c.entry.ensures.row in
    sym (entry_of-at c.args.path.now c.args.after.now c.in-At.index row c.in-At.ensures ∙ ap (λ (row : File). Some row.entry) at)

pub returns-in-At-clause-passed : goal.returns-in-At-clause-passed
returns-in-At-clause-passed c = UpTo-at c.args.path.now c.args.after.now c.in-At.index c.in-At.ensures

pub returns-in-Before-clause-entry : goal.returns-in-Before-clause-entry
returns-in-Before-clause-entry c = sym (entry_of-gap c.args.path.now c.args.after.now c.in-Before.index c.in-Before.ensures)

pub returns-in-Before-clause-passed : goal.returns-in-Before-clause-passed
returns-in-Before-clause-passed c = UpTo-gap c.args.path.now c.args.after.now c.in-Before.index c.in-Before.ensures

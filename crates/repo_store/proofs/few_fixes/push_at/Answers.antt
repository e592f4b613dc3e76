use Rattle.std.proofs.Common.{rules, ap}
use Rattle.hook_base.specs.TreeLemmas.{entry_of-gap}
use Rattle.repo_store.specs.Accepted.{file_at}
use Rattle.repo_store.specs.Lists.{file_of}
use Rattle.std.proofs.Common.{map}
use Rattle.repo_store.proofs.FewLemmas.{held_alone, within_held}
use Rattle.repo_store.proofs.FixedLemmas.{not_pushed, pushed}
use Rattle.repo_store.proofs.few_fixes.push_at.Goals as goal

pub bounds-files-index : goal.bounds-files-index
bounds-files-index c = within_held c.args.path.now c.args.files.now c.in-Ok.index c.in-Ok.ensures

pub offset_bounds-files-index : goal.offset_bounds-files-index
offset_bounds-files-index c = search (rules, within_held c.args.path.now c.args.files.now c.in-Ok.index c.in-Ok.ensures)

pub returns-in_ok-push : goal.returns-in_ok-push
returns-in_ok-push c =
    pushed c.args.found.now.items c.push.new.self.items c.in_ok-clone.field-0 _ ((c.in_ok-push.ensures).items)
    (held_alone c.args.path.now c.args.files.now c.in-Ok.index c.in_ok-clone.field-0 c.in-Ok.ensures (search rules))

pub returns-in_default : goal.returns-in_default
returns-in_default c = not_pushed c.args.found.now.items _ (ap (file_at c.args.path.now) (entry_of-gap c.args.path.now (map file_of c.args.files.now) c.in_default.field-0 c.in_default.ensures))

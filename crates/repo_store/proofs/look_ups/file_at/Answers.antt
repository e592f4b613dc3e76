use Rattle.std.proofs.Common.{Option, map, option_map, sym, ap, ◌∙◌}
use Rattle.hook_base.specs.TreeLemmas.{entry_of-gap}
use Rattle.repo_store.specs.Shared.{FileParts}
use Rattle.repo_store.specs.Lists.{entry_in, file_of}
use Rattle.repo_store.proofs.PlaceLemmas.{found_at}
use Rattle.repo_store.proofs.TreeLemmas.{got}
use Rattle.repo_store.proofs.look_ups.file_at.Goals as goal

pub returns-in-Ok : goal.returns-in-Ok
returns-in-Ok c =
    ap (λ (o : Option FileParts). option_map entry_in o) (got c.args.files.now c.in-Ok.index c.get.result c.get.ensures.lookup)
    ∙ found_at c.args.path.now c.args.files.now c.in-Ok.index (c.in-Ok.ensures)

pub returns-in-Err : goal.returns-in-Err
returns-in-Err c = sym (entry_of-gap c.args.path.now (map file_of c.args.files.now) c.in-Err.field-0 (c.in-Err.ensures))

use Rattle.std.proofs.lemmas.Result.{IfOk-weaker}
use Rattle.hookhost.specs.FileTrees.{HoldsFiles}
use Rattle.hookhost.proofs.FileTreeLemmas.{holds-permutation}
use Rattle.hookhost.proofs.file_tree.tree_of.Goals as goal

pub returns : goal.returns
returns c =
    let files = c.args.files.items in
    let sorted = c.sort_by.new.self.items in
    IfOk-weaker c.tree_in_order.result (HoldsFiles sorted) (HoldsFiles files)
    (λ tree. holds-permutation files sorted tree c.sort_by.ensures.permutation) c.tree_in_order.ensures

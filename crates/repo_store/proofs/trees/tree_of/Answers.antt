use Rattle.std.proofs.Common.{ap, ◌∙◌}
use Rattle.hook_base.specs.declared.file.File.{File}
use Rattle.hook_base.specs.Trees.{put_row}
use Rattle.repo_store.proofs.TreeLemmas.{tree_more}
use Rattle.repo_store.proofs.trees.tree_of.Goals as goal

pub loop-file-preserved : goal.loop-file-preserved
loop-file-preserved c =
    c.in_ok-put_shared.ensures.put ∙ ap (λ (file : File). put_row file c.loop-file.tree) (c.in_ok-clone.ensures.cases ∙ c.shared.ensures)
    ∙ tree_more c.args.files.now c.loop-file.file-index c.file-item.result c.loop-file.tree c.loop-file-test.true c.file-item.is c.requires c.loop-file.invariant

use Rattle.std.proofs.Common.{ℕ, List, subst}
use Rattle.hook_base.specs.Rising.{IsBelow}
use Rattle.hook_base.specs.Trees.{path_of}
use Rattle.repo_store.specs.Lists.{file_of}
use Rattle.repo_store.proofs.FromRowsLemmas.{follows_mapped}
use Rattle.repo_store.proofs.from_rows.staged.follows_files.Goals as goal

pub returns-in-len1-up : goal.returns-in-len1-up
returns-in-len1-up c h =
    follows_mapped file_of path_of c.args.files.now c.last-item.result c.args.path.now c.requires c.last-item.is
    (subst (λ (p : List ℕ). IsBelow p c.args.path.now) c.path.ensures (c.is_after.ensures h))

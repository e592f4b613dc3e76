use Rattle.std.proofs.Common.{rules}
use Rattle.std.proofs.lemmas.Fn.{always_returns_same}
use Rattle.repo_store.proofs.ClashLemmas.{below_folder, below_searched, cut_to, side}
use Rattle.repo_store.proofs.clashes.has_file_below.Goals as goal

pub returns : goal.returns
returns c =
    rw c.is_ok.ensures.value (below_searched c.args.folder.now c.args.files.now c.binary_search_by.result c.requires c.binary_search_by.ensures.bound
    (c.binary_search_by.ensures.position (side (cut_to (below_folder c.args.folder.now)) (below_folder c.args.folder.now)) (always_returns_same _ _ _ (λ a r f k. (search rules, search rules)))))

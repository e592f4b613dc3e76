use Rattle.std.proofs.Common.{rules}
use Rattle.std.proofs.lemmas.Fn.{always_returns_same}
use Rattle.repo_store.proofs.ClashLemmas.{whole, whole_rises, side, searched}
use Rattle.repo_store.proofs.clashes.has_file_at.Goals as goal

pub returns : goal.returns
returns c =
    rw c.is_ok.ensures.value (searched whole whole_rises c.args.path.now c.args.files.now c.binary_search_by.result c.requires c.binary_search_by.ensures.bound
    (c.binary_search_by.ensures.position (side whole c.args.path.now) (always_returns_same _ _ _ (λ a r f k. (search rules, search rules)))))

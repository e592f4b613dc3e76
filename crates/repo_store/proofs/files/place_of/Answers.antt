use Rattle.std.proofs.Common.{rules}
use Rattle.std.proofs.lemmas.Fn.{always_returns_same}
use Rattle.repo_store.proofs.PlaceLemmas.{side, placed}
use Rattle.repo_store.proofs.files.place_of.Goals as goal

pub returns : goal.returns
returns c =
    placed c.args.path.now c.args.files.now c.binary_search_by.result c.requires c.binary_search_by.ensures.bound
    (c.binary_search_by.ensures.position (side c.args.path.now) (always_returns_same _ _ _ (λ a r f k. (search rules, search rules))))

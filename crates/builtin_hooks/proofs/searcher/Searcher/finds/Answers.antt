use Rattle.std.proofs.Common.{◌∙◌, ap}
use Rattle.builtin_hooks.specs.Search.{is_search_found}
use Rattle.builtin_hooks.proofs.SearchLemmas.{is_found-by}
use Rattle.builtin_hooks.proofs.searcher.Searcher.finds.Goals as goal

pub returns-clause-found : goal.returns-clause-found
returns-clause-found c =
    let bytes = c.args.bytes.now in
    c.is_match.ensures.found ∙ is_found-by _ _ bytes c.self.invariant (λ k. (c.type_inv.bytes k).fits)
    ∙ ap (λ search. is_search_found search bytes) c.self.view_is

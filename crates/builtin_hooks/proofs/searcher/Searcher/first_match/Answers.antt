use Rattle.std.proofs.Common.{◌∙◌, ap}
use Rattle.builtin_hooks.specs.Search.{first_match}
use Rattle.builtin_hooks.proofs.SearchLemmas.{first_match-by}
use Rattle.builtin_hooks.proofs.searcher.Searcher.first_match.Goals as goal

pub returns-clause-found : goal.returns-clause-found
returns-clause-found c =
    let bytes = c.args.bytes.now in
    c.find.ensures.found ∙ first_match-by _ _ bytes c.self.invariant (λ k. (c.type_inv.bytes k).fits)
    ∙ ap (λ search. first_match search bytes) c.self.view_is

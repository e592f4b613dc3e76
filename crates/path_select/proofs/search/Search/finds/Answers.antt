use Rattle.std.proofs.Common.{◌∙◌}
use Rattle.path_select.proofs.PatternLemmas.{is_found-of_search}
use Rattle.path_select.proofs.search.Search.finds.Goals as goal

pub returns-clause-found : goal.returns-clause-found
returns-clause-found c =
    rw (← c.self.view_is) (c.is_match.ensures.found ∙ is_found-of_search c.self.inside.pattern.now c.self.inside.matcher c.args.text.now (λ k. (c.type_inv.text k).fits) c.self.invariant)

use Rattle.path_select.proofs.PatternLemmas.{LooksFor-of_regex}
use Rattle.path_select.proofs.search.Search.new.Goals as goal

pub invariant_of-result : goal.invariant_of-result
invariant_of-result c =
    rw (← c.pattern.view_is) (LooksFor-of_regex c.pattern.inside.regex c.in_ok-matcher.matcher c.pattern.invariant c.in_ok-matcher.ensures.pattern)

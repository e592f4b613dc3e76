use Rattle.path_select.proofs.PatternLemmas.{IsPattern-of_regex}
use Rattle.path_select.proofs.pattern.Pattern.as_str.Goals as goal

pub returns-clause-pattern : goal.returns-clause-pattern
returns-clause-pattern c = rw (← c.self.view_is) (IsPattern-of_regex c.self.inside.regex c.self.invariant)

use Rattle.path_select.proofs.PatternLemmas.{IsPattern-of_regex}
use Rattle.path_select.proofs.pattern.Pattern.build.Goals as goal

pub returns-clause-pattern : goal.returns-clause-pattern
returns-clause-pattern c =
    let made = c.in_ok-regex.ensures in
    rw (← made.source) (IsPattern-of_regex c.in_ok-regex.regex (record { by_default = made.config; is_read = made.read }))

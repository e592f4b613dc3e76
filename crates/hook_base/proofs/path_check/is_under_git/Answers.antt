use Rattle.std.proofs.Common.{◌∙◌, sym}
use Rattle.std.specs.Prelude.{codes}
use Rattle.std.proofs.lemmas.Str.Pattern.{starts_text}
use Rattle.hook_base.proofs.GitLemmas.{under_git}
use Rattle.hook_base.proofs.path_check.is_under_git.Goals as goal

pub returns-else-eq : goal.returns-else-eq
returns-else-eq c = starts_text _ (codes ".git/") c.args.text.now c.starts_with.ensures.cases ∙ under_git c.args.text.now (sym c.eq.ensures ∙ c.if-eq.false)

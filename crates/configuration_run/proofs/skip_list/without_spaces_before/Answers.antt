use Rattle.std.proofs.Common.{◌∙◌, ap, sym, lit<}
use Rattle.std.proofs.lemmas.Str.Pattern.{strip_prefix_char}
use Rattle.configuration_run.specs.SkipList.{without_spaces_before}
use Rattle.configuration_run.proofs.SkipLemmas.{behind-is-text, none-before}
use Rattle.configuration_run.proofs.skip_list.without_spaces_before.Goals as goal

pub spaces-preserved : goal.spaces-preserved
spaces-preserved c =
    let cut = rw c.in-Some.is at (strip_prefix_char 32 c.spaces.rest.now c.strip_prefix.result c.strip_prefix.ensures.cases (lit< tt)) in
    (behind-is-text c.spaces.rest.now c.in-Some.behind.now cut c.spaces.invariant.0, sym (ap without_spaces_before cut) ∙ c.spaces.invariant.1)

pub returns : goal.returns
returns c =
    let none = rw c.in_default.is at (strip_prefix_char 32 c.spaces.rest.now c.strip_prefix.result c.strip_prefix.ensures.cases (lit< tt)) in
    sym (none-before c.spaces.rest.now none) ∙ c.spaces.invariant.1

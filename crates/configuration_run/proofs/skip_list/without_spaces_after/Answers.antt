use Rattle.std.proofs.Common.{◌∙◌, ap, sym, lit<}
use Rattle.std.proofs.lemmas.Str.Pattern.{strip_suffix_char}
use Rattle.configuration_run.specs.SkipList.{without_spaces_after}
use Rattle.configuration_run.proofs.SkipLemmas.{before-is-text, none-after, one-after}
use Rattle.configuration_run.proofs.skip_list.without_spaces_after.Goals as goal

pub spaces-preserved : goal.spaces-preserved
spaces-preserved c =
    let cut = rw c.in-Some.is at (strip_suffix_char 32 c.spaces.rest.now c.strip_suffix.result c.strip_suffix.ensures.cases (lit< tt)) in
    (before-is-text c.spaces.rest.now c.in-Some.before.now cut c.spaces.invariant.0, sym (one-after c.in-Some.before.now) ∙ sym (ap without_spaces_after cut) ∙ c.spaces.invariant.1)

pub returns : goal.returns
returns c =
    let none = rw c.in_default.is at (strip_suffix_char 32 c.spaces.rest.now c.strip_suffix.result c.strip_suffix.ensures.cases (lit< tt)) in
    sym (none-after c.spaces.rest.now none) ∙ c.spaces.invariant.1

use Rattle.std.proofs.Common.{◌∙◌, ap, sym, lit<}
use Rattle.std.proofs.lemmas.Str.Pattern.{strip_suffix_char}
use Rattle.named_files.specs.Words.{without_slashes}
use Rattle.named_files.proofs.WordLemmas.{before-is-text, none-less, one-less}
use Rattle.named_files.proofs.words.without_slashes.Goals as goal

pub slashes-preserved : goal.slashes-preserved
slashes-preserved c =
    let cut = rw c.in-Some.is at (strip_suffix_char 47 c.slashes.rest.now c.strip_suffix.result c.strip_suffix.ensures.cases (lit< tt)) in
    (before-is-text c.slashes.rest.now c.in-Some.before.now cut c.slashes.invariant.0, sym (one-less c.in-Some.before.now) ∙ sym (ap without_slashes cut) ∙ c.slashes.invariant.1)

pub returns : goal.returns
returns c =
    let none = rw c.in_default.is at (strip_suffix_char 47 c.slashes.rest.now c.strip_suffix.result c.strip_suffix.ensures.cases (lit< tt)) in
    sym (none-less c.slashes.rest.now none) ∙ c.slashes.invariant.1

use Rattle.std.proofs.Common.{◌∙◌, ap, subst}
use Rattle.std.proofs.lemmas.Result.{err_from_is_err_and}
use Rattle.builtin_hooks.specs.GrepFaults.{IsGrepRefusal}
use Rattle.builtin_hooks.specs.Searchers.{search_with}
use Rattle.builtin_hooks.proofs.ArgLemmas.{search_said}
use Rattle.builtin_hooks.proofs.grep.Grep.build.Goals as goal

pub returns-clause-built : goal.returns-clause-built
returns-clause-built c =
    let flags = c.of-flags.result in
    let said = c.of-flags.ensures in
    ap (λ text. search_with text flags) c.in_ok-regex.ensures.source
    ∙ search_said c.args.entry.now flags c.args.args.now said.ignore_case said.multiline said.negate

pub returns-in_err-regex-clause-refused : goal.returns-in_err-regex-clause-refused
returns-in_err-regex-clause-refused c =
    let flags = c.of-flags.result in
    let said = c.of-flags.ensures in
    let p = err_from_is_err_and c.from_residual.result c.from_residual.ensures.1 in
    rw (p.1, p.2) (λ _. subst (λ search. IsGrepRefusal search c.in_err-regex.field-0.0)
    (search_said c.args.entry.now flags c.args.args.now said.ignore_case said.multiline said.negate)
    c.in_err-regex.ensures.refused)

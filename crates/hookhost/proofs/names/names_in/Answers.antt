use Rattle.std.proofs.Common.{◌∙◌, ap, lit<}
use Rattle.std.proofs.lemmas.Iterator.Consumers.{YieldsList-end}
use Rattle.std.proofs.lemmas.Iterator.Splits.{YieldsList-from_str_split}
use Rattle.hookhost.specs.Names.{without_empty_end}
use Rattle.hookhost.proofs.names.names_in.Goals as goal

pub returns : goal.returns
returns c =
    let all = YieldsList-end (YieldsList-from_str_split 0 c.args.text.now (lit< tt) (cc) (cc) (cc)) c.names.yielded _ c.names.yielded_by _ _ c.in-None.is c.next.ensures.steps in
    c.from.ensures ∙ c.in_ok-without_empty_end.ensures ∙ ap without_empty_end (c.names.invariant ∙ all.0)

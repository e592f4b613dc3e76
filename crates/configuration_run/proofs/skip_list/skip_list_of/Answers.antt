use Rattle.std.proofs.Common.{◌∷◌, [], ◌++◌, ◌∙◌, ap, lit<, map}
use Rattle.std.specs.List.{filter}
use Rattle.std.proofs.lemmas.Iterator.Consumers.{YieldsList-end}
use Rattle.std.proofs.lemmas.Iterator.Splits.{YieldsList-from_str_split}
use Rattle.configuration_run.specs.SkipList.{is_name, without_spaces}
use Rattle.configuration_run.proofs.SkipLemmas.{name-is, name-more, no-name-is, no-name-more}
use Rattle.configuration_run.proofs.skip_list.skip_list_of.Goals as goal

pub pieces-preserved-in_ok-push : goal.pieces-preserved-in_ok-push
pieces-preserved-in_ok-push c =
    name-more c.pieces.yielded c.in-Some.piece c.pieces.names.items _ c.without_spaces-name.result.now c.pieces.invariant c.without_spaces-name.ensures
    (name-is c.without_spaces-name.result.now c.is_empty.result c.is_empty.ensures (cc))
    (c.in_ok-push.ensures.items ∙ ap (λ text. c.pieces.names.items ++ text ∷ []) c.in_ok-copy_of.ensures)

pub pieces-preserved : goal.pieces-preserved
pieces-preserved c =
    no-name-more c.pieces.yielded c.in-Some.piece c.pieces.names.items c.without_spaces-name.result.now c.pieces.invariant c.without_spaces-name.ensures
    (no-name-is c.without_spaces-name.result.now c.is_empty.result c.is_empty.ensures (cc))

pub returns : goal.returns
returns c =
    let all = YieldsList-end (YieldsList-from_str_split 44 c.args.text.now (lit< tt) (cc) (cc) (cc)) c.pieces.yielded _ c.pieces.yielded_by _ _ c.in-None.is c.next.ensures.steps in
    c.from.ensures ∙ c.pieces.invariant ∙ ap (λ texts. filter is_name (map without_spaces texts)) all.0

use Rattle.std.proofs.Common.{List, sym, subst, ◌∙◌}
use Rattle.std.proofs.lemmas.Bool.{false≢true}
use Rattle.hook_base.specs.Rising.{IsRisingBy}
use Rattle.answer_records.proofs.ListLemmas.{not_rising}
use Rattle.answer_records.proofs.rising.read_rising.Goals as goal

pub returns-then-not-are_rising : goal.returns-then-not-are_rising
returns-then-not-are_rising g c =
    let item = g.T.Item in
    let place = g.T.Placed.place_of in
    let items = c.in-Ok.items.items in
    let falls : ¬ IsRisingBy place items =
    λ up. false≢true (sym c.if-not-are_rising.true ∙ c.are_rising.ensures.1 (subst (λ (all : List g.row.T.Denot). IsRisingBy place all) (sym c.as_slice.ensures.value) up)) in
    λ value. not_rising item.is_item item.spelling g.met.T.Item.told_apart place items value c.args.bytes.now c.in-Ok.ensures.found falls

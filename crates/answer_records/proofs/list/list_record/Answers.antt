use Rattle.std.proofs.lemmas.Result.{err_from_is_err_and}
use Rattle.answer_records.proofs.ListLemmas.{too_large, too_many}
use Rattle.answer_records.proofs.list.list_record.Goals as goal

pub returns-in_err-draft-clause-refused : goal.returns-in_err-draft-clause-refused
returns-in_err-draft-clause-refused g c =
    let p = err_from_is_err_and c.from_residual.result c.from_residual.ensures.1 in
    let item = g.T.Item in
    rw (p.1, p.2) (too_many item.is_item item.spelling g.met.T.Item.told_apart c.args.items.now c.in_err-draft.field-0.0 c.in_err-draft.ensures.refused)

pub returns-in_err-put-clause-refused : goal.returns-in_err-put-clause-refused
returns-in_err-put-clause-refused g c =
    let p = err_from_is_err_and c.from_residual-in_err-put.result c.from_residual-in_err-put.ensures.1 in
    let item = g.T.Item in
    let loop = c.items in
    rw (p.1, p.2) (too_large item.is_item item.spelling g.met.T.Item.told_apart c.args.items.now loop.item-index c.item-item.result loop.draft c.in_err-put.field-0.0 c.items-test.true c.item-item.is
    loop.invariant.written c.in_err-put.ensures.refused)

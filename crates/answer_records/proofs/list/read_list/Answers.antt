use Rattle.std.proofs.Common.{arith}
use Rattle.std.proofs.lemmas.Result.{err_from_is_err_and}
use Rattle.answer_records.specs.Limits.{IsStorable}
use Rattle.answer_records.proofs.ListLemmas.{no_next, nonempty, some_left, too_short, unread_weaker}
use Rattle.answer_records.proofs.list.read_list.Goals as goal

pub returns-in_default-clause-unread : goal.returns-in_default-clause-unread
returns-in_default-clause-unread g c =
    let item = g.T.Item in
    too_short item.is_item item.spelling g.met.T.Item.told_apart c.args.bytes.now c.in_default.ensures.none

pub returns-in_err-item-clause-unread : goal.returns-in_err-item-clause-unread
returns-in_err-item-clause-unread g c =
    let p = err_from_is_err_and c.from_residual.result c.from_residual.ensures.1 in
    let item = g.T.Item in
    let so_far = c.items.invariant in
    let storable : IsStorable c.args.bytes.now = omega arith in
    rw (p.1, p.2) (unread_weaker _ _ c.in_err-item.field-0.0 (no_next item.is_item item.spelling g.met.T.Item.told_apart c.args.bytes.now c.in-Some.count c.items.items.items c.items.rest.now storable
    c.in-Some.ensures.few (omega (arith, so_far.many, c.items-test.true)) so_far.so_far) c.in_err-item.ensures.unread)

pub returns-then-not-is_empty-clause-unread : goal.returns-then-not-is_empty-clause-unread
returns-then-not-is_empty-clause-unread g c =
    let item = g.T.Item in
    let so_far = c.items.invariant in
    let storable : IsStorable c.args.bytes.now = omega arith in
    some_left item.is_item item.spelling g.met.T.Item.told_apart c.args.bytes.now c.in-Some.count c.items.items.items c.items.rest.now storable c.in-Some.ensures.few
    (omega (arith, so_far.many, c.items-test.false)) (nonempty c.items.rest.now c.is_empty.result c.is_empty.ensures c.if-not-is_empty.true) so_far.so_far

use Rattle.std.proofs.Common.{◌≡◌, length}
use Rattle.answer_records.proofs.ListLemmas.{IsReadUpTo}
use Rattle.answer_records.proofs.list.read_list.Given as goal

abbrev pub invariant-items : goal.invariant-items
invariant-items g l = record {
  so_far : IsReadUpTo g.T.Item.is_item g.T.Item.spelling l.bytes l.count l.items.items l.rest;
  many : length l.items.items ≡ l.counter;
}

use Rattle.std.proofs.Common.{◌≡◌, ◌++◌, length, take}
use Rattle.std.specs.List.{AllByRecursion, flat_map}
use Rattle.answer_records.specs.Records.{number_bytes}
use Rattle.answer_records.proofs.list.list_record.Given as goal

abbrev pub invariant-items : goal.invariant-items
invariant-items g l = record {
  written : l.draft ≡ number_bytes (length l.items) ++ flat_map g.T.Item.spelling (take l.item-index l.items);
  each : AllByRecursion g.T.Item.is_item (take l.item-index l.items);
}

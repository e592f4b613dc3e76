use Rattle.std.proofs.Common.{arith, sym}
use Rattle.hook_base.proofs.PlaceLemmas.{found_row, from_row, up_to_row}
use Rattle.hook_base.proofs.row_place.place_near.Goals as goal

pub place_further-requires-clause-behind : goal.place_further-requires-clause-behind
place_further-requires-clause-behind c =
    up_to_row c.args.path.now c.args.rows.now c.args.near c.as_file.result.now c.index-rows-near.result (omega arith) c.requires c.as_file.ensures c.index-rows-near.is (sym c.in-Less.ensures)

pub place_back-requires-clause-before : goal.place_back-requires-clause-before
place_back-requires-clause-before c =
    from_row c.args.path.now c.args.rows.now c.args.near c.as_file.result.now c.index-rows-near.result (omega arith) c.requires c.as_file.ensures c.index-rows-near.is (sym c.in-Greater.ensures)

pub returns-in-Equal : goal.returns-in-Equal
returns-in-Equal c =
    found_row c.args.path.now c.args.rows.now c.args.near c.as_file.result.now c.index-rows-near.result (omega arith) c.requires c.as_file.ensures c.index-rows-near.is (sym c.in-Equal.ensures)

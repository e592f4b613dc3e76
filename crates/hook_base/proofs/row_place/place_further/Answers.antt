use Rattle.std.proofs.Common.{arith, sym}
use Rattle.hook_base.proofs.PlaceLemmas.{From-length, found_row, from_row, up_to_row}
use Rattle.hook_base.proofs.row_place.place_further.Goals as goal

pub returns-in-Equal : goal.returns-in-Equal
returns-in-Equal c =
    found_row c.args.path.now c.args.rows.now c.steps.high c.as_file.result.now c.index-rows-high.result (omega arith) c.requires.rising c.as_file.ensures c.index-rows-high.is (sym c.in-Equal.ensures)

pub place_between-requires-clause-before : goal.place_between-requires-clause-before
place_between-requires-clause-before c =
    from_row c.args.path.now c.args.rows.now c.steps.high c.as_file.result.now c.index-rows-high.result (omega arith) c.requires.rising c.as_file.ensures c.index-rows-high.is
    (sym c.in-Greater.ensures)

pub steps-preserved : goal.steps-preserved
steps-preserved c =
    let up =
    up_to_row c.args.path.now c.args.rows.now c.steps.high c.as_file.result.now c.index-rows-high.result (omega arith) c.requires.rising c.as_file.ensures c.index-rows-high.is
    (sym c.in-Less.ensures) in
    (omega (arith, c.min-high.ensures), omega (arith, c.min-high.ensures), omega (arith, c.min-high.ensures), up)

pub place_between-requires-2-clause-before : goal.place_between-requires-2-clause-before
place_between-requires-2-clause-before c = From-length c.args.path.now c.args.rows.now

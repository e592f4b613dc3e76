use Rattle.std.proofs.Common.{◌≡◌, ◌-◌, ◌+◌, ℕ, arith, subst, sym}
use Rattle.hook_base.specs.Overlays.{UpTo}
use Rattle.hook_base.proofs.PlaceLemmas.{found_row, from_row, gap, up_to_row}
use Rattle.hook_base.proofs.row_place.place_back.Goals as goal

pub place_between-requires-clause-before : goal.place_between-requires-clause-before
place_between-requires-clause-before c =
    from_row c.args.path.now c.args.rows.now (c.args.near - 1) c.as_file.result.now c.index-rows-near.result (omega arith) c.requires.rising c.as_file.ensures c.index-rows-near.is
    (sym c.in-Greater.ensures)

pub returns-in-Less : goal.returns-in-Less
returns-in-Less c =
    let next : c.args.near - 1 + 1 ≡ c.args.near = omega arith in
    let up =
    up_to_row c.args.path.now c.args.rows.now (c.args.near - 1) c.as_file.result.now c.index-rows-near.result (omega arith) c.requires.rising c.as_file.ensures c.index-rows-near.is
    (sym c.in-Less.ensures) in
    gap c.args.path.now c.args.rows.now c.args.near (subst (λ (n : ℕ). UpTo c.args.path.now c.args.rows.now n) next up) c.requires.before

pub returns-in-Equal : goal.returns-in-Equal
returns-in-Equal c =
    found_row c.args.path.now c.args.rows.now (c.args.near - 1) c.as_file.result.now c.index-rows-near.result (omega arith) c.requires.rising c.as_file.ensures c.index-rows-near.is
    (sym c.in-Equal.ensures)

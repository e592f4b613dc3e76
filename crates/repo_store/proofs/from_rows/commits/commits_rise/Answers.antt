use Rattle.std.proofs.Common.{SFits, w64, rules, to_z-of_z, refl}
use Rattle.repo_store.proofs.FromRowsLemmas.{commits_rise_more}
use Rattle.repo_store.proofs.from_rows.commits.commits_rise.Goals as goal

pub loop-row-preserved : goal.loop-row-preserved
loop-row-preserved c =
    let fits : SFits w64 c.row-item.result.n = search rules in
    let below = rw (to_z-of_z fits) at (c.if-not-is_above.ensures refl) in
    rw (to_z-of_z fits) (commits_rise_more c.args.rows.now c.loop-row.row-index c.row-item.result c.loop-row.last c.loop-row-test.true c.row-item.is c.loop-row.invariant below)

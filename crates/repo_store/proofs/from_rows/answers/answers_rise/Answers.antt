use Rattle.std.specs.Option.{option_copied}
use Rattle.repo_store.proofs.KeyOrderLemmas.{rise_more}
use Rattle.repo_store.proofs.from_rows.answers.answers_rise.Goals as goal

pub rows-preserved : goal.rows-preserved
rows-preserved c = rise_more c.args.rows.now c.rows.row-index c.row-item.result (option_copied c.rows.last) c.rows-test.true c.row-item.is c.rows.invariant (c.follows.ensures.0 c.if-not-follows.false)

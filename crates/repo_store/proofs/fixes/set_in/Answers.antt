use Rattle.std.proofs.Common.{map}
use Rattle.repo_store.specs.Lists.{fix_of}
use Rattle.repo_store.specs.Rows.{fix_row, with_blobs, with_fix_rows}
use Rattle.repo_store.proofs.CallLemmas.{step_then}
use Rattle.repo_store.proofs.fixes.set_in.Goals as goal

pub returns-clause-step : goal.returns-clause-step
returns-clause-step g c =
    step_then g.S.Store c.args.tx.now.conn.now c.keep_in.new.tx.conn.now c.put_fixes.new.tx.conn.now c.put_fixes.result (λ t. with_blobs c.args.news.now t)
    (λ t. with_fix_rows (map fix_row (map fix_of c.args.fixes.now)) t)
    c.in_ok-keep_in.ensures.step c.put_fixes.ensures.step

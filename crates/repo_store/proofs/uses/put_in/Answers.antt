use Rattle.std.proofs.Common.{pos, w64, arith}
use Rattle.std.proofs.lemmas.Int.{to_z_pos}
use Rattle.store_tables.specs.declared.rows.UseRow.{UseRow}
use Rattle.store_tables.specs.Uses.{with_use}
use Rattle.store_tables.proofs.UsesStepLemmas.{change_as_made}
use Rattle.repo_store.proofs.uses.put_in.Goals as goal

pub returns-clause-made : goal.returns-clause-made
returns-clause-made g c t rows =
    let row : UseRow = record { words = c.args.words.now; seen = c.args.seen.now; tick = pos c.args.tick } in
    let shown = to_z_pos w64 c.args.tick (omega (arith, c.requires)) in
    change_as_made g.S.Store c.args.tx.now.conn.now c.put_use.new.tx.conn.now c.put_use.result t rows (with_use row) (rw shown at c.put_use.ensures.step) c.put_use.ensures.only

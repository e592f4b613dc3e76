use Rattle.store_tables.proofs.MakeLemmas.{makes_blobs, makes_step}
use Rattle.store_tables.proofs.creates.make_blobs.Goals as goal

pub returns-clause-made : goal.returns-clause-made
returns-clause-made g c =
    makes_step g.S.Store c.args.tx.now.conn.now c.execute.new.self.conn.now _ c.execute.result c.execute.ensures.ended c.execute.ensures.runs c.execute.ensures.survives _ _ _ makes_blobs
    c.in_ok-execute.field-0 c.in_ok-execute.was

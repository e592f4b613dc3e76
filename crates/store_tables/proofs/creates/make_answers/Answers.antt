use Rattle.std.proofs.lemmas.Result.{err_from_is_err_and}
use Rattle.store_tables.proofs.MakeLemmas.{makes_answers, makes_step, makes_stop}
use Rattle.store_tables.proofs.creates.make_answers.Goals as goal

pub returns-clause-made : goal.returns-clause-made
returns-clause-made g c =
    makes_step g.S.Store c.args.tx.now.conn.now c.execute.new.self.conn.now _ c.execute.result c.execute.ensures.ended c.execute.ensures.runs c.execute.ensures.survives _ _ _ makes_answers
    c.in_ok-execute.field-0 c.in_ok-execute.was

pub returns-in_err-execute-clause-made : goal.returns-in_err-execute-clause-made
returns-in_err-execute-clause-made g c =
    let p = err_from_is_err_and c.from_residual.result c.from_residual.ensures.1 in
    makes_stop g.S.Store c.args.tx.now.conn.now c.execute.new.self.conn.now _ c.execute.result c.execute.ensures.ended c.execute.ensures.runs c.execute.ensures.survives c.from_residual.result p.0 _ _
    p.1

use Rattle.hookhost.proofs.store_call.add_call.Goals as goal

pub returns-in_default-clause-call : goal.returns-in_default-clause-call
returns-in_default-clause-call g c = c.stage_call.ensures.call c.args.paths

pub returns-clause-call : goal.returns-clause-call
returns-clause-call g c = rw c.in-Words.is c.add_words.ensures.call

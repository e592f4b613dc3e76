use Rattle.repo_store.proofs.CellLemmas.{found_among, found_kept, not_found, no_digest}
use Rattle.repo_store.proofs.from_rows.columns.find.Goals as goal

pub returns-in-Ok-clause-kept : goal.returns-in-Ok-clause-kept
returns-in-Ok-clause-kept c = found_kept c.find.result c.args.digest.now c.in-Ok.digest.now c.args.contents.now c.in-Ok.ensures.1.same c.find.ensures.found c.find.ensures.under

pub returns-in-Ok-clause-among : goal.returns-in-Ok-clause-among
returns-in-Ok-clause-among c = found_among c.find.result c.args.contents.now c.find.ensures.found

pub returns-in-Ok-clause-absent : goal.returns-in-Ok-clause-absent
returns-in-Ok-clause-absent c = not_found c.find.result c.args.digest.now c.in-Ok.digest.now c.args.contents.now c.in-Ok.ensures.1.same c.find.ensures.absent

pub returns-in-Err-clause-absent : goal.returns-in-Err-clause-absent
returns-in-Err-clause-absent c = no_digest c.args.digest.now c.args.contents.now (c.in-Err.ensures.1)

use Rattle.std.proofs.Common.{[], refl}
use Rattle.sqlite.specs.Held.{state}
use Rattle.repo_store.specs.Kept.{nothing_kept}
use Rattle.repo_store.specs.Rows.{tables_of}
use Rattle.repo_store.proofs.CallLemmas.{leaves_commit}
use Rattle.repo_store.proofs.StandLemmas.{empty_leaves, made_stands, made_survives, stands_of}
use Rattle.repo_store.proofs.store.Store.create.Goals as goal

pub invariant_of-result : goal.invariant_of-result
invariant_of-result g c =
    made_stands g.S.Store c.args.conn c.make.new.conn c.in-Ok.lists.kept 1 c.in-Ok-make.field-0 c.in-Ok-make.ensures (c.if-not-has_no_tables.ensures.bare refl)
    (g.met.S.Store.shut_if_dirty c.make.new.conn.store) c.in-Ok.ensures refl

pub returns-in-Ok-make-clause-stands : goal.returns-in-Ok-make-clause-stands
returns-in-Ok-make-clause-stands g c = stands_of g.S.Store c.make.new.conn c.in-Ok.lists.kept 1 (invariant_of-result g c)

pub returns-in-Err-clause-occupied : goal.returns-in-Err-clause-occupied
returns-in-Err-clause-occupied g c was_open other = absurd (other (c.if-not-has_no_tables.ensures.bare refl was_open).schema_is)

pub returns-in-Ok-make-clause-crash_made : goal.returns-in-Ok-make-clause-crash_made
returns-in-Ok-make-clause-crash_made g c = made_survives (state g.S.Store c.args.conn) (state g.S.Store c.make.new.conn) (c.make.ensures.survives (c.if-not-has_no_tables.ensures.bare refl))

pub returns-in-Ok-make-clause-durable : goal.returns-in-Ok-make-clause-durable
returns-in-Ok-make-clause-durable g c clean trees left =
    let new = c.make.new.conn in
    let it = c.in-Ok-make.ensures.done clean (c.if-not-has_no_tables.ensures.bare refl) in
    empty_leaves trees (leaves_commit (state g.S.Store new).committed trees 1 [] (tables_of nothing_kept) it.committed (g.met.S.Store.settled new.store trees it.is_open left))

pub returns-in-Err-clause-crash_refused : goal.returns-in-Err-clause-crash_refused
returns-in-Err-clause-crash_refused g c = made_survives (state g.S.Store c.args.conn) (state g.S.Store c.make.new.conn) (c.make.ensures.survives (c.if-not-has_no_tables.ensures.bare refl))

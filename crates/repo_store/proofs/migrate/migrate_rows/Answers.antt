use Rattle.std.proofs.Common.{◌+◌, ◌++◌, ◌≤◌, length, map, pos, reverse, rules}
use Rattle.sqlite.specs.Effect.{Database}
use Rattle.store_tables.specs.Tables.{AreKeyed, HoldsTables, with_meta, with_new_meta}
use Rattle.repo_store.specs.Bounded.{HoldsListed}
use Rattle.repo_store.specs.Index.{key_of}
use Rattle.store_faults.specs.Limits.{first_limit}
use Rattle.repo_store.specs.Rows.{limit_row, version_row}
use Rattle.repo_store.specs.UsesOf.{greatest_tick, without_all}
use Rattle.repo_store.proofs.BoundedLemmas.{made_as}
use Rattle.repo_store.proofs.CallLemmas.{whole_call}
use Rattle.repo_store.proofs.migrate.migrate_rows.Goals as goal

pub returns-in_err-migrate_in-clause-call : goal.returns-in_err-migrate_in-clause-call
returns-in_err-migrate_in-clause-call g c t front back are count own tells =
    let made =
    c.in_err-migrate_in.ensures.made t front back are count own tells in whole_call g.S.Store c.args.conn.now _ c.from_residual.result _ _ (g.met.S.Store.shut_if_dirty _) (search (rules, made))

pub returns-clause-call : goal.returns-clause-call
returns-clause-call g c t front back are count own tells =
    let few = c.in_ok-migrate_in.ensures.few in
    let left = λ (db : Database). HoldsListed (length (front ++ back) + 1) front db (with_new_meta version_row (with_meta (limit_row (pos first_limit)) (without_all (map key_of (reverse back)) t))) in
    let made =
    made_as g.S.Store _ _ _ (λ db. HoldsTables db t × AreKeyed (db.trees 0)) left (λ (db : Database). (length c.args.keys.now ≤ greatest_tick) × left db) (λ db h. (few, h))
    (c.in_ok-migrate_in.ensures.made t front back are count own tells) in
    whole_call g.S.Store c.args.conn.now _ c.commit.result _ _ (g.met.S.Store.shut_if_dirty _) (search (rules, made))

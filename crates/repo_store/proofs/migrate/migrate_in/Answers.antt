use Rattle.std.proofs.Common.{◌+◌, ◌++◌, List, length, map, pos, reverse, subst, take}
use Rattle.sqlite.specs.Effect.{Database}
use Rattle.store_tables.specs.Tables.{AreKeyed, HoldsTables, with_meta, with_new_meta}
use Rattle.store_tables.specs.Uses.{HoldsRows}
use Rattle.repo_store.specs.Bounded.{HoldsListed}
use Rattle.repo_store.specs.Index.{Key, key_of}
use Rattle.store_faults.specs.Limits.{first_limit}
use Rattle.repo_store.specs.Rows.{limit_row, version_row}
use Rattle.repo_store.specs.UsesOf.{key_rows, without_all, without_uses_of}
use Rattle.repo_store.proofs.BoundedLemmas.{made_as}
use Rattle.repo_store.proofs.UseLemmas.{first_keys, uses_dropped, uses_numbered}
use Rattle.repo_store.proofs.migrate.migrate_in.Goals as goal

pub returns-clause-made : goal.returns-clause-made
returns-clause-made g c t front back are count own tells =
    let keys = c.args.keys.now in
    let out = take c.args.dropped keys in
    let next = length (front ++ back) + 1 in
    let rows = without_uses_of out (key_rows (reverse keys)) in
    let left = λ (l : List Key). with_new_meta version_row (with_meta (limit_row (pos first_limit)) (without_all l t)) in
    let firsts = first_keys front back keys c.args.dropped are count in
    let uses = uses_dropped front back out next (key_rows (reverse keys)) firsts own tells (uses_numbered (front ++ back) keys are) in
    made_as g.S.Store c.args.tx.now.conn.now c.mark_in.new.tx.conn.now c.mark_in.result (λ db. HoldsTables db t × AreKeyed (db.trees 0)) (λ db. HoldsRows db (left out) rows)
    (λ db. HoldsListed next front db (left (map key_of (reverse back))))
    (λ (db : Database) h. record { rows = rows; holds = subst (λ (l : List Key). HoldsRows db (left l) rows) firsts h; uses = uses }) (c.mark_in.ensures.made t)

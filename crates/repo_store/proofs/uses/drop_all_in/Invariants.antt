use Rattle.std.proofs.Common.{◌≡◌, take}
use Rattle.repo_store.proofs.UseStepLemmas.{Drops}
use Rattle.repo_store.proofs.uses.drop_all_in.Given as goal

abbrev pub invariant-keys : goal.invariant-keys
invariant-keys g l = record {
  same_reference : l.tx.conn.ghost_name ≡ l.fn.tx.conn.ghost_name;
  made : Drops g.S.Store l.fn.tx.conn.now l.tx.conn.now (take l.key-index l.keys);
}

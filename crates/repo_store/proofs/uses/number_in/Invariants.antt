use Rattle.std.proofs.Common.{◌≡◌, ◌≤◌, length, take}
use Rattle.repo_store.specs.UsesOf.{greatest_tick}
use Rattle.repo_store.proofs.UseStepLemmas.{Numbers}
use Rattle.repo_store.proofs.uses.number_in.Given as goal

abbrev pub invariant-keys : goal.invariant-keys
invariant-keys g l = record {
  same_reference : l.tx.conn.ghost_name ≡ l.fn.tx.conn.ghost_name;
  counted : l.tick ≡ l.key-index;
  few : length l.keys ≤ greatest_tick;
  made : Numbers g.S.Store l.fn.tx.conn.now l.tx.conn.now (take l.key-index l.keys);
}

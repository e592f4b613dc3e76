use Rattle.std.proofs.Common.{◌≡◌, map, take}
use Rattle.repo_store.specs.Lists.{file_of}
use Rattle.repo_store.proofs.AcceptLemmas.{Rewrites}
use Rattle.repo_store.proofs.accept.accept_in.Given as goal

abbrev pub invariant-fixes : goal.invariant-fixes
invariant-fixes g l = record {
  same_reference : l.tx.conn.ghost_name ≡ l.fn.tx.conn.ghost_name;
  step : Rewrites g.S.Store l.fn.tx.conn.now l.tx.conn.now (map file_of l.files) (take l.fix-index l.fixes);
}

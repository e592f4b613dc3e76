use Rattle.std.proofs.Common.{◌≡◌, Ok, take}
use Rattle.store_tables.specs.Steps.{IsStep}
use Rattle.repo_store.specs.Rows.{with_blobs}
use Rattle.repo_store.proofs.blobs.keep_in.Given as goal

abbrev pub invariant-loop-content : goal.invariant-loop-content
invariant-loop-content g l = record {
  same_reference : l.tx.conn.ghost_name ≡ l.fn.tx.conn.ghost_name;
  step : IsStep {A = Unit {0}} g.S.Store l.fn.tx.conn.now l.tx.conn.now (Ok tt) (λ t. with_blobs (take l.content-index l.news) t);
}

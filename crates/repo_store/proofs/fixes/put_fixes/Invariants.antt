use Rattle.std.proofs.Common.{◌≡◌, Ok, map, take}
use Rattle.store_tables.specs.Steps.{IsStep}
use Rattle.repo_store.specs.Lists.{fix_of}
use Rattle.repo_store.specs.Rows.{fix_row, with_fix_rows}
use Rattle.repo_store.proofs.fixes.put_fixes.Given as goal

abbrev pub invariant-loop-fix : goal.invariant-loop-fix
invariant-loop-fix g l = record {
  same_reference : l.tx.conn.ghost_name ≡ l.fn.tx.conn.ghost_name;
  step : IsStep {A = Unit {0}} g.S.Store l.fn.tx.conn.now l.tx.conn.now (Ok tt) (λ t. with_fix_rows (map fix_row (map fix_of (take l.fix-index l.fixes))) t);
}

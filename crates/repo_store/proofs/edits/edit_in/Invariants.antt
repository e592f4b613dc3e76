use Rattle.std.proofs.Common.{◌≡◌, take}
use Rattle.repo_store.proofs.EditLemmas.{Edits}
use Rattle.repo_store.proofs.edits.edit_in.Given as goal

abbrev pub invariant-edits : goal.invariant-edits
invariant-edits g l = record {
  same_reference : l.tx.conn.ghost_name ≡ l.fn.tx.conn.ghost_name;
  step : Edits g.S.Store l.fn.tx.conn.now l.tx.conn.now l.news (take l.edit-index l.edits);
}

use Rattle.std.proofs.Common.{◌≡◌, ℕ, ◌<◌, get_or}
use Rattle.store_tables.specs.declared.rows.UseRow.{UseRow}
use Rattle.repo_store.specs.Bounded.{key_of_use}
use Rattle.repo_store.specs.Index.{Key}
use Rattle.repo_store.proofs.from_rows.uses.have_keys.Given as goal

abbrev pub invariant-uses : goal.invariant-uses
invariant-uses l = (k : ℕ) → k < l.index → (d : UseRow) (e : Key) → get_or l.keys k e ≡ key_of_use (get_or l.uses k d)

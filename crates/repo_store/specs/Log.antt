-- The commits with their numbers.
use Rattle.std.specs.Prelude.{ℕ, ◌+◌, List, [], ◌∷◌}
use Rattle.repo_store.specs.declared.log_entry.LogEntry.{LogEntry}
use Rattle.repo_store.specs.Repository.{Commit}

abbrev pub entry_at : ℕ → Commit → LogEntry
entry_at n commit = record { number = n; message = commit.message }

-- the commits are numbered from n on
abbrev pub log_from : ℕ → List Commit → List LogEntry
log_from n [] = []
log_from n (commit ∷ more) = entry_at n commit ∷ log_from (n + 1) more

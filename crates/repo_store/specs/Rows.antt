-- How a repository and the cached answers are kept in the tables of a store: each content once, under the
-- SHA-256 of its bytes (docs/REFERENCE.md, "The store").
use Rattle.std.specs.Prelude.{ℕ, ◌+◌, ℤ, pos, List, [], ◌∷◌, ◌++◌, map, codes, Option, None, Some}
use Rattle.sha2.specs.Sha256.{sha256}
use Rattle.hook_base.specs.declared.file.File.{File}
use Rattle.hook_base.specs.declared.file.Mode.{Mode}
use Rattle.hook_base.specs.declared.file.Mode.TheVariants.{Plain, Executable}
use Rattle.hook_base.specs.declared.change.Change.{Change}
use Rattle.store_tables.specs.declared.rows.MetaRow.{MetaRow}
use Rattle.store_tables.specs.declared.rows.BlobRow.{BlobRow}
use Rattle.store_tables.specs.declared.rows.StagedRow.{StagedRow}
use Rattle.store_tables.specs.declared.rows.FixRow.{FixRow}
use Rattle.store_tables.specs.declared.rows.CommitRow.{CommitRow}
use Rattle.store_tables.specs.declared.rows.EntryRow.{EntryRow}
use Rattle.store_tables.specs.declared.rows.AnswerRow.{AnswerRow}
use Rattle.store_tables.specs.Tables.{Tables}
use Rattle.repo_store.specs.Answers.{KeptAnswer}
use Rattle.repo_store.specs.Kept.{Kept}
use Rattle.repo_store.specs.Repository.{Commit}
use Rattle.repo_store.specs.WrittenAnswers.{written_changes, written_seen, written_words}

abbrev pub mode_number : Mode → ℕ
mode_number Plain = 0
mode_number Executable = 1

-- what `meta` says of a store of version 1
abbrev pub first_version_row : MetaRow
first_version_row = record { name = codes "version"; value = pos 1 }

abbrev pub version_row : MetaRow
version_row = record { name = codes "version"; value = pos 2 }

abbrev pub limit_row : ℤ → MetaRow
limit_row limit = record { name = codes "limit"; value = limit }

abbrev pub blob_row : List ℕ → BlobRow
blob_row bytes = record { digest = sha256 bytes; bytes = bytes }

abbrev pub staged_row : File → StagedRow
staged_row file =
    record { path = file.path; mode = pos (mode_number file.entry.mode); digest = sha256 file.entry.bytes }

abbrev pub fix_at : List ℕ → Option (List ℕ) → FixRow
fix_at path None = record { path = path; gone = pos 1; digest = None }
fix_at path (Some bytes) = record { path = path; gone = pos 0; digest = Some (sha256 bytes) }

abbrev pub fix_row : Change → FixRow
fix_row change = fix_at change.path change.now

abbrev pub commit_row : ℕ → Commit → CommitRow
commit_row n commit = record { n = pos n; message = commit.message }

abbrev pub entry_row : ℕ → File → EntryRow
entry_row n file =
    record { n = pos n; path = file.path; mode = pos (mode_number file.entry.mode); digest = sha256 file.entry.bytes }

-- the rows of commits that are numbered from n on
abbrev pub commit_rows : ℕ → List Commit → List CommitRow
commit_rows n [] = []
commit_rows n (commit ∷ more) = commit_row n commit ∷ commit_rows (n + 1) more

abbrev pub entry_rows : ℕ → List Commit → List EntryRow
entry_rows n [] = []
entry_rows n (commit ∷ more) = map (entry_row n) commit.tree ++ entry_rows (n + 1) more

abbrev pub answer_row : KeptAnswer → AnswerRow
answer_row answer = record {
  words = sha256 (written_words answer);
  seen = sha256 (written_seen answer);
  output = sha256 answer.output;
  changes = sha256 (written_changes answer);
  status = pos answer.status;
}

-- the tables of a store that keeps this, except the uses, which give the order of the answers
abbrev pub tables_of : Kept → Tables
tables_of kept = record {
  meta = version_row ∷ limit_row (pos kept.limit) ∷ [];
  blobs = map blob_row kept.contents;
  staged = map staged_row kept.repo.staged;
  fixes = map fix_row kept.repo.fixes;
  commits = commit_rows 1 kept.repo.history;
  entries = entry_rows 1 kept.repo.history;
  answers = map answer_row kept.answers;
}

-- those of a store of version 1
abbrev pub first_tables_of : Kept → Tables
first_tables_of kept = record (tables_of kept) { meta = first_version_row ∷ [] }

-- more contents, which the table lacks
abbrev pub with_blobs : List (List ℕ) → Tables → Tables
with_blobs news t = record t { blobs = map blob_row news ++ t.blobs }

abbrev pub with_entries : List EntryRow → Tables → Tables
with_entries rows t = record t { entries = rows ++ t.entries }

-- the fixes, in place of those that were there
abbrev pub with_fix_rows : List FixRow → Tables → Tables
with_fix_rows rows t = record t { fixes = rows }

-- the staged files, in place of those that were there
abbrev pub with_staged_rows : List StagedRow → Tables → Tables
with_staged_rows rows t = record t { staged = rows }

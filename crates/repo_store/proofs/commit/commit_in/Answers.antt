use Rattle.std.proofs.Common.{List, ℕ, Ok, pos, map, subst}
use Rattle.store_tables.specs.Steps.{IsStep}
use Rattle.store_tables.specs.Tables.{with_commit, without_fixes}
use Rattle.repo_store.specs.Shared.{FileParts}
use Rattle.repo_store.specs.Lists.{file_of}
use Rattle.repo_store.specs.Rows.{entry_row, with_entries}
use Rattle.repo_store.proofs.CallLemmas.{step_then}
use Rattle.repo_store.proofs.commit.commit_in.Goals as goal

pub returns-clause-step : goal.returns-clause-step
returns-clause-step g c =
    let old = c.args.tx.now.conn.now in
    let made = c.put_commit.new.tx.conn.now in
    let filled = c.put_files.new.tx.conn.now in
    let new = c.clear_fixes.new.tx.conn.now in
    let commit = c.args.commit.now in
    let one =
    subst (λ (message : List ℕ). IsStep {A = Unit {0}} g.S.Store old made (Ok tt) (with_commit (record { n = pos c.args.n; message = message }))) c.as_slice.ensures
    c.in_ok-put_commit.ensures.step in
    let two =
    subst (λ (files : List FileParts). IsStep {A = Unit {0}} g.S.Store made filled (Ok tt) (λ t. with_entries (map (entry_row c.args.n) (map file_of files)) t)) c.as_slice-2.ensures.value
    c.in_ok-put_files.ensures.step in
    let both =
    step_then g.S.Store old made filled (Ok tt) (with_commit (record { n = pos c.args.n; message = commit.message }))
    (λ t. with_entries (map (entry_row c.args.n) (map file_of commit.files.items)) t) one two in
    step_then g.S.Store old filled new c.clear_fixes.result (λ t. with_entries (map (entry_row c.args.n) (map file_of commit.files.items))
    (with_commit (record { n = pos c.args.n; message = commit.message }) t)) without_fixes both c.clear_fixes.ensures.step

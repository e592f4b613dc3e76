use Rattle.std.proofs.Common.{◌≡◌, ℕ, pos, not, List, Ok, Option, filter, option_map, refl, sym, subst}
use Rattle.std.specs.Str.{bytes_eq}
use Rattle.store_tables.specs.declared.rows.StagedRow.{StagedRow}
use Rattle.store_tables.specs.Steps.{IsStep}
use Rattle.store_tables.specs.Tables.{with_staged, without_staged}
use Rattle.repo_store.specs.Shared.{FileParts}
use Rattle.repo_store.specs.Accepted.{with_entry_at}
use Rattle.repo_store.specs.Lists.{entry_in, file_of}
use Rattle.repo_store.specs.Rows.{staged_row, with_staged_rows}
use Rattle.repo_store.proofs.CallLemmas.{step_then}
use Rattle.repo_store.proofs.edits.edit_row.Goals as goal

pub returns-in-Some-clause-step : goal.returns-in-Some-clause-step
returns-in-Some-clause-step g c =
    let old = c.args.tx.now.conn.now in
    let out = c.take_staged.new.tx.conn.now in
    let new = c.put_staged.new.tx.conn.now in
    let path = c.args.edit.now.path in
    let file = c.in-Some.file in
    let took = subst (λ (p : List ℕ). IsStep {A = Unit {0}} g.S.Store old out (Ok tt) (without_staged p)) c.as_str.ensures.same c.in_ok-take_staged.ensures.step in
    let row : StagedRow = record { path = c.as_str-in-Some.result.now; mode = pos c.number_of.result; digest = c.digest.result } in
    let row_is : row ≡ staged_row (record { path = path; entry = (file_of file).entry }) =
    rw (c.as_str-in-Some.ensures.same, c.number_of.ensures, c.mode.ensures, c.digest.ensures, c.content.ensures) refl in
    let put = subst (λ (r : StagedRow). IsStep g.S.Store out new c.put_staged.result (with_staged r)) row_is c.put_staged.ensures.step in
    let both = step_then g.S.Store old out new c.put_staged.result (without_staged path) (with_staged (staged_row (record { path = path; entry = (file_of file).entry }))) took put in
    subst (λ (o : Option FileParts). IsStep g.S.Store old new c.put_staged.result
    (λ t. with_staged_rows (with_entry_at path (option_map entry_in o) (filter (λ (r : StagedRow). not (bytes_eq r.path path)) t.staged)) t)) (sym c.in-Some.is) both

pub returns-in-None-clause-step : goal.returns-in-None-clause-step
returns-in-None-clause-step g c =
    let old = c.args.tx.now.conn.now in
    let out = c.take_staged.new.tx.conn.now in
    let path = c.args.edit.now.path in
    let took = subst (λ (p : List ℕ). IsStep {A = Unit {0}} g.S.Store old out (Ok tt) (without_staged p)) c.as_str.ensures.same c.in_ok-take_staged.ensures.step in
    subst (λ (o : Option FileParts). IsStep {A = Unit {0}} g.S.Store old out (Ok tt)
    (λ t. with_staged_rows (with_entry_at path (option_map entry_in o) (filter (λ (r : StagedRow). not (bytes_eq r.path path)) t.staged)) t)) (sym c.in-None.is) took

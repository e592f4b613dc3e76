use Rattle.std.proofs.Common.{SFits, w64, rules, to_z-of_z, ◌≡◌, ℕ, List, [], ◌∷◌, ◌++◌, map, append_assoc, sym, ap, ap₂, subst, ◌∙◌}
use Rattle.std.proofs.lemmas.Result.{err_from_is_err_and}
use Rattle.std.specs.Vec.Iter.{into_iter_items}
use Rattle.hook_base.specs.declared.file.File.{File}
use Rattle.store_tables.specs.declared.rows.StagedRow.{StagedRow}
use Rattle.repo_store.specs.Complete.{HaveContents, IsAmong}
use Rattle.repo_store.specs.Lists.{file_of}
use Rattle.repo_store.specs.Rows.{blob_row, staged_row}
use Rattle.repo_store.specs.RowRules.{IsStagedRow}
use Rattle.repo_store.proofs.FromRowsLemmas.{all_pushed, rows_more, damage_of, damage_middle, file_moved}
use Rattle.repo_store.proofs.from_rows.staged.files_of.Goals as goal

pub returns-in_err-file-clause-broken : goal.returns-in_err-file-clause-broken
returns-in_err-file-clause-broken c =
    let row = c.in-Some.row in
    let fits : SFits w64 row.mode = search rules in
    let blobs = map blob_row c.args.contents.now in
    let p = err_from_is_err_and c.from_residual.result c.from_residual.ensures.1 in
    rw (p.1, p.2) (damage_middle (IsStagedRow blobs) c.rows.yielded row _ _ c.args.rows.items c.in_err-file.field-0.0 c.rows.invariant.left (c.in-Some.ensures.steps.0)
    (damage_of _ _ c.in_err-file.field-0.0 (λ breaks h. breaks (file_moved blobs row.path c.as_slice.result.now row.mode row.digest c.as_slice-in-rows.result.now (sym c.as_slice.ensures)
    (sym c.as_slice-in-rows.ensures) h)) (rw (to_z-of_z fits) at c.in_err-file.ensures.broken)))

pub rows-preserved : goal.rows-preserved
rows-preserved c =
    let row = c.in-Some.row in
    let fits : SFits w64 row.mode = search rules in
    let blobs = map blob_row c.args.contents.now in
    let shown = rw (to_z-of_z fits) at c.in_ok-file.ensures.file in
    let this : staged_row (file_of c.in_ok-file.file) ≡ row =
    shown ∙ ap₂ (λ (p d : List ℕ). let made : StagedRow = record { path = p; mode = row.mode; digest = d } in made) c.as_slice.ensures c.as_slice-in-rows.ensures in
    let obeys =
    file_moved blobs c.as_slice.result.now row.path row.mode c.as_slice-in-rows.result.now row.digest c.as_slice.ensures c.as_slice-in-rows.ensures
    (rw (to_z-of_z fits) at c.in_ok-file.ensures.obeys) in
    record {
      left = append_assoc c.rows.yielded (row ∷ []) (into_iter_items c.next.new.self) ∙ ap (λ l. c.rows.yielded ++ l) (sym (c.in-Some.ensures.steps.0)) ∙ c.rows.invariant.left;
      files =
          rows_more staged_row c.rows.yielded row (map file_of c.rows.files.items) (map file_of c.add_file.new.files.items) (file_of c.in_ok-file.file) c.rows.invariant.files
          c.in_ok-add_file.ensures.added this;
      rising = c.in_ok-add_file.ensures.rising;
      among =
          subst (HaveContents c.args.contents.now) (sym c.in_ok-add_file.ensures.added)
          (all_pushed (λ (file : File). IsAmong c.args.contents.now file.entry.bytes) (map file_of c.rows.files.items) (file_of c.in_ok-file.file) c.rows.invariant.among c.in_ok-file.ensures.among);
      obeys = all_pushed (IsStagedRow blobs) c.rows.yielded row c.rows.invariant.obeys obeys;
    }

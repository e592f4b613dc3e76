use Rattle.std.proofs.Common.{SFits, w64, rules, to_z-of_z, ◌≡◌, ℕ, ◌+◌, ◌<◌, ◌≤◌, List, [], ◌∷◌, ◌++◌, length, map, append_assoc, refl, sym, ap, ap₂, subst, ◌∙◌, arith}
use Rattle.std.specs.List.{AllByRecursion}
use Rattle.std.proofs.lemmas.Result.{err_from_is_err_and}
use Rattle.std.specs.Vec.Iter.{into_iter_items}
use Rattle.std.proofs.lemmas.List.{length-map}
use Rattle.store_tables.specs.declared.rows.StagedRow.{StagedRow}
use Rattle.repo_store.specs.Complete.{HaveContents, IsAmong}
use Rattle.repo_store.specs.Lists.{commit_of, file_of}
use Rattle.repo_store.specs.Repository.{Commit}
use Rattle.repo_store.specs.Rows.{blob_row, staged_row}
use Rattle.repo_store.specs.RowRules.{IsEntryRow, IsNumbered}
use Rattle.repo_store.proofs.CompleteLemmas.{have_bare, have_entered}
use Rattle.repo_store.proofs.FromRowsLemmas.{all_pushed, entered_more, length_with_file, damage_of, damage_middle, file_moved, none_entered}
use Rattle.repo_store.proofs.from_rows.commits.add_entries.Goals as goal

pub rows-init : goal.rows-init
rows-init c =
    record {
      left = c.into_iter-row-iterator.ensures.into_iter_gives.0;
      entered = none_entered (map commit_of c.args.history.now.items) c.requires;
      among = have_bare (IsAmong c.args.contents.now)
          (map commit_of c.args.history.now.items) c.requires;
      count = refl;
      obeys = tt;
    }

pub returns-in_err-file-clause-broken : goal.returns-in_err-file-clause-broken
returns-in_err-file-clause-broken c =
    let row = c.in-Some.row in
    let fits : SFits w64 row.mode = search rules in
    let blobs = map blob_row c.args.contents.now in
    let p = err_from_is_err_and c.from_residual-in_err-file.result c.from_residual-in_err-file.ensures.1 in
    rw (p.1, p.2) (damage_middle (IsEntryRow blobs (length c.args.history.now.items)) c.rows.yielded row _ _ c.args.rows.items c.in_err-file.field-0.0 c.rows.invariant.left (c.in-Some.ensures.steps.0)
    (damage_of _ _ c.in_err-file.field-0.0 (λ breaks h. breaks (file_moved blobs row.path c.as_slice.result.now row.mode row.digest c.as_slice-in-rows.result.now (sym c.as_slice.ensures)
    (sym c.as_slice-in-rows.ensures) h.file)) (rw (to_z-of_z fits) at c.in_err-file.ensures.broken)))

pub returns-in_err-place-clause-broken : goal.returns-in_err-place-clause-broken
returns-in_err-place-clause-broken c =
    let row = c.in-Some.row in
    let fits : SFits w64 row.n = search rules in
    let blobs = map blob_row c.args.contents.now in
    let before = c.args.history.now.items in
    let none = rw (to_z-of_z fits) at c.in_err-place.ensures.nowhere in
    let long = c.len.ensures in
    let kept = c.rows.history.ok.0 in
    let count = c.rows.invariant.count in
    let many : length before ≡ c.len.result = omega arith in
    let breaks : ¬ IsEntryRow blobs (length before) row = λ h. none.1 (subst (λ (n : ℕ). IsNumbered n row.n) many h.owned) in
    let p = err_from_is_err_and c.from_residual.result c.from_residual.ensures.1 in
    rw (p.1, p.2) (damage_middle (IsEntryRow blobs (length before)) c.rows.yielded row _ _ c.args.rows.items c.in_err-place.field-0.0 c.rows.invariant.left (c.in-Some.ensures.steps.0)
    (rw none.0 breaks))

pub rows-preserved : goal.rows-preserved
rows-preserved c =
    let row = c.in-Some.row in
    let mode_fits : SFits w64 row.mode = search rules in
    let number_fits : SFits w64 row.n = search rules in
    let blobs = map blob_row c.args.contents.now in
    let before = c.args.history.now.items in
    let old = c.rows.history.items in
    let new = c.add_entry.new.history.items in
    let there = rw (to_z-of_z number_fits) at c.in_ok-place.ensures.there in
    let long = c.len.ensures in
    let kept = c.rows.history.ok.0 in
    let count = c.rows.invariant.count in
    let inside : c.in_ok-place.place + 1 ≤ length old = let within = there.1 in omega arith in
    let file = rw (to_z-of_z mode_fits) at c.in_ok-file.ensures.file in
    let shown : staged_row (file_of c.in_ok-file.file) ≡ record { path = row.path; mode = row.mode; digest = row.digest } =
    file ∙ ap₂ (λ (p d : List ℕ). let made : StagedRow = record { path = p; mode = row.mode; digest = d } in made) c.as_slice.ensures c.as_slice-in-rows.ensures in
    let obeys =
    file_moved blobs c.as_slice.result.now row.path row.mode c.as_slice-in-rows.result.now row.digest c.as_slice.ensures c.as_slice-in-rows.ensures
    (rw (to_z-of_z mode_fits) at c.in_ok-file.ensures.obeys) in
    let added = c.in_ok-add_entry.ensures.added in
    let same_count : length new ≡ length old =
    sym (length-map new commit_of) ∙ ap length added ∙ length_with_file c.in_ok-place.place (file_of c.in_ok-file.file) (map commit_of old) ∙ length-map old commit_of in
    let place : c.in_ok-place.place < length (map commit_of old) = omega (arith, length-map old commit_of) in
    record {
      left = append_assoc c.rows.yielded (row ∷ []) (into_iter_items c.next.new.self) ∙ ap (λ l. c.rows.yielded ++ l) (sym (c.in-Some.ensures.steps.0)) ∙ c.rows.invariant.left;
      entered =
          entered_more (map commit_of before) (map commit_of old) (map commit_of new) c.rows.yielded c.in_ok-place.place (file_of c.in_ok-file.file) row place c.rows.invariant.entered added
          c.in_ok-add_entry.ensures.rising there.0 shown;
      among =
          subst (AllByRecursion (λ (commit : Commit). HaveContents c.args.contents.now commit.tree)) (sym added)
          (have_entered (IsAmong c.args.contents.now) c.in_ok-place.place (file_of c.in_ok-file.file) (map commit_of old) c.in_ok-file.ensures.among c.rows.invariant.among);
      count = same_count ∙ count;
      obeys =
          all_pushed (IsEntryRow blobs (length before)) c.rows.yielded row c.rows.invariant.obeys
          (record { owned = record { at = c.in_ok-place.place; is = there.0; within = omega arith }; file = obeys });
    }

use Rattle.std.proofs.Common.{◌≡◌, true, [], ◌∷◌, ◌++◌, map, append_assoc, sym, ap, subst, ◌∙◌}
use Rattle.std.proofs.lemmas.List.{map-append}
use Rattle.std.proofs.lemmas.Result.{err_from_is_err_and}
use Rattle.std.specs.Vec.Iter.{into_iter_items}
use Rattle.hook_base.specs.declared.file.File.{File}
use Rattle.answer_records.specs.declared.seen_file.SeenFile.{SeenFile}
use Rattle.answer_records.specs.Records.{seen_file}
use Rattle.repo_store.specs.Complete.{HaveContents, IsAmong}
use Rattle.repo_store.specs.Lists.{file_of}
use Rattle.repo_store.specs.Rows.{blob_row}
use Rattle.repo_store.specs.RowRules.{is_kept}
use Rattle.repo_store.proofs.FromRowsLemmas.{all_pushed, damage_middle, rows_more}
use Rattle.repo_store.proofs.from_rows.seen_files.seen_files_of.Goals as goal

pub returns-in_err-file-clause-broken : goal.returns-in_err-file-clause-broken
returns-in_err-file-clause-broken c =
    let p = err_from_is_err_and c.from_residual.result c.from_residual.ensures.1 in
    rw (p.1, p.2) (damage_middle (λ (file : SeenFile). is_kept (map blob_row c.args.contents.now) file.digest ≡ true) c.files.yielded c.in-Some.file _ _ c.args.named.items _ c.files.invariant.left
    (c.in-Some.ensures.steps.0) c.in_err-file.ensures.broken)

pub files-preserved : goal.files-preserved
files-preserved c =
    let named = c.in-Some.file in
    let old = c.files.files.items in
    let file = c.in_ok-file.file in
    let pushed = ap (map file_of) c.in_ok-push.ensures.items ∙ map-append file_of old (file ∷ []) in
    record {
      left = append_assoc c.files.yielded (named ∷ []) (into_iter_items c.next.new.self) ∙ ap (λ l. c.files.yielded ++ l) (sym (c.in-Some.ensures.steps.0)) ∙ c.files.invariant.left;
      files = rows_more seen_file c.files.yielded named (map file_of old) (map file_of c.push.new.self.items) (file_of file) c.files.invariant.files pushed c.in_ok-file.ensures.file;
      among =
          subst (HaveContents c.args.contents.now) (sym pushed) (all_pushed (λ (f : File). IsAmong c.args.contents.now f.entry.bytes) (map file_of old) (file_of file) c.files.invariant.among
          c.in_ok-file.ensures.among);
    }

use Rattle.std.proofs.Common.{◌≡◌, true, [], ◌∷◌, ◌++◌, map, IfSome, MatchOption, append_assoc, sym, ap, subst, ◌∙◌}
use Rattle.std.proofs.lemmas.List.{map-append}
use Rattle.std.proofs.lemmas.Result.{err_from_is_err_and}
use Rattle.std.specs.Vec.Iter.{into_iter_items}
use Rattle.hook_base.specs.declared.change.Change.{Change}
use Rattle.answer_records.specs.declared.changed_file.ChangedFile.{ChangedFile}
use Rattle.answer_records.specs.Records.{changed_file}
use Rattle.repo_store.specs.Complete.{HaveNewContents, IsAmong}
use Rattle.repo_store.specs.Lists.{fix_of}
use Rattle.repo_store.specs.Rows.{blob_row}
use Rattle.repo_store.specs.RowRules.{is_kept}
use Rattle.repo_store.proofs.FromRowsLemmas.{all_pushed, damage_middle, rows_more}
use Rattle.repo_store.proofs.from_rows.changed_files.changes_of.Goals as goal

pub returns-in_err-change-clause-broken : goal.returns-in_err-change-clause-broken
returns-in_err-change-clause-broken c =
    let p = err_from_is_err_and c.from_residual.result c.from_residual.ensures.1 in
    rw (p.1, p.2) (damage_middle (λ (file : ChangedFile). IfSome file.digest (λ digest. is_kept (map blob_row c.args.contents.now) digest ≡ true)) c.files.yielded c.in-Some.file _ _ c.args.named.items
    _ c.files.invariant.left (c.in-Some.ensures.steps.0) c.in_err-change.ensures.broken)

pub files-preserved : goal.files-preserved
files-preserved c =
    let named = c.in-Some.file in
    let old = c.files.changes.items in
    let change = c.in_ok-change.change in
    let pushed = ap (map fix_of) c.in_ok-push.ensures.items ∙ map-append fix_of old (change ∷ []) in
    record {
      left = append_assoc c.files.yielded (named ∷ []) (into_iter_items c.next.new.self) ∙ ap (λ l. c.files.yielded ++ l) (sym (c.in-Some.ensures.steps.0)) ∙ c.files.invariant.left;
      changes = rows_more changed_file c.files.yielded named (map fix_of old) (map fix_of c.push.new.self.items) (fix_of change) c.files.invariant.changes pushed c.in_ok-change.ensures.change;
      among =
          subst (HaveNewContents c.args.contents.now) (sym pushed) (all_pushed (λ (f : Change). MatchOption f.now (Unit {0}) (IsAmong c.args.contents.now)) (map fix_of old) (fix_of change)
          c.files.invariant.among c.in_ok-change.ensures.among);
    }

use Rattle.std.proofs.Common.{List, [], ◌∷◌, ◌++◌, map, option_to_list, sym, ◌∙◌, ap, ap₂}
use Rattle.std.proofs.lemmas.List.{map-append, take_more}
use Rattle.std.proofs.lemmas.Result.{err_from_is_err_and}
use Rattle.hook_base.specs.declared.change.Change.{Change}
use Rattle.repo_store.specs.Lists.{fix_of}
use Rattle.repo_store.proofs.ManyLemmas.{kept_more, stopped_at, stopped_there}
use Rattle.repo_store.proofs.answer_contents.keep_changes.Goals as goal

pub returns-in_err-change-clause-stopped : goal.returns-in_err-change-clause-stopped
returns-in_err-change-clause-stopped c =
    let p = err_from_is_err_and c.from_residual.result c.from_residual.ensures.1 in
    rw (p.1, p.2) (stopped_at (λ (change : Change). option_to_list change.now) c.args.changes.now c.changes.change-index c.change-item.result c.changes-test.true (sym c.change-item.is)
    c.args.contents.now c.changes.contents c.changes.invariant.kept
    c.keep_change.new.contents c.in_err-change.field-0.0 (c.in_err-change.ensures).stopped)

pub returns-in_err-push-clause-stopped : goal.returns-in_err-push-clause-stopped
returns-in_err-push-clause-stopped c =
    let p = err_from_is_err_and c.from_residual-in_err-push.result c.from_residual-in_err-push.ensures.1 in
    rw (p.1, p.2) (stopped_there (λ (change : Change). option_to_list change.now) c.args.changes.now c.changes.change-index c.change-item.result c.changes-test.true (sym c.change-item.is)
    c.args.contents.now c.changes.contents c.changes.invariant.kept
    c.keep_change.new.contents (c.in_ok-change.ensures).kept)

pub changes-preserved : goal.changes-preserved
changes-preserved c =
    let all = c.args.changes.now in
    let i = c.changes.change-index in
    let change = c.change-item.result in
    record {
      made =
          ap (map fix_of) (c.in_ok-push.ensures).items ∙ map-append fix_of c.changes.made.items (c.in_ok-change.change ∷ [])
          ∙ ap₂ (λ (l : List Change) (x : Change). l ++ x ∷ []) c.changes.invariant.made ((c.in_ok-change.ensures).change ∙ c.change-item.is)
          ∙ sym (take_more all i change c.changes-test.true);
      kept =
          kept_more (λ (change : Change). option_to_list change.now) all i change c.changes-test.true (sym c.change-item.is) c.args.contents.now c.changes.contents c.changes.invariant.kept
          c.keep_change.new.contents (c.in_ok-change.ensures).kept;
    }

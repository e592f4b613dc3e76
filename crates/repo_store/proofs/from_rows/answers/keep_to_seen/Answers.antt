use Rattle.std.proofs.Common.{◌≡◌, true, false, map, is_some, sym, ◌∙◌}
use Rattle.hook_base.specs.declared.change.Change.{Change}
use Rattle.hook_base.specs.Trees.{entry_of}
use Rattle.repo_store.specs.Lists.{file_of, fix_of}
use Rattle.repo_store.proofs.FromRowsLemmas.{all_of_at}
use Rattle.repo_store.proofs.from_rows.answers.keep_to_seen.Goals as goal

pub returns-then-not-has_path : goal.returns-then-not-has_path
returns-then-not-has_path c =
    let files = map file_of c.args.seen.now in
    let absent : is_some (entry_of c.change-item.result.path files) ≡ false = sym c.has_path.ensures ∙ c.if-not-has_path.true in (
      λ e. absurd (let never : false ≡ true = e in cc),
      λ keep. let there =
          all_of_at fix_of (λ (change : Change). is_some (entry_of change.path files) ≡ true) c.args.changes.now c.changes.change-index c.change-item.result c.changes-test.true c.change-item.is
          keep in sym absent ∙ there,
    )

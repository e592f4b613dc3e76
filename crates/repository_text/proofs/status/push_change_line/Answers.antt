use Rattle.std.proofs.Common.{◌≡◌, ◌∙◌, refl}
use Rattle.hook_base.specs.Trees.{entry_of}
use Rattle.repo_store.specs.Repository.{last_tree}
use Rattle.repository_text.proofs.StatusLemmas.{change-said}
use Rattle.repository_text.proofs.TextLemmas.{on-ok}
use Rattle.repository_text.proofs.status.push_change_line.Goals as goal

pub returns : goal.returns
returns g c =
    let staged = entry_of c.args.path.now c.args.store.now.kept.repo.staged in
    let last = entry_of c.args.path.now (last_tree c.args.store.now.kept.repo.history) in
    let differs : staged ≡ last → ⊥ = c.if-not-differs_from_head_at.ensures.0 refl in
    on-ok c.push_line.result
    (change-said c.args.path.now c.args.text.now.items c.push.new.report.items c.push_line.new.report.items c.mark_of.result.now c.as_bytes.result.now
    staged last c.is_staged.result c.is_in_head.result differs c.mark_of.ensures c.is_staged.ensures c.is_in_head.ensures
    (c.as_bytes.ensures.value ∙ c.as_str.ensures.same) c.in_ok-push.ensures.put)
    c.push_line.ensures.put

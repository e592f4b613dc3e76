use Rattle.std.proofs.Common.{◌-◌, List, Option, option_map, ap, subst, ◌∙◌}
use Rattle.std.specs.Slice.{IsItemAt}
use Rattle.repo_store.specs.declared.shared.SharedCommit.{SharedCommit}
use Rattle.repo_store.specs.Kept.{Mirror}
use Rattle.repo_store.specs.Lists.{commit_of}
use Rattle.repo_store.specs.Repository.{commit_at}
use Rattle.repo_store.proofs.TreeLemmas.{commit_read, commit_rises, got}
use Rattle.repo_store.proofs.lists.Lists.commit_at.Goals as goal

pub returns-clause-commit : goal.returns-clause-commit
returns-clause-commit c =
    let history = c.self.inside.history.items in
    let found = subst (λ (l : List SharedCommit). IsItemAt l (c.args.number - 1) c.get.result) c.deref.ensures.value c.get.ensures.lookup in
    ap (λ (o : Option SharedCommit). option_map commit_of o) (got history (c.args.number - 1) c.get.result found) ∙ commit_read history c.args.number c.if-number-eq0.false
    ∙ ap (λ (m : Mirror). commit_at c.args.number m.kept.repo.history) c.self.view_is

pub returns-clause-rising : goal.returns-clause-rising
returns-clause-rising c =
    let history = c.self.inside.history.items in
    let found = subst (λ (l : List SharedCommit). IsItemAt l (c.args.number - 1) c.get.result) c.deref.ensures.value c.get.ensures.lookup in
    commit_rises history (c.args.number - 1) c.get.result c.self.invariant.sound.trees_rise found

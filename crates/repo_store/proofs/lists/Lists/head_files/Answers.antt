use Rattle.std.proofs.Common.{◌≡◌, ◌+◌, ◌-◌, ◌<◌, length, get_or, List, map, sym, ap, subst, ◌∙◌, arith}
use Rattle.hook_base.specs.Trees.{IsRising}
use Rattle.repo_store.specs.declared.shared.SharedCommit.{SharedCommit}
use Rattle.repo_store.specs.Shared.{FileParts}
use Rattle.repo_store.specs.Kept.{Mirror}
use Rattle.repo_store.specs.Lists.{file_of}
use Rattle.repo_store.specs.Repository.{last_tree}
use Rattle.repo_store.proofs.TreeLemmas.{rising_at, last_at}
use Rattle.repo_store.proofs.lists.Lists.head_files.Goals as goal

pub returns-in-len1-up-clause-files : goal.returns-in-len1-up-clause-files
returns-in-len1-up-clause-files c =
    let n = length c.as_slice.result.now in
    let read = subst (λ (l : List SharedCommit). c.commit-item.result ≡ get_or l (n - 1) c.commit-item.result) c.as_slice.ensures.value c.commit-item.is in
    let count : n - 1 + 1 ≡ length c.self.inside.history.items = let same = ap length c.as_slice.ensures.value in omega arith in
    let last = last_at c.self.inside.history.items (n - 1) c.commit-item.result count read in
    ap (map file_of) c.as_slice-in-len1-up.ensures.value ∙ sym last ∙ ap (λ (m : Mirror). last_tree m.kept.repo.history) c.self.view_is

pub returns-in-len1-up-clause-rising : goal.returns-in-len1-up-clause-rising
returns-in-len1-up-clause-rising c =
    let n = length c.as_slice.result.now in
    let read = subst (λ (l : List SharedCommit). c.commit-item.result ≡ get_or l (n - 1) c.commit-item.result) c.as_slice.ensures.value c.commit-item.is in
    let within : n - 1 < length c.self.inside.history.items = let same = ap length c.as_slice.ensures.value in omega arith in
    subst (λ (l : List FileParts). IsRising (map file_of l)) (sym c.as_slice-in-len1-up.ensures.value)
    (rising_at c.self.inside.history.items (n - 1) c.commit-item.result c.self.invariant.sound.trees_rise within read)

use Rattle.std.proofs.Common.{◌≡◌, ℕ, List, [], ◌∷◌, take, ap, ap₂, ◌∙◌}
use Rattle.std.specs.Ordering.{ordering_then}
use Rattle.hook_base.specs.Rising.{path_cmp}
use Rattle.repo_store.specs.Clashes.{slash}
use Rattle.repo_store.proofs.ClashLemmas.{below_folder, cut_to, long_side, short_side}
use Rattle.repo_store.proofs.clashes.side_of_folder.Goals as goal

pub returns-in-Some : goal.returns-in-Some
returns-in-Some c =
    let folder = c.args.folder.now in
    let path = c.as_bytes-path.result.now in
    let is : path ≡ c.args.file.now.path = c.as_bytes-path.ensures.value ∙ c.as_str.ensures.same ∙ c.path.ensures in
    let parts = (c.in-Some.ensures).cases in
    let front = c.cmp.ensures ∙ ap (λ (l : List ℕ). path_cmp l folder) parts.1 in
    let rest = c.side_of_slash.ensures ∙ ap (λ (l : List ℕ). path_cmp (take 1 l) (slash ∷ [])) parts.2 in
    c.then.ensures ∙ ap₂ ordering_then front rest ∙ long_side folder path parts.0 ∙ ap (λ (l : List ℕ). path_cmp (cut_to (below_folder folder) l) (below_folder folder)) is

pub returns-in-None : goal.returns-in-None
returns-in-None c =
    let folder = c.args.folder.now in
    let path = c.as_bytes-path.result.now in
    let is : path ≡ c.args.file.now.path = c.as_bytes-path.ensures.value ∙ c.as_str.ensures.same ∙ c.path.ensures in
    c.cmp-in-None.ensures ∙ short_side folder path (c.in-None.ensures).cases ∙ ap (λ (l : List ℕ). path_cmp (cut_to (below_folder folder) l) (below_folder folder)) is
